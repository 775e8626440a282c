-- Resume points, and their texts. (own)
use Rattle.std.specs.Prelude.{ℕ, ◌≡◌, ◌<◌, ◌^◌, List, ◌∷◌, codes, decimal, Option, Some, None}
use Rattle.jc_base.specs.LogEntry.{IsKey}
use Rattle.jc_base.specs.declared.id.Id128.{Id128}
use Rattle.jc_base.specs.declared.id.Key.{Key}
use Rattle.jc_upload.specs.Line.{line_of, pair_words}

-- How many of a source's entries are done with, and the key of the last of them.
pub record Point : Type 0 where
  pub position : ℕ
  pub last : Option Key

-- the point before the first entry
abbrev pub start : Point
start = record { position = 0; last = None }

-- There is a last key exactly behind position 0.
abbrev pub HasLast : ℕ → Option Key → Type 0
HasLast position None = position ≡ 0
HasLast position (Some key) = (0 < position) × IsKey key

abbrev pub key_of : Id128 × ℕ → Key
key_of pair = record { seqnum_id = pair.0; seqnum = pair.1 }

abbrev pub last_words : Option Key → List (List ℕ)
last_words None = pair_words None
last_words (Some key) = pair_words (Some (key.seqnum_id, key.seqnum))

-- A resume point's one text.
abbrev pub resume_text : Point → List ℕ
resume_text point = line_of (codes "resume" ∷ decimal point.position ∷ last_words point.last)

-- what has such a text
pub record IsPoint (point : Point) : Type 0 where
  pub has_last : HasLast point.position point.last
  pub position_in : point.position < 2 ^ 64
