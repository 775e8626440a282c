-- The lines that ask for notes. (own)
use Rattle.std.specs.Prelude.{◌≡◌, ◌≢◌, ◌^◌, ◌+◌, ◌++◌, ◌∷◌, ℕ, List, Option, Some, None, IfSome, if◌then◌else◌, length, map, nat_lt}
use Rattle.std.specs.List.{AllPairs, Any}
use Rattle.jc_base.specs.declared.id.Key.{Key}
use Rattle.jc_command_shared.specs.Lines.{lines_of}
use Rattle.jc_notes.specs.declared.lines.Front.{Front}
use Rattle.jc_upload.specs.Reading.{◌>>=◌, all_of, id_at, number_at}

-- The key that a line names, `<sequence> <number>` and the newline. No entry has a number of 2^63 or more.
unfoldable pub key_at : List ℕ → Option Key
key_at line = do
  id ← id_at 32 line
  number ← number_at 10 id.1
  if nat_lt number.0 (2 ^ 63) then all_of (record { seqnum_id = id.0; seqnum = number.0 }) number.1 else None

-- The first notes that a line names, `<sequence> <window> <count>` and the newline.
unfoldable pub front_at : List ℕ → Option Front
front_at line = do
  sequence ← id_at 32 line
  window ← number_at 32 sequence.1
  count ← number_at 10 window.1
  all_of (record { window = record { sequence = sequence.0; window = window.0 }; count = count.0 }) count.1

-- The lines are those of these items, by what reads one.
abbrev pub AreLines : {A : Type 0} (read : List ℕ → Option A) → List A → (text : List ℕ) → Type 0
AreLines read items text = map read (lines_of text) ≡ map Some items

-- Of a text's lines this is the first, from 1, that isn't one.
pub record IsFirstBad {A : Type 0} (read : List ℕ → Option A) (text : List ℕ) (line : ℕ) : Type 0 where
  pub items : List A
  pub behind : List (Option A)
  pub lines : map read (lines_of text) ≡ map Some items ++ None ∷ behind
  pub is : line ≡ length items + 1

-- The text's lines are those of items that this is so of.
pub record OfLines {A : Type 0} (read : List ℕ → Option A) (Does : List A → Type 0) (text : List ℕ) : Type 0 where
  pub items : List A
  pub lines : AreLines read items text
  pub does : Does items

-- ---- windows, each of which is named once

-- No two of these are of one window.
abbrev pub NameOnce : List Front → Type 0
NameOnce fronts = AllPairs (λ (one other : Front). one.window ≢ other.window) fronts

-- The text's lines name windows, each once, and this is so of their first notes.
abbrev pub OfFronts : (Does : List Front → Type 0) → (text : List ℕ) → Type 0
OfFronts Does text = OfLines front_at (λ fronts. NameOnce fronts × Does fronts) text

-- Of a text's lines this is the first, from 1, that names no window, or one that a line before it names.
pub record IsFirstBadFront (text : List ℕ) (line : ℕ) : Type 0 where
  pub fronts : List Front
  pub here : Option Front
  pub behind : List (Option Front)
  pub lines : map front_at (lines_of text) ≡ map Some fronts ++ here ∷ behind
  pub once : NameOnce fronts
  pub again : IfSome here (λ front. Any (λ (other : Front). other.window ≡ front.window) fronts)
  pub is : line ≡ length fronts + 1
