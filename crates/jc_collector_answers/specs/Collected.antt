-- What becomes of uploads, one after the other, whose bytes are told by where they stand. (own)
use Rattle.std.specs.Prelude.{◌≡◌, ◌==◌, ℕ, List, [], ◌∷◌, ◌++◌, Option, Some, None, IfSome, length, map, if◌then◌else◌, unwrap_or, ⊤}
use Rattle.jc_base.specs.declared.limits.Limits.{Limits}
use Rattle.jc_base.specs.LimitBounds.{AreDefaults}
use Rattle.jc_base.specs.Journal.{Journal}
use Rattle.jc_collect.specs.Each.{CollectsEach, Held, HoldsCollected, KeepsCollected}
use Rattle.jc_command_shared.specs.Lines.{with_byte}
use Rattle.jc_upload.specs.declared.answer.Answer.{Answer}
use Rattle.jc_collector_answers.specs.declared.name_lines.NameLines.{NameLines}
use Rattle.jc_collector_answers.specs.declared.name_lines.NameLines.TheVariants.{Uploads, MachinesAndUploads}

-- ---- the uploads that a list names

-- a text's lines, without their newlines
unfoldable pub names_in : List ℕ → List (List ℕ)
names_in [] = []
names_in (b ∷ bytes) = if b == 10 then [] ∷ names_in bytes else with_byte b (names_in bytes)

-- what stands behind the first tab, if there is one
abbrev pub after_tab : List ℕ → Option (List ℕ)
after_tab [] = None
after_tab (b ∷ bytes) = if b == 9 then Some bytes else after_tab bytes

-- the name of the upload in a line
abbrev pub upload_in : NameLines → (line : List ℕ) → List ℕ
upload_in Uploads line = line
upload_in MachinesAndUploads line = unwrap_or (after_tab line) line

-- the bytes of the uploads that a text names, by what is told of files
abbrev pub uploads_named : (told : List ℕ → Option (List ℕ)) → NameLines → (text : List ℕ) → List (Option (List ℕ))
uploads_named told lines text = map (λ line. told (upload_in lines line)) (names_in text)

-- A known text has lost its first line, which was this one.
abbrev pub LosesName : (name : List ℕ) → (old new : Option (List ℕ)) → Type 0
LosesName name None new = ⊤
LosesName name (Some text) None = ⊥
LosesName name (Some text) (Some rest) = names_in text ≡ name ∷ names_in rest

-- just these uploads
abbrev pub just : List (Option (List ℕ)) → List (Option (List ℕ)) → Type 0
just uploads known = known ≡ uploads

-- those that a text names, if it is known
abbrev pub those_named : (told : List ℕ → Option (List ℕ)) → NameLines → (text : Option (List ℕ)) → List (Option (List ℕ)) → Type 0
those_named told lines text known = IfSome text (λ t. known ≡ uploads_named told lines t)

-- What is told of files where the windows of sequences that an upload may touch are bounded: nothing, since one that touches
-- more is refused, whatever its bytes would be answered.
abbrev pub told_within : (most_windows : Option ℕ) → (told : List ℕ → Option (List ℕ)) → List ℕ → Option (List ℕ)
told_within None told = told
told_within (Some most) told = λ name. None

-- ---- what becomes of them

-- This holds under the default limits.
abbrev pub ByDefault : (Limits → Type 0) → Type 0
ByDefault Holds = (limits : Limits) → AreDefaults limits.name limits.value limits.fields limits.entry limits.file → Holds limits

-- Between two moments of a keeper the first ones of some uploads were collected in this order under the default limits, and
-- these answers were given to them, one each. What they acknowledge is stored, and found after a crash.
pub record HoldsFirstOf (AreUploads : List (Option (List ℕ)) → Type 0) (before now : Held) (answers : List Answer) : Type 0 where
  pub known : List (Option (List ℕ))
  pub others : List (Option (List ℕ))
  pub are : AreUploads (known ++ others)
  pub each : length known ≡ length answers
  pub holds : ByDefault (λ limits. HoldsCollected limits known before now answers)

-- The first ones of some uploads were collected in this order under the default limits, each over what the one before left,
-- and these answers were given to them, one each. This is what the last one left.
pub record StoresFirstOf (AreUploads : List (Option (List ℕ)) → Type 0) (start : Journal) (answers : List Answer) (last : Journal) : Type 0 where
  pub known : List (Option (List ℕ))
  pub others : List (Option (List ℕ))
  pub are : AreUploads (known ++ others)
  pub each : length known ≡ length answers
  pub collected : ByDefault (λ limits. CollectsEach limits known start answers last)

-- A journal that was found after a crash is what the first of these answers made of the first one, or it has some more of these
-- uploads, whole ones and in order. None of those is acknowledged.
pub record KeepsFirstOf (AreUploads : List (Option (List ℕ)) → Type 0) (start : Journal) (answers : List Answer) (found : Journal) : Type 0 where
  pub known : List (Option (List ℕ))
  pub others : List (Option (List ℕ))
  pub are : AreUploads (known ++ others)
  pub each : length known ≡ length answers
  pub keeps : ByDefault (λ limits. KeepsCollected limits known start answers found)
