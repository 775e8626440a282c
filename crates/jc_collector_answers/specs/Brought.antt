-- Whose the sequences are of what the uploads store that a list names. (own)
use Rattle.std.specs.Prelude.{◌≡◌, ◌⊎◌, ℕ, List, [], ◌∷◌, Option, Result, IfOk, IfSome}
use Rattle.jc_base.specs.declared.id.Id128.{Id128}
use Rattle.jc_base.specs.Journal.{Journal}
use Rattle.jc_collect.specs.Crash.{IsUnstored}
use Rattle.jc_collect.specs.Foreign.{NamesForeign}
use Rattle.jc_collect.specs.Position.{Collects}
use Rattle.jc_command_shared.specs.declared.status.Status.{Status}
use Rattle.jc_keeper.specs.declared.keeper.Keeper as keepers
use Rattle.jc_keeper.specs.Brought.{IsNewOf}
use Rattle.jc_keeper.specs.Claimed.{StoresNew}
use Rattle.jc_keeper.specs.Whose.{Whose}
use Rattle.jc_upload.specs.declared.answer.Answer.{Answer}
use Rattle.jc_collector_answers.specs.Collected.{ByDefault, names_in}
use Rattle.jc_collector_answers.specs.Named.{HasParts}
use Rattle.jc_collector_answers.specs.Tied.{NamedWith}
use Rattle.jc_collector_answers.specs.declared.name_lines.NameLines.{NameLines}

-- The upload in a line was collected under the default limits, and answered so. What is new of it belongs to the machine that
-- the line names. If 71 is answered, the entry at its place is of another machine's sequence.
pub record CollectsLine (told : List ℕ → Option (List ℕ)) (lines : NameLines) (whose : Whose) (line : List ℕ) (before : Journal) (answer : Answer) (after : Journal)
    : Type 0 where
  pub machine : Option (List ℕ)
  pub upload : List ℕ
  pub parts : HasParts lines line machine upload
  pub collects : ByDefault (λ limits. Collects limits (told upload) before answer after)
  pub own : IsNewOf (whose.belongs machine) before after
  pub foreign : ByDefault (λ limits. NamesForeign limits (told upload) (whose.foreign machine) answer)

-- Each was over what the one before left, and this is what the last one left.
abbrev pub CollectsLines : (told : List ℕ → Option (List ℕ)) → NameLines → (whose : Whose) → (names : List (List ℕ)) → (start : Journal) → List Answer → (last : Journal) → Type 0
CollectsLines told lines whose [] start [] last = last ≡ start
CollectsLines told lines whose [] start (answer ∷ answers) last = ⊥
CollectsLines told lines whose (line ∷ names) start [] last = ⊥
CollectsLines told lines whose (line ∷ names) start (answer ∷ answers) last =
    (after : Journal) × CollectsLine told lines whose line start answer after × CollectsLines told lines whose names after answers last

-- This holds of some of these lines and its answer.
abbrev pub SomeLine : (Holds : (line : List ℕ) → Answer → Type 0) → (names : List (List ℕ)) → List Answer → Type 0
SomeLine Holds [] answers = ⊥
SomeLine Holds (line ∷ names) [] = ⊥
SomeLine Holds (line ∷ names) (answer ∷ answers) = Holds line answer ⊎ SomeLine Holds names answers

-- The line names a machine that this holds of, and what was to be stored is, or the answer is 62 or 63.
pub record IsCause (lines : NameLines) (Is : (machine : Option (List ℕ)) → Type 0) (Stored : Type 0) (line : List ℕ) (answer : Answer) : Type 0 where
  pub machine : Option (List ℕ)
  pub upload : List ℕ
  pub parts : HasParts lines line machine upload
  pub named : Is machine
  pub cause : Stored ⊎ IsUnstored answer

-- Where a sequence comes to belong to a machine, one of these lines names it, and an entry of the sequence is stored new, or
-- the line is answered 62 or 63.
abbrev pub ClaimsByLines : NameLines → (old new : Whose) → (names : List (List ℕ)) → (start last : Journal) → List Answer → Type 0
ClaimsByLines lines old new names start last answers =
    (owner : Option (List ℕ)) (s : Id128) → new.belongs owner s
    → old.belongs owner s ⊎ SomeLine (IsCause lines (λ machine. new.same machine owner) (StoresNew start last s)) names answers

-- Both of the lines of a text, if it is known.
abbrev pub CollectsText : (told : List ℕ → Option (List ℕ)) → NameLines → (old new : Whose) → (text : Option (List ℕ)) → (start last : Journal) → List Answer → Type 0
CollectsText told lines old new text start last answers =
    IfSome text (λ t. CollectsLines told lines new (names_in t) start answers last × ClaimsByLines lines old new (names_in t) start last answers)

-- If all lines of a text were answered: what is so of their answers between two moments of a keeper whose device is sound.
abbrev pub AnswersForMachines : {K F : Type 0} → keepers.Ghosts K → (told : List ℕ → Option (List ℕ)) → NameLines → (text : Option (List ℕ)) → (old new : K) → Result Status F → (printed printed_now : Option (List ℕ)) → Type 0
AnswersForMachines k told lines text old new result printed printed_now =
    k.sound new → k.made old
    → IfOk result (λ status. NamedWith (CollectsText told lines (k.whose old) (k.whose new) text (k.journal old) (k.journal new)) text status printed printed_now)
