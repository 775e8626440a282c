-- Uploads that lines name, which are answered together. (own)
use Rattle.std.specs.Prelude.{◌≡◌, ◌⊎◌, ℕ, Bool, true, false, List, [], ◌++◌, Option, Some, None, Result, Ok, Err, IfSome, length, map, ⊤}
use Rattle.jc_base.specs.declared.limits.Limits.{Limits}
use Rattle.jc_collect.specs.Together.{HasCollectedAll, HasSettled}
use Rattle.jc_command_shared.specs.declared.status.Status.{Status}
use Rattle.jc_keeper.specs.declared.keeper.Keeper as keepers
use Rattle.jc_keeper.specs.Whose.{StayWhose}
use Rattle.jc_upload.specs.declared.answer.Answer.{Answer}
use Rattle.jc_collector_answers.specs.Brought.{ClaimsByLines, CollectsLines}
use Rattle.jc_collector_answers.specs.Collected.{names_in, upload_in}
use Rattle.jc_collector_answers.specs.Kept.{HoldsPrinted}
use Rattle.jc_collector_answers.specs.PrintedLaws.{many}
use Rattle.jc_collector_answers.specs.declared.name_lines.NameLines.{NameLines}

-- the uploads that these lines name
abbrev pub uploads_of : (told : List ℕ → Option (List ℕ)) → NameLines → (names : List (List ℕ)) → List (Option (List ℕ))
uploads_of told lines names = map (λ line. told (upload_in lines line)) names

-- These lines of a text, if it is known, came before this rest.
abbrev pub LinesCome : (text rest : Option (List ℕ)) → (come : List (List ℕ)) → Type 0
LinesCome None rest come = ⊤
LinesCome (Some text) None come = ⊥
LinesCome (Some text) (Some rest) come = names_in text ≡ come ++ names_in rest

-- what is told of an upload, where the windows of sequences are bounded or not that it may touch
abbrev pub known_within : (most_windows : Option ℕ) → (known : Option (List ℕ)) → Option (List ℕ)
known_within None known = known
known_within (Some most) known = None

-- The uploads that these lines name were taken up, or not, over a keeper, and there is an answer for each, which isn't given
-- yet. What is new of each belongs to the machine that its line names. A sequence comes to belong to a machine only by a line.
pub record HasTakenLines {K : Type 0} (k : keepers.Ghosts K) (limits : Limits) (told : List ℕ → Option (List ℕ)) (lines : NameLines) (come : List (List ℕ)) (old new : K) (answers : List Answer)
    : Type 0 where
  pub each : length answers ≡ length come
  pub all : HasCollectedAll k limits (uploads_of told lines come) old new answers
  pub own : k.sound new → k.made old → CollectsLines told lines (k.whose new) come (k.journal old) answers (k.journal new)
  pub claims : k.sound new → k.made old → ClaimsByLines lines (k.whose old) (k.whose new) come (k.journal old) (k.journal new) answers
  pub stays : k.sound new → StayWhose (k.whose old) (k.whose new)
  -- some machine brings the last one, if there is one
  pub brings : (answers ≡ []) ⊎ ((machine : Option (List ℕ)) × k.brings new machine)

-- Whether lines are left: this rest of the text is there still, or nothing is left of it.
abbrev pub GoesOn : {F : Type 0} → Result Bool F → (rest next : Option (List ℕ)) → Type 0
GoesOn (Ok true) rest next = rest ≡ next
GoesOn (Ok false) rest next = IfSome rest (λ left. left ≡ [])
GoesOn (Err failure) rest next = ⊤

-- The first lines of a text were taken up so, if it is known.
pub record TakesLines {K F : Type 0} (k : keepers.Ghosts K) (limits : Limits) (told : List ℕ → Option (List ℕ)) (lines : NameLines) (text next : Option (List ℕ)) (old new : K) (answers : List Answer)
    (result : Result Bool F) : Type 0 where
  pub come : List (List ℕ)
  pub rest : Option (List ℕ)
  pub are : LinesCome text rest come
  pub goes_on : GoesOn result rest next
  pub taken : HasTakenLines k limits told lines come old new answers

-- just these answers
abbrev pub these : List Answer → List Answer → Type 0
these given answers = answers ≡ given

-- What uploads were acknowledged of was stored, or it couldn't be. Then they were given answers, which were printed.
pub record GivesAnswers {K F : Type 0} (k : keepers.Ghosts K) (old new : K) (answers : List Answer) (result : Result Status F) (was now : Option (List ℕ)) : Type 0 where
  pub given : List Answer
  pub settled : HasSettled k old new answers given
  pub printed : HoldsPrinted (many (length given)) (these given) result was now
