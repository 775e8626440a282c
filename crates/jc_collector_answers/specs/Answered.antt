-- What `collect` prints, and the status that goes with it. (own)
use Rattle.std.specs.Prelude.{ℕ, ◌≡◌, ◌≤◌, ◌-◌, Bool, true, false, List, ◌∷◌, ◌++◌, zero, suc, length, map, take, Option, Some, None, if◌then◌else◌}
use Rattle.std.specs.Io.KnownBytes.{Appends}
use Rattle.std.specs.List.{All, list_any}
use Rattle.std.proofs.Props.{props}
use Rattle.jc_base.specs.declared.limits.Limits.{Limits}
use Rattle.jc_base.specs.LimitBounds.{AreDefaults}
use Rattle.jc_collect.specs.Answer.{is_failure, is_failure_code}
use Rattle.jc_base.specs.Journal.{Journal}
use Rattle.jc_collect.specs.declared.runs.RunEnd.TheVariants.{Done}
use Rattle.jc_collect.specs.Crash.{KeepsAcknowledged}
use Rattle.jc_collect.specs.Run.{Collected, IsRun, Seen, lines_of_answers}
use Rattle.jc_upload.specs.Answer.{IsAnswer}
use Rattle.jc_upload.specs.declared.answer.Answer.{Answer}
use Rattle.jc_upload.specs.declared.answer.Answer.TheVariants.{Ack, No}
use Rattle.jc_command_shared.specs.declared.status.Status.{Status}
use Rattle.jc_command_shared.specs.declared.status.Status.TheVariants.{Success, Refused, Misused, Failed, Unanswered}

abbrev pub is_refusal : Answer → Bool
is_refusal (Ack source start count new left) = false
is_refusal (No of code place) = true

-- The status of a run with these answers: a failure goes before a refusal.
abbrev pub judged : List Answer → Status
judged answers =
    if list_any is_failure answers then Failed else (if list_any is_refusal answers then Refused else Success)

-- The output gained the lines of this many answers, and the status is theirs.
pub record PrintsAnswers (count : ℕ) (status : Status) (old new : Option (List ℕ)) : Type 0 where
  pub answers : List Answer
  pub each : length answers ≡ count
  pub lawful : All IsAnswer answers
  pub is : status ≡ judged answers
  pub printed : Appends old new (lines_of_answers answers)

-- Uploads were collected in one run under the default limits, and the line of each answer was printed.
pub record RunsByDefault (uploads : List (List ℕ)) (before after : Seen) : Type 0 where
  pub limits : Limits
  pub defaults : AreDefaults limits.name limits.value limits.fields limits.entry limits.file
  pub ran : IsRun limits uploads before Done after

-- The first ones of some uploads were collected under the default limits, and the others weren't. The lines of their
-- answers were printed, of the last line perhaps only a front.
pub record CollectsFirst (uploads : List (List ℕ)) (before after : Seen) : Type 0 where
  pub limits : Limits
  pub defaults : AreDefaults limits.name limits.value limits.fields limits.entry limits.file
  pub done : ℕ
  pub within : done ≤ length uploads
  pub answers : List Answer
  pub collected : Collected limits (take done uploads) before after answers
  pub shown : ℕ
  pub whole_before : length (lines_of_answers (take (done - 1) answers)) ≤ shown
  pub printed : Appends before.written after.written (take shown (lines_of_answers answers))

-- Uploads were collected in one run under the default limits, and the line of each answer was printed. What is found after
-- a crash has what was stored before, each upload that was acknowledged, and all of one more at most, which was answered 62
-- or 63.
pub record KeepsPrinted (uploads : List (List ℕ)) (start : Journal) (old new : Option (List ℕ)) (found : Journal) : Type 0 where
  pub limits : Limits
  pub defaults : AreDefaults limits.name limits.value limits.fields limits.entry limits.file
  pub answers : List Answer
  pub keeps : KeepsAcknowledged limits start uploads answers found
  pub printed : Appends old new (lines_of_answers answers)

-- The first ones of some uploads were collected so, and the others weren't. The lines of their answers were printed, of the
-- last line perhaps only a front: so all that the printed lines acknowledge is found.
pub record KeepsFirst (uploads : List (List ℕ)) (start : Journal) (old new : Option (List ℕ)) (found : Journal) : Type 0 where
  pub limits : Limits
  pub defaults : AreDefaults limits.name limits.value limits.fields limits.entry limits.file
  pub done : ℕ
  pub within : done ≤ length uploads
  pub answers : List Answer
  pub keeps : KeepsAcknowledged limits start (take done uploads) answers found
  pub shown : ℕ
  pub whole_before : length (lines_of_answers (take (done - 1) answers)) ≤ shown
  pub printed : Appends old new (take shown (lines_of_answers answers))

-- how many uploads there are: those that are named, or the one on standard input
abbrev pub number_of_uploads : (named : ℕ) → ℕ
number_of_uploads zero = 1
number_of_uploads (suc others) = suc others

-- ---- one answer after others

-- The status of two runs: a failure goes before a refusal.
abbrev pub worse : Status → Status → Status
worse Failed other = Failed
worse Success other = other
worse Misused other = Misused
worse Unanswered other = Unanswered
worse Refused Failed = Failed
worse Refused Success = Refused
worse Refused Misused = Refused
worse Refused Unanswered = Refused
worse Refused Refused = Refused

-- a refusal's status, by its code
abbrev pub refusal_status : (code : ℕ) → Status
refusal_status code = if is_failure_code code then Failed else Refused

-- The status of several answers, the last one given with it.
abbrev pub status_with : (before : Status) → Answer → Status
status_with before (Ack source start count new left) = before
status_with Failed (No of code place) = Failed
status_with before (No of code place) = refusal_status code

-- ---- lines after what is known of a writer

-- What is known of a writer, in front of what is printed through it: each of its bytes with one added, and then a 0. So no
-- two of them are the same, whatever follows.
abbrev pub begun : Option (List ℕ) → List ℕ → List ℕ
begun None lines = 0 ∷ lines
begun (Some bytes) lines = 1 ∷ (map suc bytes ++ 0 ∷ lines)

-- that known bytes have grown by these has one proof at most
pub Appends-prop : (old new : Option (List ℕ)) (bytes : List ℕ) → IsProp (Appends old new bytes)
Appends-prop None new bytes = Prim.hlevel props
Appends-prop (Some xs) None bytes = Prim.hlevel props
Appends-prop (Some xs) (Some ys) bytes = Prim.hlevel props
