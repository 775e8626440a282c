-- How a run ends, from what its parts promise.
use Rattle.std.proofs.Common.{◌≡◌, ◌≢◌, ◌⊎◌, ◌∙◌, ◌∷◌, [], ap, refl, sym, subst, subst₂, inl, inr, Bool, true, false, List, ℕ, Option}
use Rattle.std.specs.Prelude.{IfOk, IfErr, IsErrAnd, IsOkAnd, None, Result, Ok, Err, if◌then◌else◌}
use Rattle.std.specs.List.{list_any}
use Rattle.std.specs.Borrow.{Bor}
use Rattle.std.specs.Io.KnownBytes.{Keeps}
use Rattle.std.proofs.KnownBytes.{Keeps-refl}
use Rattle.clap.specs.Words.{Text}
use Rattle.sqlite.specs.Recovery.{Image}
use Rattle.jc_base.specs.declared.id.Key.{Key}
use Rattle.jc_base.specs.Journal.{Journal}
use Rattle.jc_base.specs.LogEntry.{LogEntry}
use Rattle.jc_ledger.specs.Known.{Known}
use Rattle.jc_ledger.specs.Lagging.{MayCatchUp}
use Rattle.jc_command_args.specs.declared.request.Tables.{Tables}
use Rattle.jc_collector.specs.IntoUnion.{LeadsIf, UnionFailsBy}
use Rattle.jc_database.specs.Files.{InFiles}
use Rattle.clap.specs.declared.error.kind.ErrorKind.{ErrorKind}
use Rattle.clap.specs.declared.error.kind.ErrorKind.TheVariants as kind
use Rattle.jc_collector.specs.declared.failed.FailedCommand.{FailedCommand}
use Rattle.jc_collector.specs.declared.into_union.closing.FailedRun.{FailedRun}
use Rattle.jc_collector.specs.declared.into_union.closing.NotedLeft.{NotedLeft}
use Rattle.jc_command_shared.specs.declared.failure.Failure.{Failure}
use Rattle.jc_command_shared.specs.declared.failure.Failure.TheVariants as failures
use Rattle.jc_command_shared.specs.declared.status.Status.{Status}
use Rattle.jc_command_shared.specs.declared.status.Status.TheVariants.{Success, Refused, Misused, Failed, Unanswered}
use Rattle.jc_command_args.specs.declared.request.NotesTask.TheVariants.{Has, ForgetAfter}
use Rattle.jc_command_args.specs.declared.request.NotesTask.TheVariants as tasks
use Rattle.jc_command_args.specs.declared.request.Request.{Request}
use Rattle.jc_command_args.specs.declared.request.Request.TheVariants.{Verify, Upload, Ack}
use Rattle.jc_command_args.specs.declared.request.Request.TheVariants as requests
use Rattle.jc_collect.specs.Answer.{is_failure}
use Rattle.jc_command_args.specs.Answer.{IsAskedFor}
use Rattle.jc_collector_answers.specs.Answered.{is_refusal}
use Rattle.jc_collector.specs.Checked.{health_found}
use Rattle.jc_collector.specs.Compared.{comparison_found}
use Rattle.jc_collector.specs.Inspected.{inspected_found}
use Rattle.jc_command_shared.specs.Deeds.{Deed}
use Rattle.jc_command_shared.specs.Failure.{status_of}
use Rattle.jc_command_shared.specs.Found.{found_status, reading_found}
use Rattle.jc_command_shared.specs.declared.found.Found.{Found}
use Rattle.jc_command_shared.specs.declared.found.Found.TheVariants as found
use Rattle.jc_command.specs.Failed.{FailsAsked, FailsLeaving, HasFailed}
use Rattle.jc_command.specs.Run.{Begins, Collects, Devices, DoesFor, Ends, FailsBy, FileFailsBy, HasPerformed, Leaves, leaves, Performs, PerformsAsked, Stops, StopsAsked, UploadFileFailsBy}
use Rattle.jc_command_shared.specs.Status.{number_of}
use Rattle.jc_notes.specs.Each.{all_well}
use Rattle.jc_sender.proofs.Outcomes.{told_not_misused}
use Rattle.jc_command_args.specs.Words.{AreAnswered, AreWrong, AskFor, AskForHelp}

-- what was found has one of two statuses
found_not_misused : (it : Found) → Misused ≡ found_status it → ⊥
found_not_misused (found.Count entries left) same = cc
found_not_misused (found.Bad code place) same = cc
found_not_misused (found.Upload upload) same = cc

judged_not_misused : (failed refused : Bool) → Misused ≡ (if failed then Failed else (if refused then Refused else Success)) → ⊥
judged_not_misused true refused same = cc
judged_not_misused false true same = cc
judged_not_misused false false same = cc

each_not_misused : (well : Bool) → Misused ≡ (if well then Success else Refused) → ⊥
each_not_misused true same = cc
each_not_misused false same = cc

-- what was asked for is performed
pub performed : {S C L N : Type 0} (begun : Begins) (g : Devices S C L N) (left : Leaves C N) (words : List Text) (request : Request) (given output output' errors errors' : Option (List ℕ)) (status : Status)
    → AskFor words request → Performs begun g left request given output output' status → (status ≡ Success → Keeps errors errors')
    → Ends begun g left words given output output' errors errors' status
performed begun g left words request given output output' errors errors' Success asks does quiet = (quiet refl, inr (request, asks, does))
performed begun g left words request given output output' errors errors' Refused asks does quiet = inl (request, asks, does)
performed begun g left words request given output output' errors errors' Failed asks does quiet = (request, asks, does)
performed begun g left words request given output output' errors errors' Unanswered asks does quiet = (request, asks, does)
performed begun g left words (Verify k file) given output output' errors errors' Misused asks does quiet = absurd (found_not_misused (reading_found does.0.count does.0.ending) does.0.printed.judged)
performed begun g left words (Upload source limit most_bytes whole) given output output' errors errors' Misused asks does quiet = let same : Misused ≡ Success = does.0 in cc
performed begun g left words (Ack source) given output output' errors errors' Misused asks does quiet = let same : Misused ≡ Success = does.0 in cc
performed begun g left words (requests.Inspect file most_entries most_fields most_bytes most_windows) given output output' errors errors' Misused asks does quiet =
    absurd (found_not_misused (inspected_found does.0.inspected) does.0.printed.judged)
performed begun g left words (requests.Collect database tables uploads then_export) given output output' errors errors' Misused asks does quiet =
    absurd (judged_not_misused (list_any is_failure does.printed.answers) (list_any is_refusal does.printed.answers) does.printed.is)
performed begun g left words (requests.CollectListed database tables list then_export) given output output' errors errors' Misused asks does quiet =
    let printed = does.printed.printed.printed in
    absurd (judged_not_misused (list_any is_failure printed.answers) (list_any is_refusal printed.answers) printed.is)
performed begun g left words (requests.CollectIntoUnion database tables list sequences most_windows then_export) given output output' errors errors' Misused asks does quiet =
    let printed = does.0.printed.printed.printed in
    absurd (judged_not_misused (list_any is_failure printed.answers) (list_any is_refusal printed.answers) printed.is)
performed begun g left words (requests.Acknowledged upload) given output output' errors errors' Misused asks does quiet = absurd (told_not_misused given output output' does.0)
performed begun g left words (requests.CheckNoted database sequences) given output output' errors errors' Misused asks does quiet = absurd (found_not_misused (comparison_found does.comparison) does.printed.judged)
performed begun g left words (requests.Notes sequences Has) given output output' errors errors' Misused asks does quiet = let same : Misused ≡ Success = does.0 in cc
performed begun g left words (requests.Notes sequences ForgetAfter) given output output' errors errors' Misused asks does quiet = let same : Misused ≡ Success = does.0 in cc
performed begun g left words (requests.Notes sequences tasks.Verify) given output output' errors errors' Misused asks does quiet = absurd (each_not_misused (all_well does.2.found) does.2.judged)
performed begun g left words (requests.ListOwners sequences) given output output' errors errors' Misused asks does quiet = absurd (each_not_misused (all_well does.2.found) does.2.judged)
performed begun g left words (requests.RenameOwner sequences name other) given output output' errors errors' Misused asks does quiet = let same : Misused ≡ Success = does.0 in cc
performed begun g left words (requests.ReleaseSequence sequences sequence) given output output' errors errors' Misused asks does quiet = let same : Misused ≡ Success = does.0 in cc
performed begun g left words (requests.Export database) given output output' errors errors' Misused asks does quiet = let same : Misused ≡ Success = does.0 in cc
performed begun g left words (requests.Show database field id first last) given output output' errors errors' Misused asks does quiet = let same : Misused ≡ Success = does.0 in cc
performed begun g left words requests.ListCodes given output output' errors errors' Misused asks does quiet = let same : Misused ≡ Success = does in cc
performed begun g left words (requests.Check database) given output output' errors errors' Misused asks does quiet = absurd (found_not_misused (health_found does.health) does.printed.judged)
performed begun g left words (requests.Migrate database tables) given output output' errors errors' Misused asks does quiet = absurd (found_not_misused (health_found does.health) does.printed.judged)

-- a failure's status is that of a device or memory, or another one
device_or_not : (status : Status) → (status ≡ Failed) ⊎ (status ≢ Failed)
device_or_not Success = inr (λ e. cc)
device_or_not Refused = inr (λ e. cc)
device_or_not Misused = inr (λ e. cc)
device_or_not Unanswered = inr (λ e. cc)
device_or_not Failed = inl refl

-- what stays the same where no write failed stays the same where no device did
pub unless_failed : {T : Type 0} (r : Result T Failure) (output output' : Option (List ℕ))
    → IfErr r (λ failure. failure ≢ failures.WriteFailed → Keeps output output')
    → IfErr r (λ failure. status_of failure ≢ Failed → Keeps output output')
unless_failed (Ok x) output output' keeps = tt
unless_failed (Err failure) output output' keeps = λ other. keeps (λ is. other (ap status_of is))

pub IfErr-both : {T E : Type 0} (r : Result T E) (P Q R : E → Type 0) → ((e : E) → P e → Q e → R e) → IfErr r P → IfErr r Q
    → IfErr r R
IfErr-both (Ok x) P Q R both p q = tt
IfErr-both (Err e) P Q R both p q = both e p q

pub at_ok : {T E : Type 0} (r : Result T E) (x : T) (P : T → Type 0) → r ≡ Ok x → IfOk r P → P x
at_ok r x P is p = subst (λ d. IfOk d P) is p

pub at_err : {T E : Type 0} (r : Result T E) (e : E) (P : E → Type 0) → r ≡ Err e → IfErr r P → P e
at_err r e P is p = subst (λ d. IfErr d P) is p

-- what is made of a value, from how it is made
pub ok_of : {T U E F : Type 0} (made : Result U F) (r : Result T E) (Is : U → T → Type 0) (Q : U → Type 0)
    → IfOk made (λ u. IsOkAnd r (Is u)) → ((u : U) (x : T) → r ≡ Ok x → Is u x → Q u) → IfOk made Q
ok_of (Ok u) (Ok x) Is Q is each = each u x refl is
ok_of (Ok u) (Err e) Is Q is each = absurd is
ok_of (Err d) r Is Q is each = tt

-- what is made of an error has that error
pub err_of : {T U L N : Type 0} (made : Result U (FailedRun L N)) (r : Result T Failure) (Q : Failure → Type 0) → IfErr made (λ run. r ≡ Err run.failure)
    → IfErr r Q → IfErr made (λ run. Q run.failure)
err_of (Ok u) r Q is p = tt
err_of (Err run) r Q is p = at_err r run.failure Q is p

pub fails_one : {S C L N Unopened : Type 0} {deeds : Option (List Deed)} (begun : Begins) (g : Devices S C L N) (request asked : Request) (given old new : Option (List ℕ)) (run : FailedRun L N)
    → asked ≡ request → HasFailed begun g request given old new deeds Unopened run → HasFailed begun g asked given old new deeds Unopened run
fails_one {Unopened = Unopened} {deeds = deeds} begun g request asked given old new run same fails =
    subst (λ (q : Request). HasFailed begun g q given old new deeds Unopened run) (sym same) fails

-- what is made of an error is what the request fails by
pub fails_as : {S C L N T U : Type 0} (begun : Begins) (g : Devices S C L N) (made : Result U (FailedRun L N)) (r : Result T Failure) (request asked : Request) (given old new : Option (List ℕ)) (deeds : Option (List Deed)) (Unopened : Type 0)
    → asked ≡ request → IfErr made (λ run. r ≡ Err run.failure) → IfErr made (λ run. FailsLeaving begun g request given old new deeds Unopened run.failure run.left)
    → IfErr r (FailsBy begun.told request given) → IfErr r (λ failure. status_of failure ≢ Failed → Keeps old new)
    → IfErr made (HasFailed begun g asked given old new deeds Unopened)
fails_as begun g (Ok u) r request asked given old new deeds Unopened same is leaves fails keeps = tt
fails_as begun g (Err run) r request asked given old new deeds Unopened same is leaves fails keeps = fails_one begun g request asked given old new run same (record {
  why = at_err r run.failure (FailsBy begun.told request given) is fails;
  leaves = leaves;
  kept = at_err r run.failure (λ failure. status_of failure ≢ Failed → Keeps old new) is keeps;
})

-- ... and of what is left of a database
pub fails_of : {S C L N T U : Type 0} (begun : Begins) (g : Devices S C L N) (made : Result U (FailedRun L N)) (r : Result T (FailedCommand L)) (request asked : Request) (given old new : Option (List ℕ)) (deeds : Option (List Deed)) (Unopened : Type 0)
    → asked ≡ request → IfErr made (λ run. IsErrAnd r (λ failed. failed.failure ≡ run.failure)) → IfErr made (λ run. FailsLeaving begun g request given old new deeds Unopened run.failure run.left)
    → IfErr r (λ failed. FailsBy begun.told request given failed.failure) → IfErr r (λ failed. status_of failed.failure ≢ Failed → Keeps old new)
    → IfErr made (HasFailed begun g asked given old new deeds Unopened)
fails_of begun g (Ok u) r request asked given old new deeds Unopened same is leaves fails keeps = tt
fails_of begun g (Err run) (Ok x) request asked given old new deeds Unopened same is leaves fails keeps = absurd is
fails_of begun g (Err run) (Err failed) request asked given old new deeds Unopened same is leaves fails keeps = fails_one begun g request asked given old new run same (record {
  why = subst (FailsBy begun.told request given) is fails;
  leaves = leaves;
  kept = subst (λ (failure : Failure). status_of failure ≢ Failed → Keeps old new) is keeps;
})

pub err_is : {U E : Type 0} (made : Result U E) (run : E) (Q : E → Type 0) → IsErrAnd made (λ e. e ≡ run) → Q run → IfErr made Q
err_is (Ok u) run Q is it = absurd is
err_is (Err e) run Q is it = subst Q (sym is) it

-- why a file that is read fails a request, or an upload, or a folder of notes that isn't opened
pub by_file : (file : Bor (List ℕ)) (failure : Failure)
    → (failure ≡ failures.CannotOpen file) ⊎ ((failure ≡ failures.ReadFailed) ⊎ ((failure ≡ failures.WriteFailed) ⊎ (failure ≡ failures.OutOfMemory)))
    → FileFailsBy file.now failure
by_file file failure (inl is) = subst (FileFailsBy file.now) (sym is) refl
by_file file failure (inr (inl is)) = subst (FileFailsBy file.now) (sym is) tt
by_file file failure (inr (inr (inl is))) = subst (FileFailsBy file.now) (sym is) tt
by_file file failure (inr (inr (inr is))) = subst (FileFailsBy file.now) (sym is) tt

pub by_upload : (file : Bor (List ℕ)) (failure : Failure)
    → (failure ≡ failures.CannotOpen file) ⊎ ((failure ≡ failures.BadUpload) ⊎ ((failure ≡ failures.ReadFailed) ⊎ ((failure ≡ failures.WriteFailed) ⊎ (failure ≡ failures.OutOfMemory))))
    → UploadFileFailsBy file.now failure
by_upload file failure (inl is) = subst (UploadFileFailsBy file.now) (sym is) refl
by_upload file failure (inr (inl is)) = subst (UploadFileFailsBy file.now) (sym is) tt
by_upload file failure (inr (inr (inl is))) = subst (UploadFileFailsBy file.now) (sym is) tt
by_upload file failure (inr (inr (inr (inl is)))) = subst (UploadFileFailsBy file.now) (sym is) tt
by_upload file failure (inr (inr (inr (inr is)))) = subst (UploadFileFailsBy file.now) (sym is) tt

pub by_folder : (folder : Bor (List ℕ)) (database list : List ℕ) (at : Option (List ℕ)) (is failure : Failure) → is ≡ failure
    → (failure ≡ failures.CannotOpen folder) ⊎ (failure ≡ failures.OutOfMemory) → (is ≡ failures.CannotOpen folder) ⊎ UnionFailsBy database (list ∷ []) at is
by_folder folder database list at is failure same (inl cannot) = inl (same ∙ cannot)
by_folder folder database list at is failure same (inr none) = inr (subst (UnionFailsBy database (list ∷ []) at) (sym (same ∙ none)) tt)

-- where nothing but a write fails a device does
pub write_fails : {T : Type 0} (r : Result T Failure) (output output' : Option (List ℕ)) → IfErr r (λ failure. failure ≡ failures.WriteFailed)
    → IfErr r (λ failure. status_of failure ≢ Failed → Keeps output output')
write_fails (Ok x) output output' fails = tt
write_fails (Err failure) output output' fails = λ other. absurd (other (ap status_of fails))

pub does_as : (found : List ℕ → Option (List ℕ)) (request asked : Request) (given : Option (List ℕ)) (old new : Option (List Deed)) → asked ≡ request
    → DoesFor found request given old new → DoesFor found asked given old new
does_as found request asked given old new same does = subst (λ (q : Request). DoesFor found q given old new) (sym same) does

-- what was asked for fails
pub failed : (told : List ℕ → Option (List ℕ)) (words : List Text) (request : Request) (given output output' : Option (List ℕ)) (failure : Failure)
    → AskFor words request → FailsBy told request given failure → (status_of failure ≢ Failed → Keeps output output')
    → Stops told words given output output' failure
failed told words request given output output' failure asks why keeps = elim (device_or_not (status_of failure)) [
  | inl device ↦ inl device
  | inr other ↦ inr (record {
    request = request;
    asked = asks;
    failure = failure;
    why = why;
    judged = refl;
    kept = keeps other;
  })
]

-- a kind of answer: help or the version, want of memory, or a mistake
sorted : (k : ErrorKind) → IsAskedFor k ⊎ ((k ≡ kind.OutOfMemory) ⊎ (¬ IsAskedFor k × (k ≢ kind.OutOfMemory)))
sorted kind.DisplayHelp = inl (inl refl)
sorted kind.DisplayVersion = inl (inr refl)
sorted kind.OutOfMemory = inr (inl refl)
sorted _ = inr (inr (λ asked. elim asked [ inl e ↦ cc | inr e ↦ cc ], λ e. cc))

-- the words are answered in place of a request
ends_answered : {S C L N : Type 0} (begun : Begins) (g : Devices S C L N) (left : Leaves C N) (words : List Text) (k : ErrorKind) (r : Result Status Failure)
    (given output output' errors errors' : Option (List ℕ)) → AreAnswered words k
    → (IsAskedFor k → IfOk r (λ status. status ≡ Success) × IfErr r (λ why. why ≡ failures.WriteFailed) × Keeps errors errors')
    → (¬ IsAskedFor k → k ≢ kind.OutOfMemory → (r ≡ Ok Misused) × Keeps output output')
    → (k ≡ kind.OutOfMemory → (r ≡ Err failures.OutOfMemory) × Keeps output output')
    → IfOk r (Ends begun g left words given output output' errors errors')
ends_answered begun g left words k r given output output' errors errors' answered asked mistaken memory =
    let Goal : Result Status Failure → Type 0 = λ r. IfOk r (Ends begun g left words given output output' errors errors') in
    elim (sorted k) [
      | inl h ↦ shown r (asked h) h
      | inr rest ↦ elim rest [
        | inl m ↦ subst Goal (sym (memory m).0) tt
        | inr n ↦ subst Goal (sym (mistaken n.0 n.1).0) (inl ((k, n.0, answered), (mistaken n.0 n.1).1))
      ]
    ]
  where
    shown : (r : Result Status Failure)
        → IfOk r (λ status. status ≡ Success) × IfErr r (λ why. why ≡ failures.WriteFailed) × Keeps errors errors'
        → IsAskedFor k → IfOk r (Ends begun g left words given output output' errors errors')
    shown (Ok status) facts h =
        subst (Ends begun g left words given output output' errors errors') (sym facts.0) (facts.2, inl (k, h, answered))
    shown (Err why) facts h = tt

-- memory is refused, or the words are answered
pub ends_words : {S C L N : Type 0} (begun : Begins) (g : Devices S C L N) (left : Leaves C N) (words : List Text) (k : ErrorKind) (r : Result Status Failure)
    (given output output' errors errors' : Option (List ℕ)) → (k ≡ kind.OutOfMemory) ⊎ AreAnswered words k
    → (IsAskedFor k → IfOk r (λ status. status ≡ Success) × IfErr r (λ why. why ≡ failures.WriteFailed) × Keeps errors errors')
    → (¬ IsAskedFor k → k ≢ kind.OutOfMemory → (r ≡ Ok Misused) × Keeps output output')
    → (k ≡ kind.OutOfMemory → (r ≡ Err failures.OutOfMemory) × Keeps output output')
    → IfOk r (Ends begun g left words given output output' errors errors')
ends_words begun g left words k r given output output' errors errors' (inl refused) asked mistaken memory =
    subst (λ (r : Result Status Failure). IfOk r (Ends begun g left words given output output' errors errors')) (sym (memory refused).0) tt
ends_words begun g left words k r given output output' errors errors' (inr answered) asked mistaken memory =
    ends_answered begun g left words k r given output output' errors errors' answered asked mistaken memory

-- a status is known by its number
pub same_status : (s t : Status) → number_of s ≡ number_of t → s ≡ t
same_status Success Success e = refl
same_status Success Refused e = cc
same_status Success Misused e = cc
same_status Success Failed e = cc
same_status Success Unanswered e = cc
same_status Refused Success e = cc
same_status Refused Refused e = refl
same_status Refused Misused e = cc
same_status Refused Failed e = cc
same_status Refused Unanswered e = cc
same_status Misused Success e = cc
same_status Misused Refused e = cc
same_status Misused Misused e = refl
same_status Misused Failed e = cc
same_status Misused Unanswered e = cc
same_status Failed Success e = cc
same_status Failed Refused e = cc
same_status Failed Misused e = cc
same_status Failed Failed e = refl
same_status Failed Unanswered e = cc
same_status Unanswered Success e = cc
same_status Unanswered Refused e = cc
same_status Unanswered Misused e = cc
same_status Unanswered Failed e = cc
same_status Unanswered Unanswered e = refl

-- the status that a number says, over words that are the same
pub by_number : {S C L N : Type 0} (begun : Begins) (g : Devices S C L N) (left : Leaves C N) (words texts : List Text) (given output output' errors errors' : Option (List ℕ)) (n : ℕ) (status wanted : Status)
    → texts ≡ words → n ≡ number_of status → n ≡ number_of wanted → Ends begun g left texts given output output' errors errors' status
    → Ends begun g left words given output output' errors errors' wanted
by_number begun g left words texts given output output' errors errors' n status wanted same is wants ends =
    subst (Ends begun g left words given output output' errors errors') (same_status status wanted (sym is ∙ wants))
    (subst (λ (t : List Text). Ends begun g left t given output output' errors errors' status) same ends)

-- no failure's status is that of success
fails : (failure : Failure) → status_of failure ≢ Success
fails (failures.Bad fault) same = cc
fails failures.SourceChanged same = cc
fails failures.BadResume same = cc
fails (failures.BadAnswer line) same = cc
fails (failures.BadLine line) same = cc
fails failures.BadUpload same = cc
fails failures.BadId same = cc
fails failures.BadFieldName same = cc
fails failures.BadDatabaseName same = cc
fails failures.BadExportName same = cc
fails (failures.CannotOpen path) same = cc
fails failures.ReadFailed same = cc
fails failures.WriteFailed same = cc
fails failures.StoreFailed same = cc
fails failures.OutOfMemory same = cc
fails failures.WordsAreNoText same = cc

-- ... or that of answers that are about something else
answered : (failure : Failure) → status_of failure ≢ Unanswered
answered (failures.Bad fault) same = cc
answered failures.SourceChanged same = cc
answered failures.BadResume same = cc
answered (failures.BadAnswer line) same = cc
answered (failures.BadLine line) same = cc
answered failures.BadId same = cc
answered failures.BadFieldName same = cc
answered failures.BadDatabaseName same = cc
answered failures.BadExportName same = cc
answered failures.BadUpload same = cc
answered (failures.CannotOpen path) same = cc
answered failures.ReadFailed same = cc
answered failures.WriteFailed same = cc
answered failures.StoreFailed same = cc
answered failures.OutOfMemory same = cc
answered failures.WordsAreNoText same = cc

-- a run that stops short gives no files back, and ends with the failure's status
stops : {S C L N : Type 0} (begun : Begins) (g : Devices S C L N) (left : Leaves C N) (words : List Text) (given output output' errors errors' : Option (List ℕ)) (failure : Failure) (wanted : Status)
    → status_of failure ≡ wanted → wanted ≢ Failed → Stops begun.told words given output output' failure
    → Ends begun g left words given output output' errors errors' wanted
stops begun g left words given output output' errors errors' failure Success same other stopped = absurd (fails failure same)
stops begun g left words given output output' errors errors' failure Failed same other stopped = absurd (other refl)
stops begun g left words given output output' errors errors' failure Unanswered same other stopped = absurd (answered failure same)
stops begun g left words given output output' errors errors' failure Refused same other stopped = elim stopped [
  | inl failed ↦ let both : Failed ≡ Refused = sym failed ∙ same in cc
  | inr asked ↦ inr (subst (StopsAsked begun.told words given output output') same asked)
]
stops begun g left words given output output' errors errors' failure Misused same other stopped = elim stopped [
  | inl failed ↦ let both : Failed ≡ Misused = sym failed ∙ same in cc
  | inr asked ↦ inr (subst (StopsAsked begun.told words given output output') same asked)
]

pub stops_by_number : {S C L N : Type 0} (begun : Begins) (g : Devices S C L N) (left : Leaves C N) (words texts : List Text) (given output output' errors errors' : Option (List ℕ)) (n : ℕ)
    (failure : Failure) (wanted : Status) → texts ≡ words → n ≡ number_of (status_of failure) → n ≡ number_of wanted
    → wanted ≢ Failed → Stops begun.told texts given output output' failure
    → Ends begun g left words given output output' errors errors' wanted
stops_by_number begun g left words texts given output output' errors errors' n failure wanted same is wants other stopped =
    stops begun g left words given output output' errors errors' failure wanted (same_status (status_of failure) wanted (sym is ∙ wants)) other
    (subst (λ (t : List Text). Stops begun.told t given output output' failure) same stopped)

-- ... and an answer in place of a request fails only where a device or memory does
pub stops_answered : (told : List ℕ → Option (List ℕ)) (words : List Text) (k : ErrorKind) (r : Result Status Failure) (given output output' errors errors' : Option (List ℕ))
    → (IsAskedFor k → IfOk r (λ status. status ≡ Success) × IfErr r (λ why. why ≡ failures.WriteFailed) × Keeps errors errors')
    → (¬ IsAskedFor k → k ≢ kind.OutOfMemory → (r ≡ Ok Misused) × Keeps output output')
    → (k ≡ kind.OutOfMemory → (r ≡ Err failures.OutOfMemory) × Keeps output output')
    → IfErr r (Stops told words given output output')
stops_answered told words k r given output output' errors errors' asked mistaken memory =
    let Goal : Result Status Failure → Type 0 = λ r. IfErr r (Stops told words given output output') in
    elim (sorted k) [
      | inl h ↦ by_write r (asked h).1
      | inr rest ↦ elim rest [
        | inl m ↦ subst Goal (sym (memory m).0) (inl refl)
        | inr n ↦ subst Goal (sym (mistaken n.0 n.1).0) tt
      ]
    ]
  where
    by_write : (r : Result Status Failure) → IfErr r (λ why. why ≡ failures.WriteFailed) → IfErr r (Stops told words given output output')
    by_write (Ok status) fact = tt
    by_write (Err why) fact = inl (ap status_of fact)

-- ... and leaves nothing of a database: help was printed, or nothing was, since they are wrong or there is no memory
pub left_answered : {S C L N Unopened : Type 0} (begun : Begins) (g : Devices S C L N) (words : List Text) (k : ErrorKind) (r : Result Status Failure) (given output output' : Option (List ℕ)) (status : Status) (left : Option (NotedLeft L N))
    → Unopened → left ≡ None → (k ≡ kind.OutOfMemory) ⊎ AreAnswered words k
    → (¬ IsAskedFor k → k ≢ kind.OutOfMemory → (r ≡ Ok Misused) × Keeps output output')
    → (k ≡ kind.OutOfMemory → (r ≡ Err failures.OutOfMemory) × Keeps output output')
    → (r ≡ Err failures.OutOfMemory → status ≡ Failed)
    → FailsAsked begun g words given output output' begun.deeds Unopened status left
left_answered begun g words k r given output output' status left unopened none answered mistaken memory fails = inl (ends answered, (refl, (unopened, none)))
  where
    Ends : Type 0
    Ends = AskForHelp words ⊎ (Keeps output output' × (AreWrong words ⊎ (status ≡ Failed)))

    refused : k ≡ kind.OutOfMemory → Ends
    refused m = inr ((memory m).1, inr (fails (memory m).0))

    ends : (k ≡ kind.OutOfMemory) ⊎ AreAnswered words k → Ends
    ends (inl m) = refused m
    ends (inr is) = elim (sorted k) [
      | inl h ↦ inl (k, h, is)
      | inr rest ↦ elim rest [ inl m ↦ refused m | inr n ↦ inr ((mistaken n.0 n.1).1, inl (k, n.0, is)) ]
    ]

-- the status that a number says, whether it is performed or fails
pub either_by_number : {S C L N Unopened : Type 0} (begun : Begins) (g : Devices S C L N) (left : Leaves C N) (words texts : List Text) (given output output' : Option (List ℕ)) (deeds : Option (List Deed)) (n : ℕ)
    (status wanted : Status) (handed : Option (NotedLeft L N)) → texts ≡ words → n ≡ number_of status → n ≡ number_of wanted
    → PerformsAsked begun g left texts given output output' status ⊎ FailsAsked begun g texts given output output' deeds Unopened status handed
    → PerformsAsked begun g left words given output output' wanted ⊎ FailsAsked begun g words given output output' deeds Unopened wanted handed
either_by_number {Unopened = Unopened} begun g left words texts given output output' deeds n status wanted handed same is wants ends =
    subst₂ (λ (t : List Text) (s : Status). PerformsAsked begun g left t given output output' s ⊎ FailsAsked begun g t given output output' deeds Unopened s handed)
    same (same_status status wanted (sym is ∙ wants)) ends

-- ---- over a union of databases

-- what is known and what came may be said in other words
pub same_start : {known noted : Known} {past now : Journal} {came comes : LogEntry → Type 0} → ((k : Key) → known k ≡ noted k)
    → ((e : LogEntry) → came e → comes e) → MayCatchUp noted past now came → MayCatchUp known past now comes
same_start alike too lag = record {
  noted = lag.noted;
  kept = record {
    noted = λ k key. alike k ∙ lag.kept.noted k key;
    apart = lag.kept.apart;
    have_come = λ e stored. too e (lag.kept.have_come e stored);
  };
  lags = lag.lags;
}

pub leads_from : {S C L : Type 0} {o : InFiles S C L} (made : Tables) (image : Image) (files : C) (Asked Holds : Journal → Type 0)
    (Step : Journal → Journal → Type 0) → ((before : Journal) → Asked before → Holds before) → LeadsIf made image o files Holds Step
    → LeadsIf made image o files Asked Step
leads_from made image files Asked Holds Step each leads clean kind before begin asked = leads clean kind before begin (each before asked)

-- ---- what was done, in other words

pub performs_as : {S C L N : Type 0} (begun : Begins) (g : Devices S C L N) (files shown : Option C) (ledger noted : Option N) (deeds : Option (List Deed)) (request asked : Request)
    (given old new errors errors' : Option (List ℕ)) (status is : Status) → asked ≡ request → shown ≡ files → noted ≡ ledger → is ≡ status → (status ≡ Success → Keeps errors errors')
    → Performs begun g (leaves files ledger deeds) request given old new status → HasPerformed begun g (leaves shown noted deeds) asked given old new errors errors' is
performs_as {S} {C} {L} {N} begun g files shown ledger noted deeds request asked given old new errors errors' status is same_request same_files same_ledger same_status quiet does = record {
  performs =
      subst (λ (r : Request). Performs begun g (leaves shown noted deeds) r given old new is) (sym same_request)
      (subst (λ (f : Option C). Performs begun g (leaves f noted deeds) request given old new is) (sym same_files)
      (subst (λ (l : Option N). Performs begun g (leaves files l deeds) request given old new is) (sym same_ledger)
      (subst (Performs begun g (leaves files ledger deeds) request given old new) (sym same_status) does)));
  quiet = λ success. quiet (sym same_status ∙ success);
}

-- ... by what writes nothing on standard error, and has no notes
pub performs_still : {S C L N : Type 0} (begun : Begins) (g : Devices S C L N) (files shown : Option C) (ledger : Option N) (deeds : Option (List Deed)) (request asked : Request)
    (given old new errors : Option (List ℕ)) (status is : Status) → asked ≡ request → shown ≡ files → is ≡ status
    → Performs begun g (leaves files ledger deeds) request given old new status → HasPerformed begun g (leaves shown ledger deeds) asked given old new errors errors is
performs_still begun g files shown ledger deeds request asked given old new errors status is same_request same_files same_status does =
    performs_as begun g files shown ledger ledger deeds request asked given old new errors errors status is same_request same_files refl same_status (λ success. Keeps-refl errors) does

pub collects_as : {S C L N : Type 0} (begun : Begins) (g : Devices S C L N) (left : Leaves C N) (database : List ℕ) (at : Option (List ℕ)) (made : Tables) (named uploads : List (Bor (List ℕ)))
    (given old new : Option (List ℕ)) (status : Status) → named ≡ uploads → Collects begun g left database at made named given old new status
    → Collects begun g left database at made uploads given old new status
collects_as begun g left database at made named uploads given old new status same does =
    subst (λ (xs : List (Bor (List ℕ))). Collects begun g left database at made xs given old new status) same does

pub ends_as : {S C L N : Type 0} (begun : Begins) (g : Devices S C L N) (left : Leaves C N) (words : List Text) (given output output' errors errors' : Option (List ℕ))
    (status is : Status) → is ≡ status → Ends begun g left words given output output' errors errors' status
    → Ends begun g left words given output output' errors errors' is
ends_as begun g left words given output output' errors errors' status is same ends =
    subst (Ends begun g left words given output output' errors errors') (sym same) ends
