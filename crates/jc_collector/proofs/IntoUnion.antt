-- A run over a union of databases: why it fails, and what it makes of the files.
use Rattle.std.proofs.Common.{◌≡◌, ◌⊎◌, ℕ, List, [], Option, None, Result, Ok, Err, ap, inl, inr, refl, sym, subst, subst₂}
use Rattle.std.proofs.KnownBytes.{Keeps-refl}
use Rattle.std.specs.Prelude.{IfErr, IfOk, IfSome, IsSomeAnd}
use Rattle.sqlite.specs.Store.{Ghosts}
use Rattle.sqlite.specs.Effect.{Database}
use Rattle.sqlite.specs.Recovery.{Image}
use Rattle.sqlite.specs.Held.{Held, state}
use Rattle.sqlite.specs.State.{HasCleanDisk}
use Rattle.jc_base.specs.Journal.{Journal}
use Rattle.jc_base.specs.LogEntry.{LogEntry}
use Rattle.jc_collect.specs.Each.{held}
use Rattle.jc_collector_answers.specs.Brought.{CollectsText}
use Rattle.jc_keeper.specs.Whose.{Whose}
use Rattle.jc_collector_answers.specs.Collected.{HoldsFirstOf}
use Rattle.jc_collector_answers.specs.Kept.{HoldsPrinted}
use Rattle.jc_collector_answers.specs.PrintedLaws.{named}
use Rattle.jc_collector_answers.specs.Tied.{NamedWith, PrintsFront}
use Rattle.jc_collector_answers.specs.declared.name_lines.NameLines.TheVariants.{MachinesAndUploads}
use Rattle.jc_command_args.specs.declared.request.Tables.{Tables}
use Rattle.jc_command_shared.specs.Deeds.{Deed}
use Rattle.jc_command_shared.specs.declared.failure.Failure.{Failure}
use Rattle.jc_command_shared.specs.declared.failure.Failure.TheVariants.{Bad, BadAnswer, BadDatabaseName, BadExportName, BadFieldName, BadId, BadLine, BadResume, BadUpload, CannotOpen, OutOfMemory, ReadFailed, SourceChanged, StoreFailed, WordsAreNoText, WriteFailed}
use Rattle.jc_command_shared.specs.declared.status.Status.{Status}
use Rattle.jc_database.specs.Files.{EndsWith, HoldsJournal, InFiles, Keeps, KeepsAlways}
use Rattle.jc_ledger.specs.Kept.{ComesToo, IsKept, NoneCollide}
use Rattle.jc_ledger.specs.Known.{Known}
use Rattle.jc_ledger.specs.Union.{union, with_all}
use Rattle.jc_store.specs.Crash.{MayLeave}
use Rattle.jc_store.specs.Meaning.{AreMade, IsSound, Meaning, journal_of}
use Rattle.jc_collector.specs.Noted.{WhyNoUnion}
use Rattle.jc_collector.specs.Database.{DatabaseFailsBy, IsOutFailure, MayEndNames, WhyNoJournal}
use Rattle.jc_collector.specs.IntoUnion.{LeadsIf, UnionFailsBy, UnionStopsBy}
use Rattle.jc_collector.specs.Kinds.{meaning_of}
use Rattle.jc_collector.specs.Open.{IsFoundIn}
use Rattle.jc_collector.specs.UnionOpened.{FaultsOver}
use Rattle.jc_collector.specs.UnionRun.{FailsEarly, IsFoundAs}
use Rattle.jc_collector.specs.Unopened.{FaultsDatabase, IsLeftUnopened, LeavesBegun}
use Rattle.jc_collector.specs.declared.into_union.closing.FailedRun.{FailedRun}
use Rattle.jc_collector.proofs.Open.{front_named}
use Rattle.jc_collector.proofs.Results.{IfErr-each, failure_of_other, some_each}
use Rattle.jc_upload.specs.declared.answer.Answer.{Answer}

-- ---- before its present database is open

-- What is handed back of it, if that isn't opened.
pub fails_early : {S C R N : Type 0} (o : InFiles S C R) (made : Tables) (database : List ℕ) (first : Image) (ledger : N) (run : FailedRun R N) (failure : Failure) (files : Option R) (old : Option (List ℕ))
    (deeds deeds_now : Option (List Deed)) → run.failure ≡ failure → IsSomeAnd run.left (λ it. (it.files ≡ files) × (it.ledger ≡ ledger))
    → IsLeftUnopened o made database first failure deeds deeds_now files → FailsEarly o made database first ledger (Err run) old old deeds deeds_now
fails_early {R = R} o made database first ledger run failure files old deeds deeds_now same left unopened = record {
  run = run;
  failed = refl;
  left =
      some_each run.left _ _ left
      (λ it is. (is.1, subst₂ (λ (w : Failure) (f : Option R). IsLeftUnopened o made database first w deeds deeds_now f) (sym same) (sym is.0) unopened));
  kept = Keeps-refl old;
}

-- ... or no file of it is.
pub fails_first : {S C R N : Type 0} (o : InFiles S C R) (made : Tables) (database : List ℕ) (first : Image) (ledger : N) (run : FailedRun R N) (failure : Failure) (files : Option R) (old : Option (List ℕ)) (deeds : Option (List Deed))
    → run.failure ≡ failure → FaultsDatabase failure → files ≡ None
    → IsSomeAnd run.left (λ it. (it.files ≡ files) × (it.ledger ≡ ledger)) → FailsEarly o made database first ledger (Err run) old old deeds deeds
fails_first {R = R} o made database first ledger run failure files old deeds same fault none left =
    fails_early o made database first ledger run failure files old deeds deeds same left (record {
      begins = subst (λ (f : Option R). IfSome f (LeavesBegun o made first)) (sym none) tt;
      handed = inr (inl refl);
      fault = fault;
    })

-- What is refused of names is no fault.
pub names_fault : {Bad Export : Type 0} (failure : Failure) → ((failure ≡ BadDatabaseName) × Bad) ⊎ (((failure ≡ BadExportName) × Export) ⊎ (failure ≡ OutOfMemory)) → FaultsDatabase failure
names_fault failure (inl name) = subst FaultsDatabase (sym name.0) tt
names_fault failure (inr (inl name)) = subst FaultsDatabase (sym name.0) tt
names_fault failure (inr (inr memory)) = subst FaultsDatabase (sym memory) tt

-- That of a database that isn't opened is its own.
pub database_fault : (path : List ℕ) (failure : Failure) → WhyNoJournal path failure → FaultsDatabase failure
database_fault path (Bad fault) why = why
database_fault path SourceChanged why = tt
database_fault path BadResume why = tt
database_fault path (BadAnswer line) why = tt
database_fault path (BadLine line) why = tt
database_fault path BadId why = tt
database_fault path BadFieldName why = tt
database_fault path BadDatabaseName why = tt
database_fault path BadExportName why = tt
database_fault path BadUpload why = tt
database_fault path (CannotOpen at) why = tt
database_fault path ReadFailed why = tt
database_fault path WriteFailed why = tt
database_fault path StoreFailed why = tt
database_fault path OutOfMemory why = tt
database_fault path WordsAreNoText why = tt

-- ---- why it fails

pub by_answers : (failure : Failure) → MayEndNames failure → UnionStopsBy failure
by_answers failure (inl read) = inr read
by_answers failure (inr (inl write)) = inl (inr write)
by_answers failure (inr (inr (inl store))) = inl (inl (subst WhyNoUnion (sym store) tt))
by_answers failure (inr (inr (inr memory))) = inl (inl (subst WhyNoUnion (sym memory) tt))

-- ... and no fault
pub names_over : (journal : Journal) (failure : Failure) → MayEndNames failure → FaultsOver journal failure
names_over journal failure (inl read) = subst (FaultsOver journal) (sym read) tt
names_over journal failure (inr (inl write)) = subst (FaultsOver journal) (sym write) tt
names_over journal failure (inr (inr (inl store))) = subst (FaultsOver journal) (sym store) tt
names_over journal failure (inr (inr (inr memory))) = subst (FaultsOver journal) (sym memory) tt

-- the answers, what waits, and then the export: the first failure is told
pub names_ended : {A : Type 0} (answered settled done : Result A Failure)
    → IfErr answered (λ failure. (failure ≡ ReadFailed) ⊎ ((failure ≡ WriteFailed) ⊎ (failure ≡ OutOfMemory)))
    → IfErr settled (λ failure. (answered ≡ Err failure) ⊎ ((failure ≡ StoreFailed) ⊎ (failure ≡ OutOfMemory)))
    → IfErr done (λ failure. (settled ≡ Err failure) ⊎ IsOutFailure failure) → IfErr done MayEndNames
names_ended answered settled done answers settles ends =
    failure_of_other done settled IsOutFailure MayEndNames ends
    (failure_of_other settled answered _ MayEndNames settles
    (IfErr-each answered _ MayEndNames
    (λ failure why. elim why [ inl is ↦ inl is | inr more ↦ elim more [ inl is ↦ inr (inl is) | inr is ↦ inr (inr (inr is)) ] ]) answers)
    (λ failure its. inr (inr its)))
    (λ failure out. inr out)

module _ (database : List ℕ) (paths : List (List ℕ)) (at : Option (List ℕ)) where
  no_union : (failure : Failure) → WhyNoUnion failure → UnionFailsBy database paths at failure
  no_union (Bad fault) why = tt
  no_union SourceChanged why = absurd why
  no_union BadResume why = absurd why
  no_union (BadAnswer line) why = absurd why
  no_union (BadLine line) why = absurd why
  no_union BadId why = absurd why
  no_union BadFieldName why = absurd why
  no_union BadDatabaseName why = absurd why
  no_union BadExportName why = absurd why
  no_union BadUpload why = absurd why
  no_union (CannotOpen path) why = absurd why
  no_union ReadFailed why = absurd why
  no_union WriteFailed why = absurd why
  no_union StoreFailed why = tt
  no_union OutOfMemory why = tt
  no_union WordsAreNoText why = absurd why

  by_database : (failure : Failure) → DatabaseFailsBy database failure → UnionFailsBy database paths at failure
  by_database (Bad fault) why = tt
  by_database SourceChanged why = why
  by_database BadResume why = why
  by_database (BadAnswer line) why = why
  by_database (BadLine line) why = why
  by_database BadId why = why
  by_database BadFieldName why = why
  by_database BadDatabaseName why = why
  by_database BadExportName why = absurd why
  by_database BadUpload why = why
  by_database (CannotOpen path) why = inl why
  by_database ReadFailed why = tt
  by_database WriteFailed why = why
  by_database StoreFailed why = why
  by_database OutOfMemory why = why
  by_database WordsAreNoText why = why

  pub by_union : (failure : Failure) → UnionStopsBy failure ⊎ DatabaseFailsBy database failure → UnionFailsBy database paths at failure
  by_union failure (inl (inl (inl why))) = no_union failure why
  by_union failure (inl (inl (inr write))) = subst (UnionFailsBy database paths at) (sym write) tt
  by_union failure (inl (inr read)) = subst (UnionFailsBy database paths at) (sym read) tt
  by_union failure (inr why) = by_database failure why

-- ---- what it makes of the files

-- one journal for another
pub kept_same : {known : Known} {past one other : Journal} {came : LogEntry → Type 0} → other ≡ one → IsKept known past one came → IsKept known past other came
kept_same {known = known} {past = past} {came = came} same kept = subst (λ (j : Journal). IsKept known past j came) (sym same) kept

-- what doesn't collide once more has come did not before
pub apart_before : {before later : LogEntry → Type 0} → ComesToo before later → NoneCollide later → NoneCollide before
apart_before comes none e f here there = none e f (comes e here) (comes f there)

-- whose what is new is, between the same journals
pub named_between : {F : Type 0} (told : List ℕ → Option (List ℕ)) (First Of : Whose) (text : Option (List ℕ)) (past first then now last : Journal)
    (result : Result Status F) (old new : Option (List ℕ)) → then ≡ first → last ≡ now
    → IfOk result (λ status. NamedWith (CollectsText told MachinesAndUploads First Of text (union past then) (union past now)) text status old new)
    → IfOk result (λ status. NamedWith (CollectsText told MachinesAndUploads First Of text (union past first) (union past last)) text status old new)
named_between told First Of text past first then now last result old new begins ends named =
    subst (λ (j : Journal). IfOk result (λ status. NamedWith (CollectsText told MachinesAndUploads First Of text (union past j) (union past last)) text status old new)) begins
    (subst (λ (j : Journal). IfOk result (λ status. NamedWith (CollectsText told MachinesAndUploads First Of text (union past then) (union past j)) text status old new)) (sym ends) named)

-- where nothing is pending, the union is that of what the databases have
module _ {F : Type 0} (text : Option (List ℕ)) (past first last : Journal) (pending pending_now : List LogEntry) (none : pending ≡ []) (none_now : pending_now ≡ [])
    (result : Result Status F) (old new : Option (List ℕ))
  where
    pub holds_stored : (AreUploads : List (Option (List ℕ)) → Type 0) (Was Now : Type 0) (had has : Journal → Type 0)
        → HoldsPrinted (named text) (HoldsFirstOf AreUploads (held (union past (with_all first pending)) Was had) (held (union past (with_all last pending_now)) Now has)) result old new
        → HoldsPrinted (named text) (HoldsFirstOf AreUploads (held (union past first) Was had) (held (union past last) Now has)) result old new
    holds_stored AreUploads Was Now had has holds =
        subst (λ (es : List LogEntry). HoldsPrinted (named text) (HoldsFirstOf AreUploads (held (union past (with_all first es)) Was had) (held (union past last) Now has)) result old new) none
        (subst (λ (es : List LogEntry). HoldsPrinted (named text) (HoldsFirstOf AreUploads (held (union past (with_all first pending)) Was had) (held (union past (with_all last es)) Now has)) result old new) none_now holds)

    pub named_stored : (told : List ℕ → Option (List ℕ)) (First Of : Whose)
        → IfOk result (λ status. NamedWith (CollectsText told MachinesAndUploads First Of text (union past (with_all first pending)) (union past (with_all last pending_now))) text status old new)
        → IfOk result (λ status. NamedWith (CollectsText told MachinesAndUploads First Of text (union past first) (union past last)) text status old new)
    named_stored told First Of holds =
        subst (λ (es : List LogEntry). IfOk result (λ status. NamedWith (CollectsText told MachinesAndUploads First Of text (union past (with_all first es)) (union past last)) text status old new)) none
        (subst (λ (es : List LogEntry). IfOk result (λ status. NamedWith (CollectsText told MachinesAndUploads First Of text (union past (with_all first pending)) (union past (with_all last es))) text status old new)) none_now holds)

pub keeps_same : {S C L : Type 0} {o : InFiles S C L} (m : Meaning) (files : C) (one other : Journal) → one ≡ other → KeepsAlways m o files one
    → KeepsAlways m o files other
keeps_same {o = o} m files one other same keeps = subst (λ (j : Journal). KeepsAlways m o files j) same keeps

-- what was opened was found so
pub found_as : {S : Type 0} {g : Ghosts S} (made mine : Tables) (image : Image) (first : Held S) → IsFoundIn g made mine image first
    → IsFoundAs (meaning_of mine) g made image first
found_as made mine image first found = record {
  sound = λ clean. (found clean).0;
  keeps = λ clean kind before begin. ((found clean).1 kind before begin).1;
  same = λ clean kind before begin left journal holds.
      subst (λ (k : Tables). HoldsJournal (meaning_of k) left journal) (sym ((found clean).1 kind before begin).0) holds;
}

-- what was found in the files is what the run begins with
pub leads_found : {S C L : Type 0} {g : Ghosts S} {o : InFiles S C L} (m : Meaning) (made : Tables) (image : Image) (first : Held S) (files : C)
    (Holds : Journal → Type 0) (Step : Journal → Journal → Type 0) → IsFoundAs m g made image first
    → (o.clean files → (before : Journal) → Holds before → HasCleanDisk (state g first))
    → (o.clean files → (before : Journal) → Keeps m g first before → Holds before → EndsWith m o files (Step before))
    → LeadsIf made image o files Holds Step
leads_found m made image first files Holds Step found was_clean each clean kind before begin holds =
    let is = was_clean clean before holds in
    let ends = each clean before (found.keeps is kind before begin) holds in
    record {
      found = ends.found;
      is = ends.is;
      keeps = record {
        now = found.same is kind before begin _ ends.found ends.keeps.now;
        left = λ left may. found.same is kind before begin left ends.found (ends.keeps.left left may);
      };
    }

-- ---- what it leaves

-- what was printed, whether all of it or not
pub front_any : {F : Type 0} (Holds : List Answer → Type 0) (text : Option (List ℕ)) (old new : Option (List ℕ)) (result : Result Status F)
    → HoldsPrinted (named text) Holds result old new → PrintsFront Holds old new
front_any Holds text old new (Ok status) it = front_named Holds text old new status it
front_any Holds text old new (Err failure) it = it

-- a database that was closed has what a crash may have left of it
pub has_left : {S : Type 0} (m : Meaning) (g : Ghosts S) (conn : Held S) → IsSound g conn → AreMade m g conn
    → (state g conn).may_leave (state g conn).committed.trees → MayLeave m g conn (journal_of m g conn)
has_left m g conn sound made left =
    let has = made sound in record {
      trees = (state g conn).committed.trees;
      left = left;
      is = record {
        database = (state g conn).now;
        is_journal = has.journal;
        trees_are = ap (λ (d : Database). d.trees) (sym has.settled);
        reads = refl;
      };
    }
