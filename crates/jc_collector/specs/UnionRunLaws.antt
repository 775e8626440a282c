-- What a run over a union whose uploads a list names comes to, by how it ends. (own)
use Rattle.std.proofs.Common.{◌≡◌, ◌≢◌, ℕ, List, Option, Result, inl, inr, subst, sym, ⊎_elim}
use Rattle.std.proofs.lemmas.Result.{IfErr-weaker, IfOk-weaker}
use Rattle.std.specs.Prelude.{◌⊎◌, IfErr, IfOk, IsSomeAnd, None, Some}
use Rattle.std.specs.Io.KnownBytes.{Keeps}
use Rattle.std.specs.Option.{option_map}
use Rattle.sqlite.specs.Recovery.{Image}
use Rattle.jc_base.specs.declared.id.Id128.{Id128}
use Rattle.jc_base.specs.Journal.{Journal}
use Rattle.jc_base.specs.LogEntry.{LogEntry}
use Rattle.jc_collector_answers.specs.Brought.{CollectsText}
use Rattle.jc_collector_answers.specs.Collected.{told_within}
use Rattle.jc_collector_answers.specs.declared.name_lines.NameLines.TheVariants.{MachinesAndUploads}
use Rattle.jc_collector_answers.specs.Tied.{PrintsFront}
use Rattle.jc_command_args.specs.declared.request.Tables.{Tables}
use Rattle.jc_command_shared.specs.Deeds.{Deed}
use Rattle.jc_command_shared.specs.Failure.{status_of}
use Rattle.jc_command_shared.specs.declared.failure.Failure.{Failure}
use Rattle.jc_command_shared.specs.declared.status.Status.{Status}
use Rattle.jc_command_shared.specs.declared.status.Status.TheVariants.{Failed, Success}
use Rattle.jc_database.specs.Files.{InFiles}
use Rattle.jc_ledger.specs.declared.ledger.Ledger as ledgers
use Rattle.jc_ledger.specs.Kept.{NoneCollide}
use Rattle.jc_ledger.specs.Known.{Known}
use Rattle.jc_ledger.specs.Owners.{BelongsTo, Owner, machine_named, whose_by}
use Rattle.jc_ledger.specs.Union.{union}
use Rattle.jc_ledger.specs.Lagging.{MayCatchUp}
use Rattle.jc_upload.specs.declared.answer.Answer.{Answer}
use Rattle.jc_collector.specs.FromList.{PrintsFromList}
use Rattle.jc_collector.specs.IntoUnion.{LeadsIf, StoresNotedFromList, StoresNotedNames}
use Rattle.jc_collector.specs.OverFiles.{IsListed}
use Rattle.jc_collector.specs.UnionLeft.{FilesLeft, HowPrinted, UnionIsLeft, handed_back}
use Rattle.jc_collector.specs.UnionRun.{FailsEarly, ListIsLeft, RunsFromList}
use Rattle.jc_collector.specs.Unopened.{IsLeftUnopened}
use Rattle.jc_collector.specs.declared.into_union.closing.FailedRun.{FailedRun}
use Rattle.jc_collector.specs.declared.into_union.closing.NotedLeft.{NotedLeft}
use Rattle.jc_collector.specs.declared.into_union.closing.NotedRun.{NotedRun}

module _ {S C R N : Type 0} (o : InFiles S C R) (n : ledgers.Ghosts N) (made : Tables) (first : Image) (told : List ℕ → Option (List ℕ)) (most_windows : Option ℕ)
    (past : Journal) (ledger : N) (database list : List ℕ) (given : Option (List ℕ)) (result : Result (NotedRun C N) (FailedRun R N)) (old new errors errors_now : Option (List ℕ)) (deeds deeds_now : Option (List Deed))
  where
    abbrev pub Runs : Type 0
    Runs = RunsFromList o n made first told most_windows past ledger database list given result old new errors errors_now deeds deeds_now

    -- owners that are found to be the same
    began_as : (text : Option (List ℕ)) (owned : Owner) → ((s : Id128) → n.owner ledger s ≡ owned s) → {within : List ℕ → Option (List ℕ)} {known : Known} {came : LogEntry → Type 0} {owner : Owner}
        {status : Status} {before after : Journal} → StoresNotedNames within past known came (n.owner ledger) owner text status old new before after
        → StoresNotedNames within past known came owned owner text status old new before after
    began_as text owned same {within = within} {owner = owner} {before = before} {after = after} it = record {
      kept = it.kept;
      stored = it.stored;
      own = record { shown = it.own.shown; holds = holds text _ it.own.holds };
    }
      where
        holds : (text : Option (List ℕ)) (answers : List Answer) → CollectsText within MachinesAndUploads (whose_by (n.owner ledger)) (whose_by owner) text (union past before) (union past after) answers
            → CollectsText within MachinesAndUploads (whose_by owned) (whose_by owner) text (union past before) (union past after) answers
        holds None answers it = tt
        holds (Some lines) answers it = (
          it.0,
          λ machine s is. ⊎_elim (λ was. inl (subst (BelongsTo (option_map machine_named machine)) (same s) was)) (λ some. inr some) (it.1 machine s is),
        )

    early_ok : (P : NotedRun C N → Type 0) → FailsEarly o made database first ledger result old new deeds deeds_now → IfOk result P
    early_ok P early = subst (λ (r : Result (NotedRun C N) (FailedRun R N)). IfOk r P) (sym early.failed) tt

    -- ... by whom sequences belonged to at first
    pub runs_stored : (owned : Owner) → ((s : Id128) → n.owner ledger s ≡ owned s) → Runs → IfOk result (λ run. LeadsIf made first o run.files
        (λ before. MayCatchUp (n.known ledger) past before (n.came ledger) × n.clean run.ledger × NoneCollide (n.came run.ledger))
        (StoresNotedFromList told most_windows past (n.known run.ledger) (n.came run.ledger) owned (n.owner run.ledger) list given run.status old new))
    runs_stored owned same (inl early) = early_ok _ early
    runs_stored owned same (inr (text, listed, runs)) = IfOk-weaker result _ _
        (λ run leads clean kind before begin holds.
        let it = leads clean kind before begin holds in record {
          found = it.found;
          is = record { text = text; listed = listed; stored = began_as text owned same it.is };
          keeps = it.keeps;
        })
        runs.stored

    pub runs_printed : Runs → IfOk result (λ run. PrintsFromList told list given run.status old new)
    runs_printed (inl early) = early_ok _ early
    runs_printed (inr (text, listed, runs)) =
        IfOk-weaker result _ _ (λ run it. record { text = text; listed = listed; printed = it }) runs.printed

    pub runs_quiet : Runs → IfOk result (λ run. run.status ≡ Success → Keeps errors errors_now)
    runs_quiet (inl early) = early_ok _ early
    runs_quiet (inr (text, listed, runs)) = runs.quiet

    pub runs_untouched : Runs → IfErr result (λ run. status_of run.failure ≢ Failed → Keeps old new)
    runs_untouched (inl early) =
        subst (λ (r : Result (NotedRun C N) (FailedRun R N)). IfErr r (λ run. status_of run.failure ≢ Failed → Keeps old new)) (sym early.failed) (λ other. early.kept)
    runs_untouched (inr (text, listed, runs)) = runs.untouched

    -- no failure has shut the notes
    pub runs_noted : Runs → IfOk result (λ run. n.clean run.ledger → n.sound run.ledger)
    runs_noted (inl early) = early_ok _ early
    runs_noted (inr (text, listed, runs)) = runs.noted

    -- what is left, under another premise on the notes, which says more, and by what is said of the notes as they were given
    module _ (Noted : Journal → Type 0) (each : (before : Journal) → Noted before → MayCatchUp (n.known ledger) past before (n.came ledger) × n.sound ledger)
        (AreGiven : N → Type 0) (given_so : AreGiven ledger)
      where
        listed_left : (text : Option (List ℕ)) → IsListed told list given text → (Prints : (text : Option (List ℕ)) → HowPrinted) (failure : Failure) (files : FilesLeft) (notes : N)
            → UnionIsLeft n made first (told_within most_windows told) past (λ before. MayCatchUp (n.known ledger) past before (n.came ledger) × n.sound ledger) text (Prints text) failure files notes
            → ListIsLeft n made first told most_windows past Noted list given Prints failure files notes
        listed_left text listed Prints failure files notes left =
            (text, listed, λ clean l_clean none kind before begin noted. left clean l_clean none kind before begin (each before noted))

        abbrev pub LeavesNotes : Failure → NotedLeft R N → Type 0
        LeavesNotes failure it =
            (AreGiven it.ledger × (IsLeftUnopened o made database first failure deeds deeds_now it.files × Keeps old new))
            ⊎ IsSomeAnd it.files (λ files. ListIsLeft n made first told most_windows past Noted list given
            (λ text Holds. PrintsFront Holds old new) failure (handed_back o first files) it.ledger)

        left_early : (failure : Failure) (left : Option (NotedLeft R N)) → Keeps old new
            → IsSomeAnd left (λ it. (it.ledger ≡ ledger) × IsLeftUnopened o made database first failure deeds deeds_now it.files) → IsSomeAnd left (LeavesNotes failure)
        left_early failure None kept some = absurd some
        left_early failure (Some it) kept early = inl (subst AreGiven (sym early.0) given_so, (early.1, kept))

        left_files : (text : Option (List ℕ)) → IsListed told list given text → (failure : Failure) (notes : N) → (files : Option R)
            → IsSomeAnd files (λ files. UnionIsLeft n made first (told_within most_windows told) past
            (λ before. MayCatchUp (n.known ledger) past before (n.came ledger) × n.sound ledger) text (λ Holds. PrintsFront Holds old new) failure (handed_back o first files) notes)
            → IsSomeAnd files (λ files. ListIsLeft n made first told most_windows past Noted list given
            (λ text Holds. PrintsFront Holds old new) failure (handed_back o first files) notes)
        left_files text listed failure notes None some = absurd some
        left_files text listed failure notes (Some files) left = listed_left text listed (λ text Holds. PrintsFront Holds old new) failure (handed_back o first files) notes left

        left_some : (text : Option (List ℕ)) → IsListed told list given text → (failure : Failure) (left : Option (NotedLeft R N))
            → IsSomeAnd left (λ it. IsSomeAnd it.files (λ files. UnionIsLeft n made first (told_within most_windows told) past
            (λ before. MayCatchUp (n.known ledger) past before (n.came ledger) × n.sound ledger) text (λ Holds. PrintsFront Holds old new) failure (handed_back o first files) it.ledger))
            → IsSomeAnd left (LeavesNotes failure)
        left_some text listed failure None some = absurd some
        left_some text listed failure (Some it) left = inr (left_files text listed failure it.ledger it.files left)

        pub runs_left : Runs → IfErr result (λ run. IsSomeAnd run.left (LeavesNotes run.failure))
        runs_left (inl early) =
            subst (λ (r : Result (NotedRun C N) (FailedRun R N)). IfErr r (λ run. IsSomeAnd run.left (LeavesNotes run.failure))) (sym early.failed)
            (left_early early.run.failure early.run.left early.kept early.left)
        runs_left (inr (text, listed, runs)) = IfErr-weaker result _ _ (λ run left. left_some text listed run.failure run.left left) runs.left
