-- What a run of the program leaves in which what was asked for isn't performed. (own)
use Rattle.std.specs.Prelude.{◌≡◌, ◌≢◌, ◌↔◌, ◌⊎◌, ℕ, List, Option, None, Some, IsSomeAnd}
use Rattle.std.specs.Borrow.{Bor}
use Rattle.std.specs.Io.KnownBytes.{Keeps}
use Rattle.clap.specs.Words.{Text}
use Rattle.jc_base.specs.declared.id.Id128.{Id128}
use Rattle.jc_base.specs.declared.id.Key.{Key}
use Rattle.jc_base.specs.LogEntry.{LogEntry}
use Rattle.jc_collector.specs.UnionLeft.{handed_back}
use Rattle.jc_collector.specs.Unopened.{IsLeftUnopened}
use Rattle.jc_collector.specs.declared.into_union.closing.FailedRun.{FailedRun}
use Rattle.jc_collector.specs.declared.into_union.closing.NotedLeft.{NotedLeft}
use Rattle.jc_collector_answers.specs.Tied.{PrintsFront}
use Rattle.jc_command_args.specs.Words.{AreWrong, AskFor, AskForHelp}
use Rattle.jc_command_args.specs.declared.request.Request.{Request}
use Rattle.jc_command_args.specs.declared.request.Request.TheVariants.{CollectIntoUnion}
use Rattle.jc_command_shared.specs.Deeds.{Deed}
use Rattle.jc_command_shared.specs.Failure.{status_of}
use Rattle.jc_command_shared.specs.declared.failure.Failure.{Failure}
use Rattle.jc_command_shared.specs.declared.failure.Failure.TheVariants.{CannotOpen, OutOfMemory}
use Rattle.jc_command_shared.specs.declared.status.Status.{Status}
use Rattle.jc_command_shared.specs.declared.status.Status.TheVariants.{Failed}
use Rattle.jc_command.specs.Run.{Begins, Devices, FailsBy, LeavesUnion, PerformsAsked, leaves}

-- Why a folder of notes isn't opened.
abbrev pub IsUnopened : (folder : Bor (List ℕ)) → Failure → Type 0
IsUnopened folder failure = (failure ≡ CannotOpen folder) ⊎ (failure ≡ OutOfMemory)

module _ {S C L N : Type 0} (begun : Begins) (g : Devices S C L N) where
  -- Notes are as they were opened: they tell what their files had, and no failure has shut them.
  pub record AreAsBegun (notes : N) : Type 0 where
    pub sound : g.ledger.sound notes
    pub known : (k : Key) → g.ledger.known notes k ≡ begun.noted k
    pub owner : (s : Id128) → g.ledger.owner notes s ≡ begun.owner s
    pub came : (e : LogEntry) → g.ledger.came notes e ↔ begun.came e

  -- No database was opened, and no notes were, no file was made or changed, and nothing is handed back.
  abbrev pub BeginsNothing : (deeds : Option (List Deed)) → (Unopened : Type 0) → Option (NotedLeft L N) → Type 0
  BeginsNothing deeds Unopened left = (deeds ≡ begun.deeds) × (Unopened × (left ≡ None))

  -- What a request leaves that fails, and whether its notes were opened. Of a union there may be nothing, for a reason for which
  -- they aren't: then nothing was begun, and nothing was printed. Or the notes are as they were opened, as if its present database wasn't: nothing was printed
  -- either, and what is left of the database's files is handed back. Otherwise what is left of both has what was printed. Of
  -- other requests nothing is handed back.
  abbrev pub FailsLeaving : Request → (given old new : Option (List ℕ)) → (deeds : Option (List Deed)) → (Unopened : Type 0) → Failure → Option (NotedLeft L N) → Type 0
  FailsLeaving (CollectIntoUnion database tables list sequences most_windows then_export) given old new deeds Unopened failure left =
      (BeginsNothing deeds Unopened left × (IsUnopened sequences failure × Keeps old new))
      ⊎ IsSomeAnd left (λ it.
      (AreAsBegun it.ledger × (IsLeftUnopened g.database tables database.now begun.image failure begun.deeds deeds it.files × Keeps old new))
      ⊎ IsSomeAnd it.files (λ files. LeavesUnion begun g tables list.now most_windows given
      (λ text Holds. PrintsFront Holds old new) failure (handed_back g.database begun.image files) it.ledger))
  FailsLeaving _ given old new deeds Unopened failure left = left ≡ None

  -- A request fails for such a reason, and leaves that. Unless a device or memory failed, nothing was printed.
  pub record HasFailed (request : Request) (given old new : Option (List ℕ)) (deeds : Option (List Deed)) (Unopened : Type 0) (run : FailedRun L N) : Type 0 where
    pub why : FailsBy begun.told request given run.failure
    pub leaves : FailsLeaving request given old new deeds Unopened run.failure run.left
    pub kept : status_of run.failure ≢ Failed → Keeps old new

  -- The arguments ask for nothing that is begun: for help, or they are wrong, or memory was refused, and nothing was printed; or
  -- they ask for something that fails for such a reason, with this status, and leaves that.
  abbrev pub FailsAsked : List Text → (given old new : Option (List ℕ)) → (deeds : Option (List Deed)) → (Unopened : Type 0) → Status → Option (NotedLeft L N) → Type 0
  FailsAsked words given old new deeds Unopened status left =
      ((AskForHelp words ⊎ (Keeps old new × (AreWrong words ⊎ (status ≡ Failed)))) × BeginsNothing deeds Unopened left)
      ⊎ ((request : Request) × AskFor words request
      × ((failure : Failure) × (status ≡ status_of failure) × FailsBy begun.told request given failure × FailsLeaving request given old new deeds Unopened failure left))

-- What was asked for is performed, or fails so, in a run that keeps to itself what it has at its end.
unfoldable pub FailsWithin : {S C L N D : Type 0} → Begins → Devices S C L N → (folders : D) → (deeds : Option (List Deed)) → List Text → (given old new : Option (List ℕ)) → Status → Type 0
FailsWithin {S} {C} {L} {N} {D} begun g folders deeds words given old new status =
    (files : Option C) × (ledger : Option N) × (left : Option (NotedLeft L N)) × (back : Option D)
    × (PerformsAsked begun g (leaves files ledger deeds) words given old new status
    ⊎ FailsAsked begun g words given old new deeds (back ≡ Some folders) status left)
