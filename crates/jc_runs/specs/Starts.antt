-- Runs that begin behind steps of the worked list. (own)
use Rattle.std.specs.Prelude.{ℕ, ◌≡◌, true, List, [], ◌∷◌, Option, Some, None, take}
use Rattle.std.specs.FinMap.{empty, insert}
use Rattle.std.specs.List.{Contains}
use Rattle.sqlite.specs.Recovery.{Image}
use Rattle.jc_base.specs.Journal.{Journal}
use Rattle.jc_base.specs.LogEntry.{LogEntry}
use Rattle.jc_collector.specs.Kinds.{BeginsIn}
use Rattle.jc_command.specs.Run.{begins_with}
use Rattle.jc_command_args.specs.declared.request.Tables.{Tables}
use Rattle.jc_command_shared.specs.Deeds.{Deed}
use Rattle.jc_keeper.specs.declared.form.Shape.{Shape}
use Rattle.jc_ledger.specs.Known.{digest_of}
use Rattle.jc_ledger.specs.Owners.{machine_named}
use Rattle.jc_ledger.specs.Union.{union}
use Rattle.jc_ledger.specs.declared.digest.EntryDigest.{EntryDigest}
use Rattle.jc_ledger_files.specs.declared.window_name.WindowName.{WindowName}
use Rattle.jc_runs.specs.Between.{Between, IsInOne, MayBegin, journals_of, nothing}
use Rattle.jc_runs.specs.Next.{BeganWith, MayMake}
use Rattle.jc_runs.specs.Steps.{LeadsOn}
use Rattle.jc_runs.specs.Worked.{numbered, of_lost, of_one, of_other, worked}
use Rattle.jc_runs.specs.WorkedNotes.{windows_without, worked_windows}

-- With these files of notes, and with any of the present database that have what it has, the next run begins from here.
abbrev pub BeginsAt : (windows : WindowName → List ℕ) → Between → Type 0
BeginsAt windows b =
    (made kind : Tables) (image : Image) (told found : List ℕ → Option (List ℕ)) (deeds : Option (List Deed)) (shape : Shape)
    → BeginsIn made kind image b.now
    → BeganWith made kind (begins_with image windows b.past empty (Contains b.came) told found deeds shape) b

-- So many steps lead to this. The machines own the sequences, and the other one's entry is noted, in the 65th window. Of the
-- first one's this is known. With these files of notes the next run begins.
pub record Starts (steps : ℕ) (known : Option EntryDigest) (windows : WindowName → List ℕ) (b : Between) : Type 0 where
  pub leads : LeadsOn nothing (take steps worked) b
  pub owner : b.owner (numbered 1) ≡ Some (machine_named (1 ∷ []))
  pub owner_of_other : b.owner (numbered 2) ≡ Some (machine_named (2 ∷ []))
  pub noted : b.known of_one.key ≡ known
  pub noted_of_other : b.known of_other.key ≡ Some (digest_of of_other)
  pub began : BeginsAt windows b
  pub begins : MayBegin b

-- The first machine's entry is noted, too.
abbrev pub StartsNoted : (steps : ℕ) → Between → Type 0
StartsNoted steps b = Starts steps (Some (digest_of of_one)) worked_windows b

-- what a run finds in the second database, what was still noted of the first one then, and what had come
abbrev pub only_other : Journal
only_other = insert empty of_other.key of_other.body

abbrev pub worked_past : Journal
worked_past = union empty (insert empty of_one.key of_one.body)

abbrev pub worked_came : List LogEntry
worked_came = of_other ∷ of_one ∷ []

-- A run begins with a database that has this entry alone, and behind a turn with an empty one, or with no file yet. So it does
-- behind a stop, with a database whose entry has no note yet; when that is set aside; when the window with the first machine's
-- entry went, and that isn't noted any more; and when it was stored again, and earlier databases may be gone.
abbrev pub AreStarts : Type 0
AreStarts =
    ((b : Between) × StartsNoted 4 b × (b.now ≡ only_other) × (b.past ≡ worked_past) × (b.came ≡ worked_came))
    × ((b : Between) × StartsNoted 5 b × (b.now ≡ empty) × MayMake b)
    × ((b : Between) × StartsNoted 6 b × (b.now ≡ insert empty of_lost.key of_lost.body) × (b.known of_lost.key ≡ None))
    × ((b : Between) × StartsNoted 7 b × MayMake b × (b.forgotten of_lost.key ≡ true))
    × ((b : Between) × Starts 8 None windows_without b × MayMake b × (b.forgotten of_one.key ≡ true))
    × ((b : Between) × StartsNoted 10 b × (b.now ≡ insert empty of_one.key of_one.body) × IsInOne (journals_of b.earlier) of_one)
