-- Files of notes with which runs over the databases of the worked list begin. (own)
use Rattle.std.specs.Prelude.{ℕ, Bool, true, false, if◌then◌else◌, List, [], ◌∷◌}
use Rattle.jc_base.specs.declared.id.Id128.{Id128}
use Rattle.jc_base.specs.LogEntry.{LogEntry}
use Rattle.jc_keeper.specs.KeyLaws.{key_eq}
use Rattle.jc_ledger.specs.Known.{digest_of}
use Rattle.jc_ledger.specs.Owners.{machine_named}
use Rattle.jc_ledger_files.specs.Blocks.{blocks}
use Rattle.jc_ledger_files.specs.declared.window_name.WindowName.{WindowName}
use Rattle.jc_ledger_files.specs.declared.window_note.WindowNote.{WindowNote}
use Rattle.jc_ledger_files.specs.OwnersLaws.{with_owners}
use Rattle.jc_ledger_files.specs.Windows.{same_window, window_of}
use Rattle.jc_notes.specs.Printed.{owner_note}
use Rattle.jc_runs.specs.Worked.{numbered, of_its_window, of_one, of_other}

unfoldable pub note_of : LogEntry → WindowNote
note_of e = record { number = e.key.seqnum; digest = digest_of e }

-- Each machine's entry is noted in its window, and so is whose its sequence is.
unfoldable pub entry_notes : WindowName → List WindowNote
entry_notes w =
    if same_window (window_of of_one.key) w then note_of of_one ∷ [] else (if same_window (window_of of_other.key) w then note_of of_other ∷ [] else [])

unfoldable pub is_numbered : ℕ → Id128 → Bool
is_numbered n s = key_eq (record { seqnum_id = s; seqnum = 0 }) (record { seqnum_id = numbered n; seqnum = 0 })

unfoldable pub notes_owning : (one other : Bool) → List WindowNote
notes_owning true other = owner_note (machine_named (1 ∷ [])) ∷ []
notes_owning false true = owner_note (machine_named (2 ∷ [])) ∷ []
notes_owning false false = []

unfoldable pub owner_notes : Id128 → List WindowNote
owner_notes s = notes_owning (is_numbered 1 s) (is_numbered 2 s)

unfoldable pub worked_notes : WindowName → List WindowNote
worked_notes = with_owners entry_notes owner_notes

unfoldable pub worked_windows : WindowName → List ℕ
worked_windows w = blocks (worked_notes w)

-- the same behind the step in which a window's file goes
unfoldable pub windows_without : WindowName → List ℕ
windows_without w = if of_its_window w then [] else worked_windows w
