use Rattle.std.proofs.Common.{refl}
use Rattle.jc_ledger_files.specs.NotesOf.{notes_of}
use Rattle.jc_ledger_files.specs.Owned.{owner_window}
use Rattle.jc_ledger_files.specs.OwnersLaws.{files_alike, files_leave, files_of}
use Rattle.jc_ledger_files.specs.Windows.{known_in}
use Rattle.jc_ledger_files.proofs.law.next_run_over_files.Goals as goal

pub returns-clause-begins : goal.returns-clause-begins
returns-clause-begins g c = λ is_open clean past now kept files may.
    c.next_run.ensures.begins (is_open, clean) past now kept (λ w. notes_of (files w)) (λ w before. (files w, (may w before, refl)))

pub returns-clause-owners : goal.returns-clause-owners
returns-clause-owners g c = λ is_open clean files may.
    c.next_run.ensures.owners (is_open, clean) (λ w. notes_of (files w)) (λ s. (files (owner_window s), (may s, refl)))

pub returns-clause-crash : goal.returns-clause-crash
returns-clause-crash g c = λ files may.
    let folder = c.args.ledger.now.windows.folder in
    let seen = g.F.Folder.seen folder in
    let all = files_leave (g.F.Folder.may_leave folder) files seen (λ w. g.met.F.Folder.seen_may_stay folder w) may in (
      known_in (λ w. notes_of (files_of files seen w)),
      ((λ w. notes_of (files_of files seen w), ((λ w. (files_of files seen w, (all w, refl))), λ k. refl)), files_alike files seen),
    )
