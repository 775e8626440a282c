use Rattle.std.proofs.Common.{arith, refl, sym}
use Rattle.jc_ledger_files.specs.NotesOf.{notes_of}
use Rattle.jc_ledger_files.specs.Owned.{owner_window}
use Rattle.jc_ledger_files.specs.OwnersLaws.{files_alike}
use Rattle.jc_ledger_files.proofs.Leaving.{seen, seen_left}
use Rattle.jc_ledger_files.proofs.ledger_in_files.FileLedgerDiskWindowsLedgerInFiles.show_files.Goals as goal

pub returns-clause-some : goal.returns-clause-some
returns-clause-some g c =
    let windows = c.args.self.now.windows.folder in
    let owners = c.args.self.now.owners.folder in
    let stays = g.met.F.Folder.seen_may_stay in (
      seen (g.F.Folder.seen windows) (g.F.Folder.seen owners) (g.F.Folder.may_leave windows) (g.F.Folder.may_leave owners) (λ w. stays windows w) (λ w. stays owners w),
      (
        seen_left (g.F.Folder.seen windows) (g.F.Folder.seen owners) (g.F.Folder.may_leave windows) (g.F.Folder.may_leave owners) (λ w. stays windows w) (λ w. stays owners w),
        (λ k key. sym (files_alike (g.F.Folder.seen windows) (g.F.Folder.seen owners) k key), λ s. refl),
      ),
    )

pub returns-clause-known : goal.returns-clause-known
returns-clause-known g c = λ files may. c.next_run_over_files.ensures.crash files (λ w before. (may w).0 before)

pub returns-clause-owners : goal.returns-clause-owners
returns-clause-owners g c = λ files may s.
    (notes_of (files (owner_window s)), ((files (owner_window s), ((may (owner_window s)).1 (omega arith), refl)), refl))
