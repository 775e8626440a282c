use Rattle.std.proofs.Common.{◌≡◌, ap, refl, subst, ◌∙◌, arith}
use Rattle.std.specs.Prelude.{⊤}
use Rattle.jc_ledger_files.proofs.Calling.{cause_passed_on, checked_use, never_passed_on}
use Rattle.jc_ledger_files.proofs.Going.{cause_then, none_answered, none_done, none_matched, whatever}
use Rattle.jc_ledger_files.proofs.Lending.{never_of_store, on_err}
use Rattle.jc_ledger_files.proofs.disk_windows.DiskWindows.lend.Goals as goal

pub returns-in_err-check : goal.returns-in_err-check
returns-in_err-check g c =
    let failed = c.from_residual.ensures in
    let folder = c.check.ensures.folder in
    record {
      «open» = none_done _ c.from_residual.result failed.0;
      shut = c.check.ensures.shut ∙ c.in_err-check.ensures.closed;
      usable = none_answered _ c.from_residual.result failed.0;
      file = λ clean. none_answered _ c.from_residual.result failed.0;
      others = none_done _ c.from_residual.result failed.0;
      refused = on_err c.from_residual.result (λ clean. record {
        same = λ w. ap (λ f. g.F.Folder.seen f w) folder;
        crash = λ w file may. subst (λ f. g.F.Folder.may_leave f w file) folder may;
      });
      clean = λ clean. none_matched _ c.from_residual.result failed.0 (subst (λ f. g.F.Folder.clean f) folder clean);
      store = cause_passed_on c.from_residual.result failed (checked_use _ c.args.self.now.failures c.check.new.self.failures
          (g.F.Folder.failures c.args.self.now.folder) (g.F.Folder.failures c.check.new.self.folder) c.in_err-check.ensures.counts (ap (λ f. g.F.Folder.failures f) folder));
      never_read = never_passed_on {S = ⊤} c.from_residual.result failed (never_of_store _ c.in_err-check.ensures.stops);
    }

pub returns : goal.returns
returns g c =
    let folder = c.check.ensures.folder in
    let lend = c.lend.ensures in
    let count : g.F.Folder.failures c.check.new.self.folder ≡ g.F.Folder.failures c.args.self.now.folder = ap (λ f. g.F.Folder.failures f) folder in
    record {
      «open» = whatever c.lend.result c.in_ok-check.ensures.open;
      shut = refl;
      usable = lend.usable;
      file = rw folder at lend.file;
      others = whatever c.lend.result (rw folder at lend.others);
      refused = rw folder at lend.refused;
      clean = rw folder at lend.clean;
      store = cause_then c.check.new.self.failures c.check.new.self.failures (omega (arith, c.in_ok-check.ensures.counts.never_falls, count)) refl lend.store;
      never_read = lend.never_read;
    }
