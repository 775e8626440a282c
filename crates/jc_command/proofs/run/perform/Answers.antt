-- What each request comes to, from what its command does, and what is made of that.
use Rattle.std.proofs.Common.{◌∙◌, Some, ap, inl, inr, refl, subst, sym}
use Rattle.std.proofs.KnownBytes.{Keeps-refl}
use Rattle.std.proofs.lemmas.Result.{IfErr-weaker}
use Rattle.jc_collector.specs.UnionRunLaws.{runs_left, runs_noted, runs_printed, runs_quiet, runs_stored, runs_untouched}
use Rattle.jc_command.proofs.NotesFailing.{by_name, releases}
use Rattle.jc_command.proofs.Runs.{IfErr-both, at_ok, by_file, by_folder, by_upload, collects_as, does_as, err_is, fails_as, fails_of, fails_one, leads_from, ok_of, performs_as, performs_still, same_start, unless_failed, write_fails}
use Rattle.jc_command.specs.Failed.{AreAsBegun, IsUnopened}
use Rattle.jc_command.specs.Run.{begins_with, devices}
use Rattle.jc_command.proofs.run.perform.Goals as goal

pub returns-in-Verify-clause-performed : goal.returns-in-Verify-clause-performed
returns-in-Verify-clause-performed g c =
    ok_of c.without.result c.verify.result _ _ c.without.ensures.done
    (λ done it was same. performs_still _ _ _ _ _ _ _ _ (g.I.Read.remaining c.args.input.now) (g.O.Write.contents c.args.output.now)
    (g.O.Write.contents c.verify.new.output) (g.E.Write.contents c.args.errors.now) _ _ c.in-Verify.is same.1 same.0
    (at_ok c.verify.result it _ was c.verify.ensures.printed, λ held is. at_ok c.verify.result it _ was (c.verify.ensures.told held is)))

pub returns-in-Verify-clause-failed : goal.returns-in-Verify-clause-failed
returns-in-Verify-clause-failed g c =
    fails_as _ _ c.without.result c.verify.result _ _ _ _ _ _ _ c.in-Verify.is c.without.ensures.failed c.without.ensures.left
    (IfErr-weaker c.verify.result _ _ (by_file c.in-Verify.file) c.verify.ensures.failed) (unless_failed c.verify.result _ _ c.verify.ensures.untouched)

pub returns-in-Verify-clause-touched : goal.returns-in-Verify-clause-touched
returns-in-Verify-clause-touched g c = does_as _ _ _ _ _ _ c.in-Verify.is refl

pub returns-in-Inspect-clause-performed : goal.returns-in-Inspect-clause-performed
returns-in-Inspect-clause-performed g c =
    ok_of c.without-in-Inspect.result c.inspect.result _ _ c.without-in-Inspect.ensures.done
    (λ done it was same. performs_still _ _ _ _ _ _ _ _ (g.I.Read.remaining c.args.input.now) (g.O.Write.contents c.args.output.now)
    (g.O.Write.contents c.inspect.new.output) (g.E.Write.contents c.args.errors.now) _ _ c.in-Inspect.is same.1 same.0
    (at_ok c.inspect.result it _ was c.inspect.ensures.printed, λ upload is. at_ok c.inspect.result it _ was (c.inspect.ensures.says upload is)))

pub returns-in-Inspect-clause-failed : goal.returns-in-Inspect-clause-failed
returns-in-Inspect-clause-failed g c =
    fails_as _ _ c.without-in-Inspect.result c.inspect.result _ _ _ _ _ _ _ c.in-Inspect.is c.without-in-Inspect.ensures.failed c.without-in-Inspect.ensures.left
    (IfErr-weaker c.inspect.result _ _ (by_file c.in-Inspect.file) c.inspect.ensures.failed) (unless_failed c.inspect.result _ _ c.inspect.ensures.untouched)

pub returns-in-Inspect-clause-touched : goal.returns-in-Inspect-clause-touched
returns-in-Inspect-clause-touched g c = does_as _ _ _ _ _ _ c.in-Inspect.is refl

pub returns-in-Upload-clause-performed : goal.returns-in-Upload-clause-performed
returns-in-Upload-clause-performed g c =
    ok_of c.succeeded.result c.upload.result _ _ c.succeeded.ensures.done
    (λ done it was same. performs_still _ _ _ _ _ _ _ _ (g.I.Read.remaining c.args.input.now) (g.O.Write.contents c.args.output.now)
    (g.O.Write.contents c.upload.new.output) (g.E.Write.contents c.args.errors.now) _ _ c.in-Upload.is same.1 same.0
    (refl, at_ok c.upload.result it _ was c.upload.ensures.printed))

pub returns-in-Upload-clause-failed : goal.returns-in-Upload-clause-failed
returns-in-Upload-clause-failed g c =
    fails_as _ _ c.succeeded.result c.upload.result _ _ _ _ _ _ _ c.in-Upload.is c.succeeded.ensures.failed c.succeeded.ensures.left
    c.upload.ensures.failed (unless_failed c.upload.result _ _ c.upload.ensures.untouched)

pub returns-in-Upload-clause-touched : goal.returns-in-Upload-clause-touched
returns-in-Upload-clause-touched g c = does_as _ _ _ _ _ _ c.in-Upload.is refl

pub returns-in-Ack-clause-performed : goal.returns-in-Ack-clause-performed
returns-in-Ack-clause-performed g c =
    ok_of c.succeeded-in-Ack.result c.ack.result _ _ c.succeeded-in-Ack.ensures.done
    (λ done it was same. performs_still _ _ _ _ _ _ _ _ (g.I.Read.remaining c.args.input.now) (g.O.Write.contents c.args.output.now)
    (g.O.Write.contents c.ack.new.output) (g.E.Write.contents c.args.errors.now) _ _ c.in-Ack.is same.1 same.0
    (refl, at_ok c.ack.result it _ was c.ack.ensures.printed))

pub returns-in-Ack-clause-failed : goal.returns-in-Ack-clause-failed
returns-in-Ack-clause-failed g c =
    fails_as _ _ c.succeeded-in-Ack.result c.ack.result _ _ _ _ _ _ _ c.in-Ack.is c.succeeded-in-Ack.ensures.failed c.succeeded-in-Ack.ensures.left
    c.ack.ensures.failed (unless_failed c.ack.result _ _ c.ack.ensures.untouched)

pub returns-in-Ack-clause-touched : goal.returns-in-Ack-clause-touched
returns-in-Ack-clause-touched g c = does_as _ _ _ _ _ _ c.in-Ack.is c.ack.ensures.touched

pub returns-in-Acknowledged-clause-performed : goal.returns-in-Acknowledged-clause-performed
returns-in-Acknowledged-clause-performed g c =
    ok_of c.without-in-Acknowledged.result c.acknowledged.result _ _ c.without-in-Acknowledged.ensures.done
    (λ done it was same. performs_still _ _ _ _ _ _ _ _ (g.I.Read.remaining c.args.input.now) (g.O.Write.contents c.args.output.now)
    (g.O.Write.contents c.acknowledged.new.output) (g.E.Write.contents c.args.errors.now) _ _ c.in-Acknowledged.is same.1 same.0
    (at_ok c.acknowledged.result it _ was c.acknowledged.ensures.told, λ held is. at_ok c.acknowledged.result it _ was (c.acknowledged.ensures.bytes held is)))

pub returns-in-Acknowledged-clause-failed : goal.returns-in-Acknowledged-clause-failed
returns-in-Acknowledged-clause-failed g c =
    fails_as _ _ c.without-in-Acknowledged.result c.acknowledged.result _ _ _ _ _ _ _ c.in-Acknowledged.is c.without-in-Acknowledged.ensures.failed c.without-in-Acknowledged.ensures.left
    (IfErr-weaker c.acknowledged.result _ _ (by_upload c.in-Acknowledged.upload) c.acknowledged.ensures.failed) (unless_failed c.acknowledged.result _ _ c.acknowledged.ensures.untouched)

pub returns-in-Acknowledged-clause-touched : goal.returns-in-Acknowledged-clause-touched
returns-in-Acknowledged-clause-touched g c = does_as _ _ _ _ _ _ c.in-Acknowledged.is refl

pub returns-in-Collect-clause-performed : goal.returns-in-Collect-clause-performed
returns-in-Collect-clause-performed g c =
    let does = c.collect-closed.ensures in
    ok_of c.closed.result c.collect-closed.result _ _ c.closed.ensures.done
    (λ done it was same. performs_still _ _ _ _ _ _ _ _ (g.I.Read.remaining c.args.input.now) (g.O.Write.contents c.args.output.now)
    (g.O.Write.contents c.collect-closed.new.output) (g.E.Write.contents c.args.errors.now) _ _ c.in-Collect.is same.1 same.0
    (collects_as _ _ _ _ _ _ c.as_slice-uploads.result.now c.in-Collect.uploads.items _ _ _ _ c.as_slice-uploads.ensures.value
    (record {
      printed = at_ok c.collect-closed.result it _ was does.printed;
      kept = at_ok c.collect-closed.result it _ was does.kept;
      stores = at_ok c.collect-closed.result it _ was does.each;
      collects = λ known are. at_ok c.collect-closed.result it _ was (does.collected known are);
    })))

pub returns-in-Collect-clause-failed : goal.returns-in-Collect-clause-failed
returns-in-Collect-clause-failed g c =
    let failed = rw c.as_slice-uploads.ensures.value at c.collect-closed.ensures.failed in
    fails_of _ _ c.closed.result c.collect-closed.result _ _ _ _ _ _ _ c.in-Collect.is c.closed.ensures.failed c.closed.ensures.left
    failed c.collect-closed.ensures.untouched

pub returns-in-Collect-clause-touched : goal.returns-in-Collect-clause-touched
returns-in-Collect-clause-touched g c = does_as _ _ _ _ _ _ c.in-Collect.is c.collect-closed.ensures.touched

pub returns-in-CollectListed-clause-performed : goal.returns-in-CollectListed-clause-performed
returns-in-CollectListed-clause-performed g c =
    ok_of c.closed-in-CollectListed.result c.collect_from_list-closed.result _ _ c.closed-in-CollectListed.ensures.done
    (λ done it was same. performs_as _ _ _ _ _ _ _ _ _ (g.I.Read.remaining c.args.input.now) (g.O.Write.contents c.args.output.now)
    (g.O.Write.contents c.collect_from_list-closed.new.output) (g.E.Write.contents c.args.errors.now) (g.E.Write.contents c.collect_from_list-closed.new.errors) _ _ c.in-CollectListed.is same.1 refl same.0
    (at_ok c.collect_from_list-closed.result it _ was c.collect_from_list-closed.ensures.quiet)
    (record {
      printed = at_ok c.collect_from_list-closed.result it _ was c.collect_from_list-closed.ensures.printed;
      kept = at_ok c.collect_from_list-closed.result it _ was c.collect_from_list-closed.ensures.kept;
      stores = at_ok c.collect_from_list-closed.result it _ was c.collect_from_list-closed.ensures.each;
    }))

pub returns-in-CollectListed-clause-failed : goal.returns-in-CollectListed-clause-failed
returns-in-CollectListed-clause-failed g c =
    fails_of _ _ c.closed-in-CollectListed.result c.collect_from_list-closed.result _ _ _ _ _ _ _ c.in-CollectListed.is c.closed-in-CollectListed.ensures.failed c.closed-in-CollectListed.ensures.left
    c.collect_from_list-closed.ensures.failed c.collect_from_list-closed.ensures.untouched

pub returns-in-CollectListed-clause-touched : goal.returns-in-CollectListed-clause-touched
returns-in-CollectListed-clause-touched g c = does_as _ _ _ _ _ _ c.in-CollectListed.is c.collect_from_list-closed.ensures.touched

pub returns-in-Export-clause-performed : goal.returns-in-Export-clause-performed
returns-in-Export-clause-performed g c =
    ok_of c.listed.result c.export-closed.result _ _ c.listed.ensures.done
    (λ done it was same. performs_still _ _ _ _ _ _ _ _ (g.I.Read.remaining c.args.input.now) (g.O.Write.contents c.args.output.now)
    (g.O.Write.contents c.export-closed.new.output) (g.E.Write.contents c.args.errors.now) _ _ c.in-Export.is same.1 same.0
    (refl, at_ok c.export-closed.result it _ was c.export-closed.ensures.printed))

pub returns-in-Export-clause-failed : goal.returns-in-Export-clause-failed
returns-in-Export-clause-failed g c =
    fails_of _ _ c.listed.result c.export-closed.result _ _ _ _ _ _ _ c.in-Export.is c.listed.ensures.failed c.listed.ensures.left
    c.export-closed.ensures.failed c.export-closed.ensures.untouched

pub returns-in-Export-clause-touched : goal.returns-in-Export-clause-touched
returns-in-Export-clause-touched g c = does_as _ _ _ _ _ _ c.in-Export.is c.export-closed.ensures.touched

pub returns-in-Show-clause-performed : goal.returns-in-Show-clause-performed
returns-in-Show-clause-performed g c =
    ok_of c.listed-in-Show.result c.show-closed.result _ _ c.listed-in-Show.ensures.done
    (λ done it was same. performs_still _ _ _ _ _ _ _ _ (g.I.Read.remaining c.args.input.now) (g.O.Write.contents c.args.output.now)
    (g.O.Write.contents c.show-closed.new.output) (g.E.Write.contents c.args.errors.now) _ _ c.in-Show.is same.1 same.0
    (refl, at_ok c.show-closed.result it _ was c.show-closed.ensures.printed))

pub returns-in-Show-clause-failed : goal.returns-in-Show-clause-failed
returns-in-Show-clause-failed g c =
    fails_of _ _ c.listed-in-Show.result c.show-closed.result _ _ _ _ _ _ _ c.in-Show.is c.listed-in-Show.ensures.failed c.listed-in-Show.ensures.left
    c.show-closed.ensures.failed c.show-closed.ensures.untouched

pub returns-in-Show-clause-touched : goal.returns-in-Show-clause-touched
returns-in-Show-clause-touched g c = does_as _ _ _ _ _ _ c.in-Show.is c.show-closed.ensures.touched

pub returns-in-Check-clause-performed : goal.returns-in-Check-clause-performed
returns-in-Check-clause-performed g c =
    ok_of c.examined.result c.check-examined.result _ _ c.examined.ensures.done
    (λ done it was same. let printed = at_ok c.check-examined.result it _ was c.check-examined.ensures.printed in
    performs_still _ _ _ _ _ _ _ _ (g.I.Read.remaining c.args.input.now) (g.O.Write.contents c.args.output.now)
    (g.O.Write.contents c.check-examined.new.output) (g.E.Write.contents c.args.errors.now) _ _ c.in-Check.is same.1 same.0
    (record {
      health = printed.0;
      is = printed.1;
      printed = printed.2;
      counted = at_ok c.check-examined.result it _ was c.check-examined.ensures.counted;
    }))

pub returns-in-Check-clause-failed : goal.returns-in-Check-clause-failed
returns-in-Check-clause-failed g c =
    fails_of _ _ c.examined.result c.check-examined.result _ _ _ _ _ _ _ c.in-Check.is c.examined.ensures.failed c.examined.ensures.left
    c.check-examined.ensures.failed c.check-examined.ensures.untouched

pub returns-in-Check-clause-touched : goal.returns-in-Check-clause-touched
returns-in-Check-clause-touched g c = does_as _ _ _ _ _ _ c.in-Check.is c.check-examined.ensures.touched

pub returns-in-CheckNoted-clause-performed : goal.returns-in-CheckNoted-clause-performed
returns-in-CheckNoted-clause-performed g c =
    ok_of c.examined-in-CheckNoted.result c.check_noted-examined.result _ _ c.examined-in-CheckNoted.ensures.done
    (λ done it was same. performs_still _ _ _ _ _ _ _ _ (g.I.Read.remaining c.args.input.now) (g.O.Write.contents c.args.output.now)
    (g.O.Write.contents c.check_noted-examined.new.output) (g.E.Write.contents c.args.errors.now) _ _ c.in-CheckNoted.is same.1 same.0
    (at_ok c.check_noted-examined.result it _ was c.check_noted-examined.ensures.compared))

pub returns-in-CheckNoted-clause-failed : goal.returns-in-CheckNoted-clause-failed
returns-in-CheckNoted-clause-failed g c =
    fails_of _ _ c.examined-in-CheckNoted.result c.check_noted-examined.result _ _ _ _ _ _ _ c.in-CheckNoted.is c.examined-in-CheckNoted.ensures.failed c.examined-in-CheckNoted.ensures.left
    c.check_noted-examined.ensures.failed c.check_noted-examined.ensures.untouched

pub returns-in-CheckNoted-clause-touched : goal.returns-in-CheckNoted-clause-touched
returns-in-CheckNoted-clause-touched g c = does_as _ _ _ _ _ _ c.in-CheckNoted.is c.check_noted-examined.ensures.touched

pub returns-in-Notes-clause-performed : goal.returns-in-Notes-clause-performed
returns-in-Notes-clause-performed g c =
    ok_of c.without-in-Notes.result c.work_on_notes.result _ _ c.without-in-Notes.ensures.done
    (λ done it was same. performs_still _ _ _ _ _ _ _ _ (g.I.Read.remaining c.args.input.now) (g.O.Write.contents c.args.output.now)
    (g.O.Write.contents c.work_on_notes.new.output) (g.E.Write.contents c.args.errors.now) _ _ c.in-Notes.is same.1 same.0
    (at_ok c.work_on_notes.result it _ was c.work_on_notes.ensures.worked))

pub returns-in-Notes-clause-failed : goal.returns-in-Notes-clause-failed
returns-in-Notes-clause-failed g c =
    fails_as _ _ c.without-in-Notes.result c.work_on_notes.result _ _ _ _ _ _ _ c.in-Notes.is c.without-in-Notes.ensures.failed c.without-in-Notes.ensures.left
    c.work_on_notes.ensures.failed c.work_on_notes.ensures.untouched

pub returns-in-Notes-clause-touched : goal.returns-in-Notes-clause-touched
returns-in-Notes-clause-touched g c = does_as _ _ _ _ _ _ c.in-Notes.is c.work_on_notes.ensures.touched

pub returns-in-ListOwners-clause-performed : goal.returns-in-ListOwners-clause-performed
returns-in-ListOwners-clause-performed g c =
    ok_of c.without-in-ListOwners.result c.list_all_owners.result _ _ c.without-in-ListOwners.ensures.done
    (λ done it was same. performs_still _ _ _ _ _ _ _ _ (g.I.Read.remaining c.args.input.now) (g.O.Write.contents c.args.output.now)
    (g.O.Write.contents c.list_all_owners.new.output) (g.E.Write.contents c.args.errors.now) _ _ c.in-ListOwners.is same.1 same.0
    (at_ok c.list_all_owners.result it _ was c.list_all_owners.ensures.listed))

pub returns-in-ListOwners-clause-failed : goal.returns-in-ListOwners-clause-failed
returns-in-ListOwners-clause-failed g c =
    fails_as _ _ c.without-in-ListOwners.result c.list_all_owners.result _ _ _ _ _ _ _ c.in-ListOwners.is c.without-in-ListOwners.ensures.failed c.without-in-ListOwners.ensures.left
    c.list_all_owners.ensures.failed c.list_all_owners.ensures.untouched

pub returns-in-ListOwners-clause-touched : goal.returns-in-ListOwners-clause-touched
returns-in-ListOwners-clause-touched g c = does_as _ _ _ _ _ _ c.in-ListOwners.is refl

pub returns-in-RenameOwner-clause-performed : goal.returns-in-RenameOwner-clause-performed
returns-in-RenameOwner-clause-performed g c =
    ok_of c.succeeded-in-RenameOwner.result c.rename_all.result _ _ c.succeeded-in-RenameOwner.ensures.done
    (λ done it was same. performs_still _ _ _ _ _ _ _ _ (g.I.Read.remaining c.args.input.now) (g.O.Write.contents c.args.output.now)
    (g.O.Write.contents c.rename_all.new.output) (g.E.Write.contents c.args.errors.now) _ _ c.in-RenameOwner.is same.1 same.0
    (refl, at_ok c.rename_all.result it _ was c.rename_all.ensures.renamed))

pub returns-in-RenameOwner-clause-failed : goal.returns-in-RenameOwner-clause-failed
returns-in-RenameOwner-clause-failed g c =
    fails_as _ _ c.succeeded-in-RenameOwner.result c.rename_all.result _ _ _ _ _ _ _ c.in-RenameOwner.is c.succeeded-in-RenameOwner.ensures.failed c.succeeded-in-RenameOwner.ensures.left
    c.rename_all.ensures.failed c.rename_all.ensures.untouched

pub returns-in-RenameOwner-clause-touched : goal.returns-in-RenameOwner-clause-touched
returns-in-RenameOwner-clause-touched g c = does_as _ _ _ _ _ _ c.in-RenameOwner.is c.rename_all.ensures.touched

pub returns-in-ReleaseSequence-clause-performed : goal.returns-in-ReleaseSequence-clause-performed
returns-in-ReleaseSequence-clause-performed g c =
    ok_of c.succeeded-in-ReleaseSequence.result c.release_sequence.result _ _ c.succeeded-in-ReleaseSequence.ensures.done
    (λ done it was same. performs_still _ _ _ _ _ _ _ _ (g.I.Read.remaining c.args.input.now) (g.O.Write.contents c.args.output.now)
    (g.O.Write.contents c.release_sequence.new.output) (g.E.Write.contents c.args.errors.now) _ _ c.in-ReleaseSequence.is same.1 same.0
    (refl, at_ok c.release_sequence.result it _ was c.release_sequence.ensures.released))

pub returns-in-ReleaseSequence-clause-failed : goal.returns-in-ReleaseSequence-clause-failed
returns-in-ReleaseSequence-clause-failed g c =
    fails_as _ _ c.succeeded-in-ReleaseSequence.result c.release_sequence.result _ _ _ _ _ _ _ c.in-ReleaseSequence.is c.succeeded-in-ReleaseSequence.ensures.failed c.succeeded-in-ReleaseSequence.ensures.left
    (IfErr-both c.release_sequence.result _ _ _ (by_name c.in-ReleaseSequence.sequences.now c.in-ReleaseSequence.sequence.now) c.release_sequence.ensures.failed c.release_sequence.ensures.bad) c.release_sequence.ensures.untouched

pub returns-in-ReleaseSequence-clause-touched : goal.returns-in-ReleaseSequence-clause-touched
returns-in-ReleaseSequence-clause-touched g c =
    does_as _ _ _ _ _ _ c.in-ReleaseSequence.is
    (releases g.Y.System.found c.in-ReleaseSequence.sequences.now c.release_sequence.result c.in-ReleaseSequence.sequence.now
    (g.O.Write.contents c.args.output.now) (g.O.Write.contents c.release_sequence.new.output) (g.Y.System.deeds c.args.rt.now) (g.Y.System.deeds c.release_sequence.new.rt)
    c.release_sequence.ensures.released c.release_sequence.ensures.stopped c.release_sequence.ensures.touched)

pub returns-in-Migrate-clause-performed : goal.returns-in-Migrate-clause-performed
returns-in-Migrate-clause-performed g c =
    ok_of c.examined-in-Migrate.result c.migrate-examined.result _ _ c.examined-in-Migrate.ensures.done
    (λ done it was same. let printed = at_ok c.migrate-examined.result it _ was c.migrate-examined.ensures.printed in
    performs_still _ _ _ _ _ _ _ _ (g.I.Read.remaining c.args.input.now) (g.O.Write.contents c.args.output.now)
    (g.O.Write.contents c.migrate-examined.new.output) (g.E.Write.contents c.args.errors.now) _ _ c.in-Migrate.is same.1 same.0
    (record {
      health = printed.0;
      is = printed.1;
      printed = printed.2;
      moved = at_ok c.migrate-examined.result it _ was c.migrate-examined.ensures.moved;
    }))

pub returns-in-Migrate-clause-failed : goal.returns-in-Migrate-clause-failed
returns-in-Migrate-clause-failed g c =
    fails_of _ _ c.examined-in-Migrate.result c.migrate-examined.result _ _ _ _ _ _ _ c.in-Migrate.is c.examined-in-Migrate.ensures.failed c.examined-in-Migrate.ensures.left
    c.migrate-examined.ensures.failed c.migrate-examined.ensures.untouched

pub returns-in-Migrate-clause-touched : goal.returns-in-Migrate-clause-touched
returns-in-Migrate-clause-touched g c = does_as _ _ _ _ _ _ c.in-Migrate.is c.migrate-examined.ensures.touched

pub returns-in-ListCodes-clause-performed : goal.returns-in-ListCodes-clause-performed
returns-in-ListCodes-clause-performed g c =
    ok_of c.succeeded-in-ListCodes.result c.list_codes.result _ _ c.succeeded-in-ListCodes.ensures.done
    (λ done it was same. performs_still _ _ _ _ _ _ _ _ (g.I.Read.remaining c.args.input.now) (g.O.Write.contents c.args.output.now)
    (g.O.Write.contents c.list_codes.new.output) (g.E.Write.contents c.args.errors.now) _ _ c.in-ListCodes.is same.1 same.0
    (refl))

pub returns-in-ListCodes-clause-failed : goal.returns-in-ListCodes-clause-failed
returns-in-ListCodes-clause-failed g c =
    fails_as _ _ c.succeeded-in-ListCodes.result c.list_codes.result _ _ _ _ _ _ _ c.in-ListCodes.is c.succeeded-in-ListCodes.ensures.failed c.succeeded-in-ListCodes.ensures.left
    c.list_codes.ensures.failed (write_fails c.list_codes.result _ _ c.list_codes.ensures.failed)

pub returns-in-ListCodes-clause-touched : goal.returns-in-ListCodes-clause-touched
returns-in-ListCodes-clause-touched g c = does_as _ _ _ _ _ _ c.in-ListCodes.is refl

pub returns-in_ok-run-in-CollectIntoUnion-clause-performed : goal.returns-in_ok-run-in-CollectIntoUnion-clause-performed
returns-in_ok-run-in-CollectIntoUnion-clause-performed g c =
    let runs = c.in_ok-run-in-CollectIntoUnion.ensures.runs in
    let opened = c.in-Ok.ensures in
    performs_as _ _ _ _ _ _ _ _ _ _ _ _ _ _ _ _ c.in-CollectIntoUnion.is c.noted.ensures.files c.noted.ensures.ledger c.noted.ensures.status (runs_quiet _ _ _ _ _ _ _ _ _ _ _ _ _ _ _ _ _ _ runs) (
      record {
        printed = runs_printed _ _ _ _ _ _ _ _ _ _ _ _ _ _ _ _ _ _ runs;
        stores = leads_from _ _ _ _ _ _
            (λ before asked. (same_start opened.known (λ e came. (opened.came e).1 came) asked.0, asked.1, asked.2)) (runs_stored _ _ _ _ _ _ _ _ _ _ _ _ _ _ _ _ _ _ _ opened.owner runs);
        owners = record {
          stay = c.show_steady.ensures.stay;
          after = c.show_steady.ensures.stay_after;
        };
        noted = runs_noted _ _ _ _ _ _ _ _ _ _ _ _ _ _ _ _ _ _ runs;
      },
      leads_from _ _ _ _ _ _ (λ before asked. (same_start opened.known (λ e came. (opened.came e).1 came) asked.0, asked.1, asked.2))
          c.in_ok-run-in-CollectIntoUnion.ensures.exported,
    )

pub returns-in_err-run-in-CollectIntoUnion-clause-failed : goal.returns-in_err-run-in-CollectIntoUnion-clause-failed
returns-in_err-run-in-CollectIntoUnion-clause-failed g c =
    let opened = c.in-Ok.ensures in
    let ends = c.in_err-run-in-CollectIntoUnion.ensures in
    let begun = begins_with g.F.OpenFromFiles.first g.S.Begun.windows g.S.Begun.finished g.S.Begun.aside g.S.Begun.came g.Y.System.told g.Y.System.found (g.Y.System.deeds c.args.rt.now) (g.O.Output.entry_shape c.args.output.now) in
    let seen = devices g.F.StoreInFiles.in_files g.N.Notes.Ledger in
    err_is c.from_residual.result _ _ c.from_residual.ensures.1
    (fails_one begun seen _ _ (g.I.Read.remaining c.args.input.now) (g.O.Write.contents c.args.output.now) _ _ c.in-CollectIntoUnion.is (record {
      why = inr ends.failed;
      leaves = inr (runs_left _ _ _ _ _ _ _ _ _ _ _ _ _ _ _ _ _ _ _
          (λ before noted. (same_start opened.known (λ e came. (opened.came e).1 came) noted, opened.sound))
          (AreAsBegun begun seen) (record { sound = opened.sound; known = opened.known; owner = opened.owner; came = opened.came }) ends.runs);
      kept = runs_untouched _ _ _ _ _ _ _ _ _ _ _ _ _ _ _ _ _ _ ends.runs;
    }))

pub returns-in-Err-clause-failed : goal.returns-in-Err-clause-failed
returns-in-Err-clause-failed g c =
    let output = g.O.Write.contents c.args.output.now in
    let is = c.from.ensures in
    let unopened = c.in-Err.ensures.failed in
    fails_one _ _ _ _ (g.I.Read.remaining c.args.input.now) output output c.from.result c.in-CollectIntoUnion.is (record {
      why = by_folder _ _ c.in-CollectIntoUnion.list.now _ _ _ is.0 unopened;
      leaves = inl (
        (refl, (ap Some c.in-Err.ensures.unopened ∙ sym c.unwrap.ensures ∙ c.take.ensures.value, is.1)),
        (subst (IsUnopened c.in-CollectIntoUnion.sequences) (sym is.0) unopened, Keeps-refl output),
      );
      kept = λ other. Keeps-refl output;
    })
