use Rattle.std.proofs.Common.{◌∙◌}
use Rattle.jc_command_shared.specs.DeedLaws.{leaves_old, replaces_whole}
use Rattle.jc_collector.proofs.Exported.{may_replace}
use Rattle.jc_collector.proofs.then_export.export_file.Goals as goal

pub returns-clause-touched : goal.returns-clause-touched
returns-clause-touched g c =
    may_replace _ _ _ c.args.path.now c.as_str.result.now c.as_str-2.result.now
    (c.as_str.ensures.value ∙ c.in_ok-beside.ensures.name)
    (c.as_str-2.ensures.value ∙ c.in_ok-beside.ensures.name)
    c.in_ok-file.ensures.made
    c.put_in_place.result _ c.put_in_place.ensures.placed c.put_in_place.ensures.stays

pub returns-clause-exported : goal.returns-clause-exported
returns-clause-exported g c = λ sound made.
    replaces_whole _ _ _ c.args.path.now c.as_str.result.now c.as_str-2.result.now
    (c.as_str.ensures.value ∙ c.in_ok-beside.ensures.name)
    (c.as_str-2.ensures.value ∙ c.in_ok-beside.ensures.name)
    c.in_ok-file.ensures.made
    _ _ _ c.put_in_place.result c.export_journal-listed.result
    c.in_ok-file.ensures.empty (c.export_journal-listed.ensures.printed sound made) c.put_in_place.ensures.whole c.put_in_place.ensures.placed

pub returns-clause-stays : goal.returns-clause-stays
returns-clause-stays g c =
    leaves_old _ _ _ c.args.path.now c.as_str.result.now c.as_str-2.result.now
    (c.as_str.ensures.value ∙ c.in_ok-beside.ensures.name)
    (c.as_str-2.ensures.value ∙ c.in_ok-beside.ensures.name)
    c.in_ok-file.ensures.made
    c.put_in_place.result c.put_in_place.ensures.stays
