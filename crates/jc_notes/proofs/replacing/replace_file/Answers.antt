use Rattle.std.proofs.Common.{◌∙◌}
use Rattle.jc_command_shared.specs.DeedLaws.{leaves_old, replaces, replaces_whole}
use Rattle.jc_notes.proofs.replacing.replace_file.Goals as goal

pub returns-clause-touched : goal.returns-clause-touched
returns-clause-touched g c =
    replaces
    c.args.path.now
    c.as_str.result.now
    c.as_str-2.result.now
    (c.as_str.ensures.value ∙ c.in_ok-beside.ensures.name)
    (c.as_str-2.ensures.value ∙ c.in_ok-beside.ensures.name)
    c.in_ok-file.ensures.made
    c.put_in_place.ensures.touched

-- What the new file was given is all that it has.
pub returns-clause-replaced : goal.returns-clause-replaced
returns-clause-replaced g c =
    replaces_whole _ _ _ c.args.path.now c.as_str.result.now c.as_str-2.result.now
    (c.as_str.ensures.value ∙ c.in_ok-beside.ensures.name)
    (c.as_str-2.ensures.value ∙ c.in_ok-beside.ensures.name)
    c.in_ok-file.ensures.made
    _ _ _ c.put_in_place.result c.put_notes-written.result
    c.in_ok-file.ensures.empty c.put_notes-written.ensures.whole c.put_in_place.ensures.whole c.put_in_place.ensures.placed

pub returns-clause-stays : goal.returns-clause-stays
returns-clause-stays g c =
    leaves_old _ _ _ c.args.path.now c.as_str.result.now c.as_str-2.result.now
    (c.as_str.ensures.value ∙ c.in_ok-beside.ensures.name)
    (c.as_str-2.ensures.value ∙ c.in_ok-beside.ensures.name)
    c.in_ok-file.ensures.made
    c.put_in_place.result c.put_in_place.ensures.stays
