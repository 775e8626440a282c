-- What the new file was given is all that it has, and it was made beside the old one.
use Rattle.std.proofs.Common.{◌∙◌}
use Rattle.jc_command_shared.specs.DeedLaws.{leaves_old, replaces_whole}
use Rattle.jc_sender.proofs.resume_file.write_resume.Goals as goal

pub returns-clause-whole : goal.returns-clause-whole
returns-clause-whole g c =
    replaces_whole _ _ _ c.args.path.now c.as_str.result.now c.as_str-2.result.now
    (c.as_str.ensures.value ∙ c.in_ok-beside.ensures.name)
    (c.as_str-2.ensures.value ∙ c.in_ok-beside.ensures.name)
    c.in_ok-file.ensures.made
    _ _ _ c.put_in_place.result c.put_point-written.result
    c.in_ok-file.ensures.empty c.put_point-written.ensures.whole c.put_in_place.ensures.whole c.put_in_place.ensures.placed

pub returns-clause-stays : goal.returns-clause-stays
returns-clause-stays g c =
    leaves_old _ _ _ c.args.path.now c.as_str.result.now c.as_str-2.result.now
    (c.as_str.ensures.value ∙ c.in_ok-beside.ensures.name)
    (c.as_str-2.ensures.value ∙ c.in_ok-beside.ensures.name)
    c.in_ok-file.ensures.made
    c.put_in_place.result c.put_in_place.ensures.stays
