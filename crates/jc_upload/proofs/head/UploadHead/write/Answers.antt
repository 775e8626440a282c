use Rattle.std.proofs.Common.{ap, length, rules, subst, ◌∙◌}
use Rattle.jc_base.specs.Number.{IsId}
use Rattle.jc_upload.proofs.HeadLemmas.{number_room, written_head}
use Rattle.jc_upload.proofs.head.UploadHead.write.Goals as goal

pub returns-clause-text : goal.returns-clause-text
returns-clause-text c =
    written_head c.args.self.now _ _ _ _ _ _ _ (c.copy_from_slice.ensures.after ∙ c.magic.ensures) c.byte.ensures c.flag.ensures
    (c.copy_from_slice-2.ensures.after ∙ c.as_bytes.ensures.value) c.put_number.ensures c.entries-entries.ensures c.put_number-2.ensures
    (search rules)

pub returns-clause-lawful : goal.returns-clause-lawful
returns-clause-lawful c = record {
  source = subst IsId c.as_bytes.ensures.value c.as_bytes.ensures.lawful;
  start = c.has_64_bits.ensures;
  number = search rules;
}

pub slice_bounds-bytes-end-4 : goal.slice_bounds-bytes-end-4
slice_bounds-bytes-end-4 c =
    number_room c.copy_from_slice.new.self c.byte.result c.flag.result c.copy_from_slice-2.new.self c.put_number.new.part
    (search rules) (search rules) (ap length c.put_number.ensures)
