-- What is made of an excerpt is the upload of the entries that it is of.
use Rattle.std.proofs.Common.{rules}
use Rattle.jc_upload.proofs.Excerpts.{next_upload}
use Rattle.jc_upload.proofs.uploader.Uploader.next_upload_of.Goals as goal

pub returns-clause-upload : goal.returns-clause-upload
returns-clause-upload c = λ entries limit is.
    let carried = c.args.excerpt.now.carried.items in
    next_upload c.args.self.now entries limit c.args.whole c.args.excerpt.now c.head_by-head.result c.in_ok-upload.upload.items is
    (search rules) (search rules) c.in_ok-upload.ensures.lawful (search rules) (search rules)
