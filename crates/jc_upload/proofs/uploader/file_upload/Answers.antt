use Rattle.std.proofs.Common.{◌≡◌, refl, sym, subst, rules}
use Rattle.jc_upload.specs.Front.{CutsOfFile}
use Rattle.jc_upload.specs.Upload.{file_head, file_upload_of}
use Rattle.jc_upload.proofs.uploader.file_upload.Goals as goal

pub returns-clause-front : goal.returns-clause-front
returns-clause-front c =
    let text : c.extend_from_slice.new.self.items ≡ file_upload_of c.args.source c.args.file.now = search rules in
    subst (CutsOfFile c.args.file.now) (sym text)
    (c.fronts_of_uploads.ensures.file (file_head c.args.source) c.args.file.now c.write.ensures.lawful tt refl)

pub returns-clause-upload : goal.returns-clause-upload
returns-clause-upload c = search rules
