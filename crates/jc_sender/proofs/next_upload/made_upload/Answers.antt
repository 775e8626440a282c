-- The stream's bytes are those of the reader, or a journal file's front.
use Rattle.std.proofs.Common.{◌≡◌, ◌+◌, List, Option, ℕ, sym, subst, take}
use Rattle.std.specs.Prelude.{IfErr, IfOk, IfSome}
use Rattle.jc_command_args.specs.declared.request.InputKind.TheVariants.{Export, File}
use Rattle.jc_sender.specs.Sent.{MakesUpload, WhyNoUpload}
use Rattle.jc_sender.specs.Source.{OfBytes, most_file_bytes, read_of}
use Rattle.jc_sender.proofs.Told.{front_fails}
use Rattle.jc_sender.proofs.next_upload.made_upload.Goals as goal

pub returns-in-Export-clause-made : goal.returns-in-Export-clause-made
returns-in-Export-clause-made g c =
    rw c.in-Export.is
    (subst (λ (known : Option (List ℕ)). IfOk c.export_upload.result
    (λ upload. OfBytes known (λ bytes. MakesUpload Export c.args.uploader.now c.args.limit c.args.most_bytes c.args.whole bytes upload.items)))
    c.new.ensures.bytes c.export_upload.ensures.made)

pub returns-in-Export-clause-failed : goal.returns-in-Export-clause-failed
returns-in-Export-clause-failed g c =
    rw c.in-Export.is
    (subst (λ (known : Option (List ℕ)). IfErr c.export_upload.result (WhyNoUpload Export c.args.uploader.now known)) c.new.ensures.bytes c.export_upload.ensures.failed)

pub returns-in_ok-bytes-in-File-clause-failed : goal.returns-in_ok-bytes-in-File-clause-failed
returns-in_ok-bytes-in-File-clause-failed g c =
    rw c.in-File.is
    (front_fails c.journal_upload.result (WhyNoUpload File c.args.uploader.now (read_of File (g.F.Read.remaining c.args.file))) (g.F.Read.remaining c.args.file) c.deref.result.now
    (subst (λ (b : List ℕ). IfSome (g.F.Read.remaining c.args.file) (λ all. b ≡ take (most_file_bytes + 1) all)) (sym c.deref.ensures.value) c.in_ok-bytes-in-File.ensures.front)
    (λ fault has. has) tt c.journal_upload.ensures.failed)
