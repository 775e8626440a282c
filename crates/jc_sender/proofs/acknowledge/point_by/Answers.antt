-- The stream's bytes are those of the reader, or a journal file's front.
use Rattle.std.proofs.Common.{◌≡◌, ◌+◌, List, Option, ℕ, sym, subst, take}
use Rattle.std.specs.Prelude.{IfErr, IfOk, IfSome}
use Rattle.jc_command_args.specs.declared.request.InputKind.TheVariants.{Export, File}
use Rattle.jc_sender.specs.Source.{OfBytes, WhyNoSomeEntries, most_file_bytes, read_of}
use Rattle.jc_sender.specs.Taken.{MovesSender}
use Rattle.jc_sender.proofs.Told.{front_fails}
use Rattle.jc_sender.proofs.acknowledge.point_by.Goals as goal

pub returns-in-Export-clause-moved : goal.returns-in-Export-clause-moved
returns-in-Export-clause-moved g c =
    rw c.in-Export.is
    (subst (λ (known : Option (List ℕ)). IfOk c.export_point.result (λ moved. OfBytes known (λ bytes. MovesSender Export c.args.uploader bytes c.args.answers.now moved)))
    c.new.ensures.bytes c.export_point.ensures.moved)

pub returns-in-Export-clause-failed : goal.returns-in-Export-clause-failed
returns-in-Export-clause-failed g c =
    rw c.in-Export.is
    (subst (λ (known : Option (List ℕ)). IfErr c.export_point.result (WhyNoSomeEntries Export known)) c.new.ensures.bytes c.export_point.ensures.failed)

pub returns-in_ok-bytes-in-File-clause-failed : goal.returns-in_ok-bytes-in-File-clause-failed
returns-in_ok-bytes-in-File-clause-failed g c =
    rw c.in-File.is
    (front_fails c.file_point.result (WhyNoSomeEntries File (read_of File (g.F.Read.remaining c.args.file))) (g.F.Read.remaining c.args.file) c.deref.result.now
    (subst (λ (b : List ℕ). IfSome (g.F.Read.remaining c.args.file) (λ all. b ≡ take (most_file_bytes + 1) all)) (sym c.deref.ensures.value) c.in_ok-bytes-in-File.ensures.front)
    (λ fault has. has) tt c.file_point.ensures.failed)
