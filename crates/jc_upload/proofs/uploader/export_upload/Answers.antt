use Rattle.std.proofs.Common.{◌≡◌, ◌++◌, List, ℕ, sym, subst, rules}
use Rattle.std.specs.List.{All}
use Rattle.jc_base.specs.LogEntry.{IsEntry}
use Rattle.jc_export.specs.Cut.{joined}
use Rattle.jc_upload.specs.Front.{CutsBy}
use Rattle.jc_upload.specs.Head.{IsHead, head_text}
use Rattle.jc_upload.proofs.uploader.export_upload.Goals as goal

pub returns-clause-front : goal.returns-clause-front
returns-clause-front c = λ is.
    let text : c.into_bytes.result.items ≡ head_text c.args.head.now ++ joined c.args.entries.now = search rules in
    let lawful : IsHead c.args.head.now = search rules in
    let are : All IsEntry c.args.entries.now = search rules in
    subst (λ (upload : List ℕ). CutsBy c.args.head.now.version c.args.entries.now upload) (sym text)
    (c.fronts_of_uploads.ensures.export c.args.head.now c.args.entries.now lawful is are)
