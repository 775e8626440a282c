use Rattle.std.proofs.Common.{◌<◌, ◌∙◌, Bor, ℕ, List, length, map, arith, rules}
use Rattle.std.proofs.lemmas.List.{length-map, take_all}
use Rattle.jc_collect.specs.Delivered.{of_delivery}
use Rattle.jc_collector_answers.proofs.Naming.{known_more}
use Rattle.jc_collector_answers.proofs.uploads.open_uploads.Goals as goal

pub loop-path-preserved : goal.loop-path-preserved
loop-path-preserved g c =
    let told = λ (path : Bor (List ℕ)). g.R.System.told path.now in
    let is = c.in_ok-open_upload.ensures.known in
    let upload = c.in_ok-open_upload.field-0 in
    let within : c.loop-path.path-index < length c.args.paths.now = c.loop-path-test.true in
    record {
      each = search rules;
      known = rw c.in_ok-push.ensures.items
          (known_more (of_delivery (λ s. g.R.File.Read.remaining s.reader) (λ s. g.R.File.ReadFile.bytes s.inner.file)) told upload
          c.loop-path.uploads.items c.args.paths.now c.loop-path.path-index _ within c.loop-path.invariant.known is);
    }

pub returns-clause-known : goal.returns-clause-known
returns-clause-known g c =
    c.loop-path.invariant.known
    ∙ take_all c.loop-path.path-index (map (λ path. g.R.System.told path.now) c.args.paths.now)
    (let all = c.loop-path-test.false in let size = length-map c.args.paths.now (λ path. g.R.System.told path.now) in omega (arith, all, size))
