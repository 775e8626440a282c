use Rattle.std.proofs.Common.{◌≡◌, ℕ, List, [], None, Bor, length, map, refl, ap, subst, ◌∙◌}
use Rattle.jc_base.specs.contracts.slice_stream.SliceStreamByteStream.TheImpl.{failures-value as stream_failures, remaining-value}
use Rattle.jc_file.specs.contracts.space.SliceSpaceByteSpace.TheImpl.{failures-value as space_failures}
use Rattle.jc_collect.specs.Delivered.{of_delivery}
use Rattle.jc_collect.specs.Run.{IsRun, seen}
use Rattle.jc_theorems.specs.InMemory.{no_failures}
use Rattle.jc_theorems.proofs.NoFailures.{never_failed, none_failed, same_length, run_unknown}
use Rattle.jc_theorems.proofs.collecting.collect.Goals as goal

pub returns-clause-run : goal.returns-clause-run
returns-clause-run g c =
    let uploads : List (List ℕ) = map (of_delivery {R = Bor (List ℕ)} {B = Bor (List ℕ)} {X = List ℕ} (λ b. b.now) (λ b. b.now)) c.args.uploads.now in
    let before = c.deref_mut.result.now in
    let after = c.run.new.deliveries in
    let same = ap (map _) c.deref_mut.ensures.value ∙ c.in_ok-deliveries.ensures in
    let long : length before ≡ length uploads = same_length _ _ before uploads same in
    let never = never_failed stream_failures.it space_failures.it (λ _. refl) (λ _. refl) in
    let written = g.W.ByteSink.written c.args.sink.now in
    let written_now = g.W.ByteSink.written c.run.new.sink in
    let Ran : (before now : List ℕ) → Type 0 = λ reads now.
    IsRun c.args.limits.now uploads (seen c.args.keeper.now.journal c.args.keeper.now.failures reads [] written)
    c.run.result (seen c.run.new.keeper.journal c.run.new.keeper.failures now [] written_now) in
    let reads : List ℕ = map (of_delivery stream_failures.it space_failures.it) before in
    let reads_now : List ℕ = map (of_delivery stream_failures.it space_failures.it) after in
    let ran : Ran reads reads_now =
    run_unknown c.args.limits.now uploads c.args.keeper.now.journal c.run.new.keeper.journal c.args.keeper.now.failures
    c.run.new.keeper.failures reads reads_now (map (of_delivery remaining-value.it (λ _. None)) before)
    (map (of_delivery remaining-value.it (λ _. None)) after) written written_now c.run.result
    (c.run.ensures.run tt tt uploads same) in
    subst (λ r. Ran (no_failures uploads) r) (none_failed _ never after uploads (c.run.auto.deliveries ∙ long))
    (subst (λ r. Ran r reads_now) (none_failed _ never before uploads long) ran)
