use Rattle.std.proofs.Common.{◌≡◌, ℕ, List, Option, Some, Bor, map, take}
use Rattle.jc_base.specs.contracts.slice_stream.SliceStreamByteStream.TheImpl.{remaining-value}
use Rattle.jc_file.specs.contracts.space.SliceSpaceByteSpace.TheImpl.{bytes-value}
use Rattle.jc_collect.specs.Delivered.{of_delivery}
use Rattle.jc_theorems.proofs.collecting.deliveries.Given as goal

-- a delivery for each upload so far, with its bytes
abbrev pub invariant-loop-upload : goal.invariant-loop-upload
invariant-loop-upload l =
    let bytes : List (List ℕ) = map (of_delivery {R = Bor (List ℕ)} {B = Bor (List ℕ)} {X = List ℕ} (λ b. b.now) (λ b. b.now)) (take l.upload-index l.uploads) in
    map (of_delivery remaining-value.it bytes-value.it) l.deliveries.items ≡ map {A = List ℕ} {B = Option (List ℕ)} (λ u. Some u) bytes
