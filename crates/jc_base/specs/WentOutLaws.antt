-- What has gone out of a text, piece by piece.
use Rattle.std.proofs.Common.{ℕ, ◌+◌, ◌≤◌, List, Option, length, take, drop, sym, subst, arith}
use Rattle.std.specs.Io.KnownBytes.{Appends}
use Rattle.std.proofs.KnownBytes.{Appends-trans}
use Rattle.std.proofs.lemmas.List.{length-drop}
use Rattle.std.proofs.Math.Seq.{take-add}
use Rattle.jc_base.specs.Device.{WentOut}

pub went_out_more : (a b c : Option (List ℕ)) (text : List ℕ) (at count : ℕ) → WentOut a b text at → count ≤ length (drop at text) → Appends b c (take count (drop at text)) → WentOut a c text (at + count)
went_out_more a b c text at count out within more = record {
  within = omega (arith, out.within, length-drop at text, within);
  front = subst (Appends a c) (sym (take-add at count text)) (Appends-trans a b c (take at text) (take count (drop at text)) out.front more);
}
