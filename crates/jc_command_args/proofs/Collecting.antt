-- What asks for no `collect`.
use Rattle.std.proofs.Common.{◌≡◌, ℕ, List, Option, None, ap, arith, codes, refl, slice_index, sym, subst}
use Rattle.clap.specs.Words.{Row, first_of}
use Rattle.jc_command_args.specs.Words.{AskBy, AsksNone, IsNumberIfGiven, command_name}
use Rattle.jc_command_args.specs.declared.request.Request.{Request}
use Rattle.jc_command_args.specs.declared.request.Request.TheVariants.{Collect, CollectListed, CollectIntoUnion, Export, Show, Check, CheckNoted, Notes, ListOwners, RenameOwner, ReleaseSequence, Migrate, Verify, Inspect, Upload, Ack, Acknowledged, ListCodes}

not_none : (given : Option (List ℕ)) → ((number : Option ℕ) → ¬ IsNumberIfGiven given number) → given ≡ None → ⊥
not_none given lacks none = lacks None (subst (λ (o : Option (List ℕ)). IsNumberIfGiven o None) (sym none) refl)

-- where a bound is given that is no number
pub none_bounded : (rows : List Row) → ((number : Option ℕ) → ¬ IsNumberIfGiven (first_of (codes "most-windows") rows) number)
    → AsksNone rows (codes "collect")
none_bounded rows lacks (Collect database tables uploads then_export) same asks = not_none (first_of (codes "most-windows") rows) lacks asks.5
none_bounded rows lacks (CollectListed database tables list then_export) same asks = not_none (first_of (codes "most-windows") rows) lacks asks.5
none_bounded rows lacks (CollectIntoUnion database tables list sequences most_windows then_export) same asks = lacks most_windows asks.5
none_bounded rows lacks (Export database) same asks =
    let at : 101 ≡ 99 = ap (λ (t : List ℕ). slice_index t 0) same in absurd (omega (arith, at))
none_bounded rows lacks (Show database field id first last) same asks =
    let at : 115 ≡ 99 = ap (λ (t : List ℕ). slice_index t 0) same in absurd (omega (arith, at))
none_bounded rows lacks (Check database) same asks =
    let at : 104 ≡ 111 = ap (λ (t : List ℕ). slice_index t 1) same in absurd (omega (arith, at))
none_bounded rows lacks (CheckNoted database sequences) same asks =
    let at : 104 ≡ 111 = ap (λ (t : List ℕ). slice_index t 1) same in absurd (omega (arith, at))
none_bounded rows lacks (Notes sequences task) same asks =
    let at : 110 ≡ 99 = ap (λ (t : List ℕ). slice_index t 0) same in absurd (omega (arith, at))
none_bounded rows lacks (ListOwners sequences) same asks =
    let at : 111 ≡ 99 = ap (λ (t : List ℕ). slice_index t 0) same in absurd (omega (arith, at))
none_bounded rows lacks (RenameOwner sequences old new) same asks =
    let at : 111 ≡ 99 = ap (λ (t : List ℕ). slice_index t 0) same in absurd (omega (arith, at))
none_bounded rows lacks (ReleaseSequence sequences sequence) same asks =
    let at : 111 ≡ 99 = ap (λ (t : List ℕ). slice_index t 0) same in absurd (omega (arith, at))
none_bounded rows lacks (Migrate database tables) same asks =
    let at : 109 ≡ 99 = ap (λ (t : List ℕ). slice_index t 0) same in absurd (omega (arith, at))
none_bounded rows lacks (Verify kind file) same asks =
    let at : 118 ≡ 99 = ap (λ (t : List ℕ). slice_index t 0) same in absurd (omega (arith, at))
none_bounded rows lacks (Inspect file most_entries most_fields most_bytes most_windows) same asks =
    let at : 105 ≡ 99 = ap (λ (t : List ℕ). slice_index t 0) same in absurd (omega (arith, at))
none_bounded rows lacks (Upload source limit most_bytes whole) same asks =
    let at : 117 ≡ 99 = ap (λ (t : List ℕ). slice_index t 0) same in absurd (omega (arith, at))
none_bounded rows lacks (Ack source) same asks =
    let at : 97 ≡ 99 = ap (λ (t : List ℕ). slice_index t 0) same in absurd (omega (arith, at))
none_bounded rows lacks (Acknowledged upload) same asks =
    let at : 97 ≡ 99 = ap (λ (t : List ℕ). slice_index t 0) same in absurd (omega (arith, at))
none_bounded rows lacks ListCodes same asks =
    let at : 100 ≡ 108 = ap (λ (t : List ℕ). slice_index t 2) same in absurd (omega (arith, at))
