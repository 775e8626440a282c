-- A resume point that is kept is printed, or that fails.
use Rattle.std.proofs.Common.{◌≡◌, ◌⊎◌, ◌∷◌, ◌++◌, [], ℕ, List, Option, Result, Ok, Err, inr}
use Rattle.std.specs.Prelude.{IfErr, OnOk}
use Rattle.std.specs.Io.KnownBytes.{Appends}
use Rattle.jc_command_shared.specs.Deeds.{Deed, LeavesOld}
use Rattle.jc_command_shared.specs.declared.failure.Failure.{Failure}
use Rattle.jc_command_shared.specs.declared.failure.Failure.TheVariants.{WriteFailed}
use Rattle.jc_command_args.specs.declared.request.Source.{Source}
use Rattle.jc_sender.specs.Taken.{KeepsSomePoint, PrintsSomePoint, point_line}

module _
    (told : List ℕ → Option (List ℕ)) (source : Source) (given : Option (List ℕ)) (deeds deeds' : Option (List Deed))
    (keeps : KeepsSomePoint told source given deeds deeds')
  where
    pub kept_printed : {T : Type 0} (r : Result T Failure) (old new : Option (List ℕ)) → OnOk r (Appends old new (point_line keeps.moved ++ 10 ∷ []))
        → OnOk r (PrintsSomePoint told source given old new deeds deeds')
    kept_printed (Ok x) old new printed = record { keeps = keeps; printed = printed }
    kept_printed (Err e) old new printed = tt

    pub kept_unprinted : {T : Type 0} (r : Result T Failure) → IfErr r (λ failure. failure ≡ WriteFailed)
        → IfErr r (λ failure. LeavesOld source.resume.now deeds deeds' ⊎ ((failure ≡ WriteFailed) × KeepsSomePoint told source given deeds deeds'))
    kept_unprinted (Ok x) is = tt
    kept_unprinted (Err failure) is = inr (is, keeps)
