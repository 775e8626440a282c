-- Laws of what becomes of the file that is to have a journal's export.
use Rattle.std.proofs.Common.{ℕ, List, Option, None, Some, refl, inl}
use Rattle.jc_command_shared.specs.Deeds.{Deed, OpensOnce}
use Rattle.jc_command_shared.specs.DeedLaws.{nothing_changes}
use Rattle.jc_collector.specs.Exported.{MayReplaceIf, OpensAndMayReplace}

-- nothing was done
pub may_stay : (at : Option (List ℕ)) (old : Option (List Deed)) → MayReplaceIf at old old
may_stay None old = refl
may_stay (Some at) old = inl (nothing_changes old)

module _ {database : List ℕ} {at : Option (List ℕ)} where
  -- an open alone, or none
  pub opens_alone : {old new : Option (List Deed)} → OpensOnce database old new → OpensAndMayReplace database at old new
  opens_alone {new = new} opened = record { between = new; opened = opened; replaced = may_stay at new }

  pub does_nothing : (old : Option (List Deed)) → OpensAndMayReplace database at old old
  does_nothing old = opens_alone (inl refl)

  pub opens_then : {old between new : Option (List Deed)} → OpensOnce database old between → MayReplaceIf at between new
      → OpensAndMayReplace database at old new
  opens_then {between = between} opened replaced = record { between = between; opened = opened; replaced = replaced }
