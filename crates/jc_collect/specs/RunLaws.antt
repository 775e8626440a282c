-- Whose sequences are, in answers one after the other.
use Rattle.std.proofs.Common.{◌≡◌, zero, suc, List, [], ◌∷◌, ◌++◌, sym, subst}
use Rattle.jc_base.specs.declared.fault.Code.TheVariants.{NotTheOwner}
use Rattle.jc_upload.specs.declared.answer.Answer.{Answer}
use Rattle.jc_collect.specs.Position.{HasCode}
use Rattle.jc_collect.specs.Run.{OnlyIfOwned}

module _ (Owners : Type 0) where
  pub owned_none : OnlyIfOwned Owners []
  owned_none i answer at code = cc

  pub owned_one : (answer : Answer) → (HasCode answer NotTheOwner → Owners) → OnlyIfOwned Owners (answer ∷ [])
  owned_one answer if_owned zero other at code =
      let same : answer ≡ other = cc in if_owned (subst (λ (a : Answer). HasCode a NotTheOwner) (sym same) code)
  owned_one answer if_owned (suc i) other at code = cc

  pub owned_then : (one others : List Answer) → OnlyIfOwned Owners one → OnlyIfOwned Owners others → OnlyIfOwned Owners (one ++ others)
  owned_then [] others first then i answer at code = then i answer at code
  owned_then (answer ∷ one) others first then zero other at code = first zero other at code
  owned_then (answer ∷ one) others first then (suc i) other at code =
      owned_then one others (λ k a is has. first (suc k) a is has) then i other at code
