-- What an upload says keeps its bounds, or is refused.
use Rattle.std.proofs.Common.{◌≡◌, ℕ, List, Option, Some, refl, subst, inr}
use Rattle.std.specs.Prelude.{IfOk, MatchOption, Result, Ok, Err}
use Rattle.jc_base.specs.declared.fault.Fault.{Fault}
use Rattle.jc_base.specs.declared.limits.Limits.{Limits}
use Rattle.jc_upload.specs.declared.answer.Answer.{Answer}
use Rattle.jc_collect.specs.Begun.{BeginsUpload}
use Rattle.jc_collect.specs.Inspected.{IsInspected, inspected_unread}
use Rattle.jc_collect.specs.Wide.{KeepsBounds, RefusesOver}
use Rattle.jc_collect.specs.declared.bounds.Bounds.{Bounds}
use Rattle.jc_collect.specs.declared.head.Unread.TheVariants.{Fault as Unreadable}
use Rattle.jc_collect.specs.declared.inspect.Inspected.{Inspected}
use Rattle.jc_collect.specs.declared.inspect.Inspected.TheVariants.{Bad, Over, Upload}
use Rattle.jc_collect.proofs.Inspecting.{unread_says}

-- without a fault, or with one
pub keeps : (limits : Limits) (bounds : Bounds) (upload : List ℕ) (inspected : Inspected) → ((place : ℕ) → inspected ≡ Over place → ⊥)
    → IsInspected limits bounds upload inspected → KeepsBounds limits bounds upload
keeps limits bounds upload (Upload source start count left last windows) other is =
    record { reading = is.reading; says = inr (is.head, is.says); within = is.within }
keeps limits bounds upload (Bad fault) other is = record { reading = is.reading; says = is.says; within = is.within }
keeps limits bounds upload (Over place) other is = absurd (other place refl)

-- ... of the header
pub unread_keeps : (limits : Limits) (bounds : Bounds) (upload : List ℕ) (before behind : Option (List ℕ)) (fault : Fault) → before ≡ Some upload
    → BeginsUpload before behind (Err (Unreadable fault)) → KeepsBounds limits bounds upload
unread_keeps limits bounds upload before behind fault known begins =
    keeps limits bounds upload (Bad fault) (λ place same. cc)
    (unread_says limits bounds upload before behind (Unreadable fault) (inspected_unread (Unreadable fault)) known begins refl)

-- what was inspected of an upload with known bytes
pub refused_by : {E : Type 0} (limits : Limits) (bounds : Bounds) (upload : List ℕ) (r : Result Inspected E) (inspected : Inspected) (found : Option Answer)
    → r ≡ Ok inspected → IfOk r (IsInspected limits bounds upload)
    → (IsInspected limits bounds upload inspected → MatchOption found (KeepsBounds limits bounds upload) (RefusesOver limits bounds upload))
    → MatchOption found (KeepsBounds limits bounds upload) (RefusesOver limits bounds upload)
refused_by limits bounds upload r inspected found is inspects refuses =
    refuses (subst (λ (x : Result Inspected _). IfOk x (IsInspected limits bounds upload)) is inspects)
