-- What is told of another machine's sequence, where less is known, and later.
use Rattle.std.proofs.Common.{ℕ, List, Option, None}
use Rattle.jc_base.specs.declared.id.Id128.{Id128}
use Rattle.jc_base.specs.declared.limits.Limits.{Limits}
use Rattle.jc_upload.specs.declared.answer.Answer.{Answer}
use Rattle.jc_upload.specs.declared.answer.Answer.TheVariants.{Ack, No}
use Rattle.jc_collect.specs.Foreign.{NamesForeign}

-- whose bytes aren't known
pub foreign_untold : (limits : Limits) (known : Option (List ℕ)) (Foreign : Id128 → Type 0) (answer : Answer) → NamesForeign limits known Foreign answer
    → NamesForeign limits None Foreign answer
foreign_untold limits known Foreign (Ack source start count new left) names = tt
foreign_untold limits known Foreign (No of code place) names = λ is. let it = names is in (it.0, tt, it.2)

-- what was another machine's is
pub foreign_later : (limits : Limits) (known : Option (List ℕ)) (Foreign Now : Id128 → Type 0) → ((s : Id128) → Foreign s → Now s) → (answer : Answer)
    → NamesForeign limits known Foreign answer → NamesForeign limits known Now answer
foreign_later limits known Foreign Now stays (Ack source start count new left) names = tt
foreign_later limits known Foreign Now stays (No of code place) names = λ is.
    let it = names is in
    (it.0, it.1, (it.2.0, (it.2.1.0, stays it.2.0.key.seqnum_id it.2.1.1)))
