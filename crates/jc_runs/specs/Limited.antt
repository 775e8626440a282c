-- That what is stored of uploads is within the limits. (own)
use Rattle.std.specs.Prelude.{ℕ, ⊤, List, [], ◌∷◌, Option, Some, None}
use Rattle.std.specs.FinMap.{empty}
use Rattle.std.specs.List.{All}
use Rattle.jc_base.specs.declared.limits.Limits.{Limits}
use Rattle.jc_base.specs.Journal.{Journal}
use Rattle.jc_base.specs.Limit.{AreKept}
use Rattle.jc_collect.specs.Each.{CollectsEach}
use Rattle.jc_keeper.specs.Listing.{entries_of}
use Rattle.jc_upload.specs.declared.answer.Answer.{Answer}
use Rattle.jc_upload.specs.declared.answer.Answer.TheVariants.{Ack, No}

-- Its entries keep the limits, as they have to for what is exported to be read back.
abbrev pub KeepsLimits : Limits → Journal → Type 0
KeepsLimits limits m = All (λ e. AreKept limits e.body.pairs) (entries_of m)

-- The bytes of each upload that is acknowledged are known.
abbrev pub AreKnown : List (Option (List ℕ)) → List Answer → Type 0
AreKnown [] answers = ⊤
AreKnown (upload ∷ uploads) [] = ⊤
AreKnown (Some upload ∷ uploads) (answer ∷ answers) = AreKnown uploads answers
AreKnown (None ∷ uploads) (Ack source start count new left ∷ answers) = ⊥
AreKnown (None ∷ uploads) (No of code place ∷ answers) = AreKnown uploads answers

-- What such uploads make of a journal within the limits is within them. At first there is nothing.
pub record CollectsWithin (limits : Limits) : Type 0 where
  pub first : KeepsLimits limits empty
  pub then : (uploads : List (Option (List ℕ))) (start last : Journal) (answers : List Answer)
      → CollectsEach limits uploads start answers last → AreKnown uploads answers → KeepsLimits limits start → KeepsLimits limits last
