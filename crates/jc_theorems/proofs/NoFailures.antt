-- Devices that never fail.
use Rattle.std.proofs.Common.{◌≡◌, ℕ, List, [], ◌∷◌, Option, length, map, lit<, refl, sym, ap, arith, ◌∙◌}
use Rattle.std.proofs.lemmas.List.{length-map}
use Rattle.jc_collect.specs.declared.delivery.Delivery.{Delivery}
use Rattle.jc_collect.specs.declared.delivery.Delivery.TheVariants.{Stream, Space}
use Rattle.jc_collect.specs.Delivered.{of_delivery}
use Rattle.jc_collect.specs.declared.runs.RunEnd.{RunEnd}
use Rattle.jc_collect.specs.declared.runs.RunEnd.TheVariants.{Done, Stopped}
use Rattle.jc_collect.specs.Run.{Collected, IsRun, seen}
use Rattle.jc_base.specs.declared.limits.Limits.{Limits}
use Rattle.jc_base.specs.Journal.{Journal}
use Rattle.jc_upload.specs.declared.answer.Answer.{Answer}

pub same_length : {X Y Z : Type 0} (f : X → Z) (g : Y → Z) (xs : List X) (ys : List Y) → map f xs ≡ map g ys → length xs ≡ length ys
same_length f g xs ys e = sym (length-map xs f) ∙ (ap (λ zs. length zs) e ∙ length-map ys g)

-- their counts are all 0
pub none_failed : {X Y : Type 0} (failures : X → ℕ) → ((x : X) → failures x ≡ 0) → (xs : List X) (ys : List Y) → length xs ≡ length ys → map failures xs ≡ map (λ _. 0) ys
none_failed failures none [] [] e = refl
none_failed failures none [] (y ∷ ys) e = cc
none_failed failures none (x ∷ xs) [] e = cc
none_failed failures none (x ∷ xs) (y ∷ ys) e =
    ap (λ n. n ∷ map failures xs) (none x) ∙ ap (λ ns. 0 ∷ ns) (none_failed failures none xs ys (omega (arith, e)))

pub never_failed : {R B : Type 0} (stream : R → ℕ) (space : B → ℕ) → ((r : R) → stream r ≡ 0) → ((b : B) → space b ≡ 0) → (d : Delivery R B) → of_delivery stream space d ≡ 0
never_failed stream space streams spaces (Stream device) = streams device
never_failed stream space streams spaces (Space device) = spaces device

-- A run of which it is known what the devices have left is one of which it isn't known.
module _ (limits : Limits) (uploads : List (List ℕ)) (journal after : Journal) (stores stores_after : ℕ) (reads reads_after : List ℕ)
    (left left_after : List (Option (List ℕ))) (written written_after : Option (List ℕ)) where
  unknown : (uploads : List (List ℕ)) (answers : List Answer)
      → Collected limits uploads (seen journal stores reads left written) (seen after stores_after reads_after left_after written_after) answers
      → Collected limits uploads (seen journal stores reads [] written) (seen after stores_after reads_after [] written_after) answers
  unknown uploads answers h = record {
    each = h.each;
    accepted = h.accepted;
    are_accepted = h.are_accepted;
    answered = h.answered;
    stored = h.stored;
    acknowledged = h.acknowledged;
    kept = h.kept;
    reads = h.reads;
    stores = h.stores;
    unread = λ i answer at fails. record { came = []; front = tt; few = lit< tt };
  }

  pub run_unknown : (end : RunEnd)
      → IsRun limits uploads (seen journal stores reads left written) end (seen after stores_after reads_after left_after written_after)
      → IsRun limits uploads (seen journal stores reads [] written) end (seen after stores_after reads_after [] written_after)
  run_unknown Done h = record { answers = h.answers; collected = unknown uploads h.answers h.collected; lines = h.lines }
  run_unknown (Stopped done count) h = record {
    answers = h.answers;
    last = h.last;
    number = h.number;
    inside = h.inside;
    collected = unknown _ _ h.collected;
    within = h.within;
    lines = h.lines;
  }
