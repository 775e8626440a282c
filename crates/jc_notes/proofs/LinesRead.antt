-- Lines that are read in turn, until none is left.
use Rattle.std.proofs.Common.{◌≡◌, ◌∙◌, ◌+◌, ℕ, List, [], ◌∷◌, ◌++◌, Option, Some, None, length, map, refl, sym, ap, arith}
use Rattle.std.proofs.lemmas.List.{append-nil, append_assoc, map-append}
use Rattle.jc_command_shared.specs.Lines.{lines_of}
use Rattle.jc_notes.specs.Lines.{AreLines, IsFirstBad}

-- These were read, and the lines of the rest are left.
pub record AreReadSoFar {A : Type 0} (read : List ℕ → Option A) (text rest : List ℕ) (items : List A) : Type 0 where
  pub lines : map read (lines_of text) ≡ map Some items ++ map read (lines_of rest)

module _ {A : Type 0} (read : List ℕ → Option A) (text : List ℕ) where
  pub none_read : AreReadSoFar read text text []
  none_read = record { lines = refl }

  module _ (rest line behind : List ℕ) (items : List A) (so_far : AreReadSoFar read text rest items)
      (first : lines_of rest ≡ line ∷ lines_of behind) where
    pub up_to : (item : Option A) → read line ≡ item → map read (lines_of text) ≡ map Some items ++ (item ∷ map read (lines_of behind))
    up_to item is =
        so_far.lines
        ∙ ap (λ (lines : List (List ℕ)). map Some items ++ map read lines) first
        ∙ ap (λ (o : Option A). map Some items ++ (o ∷ map read (lines_of behind))) is

    pub one_read : (item : A) → read line ≡ Some item → AreReadSoFar read text behind (items ++ item ∷ [])
    one_read item is = record {
      lines =
          up_to (Some item) is
          ∙ sym (append_assoc (map Some items) (Some item ∷ []) (map read (lines_of behind)))
          ∙ ap (λ (gone : List (Option A)). gone ++ map read (lines_of behind)) (sym (map-append Some items (item ∷ [])));
    }

    pub one_bad : (number : ℕ) → read line ≡ None → number ≡ length items + 1 → IsFirstBad read text number
    one_bad number is at = record { items = items; behind = map read (lines_of behind); lines = up_to None is; is = at }

pub all_read : {A : Type 0} (read : List ℕ → Option A) (text rest : List ℕ) (items : List A) → length rest ≡ 0
    → AreReadSoFar read text rest items → AreLines read items text
unfolding lines_of
all_read read text [] items none so_far = so_far.lines ∙ append-nil (map Some items)
all_read read text (b ∷ rest) items none so_far = absurd (omega (arith, none))
