-- What the answers to the uploads that a text names are, if all of them were printed. (own)
use Rattle.std.proofs.Common.{◌≡◌, ◌==◌, ℕ, suc, Bool, true, false, List, [], ◌∷◌, ◌++◌, Option, Some, None, length, refl, ap, subst, ⊎_elim, arith}
use Rattle.std.proofs.lemmas.List.{append-nil, length-append}
use Rattle.jc_base.specs.Journal.{Journal}
use Rattle.jc_collect.specs.Each.{Held, KeepsCollected}
use Rattle.jc_collect.specs.EachLaws.{gathers_none}
use Rattle.jc_command_shared.specs.Lines.{lines_of, with_byte}
use Rattle.jc_collector_answers.specs.Collected.{HoldsFirstOf, KeepsFirstOf, StoresFirstOf, names_in, those_named, uploads_named}
use Rattle.jc_collector_answers.specs.declared.name_lines.NameLines.{NameLines}
use Rattle.jc_upload.specs.declared.answer.Answer.{Answer}

with_one : (b : ℕ) (xs ys : List (List ℕ)) → length xs ≡ length ys → length (with_byte b xs) ≡ length (with_byte b ys)
with_one b [] [] e = refl
with_one b [] (y ∷ ys) e = absurd (omega (arith, e))
with_one b (x ∷ xs) [] e = absurd (omega (arith, e))
with_one b (x ∷ xs) (y ∷ ys) e = e

-- one name in each line
pub as_many : (text : List ℕ) → length (names_in text) ≡ length (lines_of text)
unfolding names_in lines_of
as_many [] = refl
as_many (b ∷ text) = go (b == 10) refl (as_many text)
  where
    go : (is : Bool) → b == 10 ≡ is → length (names_in text) ≡ length (lines_of text) → length (names_in (b ∷ text)) ≡ length (lines_of (b ∷ text))
    go true e rest = rw e (ap suc rest)
    go false e rest = rw e (with_one b (names_in text) (lines_of text) rest)

none_left : (known others : List (Option (List ℕ))) (n : ℕ) → length (known ++ others) ≡ n → length known ≡ n → known ++ others ≡ known
none_left known [] n all some = append-nil known
none_left known (o ∷ others) n all some = absurd (let both = length-append known (o ∷ others) in omega (arith, all, some, both))

-- ---- what is stored, and what is found after a crash

module _ (AreUploads : List (Option (List ℕ)) → Type 0) (before now : Held) (answers : List Answer) (h : HoldsFirstOf AreUploads before now answers) where
  pub stores_first : now.Sound → StoresFirstOf AreUploads before.journal answers now.journal
  stores_first sound = record {
    known = h.known;
    others = h.others;
    are = h.are;
    each = h.each;
    collected = λ limits defaults. (h.holds limits defaults).collected sound;
  }

  -- what was found was left before, or is what the answers made
  pub keeps_first : (start found : Journal) → (before.may_leave found → found ≡ start) → before.journal ≡ start → now.may_leave found
      → KeepsFirstOf AreUploads start answers found
  keeps_first start found left same may = record {
    known = h.known;
    others = h.others;
    are = h.are;
    each = h.each;
    keeps = λ limits defaults.
        ⊎_elim
        (λ was. record {
          ahead = [];
          others = h.known;
          are = refl;
          front = [];
          behind = answers;
          whole = refl;
          last = start;
          collected = refl;
          none = was.1;
          more = gathers_none limits h.known start answers found (left was.0);
        })
        (λ kept. subst (λ (j : Journal). KeepsCollected limits h.known j answers found) same kept.1)
        ((h.holds limits defaults).found found may);
  }

-- nothing was collected
pub keeps_nothing : (AreUploads : List (Option (List ℕ)) → Type 0) (uploads : List (Option (List ℕ))) → AreUploads uploads → (start found : Journal)
    → found ≡ start → KeepsFirstOf AreUploads start [] found
keeps_nothing AreUploads uploads are start found same = record {
  known = [];
  others = uploads;
  are = are;
  each = refl;
  keeps = λ limits defaults. record {
    ahead = [];
    others = [];
    are = refl;
    front = [];
    behind = [];
    whole = refl;
    last = start;
    collected = refl;
    none = tt;
    more = gathers_none limits [] start [] found same;
  };
}

pub stores_nothing : (AreUploads : List (Option (List ℕ)) → Type 0) (uploads : List (Option (List ℕ))) → AreUploads uploads → (start last : Journal)
    → last ≡ start → StoresFirstOf AreUploads start [] last
stores_nothing AreUploads uploads are start last same =
    record { known = []; others = uploads; are = are; each = refl; collected = λ limits defaults. same }

-- some uploads are those that a text names
pub some_named : (told : List ℕ → Option (List ℕ)) (lines : NameLines) (text : Option (List ℕ)) → (uploads : List (Option (List ℕ))) × those_named told lines text uploads
some_named told lines None = ([], tt)
some_named told lines (Some text) = (uploads_named told lines text, refl)
