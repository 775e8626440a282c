-- Answers that are added, and the causes of failures among them.
use Rattle.std.proofs.Common.{◌≡◌, ◌∙◌, ◌<◌, ◌≤◌, ◌⊎◌, ℕ, Bool, List, ◌++◌, Result, Ok, Err, OnErr, ap, append_assoc, ⊎_elim, arith}
use Rattle.std.proofs.lemmas.Bool.{cases_lt}
use Rattle.std.proofs.lemmas.List.Elements.{All-append, All-weaker}
use Rattle.jc_base.specs.Device.{Rose, most_failures}
use Rattle.jc_base.specs.declared.fault.Code.TheVariants.{ReadFailed, StoreFailed}
use Rattle.jc_upload.specs.declared.answer.Answer.{Answer}
use Rattle.jc_collect.specs.Position.{HasCode}
use Rattle.jc_world.specs.State.{State}
use Rattle.jc_world.specs.Stepped.{AddsAnswers, Steps}

-- ---- counts of failures

rose_later : (a b c : ℕ) → Rose a b → b ≤ c → Rose a c
rose_later a b c h more = record { never_falls = omega (arith, h.never_falls, more); rises = λ small. later (h.rises small) }
  where
    later : a < b → a < c
    later below = omega (arith, below, more)

rose_earlier : (a b c : ℕ) → a ≤ b → Rose b c → Rose a c
rose_earlier a b c less h = record { never_falls = omega (arith, h.never_falls, less); rises = λ small. by_place (cases_lt b most_failures) small }
  where
    by_place : (b < most_failures) ⊎ (most_failures ≤ b) → a < most_failures → a < c
    by_place w small = ⊎_elim (λ below. from (h.rises below)) (λ above. omega (arith, above, small, h.never_falls)) w
      where
        from : b < c → a < c
        from below = omega (arith, less, below)

-- ---- answers

pub adds_then : (given mid now : List Answer) (before between after : ℕ) → AddsAnswers given mid before between
    → AddsAnswers mid now between after → AddsAnswers given now before after
adds_then given mid now before between after one other = record {
  added = one.added ++ other.added;
  last = other.last ∙ (ap (λ (l : List Answer). l ++ other.added) one.last ∙ append_assoc given one.added other.added);
  never_falls = omega (arith, one.never_falls, other.never_falls);
  read = All-append (λ a. ¬ HasCode a ReadFailed) one.added other.added one.read other.read;
  store = All-append (λ a. HasCode a StoreFailed → Rose before after) one.added other.added
      (All-weaker (λ a. HasCode a StoreFailed → Rose before between) (λ a. HasCode a StoreFailed → Rose before after)
      (λ a caused code. rose_later before between after (caused code) other.never_falls) one.added one.store)
      (All-weaker (λ a. HasCode a StoreFailed → Rose between after) (λ a. HasCode a StoreFailed → Rose before after)
      (λ a caused code. rose_earlier before between after one.never_falls (caused code)) other.added other.store);
}

-- what isn't answered changes nothing
pub refused_same : (E : Type 0) (Does : State → Type 0) (s t : State) (result : Result Bool E) → Steps Does s result t → OnErr result (t ≡ s)
refused_same E Does s t (Ok taken) h = tt
refused_same E Does s t (Err refused) h = h
