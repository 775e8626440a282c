-- Answers before others, and the lines of a list in their order.
use Rattle.std.proofs.Common.{◌≡◌, ◌≢◌, ◌∙◌, ◌+◌, ◌<◌, ◌||◌, ◌==◌, ℕ, zero, suc, Bool, true, false, List, [], ◌∷◌, ◌++◌, Option, Some, None, length, refl, sym, ap, ap₂, subst, take, zero-add, arith}
use Rattle.std.specs.Prelude.{IfSome, ⊤, if◌then◌else◌}
use Rattle.std.specs.Io.BufRead.{DropsThrough, drop_through, take_through}
use Rattle.std.specs.Io.KnownBytes.{Appends}
use Rattle.std.specs.List.{list_any}
use Rattle.std.proofs.KnownBytes.{Appends-trans}
use Rattle.std.proofs.lemmas.Grind.{flat_map-append}
use Rattle.std.proofs.lemmas.List.{append-nil, append_assoc, length-append}
use Rattle.std.proofs.lemmas.List.Elements.{All-append}
use Rattle.std.proofs.lemmas.List.Folds.{list_any-append}
use Rattle.jc_collect.specs.Answer.{is_failure}
use Rattle.jc_collect.specs.Run as run
use Rattle.jc_command_shared.specs.Lines.{lines_of, with_byte}
use Rattle.jc_command_shared.specs.declared.status.Status.{Status}
use Rattle.jc_command_shared.specs.declared.status.Status.TheVariants.{Success, Refused, Misused, Failed, Unanswered}
use Rattle.jc_collector_answers.specs.Answered.{PrintsAnswers, is_refusal, judged, worse}
use Rattle.jc_collector_answers.specs.Named.{LosesLine, PrintsNamed}
use Rattle.jc_collector_answers.specs.Tied.{NamedWith, PrintsFront, PrintsWith}
use Rattle.jc_collector_answers.specs.Collected.{names_in}
use Rattle.jc_collector_answers.specs.CollectedLaws.{as_many}
use Rattle.jc_collector_answers.specs.Grouped.{LinesCome}
use Rattle.jc_upload.specs.Answer.{IsAnswer, answer_text}
use Rattle.jc_upload.specs.declared.answer.Answer.{Answer}

by_either : (failed failed' refused refused' : Bool)
    → (if (failed || failed') then Failed else (if (refused || refused') then Refused else Success))
    ≡ worse (if failed then Failed else (if refused then Refused else Success)) (if failed' then Failed else (if refused' then Refused else Success))
by_either true true refused refused' = refl
by_either true false refused true = refl
by_either true false refused false = refl
by_either false true true refused' = refl
by_either false true false refused' = refl
by_either false false true true = refl
by_either false false true false = refl
by_either false false false true = refl
by_either false false false false = refl

pub judged_both : (xs ys : List Answer) → judged (xs ++ ys) ≡ worse (judged xs) (judged ys)
judged_both xs ys =
    rw (list_any-append is_failure xs ys, list_any-append is_refusal xs ys)
    (by_either (list_any is_failure xs) (list_any is_failure ys) (list_any is_refusal xs) (list_any is_refusal ys))

-- the lines of some answers, and then those of others
unfoldable pub prints_both : (count count' : ℕ) (status status' : Status) (old mid new : Option (List ℕ)) → PrintsAnswers count status old mid
    → PrintsAnswers count' status' mid new → PrintsAnswers (count + count') (worse status status') old new
prints_both count count' status status' old mid new one other = record {
  answers = one.answers ++ other.answers;
  each = length-append one.answers other.answers ∙ ap₂ (λ (m n : ℕ). m + n) one.each other.each;
  lawful = All-append IsAnswer one.answers other.answers one.lawful other.lawful;
  is = ap₂ worse one.is other.is ∙ sym (judged_both one.answers other.answers);
  printed = subst (λ (l : List ℕ). Appends old new l) (sym (flat_map-append answer_text one.answers other.answers))
      (Appends-trans old mid new (run.lines_of_answers one.answers) (run.lines_of_answers other.answers) one.printed other.printed);
}

-- ---- the lines of a text

one_longer : (b : ℕ) (lines : List (List ℕ)) (n : ℕ) → length lines ≡ suc n → length (with_byte b lines) ≡ suc n
one_longer b [] n is = cc
one_longer b (line ∷ lines) n is = is

-- up to its first newline a text is one line
pub one_line_less : (b : ℕ) (text : List ℕ) → length (lines_of (b ∷ text)) ≡ suc (length (lines_of (drop_through 10 (b ∷ text))))
unfolding lines_of
one_line_less b [] = go (b == 10) refl
  where
    go : (is : Bool) → b == 10 ≡ is → length (lines_of (b ∷ [])) ≡ suc (length (lines_of (drop_through 10 (b ∷ []))))
    go true e = rw e refl
    go false e = rw e refl
one_line_less b (c ∷ text) = go (b == 10) refl (one_line_less c text)
  where
    go : (is : Bool) → b == 10 ≡ is
        → length (lines_of (c ∷ text)) ≡ suc (length (lines_of (drop_through 10 (c ∷ text))))
        → length (lines_of (b ∷ c ∷ text)) ≡ suc (length (lines_of (drop_through 10 (b ∷ c ∷ text))))
    go true e rest = rw e refl
    go false e rest = rw e (one_longer b (lines_of (c ∷ text)) (length (lines_of (drop_through 10 (c ∷ text)))) rest)

pub loses_line : (old new : Option (List ℕ)) → DropsThrough old new 10 → IfSome old (λ text. 0 < length (take_through 10 text)) → LosesLine old new
loses_line None new drops some = tt
loses_line (Some []) new drops some = absurd (omega (arith, some))
loses_line (Some (b ∷ text)) new drops some =
    subst (λ (o : Option (List ℕ)). LosesLine (Some (b ∷ text)) o) (sym drops) (one_line_less b text)

positive : (m n : ℕ) → m ≡ n → n ≢ 0 → 0 < m
positive zero n same some = absurd (some (sym same))
positive (suc m) n same some = omega arith

-- what was read of a text after what there was before, if that were some bytes
pub some_read : (old : Option (List ℕ)) (before after : List ℕ) (n : ℕ) → IfSome old (λ text. after ≡ before ++ take_through 10 text)
    → length after ≡ length before + n → n ≢ 0 → IfSome old (λ text. 0 < length (take_through 10 text))
some_read None before after n is long some = tt
some_read (Some text) before after n is long some =
    let both : length after ≡ length before + length (take_through 10 text) = ap (λ (l : List ℕ). length l) is ∙ length-append before (take_through 10 text) in
    positive (length (take_through 10 text)) n (omega (arith, both, long)) some

-- ---- the names of a list, one after the other

-- So many lines of a text, if it is known, came before this rest.
abbrev pub HasCome : (count : ℕ) → (text rest : Option (List ℕ)) → Type 0
HasCome count None rest = ⊤
HasCome count (Some text) None = ⊥
HasCome count (Some text) (Some rest) = length (lines_of text) ≡ count + length (lines_of rest)

-- ... and each of them was answered.
abbrev pub IsUnderWay : (text rest : Option (List ℕ)) → Status → (old now : Option (List ℕ)) → Type 0
IsUnderWay text rest status old now = (count : ℕ) × PrintsAnswers count status old now × HasCome count text rest

pub nothing_more : (known : Option (List ℕ)) → Appends known known []
nothing_more None = tt
nothing_more (Some bytes) = sym (append-nil bytes)

unfoldable pub begins : (text old : Option (List ℕ)) → IsUnderWay text text Success old old
begins text old = (0, record { answers = []; each = refl; lawful = λ k d below. absurd (omega (arith, below)); is = refl; printed = nothing_more old }, all text)
  where
    all : (text : Option (List ℕ)) → HasCome 0 text text
    all None = tt
    all (Some bytes) = sym (zero-add (length (lines_of bytes)))

-- a text, if it is known, has lost so many lines
abbrev pub LosesLines : (count : ℕ) → (old new : Option (List ℕ)) → Type 0
LosesLines count None new = ⊤
LosesLines count (Some text) None = ⊥
LosesLines count (Some text) (Some rest) = length (lines_of text) ≡ count + length (lines_of rest)

pub lost_lines : (rest next : Option (List ℕ)) (come : List (List ℕ)) (count : ℕ) → count ≡ length come → LinesCome rest next come → LosesLines count rest next
lost_lines None next come count many lost = tt
lost_lines (Some left) None come count many lost = absurd lost
lost_lines (Some left) (Some less) come count many lost =
    let here = as_many left in
    let there = as_many less in
    let both : length (names_in left) ≡ length come + length (names_in less) = ap (λ (ns : List (List ℕ)). length ns) lost ∙ length-append come (names_in less) in
    omega (arith, here, there, both, many)

pub goes_on_to : (size : ℕ) (text rest next : Option (List ℕ)) (status more : Status) (old mid now : Option (List ℕ))
    → IsUnderWay text rest status old mid → LosesLines size rest next → PrintsAnswers size more mid now
    → IsUnderWay text next (worse status more) old now
goes_on_to size text rest next status more old mid now (count, printed, came) loses answered =
    (count + size, prints_both count size status more old mid now printed answered, further text rest next came loses)
  where
    further : (text rest next : Option (List ℕ)) → HasCome count text rest → LosesLines size rest next → HasCome (count + size) text next
    further None rest next came loses = tt
    further (Some bytes) None next came loses = absurd came
    further (Some bytes) (Some left) None came loses = absurd loses
    further (Some bytes) (Some left) (Some less) came loses = omega (arith, came, loses)

pub ends_named : (text rest : Option (List ℕ)) (status : Status) (old now : Option (List ℕ)) → IsUnderWay text rest status old now
    → IfSome rest (λ left. left ≡ []) → PrintsNamed text status old now
unfolding lines_of
ends_named text rest status old now (count, printed, came) none = record { count = count; each = whole text rest came none; printed = printed }
  where
    whole : (text rest : Option (List ℕ)) → HasCome count text rest → IfSome rest (λ left. left ≡ [])
        → IfSome text (λ known. count ≡ length (lines_of known))
    whole None rest came none = tt
    whole (Some bytes) None came none = absurd came
    whole (Some bytes) (Some left) came none =
        let nothing : length (lines_of left) ≡ 0 = ap (λ (l : List ℕ). length (lines_of l)) none in omega (arith, came, nothing)

-- ---- what holds of them

-- Each name so far was answered, and this holds of the answers.
abbrev pub HoldsSoFar : (Holds : List Answer → Type 0) → (text rest : Option (List ℕ)) → Status → (old new : Option (List ℕ)) → Type 0
HoldsSoFar Holds text rest status old new = (way : IsUnderWay text rest status old new) × Holds way.1.answers

pub holds_first : (Holds : List Answer → Type 0) → Holds [] → (text old : Option (List ℕ)) → HoldsSoFar Holds text text Success old old
unfolding begins
holds_first Holds none text old = (begins text old, none)

-- what holds of some answers, and of others behind them
module _ (First Then Both : List Answer → Type 0) (joins : (one others : List Answer) → First one → Then others → Both (one ++ others)) where
  pub holds_on_to : (size : ℕ) (text rest next : Option (List ℕ)) (status more : Status) (old was new : Option (List ℕ))
      → HoldsSoFar First text rest status old was → LosesLines size rest next → PrintsWith Then size more was new
      → HoldsSoFar Both text next (worse status more) old new
  unfolding goes_on_to prints_both
  holds_on_to size text rest next status more old was new ((count, printed, came), holds) loses answered = (
    goes_on_to size text rest next status more old was new (count, printed, came) loses answered.shown,
    joins printed.answers answered.shown.answers holds answered.holds,
  )

  -- ... and where printing one more failed
  pub holds_front_on : (text rest : Option (List ℕ)) (status : Status) (old was new : Option (List ℕ))
      → HoldsSoFar First text rest status old was → PrintsFront Then was new → PrintsFront Both old new
  holds_front_on text rest status old was new ((count, printed, came), holds) front =
      let lines = run.lines_of_answers printed.answers in
      let others = run.lines_of_answers front.answers in
      let part = take front.bytes (run.lines_of_answers front.more) in
      let both : run.lines_of_answers (printed.answers ++ front.answers) ≡ lines ++ others
      = flat_map-append answer_text printed.answers front.answers in
      record {
        answers = printed.answers ++ front.answers;
        more = front.more;
        few = front.few;
        bytes = front.bytes;
        printed = subst (λ (l : List ℕ). Appends old new l) (sym (append_assoc lines others part) ∙ ap (λ (l : List ℕ). l ++ part) (sym both))
            (Appends-trans old was new lines (others ++ part) printed.printed front.printed);
        holds = subst Both (sym (append_assoc printed.answers front.answers front.more))
            (joins printed.answers (front.answers ++ front.more) holds front.holds);
      }

module _ (Holds : List Answer → Type 0) where
  pub holds_named : (text rest : Option (List ℕ)) (status : Status) (old new : Option (List ℕ))
      → HoldsSoFar Holds text rest status old new → IfSome rest (λ left. left ≡ []) → NamedWith Holds text status old new
  unfolding ends_named
  holds_named text rest status old new ((count, printed, came), holds) none =
      record { shown = ends_named text rest status old new (count, printed, came) none; holds = holds }

  -- all that were answered, where no more is
  pub holds_front : (text rest : Option (List ℕ)) (status : Status) (old new : Option (List ℕ))
      → HoldsSoFar Holds text rest status old new → PrintsFront Holds old new
  holds_front text rest status old new ((count, printed, came), holds) = record {
    answers = printed.answers;
    more = [];
    few = omega arith;
    bytes = 0;
    printed = subst (λ (l : List ℕ). Appends old new l) (sym (append-nil (run.lines_of_answers printed.answers))) printed.printed;
    holds = subst Holds (sym (append-nil printed.answers)) holds;
  }

-- once a failure or a refusal, never a success again
pub success_of : (one other : Status) → worse one other ≡ Success → (one ≡ Success) × (other ≡ Success)
success_of Success other is = (refl, is)
success_of Failed other is = cc
success_of Misused other is = cc
success_of Unanswered other is = cc
success_of Refused Success is = cc
success_of Refused Refused is = cc
success_of Refused Misused is = cc
success_of Refused Unanswered is = cc
success_of Refused Failed is = cc
