-- Uploads, of each of which the bytes are known or not, one after the other, and the answers to them.
use Rattle.std.proofs.Common.{◌≡◌, ◌∙◌, ◌+◌, ◌≤◌, ℕ, zero, suc, Bool, List, [], ◌∷◌, ◌++◌, Option, Some, None, Result, Ok, Err, length, refl, sym, ap, ap₂, subst, take, drop, arith}
use Rattle.std.specs.Prelude.{IfSome, IsErr}
use Rattle.std.proofs.lemmas.List.{append-nil, length-append, take-append-drop}
use Rattle.jc_base.specs.declared.limits.Limits.{Limits}
use Rattle.jc_base.specs.LimitBounds.{AreDefaults}
use Rattle.jc_collect.specs.Each.{Held, HoldsCollected, RunsEach}
use Rattle.jc_collect.specs.EachLaws.{collected_none, collected_then}
use Rattle.jc_collect.specs.Run as run
use Rattle.jc_collect.specs.Run.{OnlyIfOwned}
use Rattle.jc_collect.specs.RunLaws.{owned_none, owned_then}
use Rattle.jc_collect.specs.declared.runs.RunEnd.{RunEnd}
use Rattle.jc_collect.specs.declared.runs.RunEnd.TheVariants.{Done, Stopped}
use Rattle.jc_collect.proofs.OneMore.{SaysOnce}
use Rattle.jc_keeper.specs.declared.keeper.Keeper as keepers
use Rattle.jc_upload.specs.declared.answer.Answer.{Answer}
use Rattle.jc_command_shared.specs.declared.status.Status.{Status}
use Rattle.jc_command_shared.specs.declared.status.Status.TheVariants.{Success}
use Rattle.jc_collector_answers.specs.Answered.{worse}
use Rattle.jc_collector_answers.specs.Brought.{CollectsText}
use Rattle.jc_collector_answers.specs.Collected.{ByDefault, HoldsFirstOf, just, names_in, those_named, uploads_named}
use Rattle.jc_collector_answers.specs.Grouped.{GivesAnswers, LinesCome, TakesLines, these, uploads_of}
use Rattle.jc_collector_answers.specs.Kept.{AnswersHold, HasKept, Printing, held_by}
use Rattle.jc_collector_answers.specs.PrintedLaws.{front_none, named}
use Rattle.jc_collector_answers.specs.Tied.{NamedWith, PrintsFront, PrintsWith}
use Rattle.jc_collector_answers.specs.declared.name_lines.NameLines.{NameLines}
use Rattle.jc_collector_answers.proofs.Claiming.{grows_each}
use Rattle.jc_collector_answers.proofs.Defaults.{by_default}
use Rattle.jc_collector_answers.proofs.Grouping.{IsGroup, group_from, kept_by_group}
use Rattle.jc_collector_answers.proofs.Kept.{kept_then}
use Rattle.jc_collector_answers.proofs.Machines.{LinesUpTo, come_none, come_on, uploads_on, up_to_all, up_to_more, up_to_none}
use Rattle.jc_collector_answers.proofs.Successive.{HoldsSoFar, holds_first, holds_front, holds_front_on, holds_named, holds_on_to, lost_lines}

module _ (limits : Limits) (defaults : AreDefaults limits.name limits.value limits.fields limits.entry limits.file) where
  -- a run over deliveries, of each of which the bytes are known or not
  pub holds_of_run : (known : List (Option (List ℕ))) (before now : Held) (written sunk : Option (List ℕ)) (end : RunEnd)
      → RunsEach limits known before now written end sunk → run.WritesWith (HoldsFirstOf (just known) before now) (length known) written sunk end
  holds_of_run known before now written sunk Done ran = (
    ran.wrote,
    record {
      known = known;
      others = [];
      are = append-nil known;
      each = sym ran.wrote.number;
      holds = by_default limits defaults (λ other. HoldsCollected other known before now ran.wrote.answers) ran.holds;
    },
  )
  holds_of_run known before now written sunk (Stopped done bytes) ran = (
    ran.inside,
    ran.wrote,
    record {
      known = take (done + 1) known;
      others = drop (done + 1) known;
      are = take-append-drop (done + 1) known;
      each = as_many;
      holds = by_default limits defaults (λ other. HoldsCollected other (take (done + 1) known) before now (ran.wrote.answers ++ ran.wrote.last ∷ [])) ran.holds;
    },
  )
    where
      front : (n : ℕ) (xs : List (Option (List ℕ))) → n ≤ length xs → length (take n xs) ≡ n
      front zero xs within = refl
      front (suc n) [] within = absurd (omega (arith, within))
      front (suc n) (x ∷ xs) within = ap suc (front n xs (omega (arith, within)))

      as_many : length (take (done + 1) known) ≡ length (ran.wrote.answers ++ ran.wrote.last ∷ [])
      as_many =
          let inside = ran.inside in
          let number = ran.wrote.number in
          let more : length (ran.wrote.answers ++ ran.wrote.last ∷ []) ≡ length ran.wrote.answers + 1 = length-append ran.wrote.answers (ran.wrote.last ∷ []) in
          front (done + 1) known (omega (arith, inside)) ∙ omega (arith, number, more)

-- ---- nothing was collected

none_yet : (uploads : List (Option (List ℕ))) (now : Held) → HoldsFirstOf (just uploads) now now []
none_yet uploads now = record { known = []; others = uploads; are = refl; each = refl; holds = λ limits defaults. collected_none limits now }

module _ {K F : Type 0} (k : keepers.Ghosts K) where
  -- nothing was printed
  pub answers_none : (Whole : Printing) (uploads : List (Option (List ℕ))) (keeper : K) (result : Result Status F) (old : Option (List ℕ)) → IsErr result
      → AnswersHold k Whole (just uploads) keeper keeper result old old
  answers_none Whole uploads keeper (Ok status) old failed = cc
  answers_none Whole uploads keeper (Err failure) old failed = record {
    each = λ clean made. front_none (HoldsFirstOf (just uploads) (held_by k keeper) (held_by k keeper)) old (none_yet uploads (held_by k keeper));
    owner = front_none (OnlyIfOwned k.has_owners) old (owned_none k.has_owners);
  }

-- ---- the lines of a text, some together

-- What is so of the uploads that a text names before this rest of it.
pub record HoldsUpTo (told : List ℕ → Option (List ℕ)) (lines : NameLines) (text rest : Option (List ℕ)) (before now : Held) (answers : List Answer) : Type 0 where
  pub come : List (List ℕ)
  pub are : LinesCome text rest come
  pub each : length come ≡ length answers
  pub holds : ByDefault (λ limits. HoldsCollected limits (uploads_of told lines come) before now answers)

module _ (told : List ℕ → Option (List ℕ)) (lines : NameLines) (text : Option (List ℕ)) where
  first_of_all : (now : Held) → HoldsUpTo told lines text text now now []
  first_of_all now = record { come = []; are = come_none text; each = refl; holds = λ limits defaults. collected_none limits now }

  -- some more
  on_to : (rest next : Option (List ℕ)) (come : List (List ℕ)) → LinesCome rest next come → (first mid late : Held) → (mid.Sound → first.Sound) → (late.Sound → mid.Sound)
      → (one others : List Answer) → HoldsUpTo told lines text rest first mid one → length others ≡ length come
      → ByDefault (λ limits. HoldsCollected limits (uploads_of told lines come) mid late others) → HoldsUpTo told lines text next first late (one ++ others)
  on_to rest next come lost first mid late earlier later one others so many holds = record {
    come = so.come ++ come;
    are = come_on text rest next so.come come so.are lost;
    each = length-append so.come come ∙ ap₂ (λ (m n : ℕ). m + n) so.each (sym many) ∙ sym (length-append one others);
    holds = λ limits defaults.
        subst (λ (ks : List (Option (List ℕ))). HoldsCollected limits ks first late (one ++ others)) (sym (uploads_on told lines so.come come))
        (collected_then limits (uploads_of told lines so.come) (uploads_of told lines come) first mid late one others (so.holds limits defaults) (holds limits defaults) earlier later);
  }

  -- all that were named so far
  holds_so_far : (rest : Option (List ℕ)) (first now : Held) (answers : List Answer) → HoldsUpTo told lines text rest first now answers
      → HoldsFirstOf (those_named told lines text) first now answers
  holds_so_far rest first now answers so = record {
    known = uploads_of told lines so.come;
    others = left_of rest;
    are = are_named text rest so.are;
    each = length_of so.come ∙ so.each;
    holds = so.holds;
  }
    where
      left_of : Option (List ℕ) → List (Option (List ℕ))
      left_of None = []
      left_of (Some less) = uploads_named told lines less

      length_of : (names : List (List ℕ)) → length (uploads_of told lines names) ≡ length names
      length_of [] = refl
      length_of (name ∷ names) = ap suc (length_of names)

      are_named : (text rest : Option (List ℕ)) → LinesCome text rest so.come → those_named told lines text (uploads_of told lines so.come ++ left_of rest)
      are_named None rest came = tt
      are_named (Some bytes) None came = absurd came
      are_named (Some bytes) (Some left) came = sym (ap (uploads_of told lines) came ∙ uploads_on told lines so.come (names_in left))

  module _ {K : Type 0} (k : keepers.Ghosts K) where
    -- What is so of the names so far.
    pub record SoFar (rest : Option (List ℕ)) (first now : K) (status : Status) (old out : Option (List ℕ)) : Type 0 where
      pub each : k.clean now → k.made first → HoldsSoFar (HoldsUpTo told lines text rest (held_by k first) (held_by k now)) text rest status old out
      pub owner : HoldsSoFar (OnlyIfOwned k.has_owners) text rest status old out
      pub brought : k.clean now → k.sound now → k.made first
          → HoldsSoFar (LinesUpTo told lines (k.whose first) (k.whose now) text rest (k.journal first) (k.journal now)) text rest status old out

    pub so_far_first : (keeper : K) (old : Option (List ℕ)) → SoFar text keeper keeper Success old old
    so_far_first keeper old = record {
      each = λ clean made. holds_first (HoldsUpTo told lines text text (held_by k keeper) (held_by k keeper)) (first_of_all (held_by k keeper)) text old;
      owner = holds_first (OnlyIfOwned k.has_owners) (owned_none k.has_owners) text old;
      brought = λ clean sound made.
          holds_first (LinesUpTo told lines (k.whose keeper) (k.whose keeper) text text (k.journal keeper) (k.journal keeper))
          (up_to_none told lines (k.whose keeper) text (k.journal keeper)) text old;
    }

    module _ (first mid : K) (so : HasKept k first mid) (rest : Option (List ℕ)) (status : Status) (old was : Option (List ℕ))
        (holds : SoFar rest first mid status old was) where
      module _ (limits : Limits) (defaults : AreDefaults limits.name limits.value limits.fields limits.entry limits.file) (late : K) (next new : Option (List ℕ))
          (come : List (List ℕ)) (lost : LinesCome rest next come) (given : List Answer) (group : IsGroup k limits told lines come mid late given)
        where
          collects : k.clean late → k.made first → ByDefault (λ other. HoldsCollected other (uploads_of told lines come) (held_by k mid) (held_by k late) given)
          collects clean made = by_default limits defaults (λ other. HoldsCollected other (uploads_of told lines come) (held_by k mid) (held_by k late) given)
              (group.all.holds clean (so.stays_made made))

          pub so_far_on_to : (more : Status) → PrintsWith (these given) (length given) more was new → SoFar next first late (worse status more) old new
          so_far_on_to more prints = record {
            each = λ clean made.
                holds_on_to (HoldsUpTo told lines text rest (held_by k first) (held_by k mid)) (these given) (HoldsUpTo told lines text next (held_by k first) (held_by k late))
                (λ those others h same. subst (λ (l : List Answer). HoldsUpTo told lines text next (held_by k first) (held_by k late) (those ++ l)) (sym same)
                (on_to rest next come lost (held_by k first) (held_by k mid) (held_by k late) so.was_sound group.all.was_sound those given h group.each (collects clean made)))
                (length given) text rest next status more old was new (holds.each (group.all.was_clean clean) made) (lost_lines rest next come (length given) group.each lost) prints;
            owner = holds_on_to (OnlyIfOwned k.has_owners) (these given) (OnlyIfOwned k.has_owners)
                (λ those others h same. owned_then k.has_owners those others h (subst (OnlyIfOwned k.has_owners) (sym same) group.all.owner))
                (length given) text rest next status more old was new holds.owner (lost_lines rest next come (length given) group.each lost) prints;
            brought = λ clean sound made.
                holds_on_to (LinesUpTo told lines (k.whose first) (k.whose mid) text rest (k.journal first) (k.journal mid)) (these given)
                (LinesUpTo told lines (k.whose first) (k.whose late) text next (k.journal first) (k.journal late))
                (λ those others h same. subst (λ (l : List Answer). LinesUpTo told lines (k.whose first) (k.whose late) text next (k.journal first) (k.journal late) (those ++ l)) (sym same)
                (up_to_more told lines (k.whose first) (k.whose mid) (k.whose late) (k.journal first) (k.journal mid) (k.journal late) text rest next come lost those given
                (group.stays sound) (so.stored (group.all.was_sound sound) made)
                (grows_each limits (uploads_of told lines come) (k.journal mid) given (k.journal late) ((group.all.holds clean (so.stays_made made)).collected sound))
                h (group.own sound (so.stays_made made)) (group.claims sound (so.stays_made made))))
                (length given) text rest next status more old was new (holds.brought (group.all.was_clean clean) (group.all.was_sound sound) made) (lost_lines rest next come (length given) group.each lost) prints;
          }

          -- printing them failed
          pub so_far_front_on : {D : Type 0} (result : Result Status D) → PrintsFront (these given) was new → IsErr result
              → AnswersHold k (named text) (those_named told lines text) first late result old new
          so_far_front_on (Ok more) prints failed = cc
          so_far_front_on (Err other) prints failed = record {
            each = λ clean made.
                holds_front_on (HoldsUpTo told lines text rest (held_by k first) (held_by k mid)) (these given)
                (HoldsFirstOf (those_named told lines text) (held_by k first) (held_by k late))
                (λ those others h same. subst (λ (l : List Answer). HoldsFirstOf (those_named told lines text) (held_by k first) (held_by k late) (those ++ l)) (sym same)
                (holds_so_far next (held_by k first) (held_by k late) (those ++ given)
                (on_to rest next come lost (held_by k first) (held_by k mid) (held_by k late) so.was_sound group.all.was_sound those given h group.each (collects clean made))))
                text rest status old was new (holds.each (group.all.was_clean clean) made) prints;
            owner = holds_front_on (OnlyIfOwned k.has_owners) (these given) (OnlyIfOwned k.has_owners)
                (λ those others h same. owned_then k.has_owners those others h (subst (OnlyIfOwned k.has_owners) (sym same) group.all.owner))
                text rest status old was new holds.owner prints;
          }

      weaker : k.clean mid → k.made first → HoldsSoFar (HoldsFirstOf (those_named told lines text) (held_by k first) (held_by k mid)) text rest status old was
      weaker clean made =
          let it = holds.each clean made in
          (it.0, holds_so_far rest (held_by k first) (held_by k mid) it.0.1.answers it.1)

      -- where no more was printed
      pub so_far_front : {D : Type 0} (result : Result Status D) → IsErr result
          → AnswersHold k (named text) (those_named told lines text) first mid result old was
      so_far_front (Ok more) failed = cc
      so_far_front (Err other) failed = record {
        each = λ clean made.
            holds_front (HoldsFirstOf (those_named told lines text) (held_by k first) (held_by k mid)) text rest status old was (weaker clean made);
        owner = holds_front (OnlyIfOwned k.has_owners) text rest status old was holds.owner;
      }

      pub so_far_named : {D : Type 0} → IfSome rest (λ left. left ≡ []) → AnswersHold {F = D} k (named text) (those_named told lines text) first mid (Ok status) old was
      so_far_named none = record {
        each = λ clean made.
            holds_named (HoldsFirstOf (those_named told lines text) (held_by k first) (held_by k mid)) text rest status old was (weaker clean made) none;
        owner = holds_named (OnlyIfOwned k.has_owners) text rest status old was holds.owner none;
      }

      pub so_far_brought : IfSome rest (λ left. left ≡ []) → (k.sound mid → k.clean mid) → k.sound mid → k.made first
          → NamedWith (CollectsText told lines (k.whose first) (k.whose mid) text (k.journal first) (k.journal mid)) text status old was
      so_far_brought none clean is_sound is_made =
          let it = holds.brought (clean is_sound) is_sound is_made in
          holds_named (CollectsText told lines (k.whose first) (k.whose mid) text (k.journal first) (k.journal mid)) text rest status old was
          (it.0, up_to_all told lines (k.whose first) (k.whose mid) text rest none (k.journal first) (k.journal mid) it.0.1.answers it.1) none

-- ---- a group of them

module _ (once : SaysOnce) {told : List ℕ → Option (List ℕ)} {lines : NameLines} {text : Option (List ℕ)} {K : Type 0} {k : keepers.Ghosts K} {limits : Limits}
    {first mid between late : K} {rest next : Option (List ℕ)} {status : Status} {old was new : Option (List ℕ)} {items : List Answer}
    (kept : HasKept k first mid) (so : SoFar told lines text k rest first mid status old was) {E : Type 0} {read : Result Bool E}
    (took : TakesLines k limits told lines rest next mid between items read) (defaults : AreDefaults limits.name limits.value limits.fields limits.entry limits.file)
  where
    pub kept_on : {F : Type 0} {result : Result Status F} → (k.sound late → k.clean late) → GivesAnswers k between late items result was new → HasKept k first late
    kept_on clean gives = kept_then k first mid late kept
        (kept_by_group once k limits (uploads_of told lines took.come) mid late gives.given clean (group_from k limits told lines rest next mid between late items was new took gives).all)

    pub given_on : {F : Type 0} (answered : Status) → GivesAnswers {F = F} k between late items (Ok answered) was new
        → SoFar told lines text k took.rest first late (worse status answered) old new
    given_on answered gives = so_far_on_to told lines text k first mid kept rest status old was so limits defaults late took.rest new took.come took.are gives.given
        (group_from k limits told lines rest next mid between late items was new took gives) answered gives.printed

    -- printing them failed
    pub front_on : {F D : Type 0} (failure : F) (result : Result Status D) → GivesAnswers k between late items (Err failure) was new → IsErr result
        → AnswersHold k (named text) (those_named told lines text) first late result old new
    front_on failure result gives failed = so_far_front_on told lines text k first mid kept rest status old was so limits defaults late took.rest new took.come took.are gives.given
        (group_from k limits told lines rest next mid between late items was new took gives) result gives.printed failed
