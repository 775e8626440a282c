-- A run that is under way.
use Rattle.std.proofs.Common.{◌≡◌, ℕ, ◌+◌, ◌<◌, ◌≤◌, List, [], ◌∷◌, ◌++◌, Option, Some, None, length, map, take, set, get_or, refl, sym, ap, subst, ◌∙◌, inl, append-nil, arith}
use Rattle.std.specs.List.{slice_get, slice_index}
use Rattle.std.specs.Io.KnownBytes.{Appends}
use Rattle.std.proofs.KnownBytes.{Appends-nil, Appends-trans}
use Rattle.std.proofs.lemmas.Grind.{flat_map-append}
use Rattle.std.proofs.lemmas.List.{length-take-le}
use Rattle.std.proofs.lemmas.Option.{slice_get_within}
use Rattle.jc_base.specs.declared.fault.Code.TheVariants.{ReadFailed, StoreFailed}
use Rattle.jc_base.specs.declared.limits.Limits.{Limits}
use Rattle.jc_base.specs.Device.{Rose, WentOut}
use Rattle.jc_base.specs.Journal.{Journal}
use Rattle.jc_base.specs.LogEntry.{LogEntry}
use Rattle.jc_keeper.specs.Agree.{IsStored}
use Rattle.jc_upload.specs.Answer.{answer_text}
use Rattle.jc_upload.specs.declared.answer.Answer.{Answer}
use Rattle.jc_upload.specs.declared.answer.Answer.TheVariants.{Ack, No}
use Rattle.jc_collect.specs.Position.{Collects, FailsUnread, HasCode, HasCause, HasGivenFewer}
use Rattle.jc_collect.specs.Run.{Seen, seen, left_at, Collected, RunsToEnd, StopsAt, lines_of_answers}
use Rattle.jc_collect.proofs.CollectedMore.{collected_none, collected_more}
use Rattle.jc_collect.proofs.Lists.{get_set_other, index_set_other, index_set, index_map, take_more, known_at}
use Rattle.jc_collect.proofs.OneMore.{SaysOnce}

-- A delivery loses nothing that is stored.
pub kept_by : (limits : Limits) (known : Option (List ℕ)) (before after : Journal) (answer : Answer) → Collects limits known before answer after
    → (e : LogEntry) → IsStored before e → IsStored after e
kept_by limits None before after (Ack source start count new left) h e s = (h.1.has e).1 (inl s)
kept_by limits None before after (No of code place) h e s = subst (λ (m : Journal). IsStored m e) (sym h) s
kept_by limits (Some upload) before after (Ack source start count new left) h e s = (h.leaves.has e).1 (inl s)
kept_by limits (Some upload) before after (No of code place) h e s = subst (λ (m : Journal). IsStored m e) (sym h.leaves) s

-- So many deliveries were collected, and the others are as they were.
pub record UnderWay {D : Type 0} (Premise : Type 0) (known_of : D → Option (List ℕ)) (limits : Limits) (first : List D) (before : Seen)
    (done : ℕ) (present : List D) (now : Seen) : Type 0 where
  pub rest : (i : ℕ) → done ≤ i → slice_get present i ≡ slice_get first i
  pub stores : before.store_failures ≤ now.store_failures
  pub kept : Premise → (e : LogEntry) → IsStored before.journal e → IsStored now.journal e
  pub ran : Premise → (uploads : List (List ℕ)) → map known_of first ≡ map (λ u. Some u) uploads → RunsToEnd limits (take done uploads) before now

-- What holds under a premise holds under one from which it follows.
pub under_way_if : {D : Type 0} (P Q : Type 0) (known_of : D → Option (List ℕ)) (limits : Limits) (first : List D) (before : Seen)
    (done : ℕ) (present : List D) (now : Seen) → (Q → P) → UnderWay P known_of limits first before done present now
    → UnderWay Q known_of limits first before done present now
under_way_if P Q known_of limits first before done present now weaker way = record {
  rest = way.rest;
  stores = way.stores;
  kept = λ q. way.kept (weaker q);
  ran = λ q. way.ran (weaker q);
}

pub lines_more : (answers : List Answer) (answer : Answer) → lines_of_answers (answers ++ answer ∷ []) ≡ lines_of_answers answers ++ answer_text answer
lines_more answers answer =
    flat_map-append answer_text answers (answer ∷ []) ∙ ap (λ l. lines_of_answers answers ++ l) (append-nil (answer_text answer))

module _ {D : Type 0} (Premise : Type 0) (known_of : D → Option (List ℕ)) (fails : D → ℕ) (leaves : D → Option (List ℕ)) (limits : Limits)
    (first : List D) where
  pub under_way_none : (before : Seen) → UnderWay Premise known_of limits first before 0 first before
  under_way_none before = record {
    rest = λ i h. refl;
    stores = omega arith;
    kept = λ p e h. h;
    ran = λ p uploads same. record { answers = []; collected = collected_none limits before; lines = Appends-nil before.written };
  }

  module _ (before : Seen) (present : List D) (done : ℕ) (was now : D) (journal left : Journal) (stores stores_now : ℕ)
      (written written_now : Option (List ℕ)) (answer : Answer)
      (way : UnderWay Premise known_of limits first before done present (seen journal stores (map fails present) (map leaves present) written))
      (at : slice_get present done ≡ Some was)
      (firsts : before.read_failures ≡ map fails first)
      (firsts_left : before.left ≡ map leaves first)
      (read : HasCode answer ReadFailed → Rose (fails was) (fails now))
      (store : HasCause StoreFailed stores stores_now answer)
      (unread : FailsUnread answer → HasGivenFewer 48 (leaves was) (leaves now)) where
    abbrev pub after : Seen
    after = seen left stores_now (map fails (set present done now)) (map leaves (set present done now)) written_now

    at_first : slice_get first done ≡ Some was
    at_first = sym (way.rest done (omega arith)) ∙ at

    module _ (once : SaysOnce) (p : Premise)
        (position : Collects limits (known_of was) journal answer left)
        (uploads : List (List ℕ)) (same : map known_of first ≡ map (λ u. Some u) uploads) where
      ran : RunsToEnd limits (take done uploads) before (seen journal stores (map fails present) (map leaves present) written)
      ran = way.ran p uploads same

      inside : done < length uploads
      inside = let said = known_at known_of first uploads done was same at_first in slice_get_within uploads done said.0 said.1

      number : length ran.answers ≡ done
      number = ran.collected.each ∙ length-take-le done uploads (omega (arith, inside))

      read_before : slice_index before.read_failures (length ran.answers) ≡ fails was
      read_before = ap (λ (l : List ℕ). slice_index l (length ran.answers)) firsts ∙ ap (λ n. slice_index (map fails first) n) number ∙ index_map fails 0 first done was at_first

      read_now : slice_index after.read_failures (length ran.answers) ≡ fails now
      read_now = ap (λ n. slice_index (map fails (set present done now)) n) number ∙ index_set fails 0 present done now (slice_get_within present done was at)

      left_before : left_at before (length ran.answers) ≡ leaves was
      left_before =
          ap (λ (l : List (Option (List ℕ))). get_or l (length ran.answers) None) firsts_left
          ∙ ap (λ n. get_or (map leaves first) n None) number ∙ index_map leaves None first done was at_first

      left_now : left_at after (length ran.answers) ≡ leaves now
      left_now =
          ap (λ n. get_or (map leaves (set present done now)) n None) number
          ∙ index_set leaves None present done now (slice_get_within present done was at)

      one_more : Collected limits (take (done + 1) uploads) before after (ran.answers ++ answer ∷ [])
      one_more =
          let said = known_at known_of first uploads done was same at_first in
          subst (λ (us : List (List ℕ)). Collected limits us before after (ran.answers ++ answer ∷ []))
          (sym (take_more uploads done said.0 said.1))
          (collected_more once limits (take done uploads) said.0 before (seen journal stores (map fails present) (map leaves present) written) after
          ran.answers answer ran.collected
          (subst (λ (o : Option (List ℕ)). Collects limits o journal answer left) said.2 position)
          (λ i h. index_set_other fails 0 present done i now (omega (arith, h, number)))
          (λ code. subst (λ n. Rose n (slice_index after.read_failures (length ran.answers))) (sym read_before)
          (subst (λ n. Rose (fails was) n) (sym read_now) (read code)))
          way.stores store
          (λ i h. index_set_other leaves None present done i now (omega (arith, h, number)))
          (λ few. subst (λ (o : Option (List ℕ)). HasGivenFewer 48 o (left_at after (length ran.answers))) (sym left_before)
          (subst (λ (o : Option (List ℕ)). HasGivenFewer 48 (leaves was) o) (sym left_now) (unread few))))

      pub stops : (count : ℕ) → WentOut written written_now (answer_text answer) count → StopsAt limits uploads before after done count
      stops count out = record {
        answers = ran.answers;
        last = answer;
        number = number;
        inside = inside;
        collected = one_more;
        within = out.within;
        lines = Appends-trans before.written written written_now (lines_of_answers ran.answers) (take count (answer_text answer)) ran.lines out.front;
      }

      goes_on : Appends written written_now (answer_text answer) → RunsToEnd limits (take (done + 1) uploads) before after
      goes_on out = record {
        answers = ran.answers ++ answer ∷ [];
        collected = one_more;
        lines = subst (λ (l : List ℕ). Appends before.written written_now l) (sym (lines_more ran.answers answer))
            (Appends-trans before.written written written_now (lines_of_answers ran.answers) (answer_text answer) ran.lines out);
      }

    pub under_way_more : SaysOnce → (Premise → Collects limits (known_of was) journal answer left) → Appends written written_now (answer_text answer)
        → UnderWay Premise known_of limits first before (done + 1) (set present done now) after
    under_way_more once position out = record {
      rest = λ i h. get_set_other present done i now (omega (arith, h)) ∙ way.rest i (omega (arith, h));
      stores = omega (arith, way.stores, store.never_falls);
      kept = λ p e h. kept_by limits (known_of was) journal left answer (position p) e (way.kept p e h);
      ran = λ p uploads same. goes_on once p (position p) uploads same out;
    }
