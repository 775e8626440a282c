-- A run over no upload, and over one more.
use Rattle.std.proofs.Common.{◌≡◌, ◌⊎◌, ℕ, ◌+◌, ◌<◌, ◌≤◌, Bool, true, List, [], ◌∷◌, ◌++◌, Option, Some, length, map, refl, sym, ap, subst, ◌∙◌, inl, inr, ⊎_elim, arith}
use Rattle.std.specs.List.{slice_get, slice_index}
use Rattle.std.proofs.lemmas.List.{map-append, length-map}
use Rattle.std.proofs.lemmas.List.Elements.{All-contains_itself}
use Rattle.std.proofs.lemmas.Bool.{cases_lt}
use Rattle.jc_base.specs.declared.fault.Code.TheVariants.{ReadFailed, StoreFailed}
use Rattle.jc_base.specs.declared.id.Id128.{Id128}
use Rattle.jc_base.specs.declared.limits.Limits.{Limits}
use Rattle.jc_base.specs.Device.{Rose, most_failures}
use Rattle.jc_base.specs.Journal.{Journal}
use Rattle.jc_base.specs.LogEntry.{LogEntry}
use Rattle.jc_base.specs.Reading.{Reading}
use Rattle.jc_keeper.specs.Agree.{IsStored}
use Rattle.jc_upload.specs.declared.answer.Answer.{Answer}
use Rattle.jc_upload.specs.declared.answer.Answer.TheVariants.{Ack, No}
use Rattle.jc_collect.specs.Accepted.{IsMarked, SaysAt, AreAccepted, IsStoredBefore}
use Rattle.jc_collect.specs.Answer.{IsTaken, is_set_aside}
use Rattle.jc_collect.specs.Position.{Answers, Joins, Leaves, IsPosition, FailsUnread, HasCode, HasCause, HasGivenFewer}
use Rattle.jc_collect.specs.Run.{Seen, left_at, AnswersAt, AcksStored, AreCaused, Collected}
use Rattle.jc_collect.proofs.Lists.{none_not_some, get_last, get_more, get_cases, length_more}
use Rattle.jc_collect.proofs.OneMore.{SaysOnce, is_ack, says_more, says_last, stored_more, stored_back, are_more}
use Rattle.jc_collect.proofs.Positions.{right_mark, only_mark, stored_next}

-- ---- counts of failures

pub rose_later : (a b c : ℕ) → Rose a b → b ≤ c → Rose a c
rose_later a b c h more = record { never_falls = omega (arith, h.never_falls, more); rises = λ small. later (h.rises small) }
  where
    later : a < b → a < c
    later below = omega (arith, below, more)

pub rose_earlier : (a b c : ℕ) → a ≤ b → Rose b c → Rose a c
rose_earlier a b c less h = record { never_falls = omega (arith, h.never_falls, less); rises = λ small. by_place (cases_lt b most_failures) small }
  where
    by_place : (b < most_failures) ⊎ (most_failures ≤ b) → a < most_failures → a < c
    by_place w small = ⊎_elim (λ below. from (h.rises below)) (λ above. omega (arith, above, small, h.never_falls)) w
      where
        from : b < c → a < c
        from below = omega (arith, less, below)

-- ---- no upload

nothing_marked : (i : ℕ) → ¬ IsMarked [] i
nothing_marked i h = none_not_some true h

pub collected_none : (limits : Limits) (before : Seen) → Collected limits [] before before []
collected_none limits before = record {
  each = refl;
  accepted = [];
  are_accepted = record {
    each = refl;
    are = λ i. (λ m. absurd (nothing_marked i m), λ h. absurd (none_not_some h.says.upload h.says.at));
  };
  answered = λ i a h. absurd (none_not_some a h);
  stored = λ e. (λ s. inl s, λ h. ⊎_elim (λ s. s) (λ w. absurd (nothing_marked w.earlier w.marked)) h);
  acknowledged = λ i source start count new left h. absurd (none_not_some (Ack source start count new left) h);
  kept = λ e h. h;
  reads = λ i a h. absurd (none_not_some a h);
  stores = λ i a h. absurd (none_not_some a h);
  unread = λ i a h. absurd (none_not_some a h);
}

-- ---- one more upload

module _ (once : SaysOnce) (limits : Limits) (uploads : List (List ℕ)) (upload : List ℕ) (before mid after : Seen)
    (answers : List Answer) (answer : Answer)
    (was : Collected limits uploads before mid answers)
    (now : IsPosition limits upload mid.journal answer after.journal) where
  all_aside : length (map is_set_aside answers) ≡ length uploads
  all_aside = length-map answers is_set_aside ∙ was.each

  marks_more : AreAccepted limits before.journal (uploads ++ upload ∷ []) (map is_set_aside (answers ++ answer ∷ [])) (was.accepted ++ is_ack answer ∷ [])
  marks_more =
      subst (λ (aside : List Bool). AreAccepted limits before.journal (uploads ++ upload ∷ []) aside (was.accepted ++ is_ack answer ∷ []))
      (sym (map-append is_set_aside answers (answer ∷ [])))
      (are_more limits uploads upload before.journal was.accepted (is_ack answer) was.are_accepted.each
      (map is_set_aside answers) (is_set_aside answer) all_aside was.are_accepted
      (right_mark once limits uploads upload before.journal mid.journal was.accepted was.are_accepted.each was.stored
      (map is_set_aside answers) all_aside answer now.answers)
      (only_mark once limits uploads upload before.journal mid.journal was.accepted was.are_accepted.each was.stored
      (map is_set_aside answers) all_aside answer now.answers))

  same_before : (mark : Bool) (i : ℕ) (journal : Journal) → i ≤ length uploads
      → IsStoredBefore limits before.journal uploads was.accepted i journal
      → IsStoredBefore limits before.journal (uploads ++ upload ∷ []) (was.accepted ++ mark ∷ []) i journal
  same_before mark i journal low h e = (
    λ s. stored_more limits uploads upload before.journal was.accepted mark was.are_accepted.each i e ((h e).0 s),
    λ s. (h e).1 (stored_back limits uploads upload before.journal was.accepted mark was.are_accepted.each i e low s),
  )

  answered_more : (i : ℕ) (a : Answer) → slice_get (answers ++ answer ∷ []) i ≡ Some a
      → AnswersAt limits before.journal (uploads ++ upload ∷ []) (was.accepted ++ is_ack answer ∷ []) i a
  answered_more i a h = ⊎_elim (λ w. earlier w.0 w.1) (λ w. last w.0 w.1) (get_cases answers answer i a h)
    where
      earlier : i < length answers → slice_get answers i ≡ Some a
          → AnswersAt limits before.journal (uploads ++ upload ∷ []) (was.accepted ++ is_ack answer ∷ []) i a
      earlier within at =
          let x = was.answered i a at in
          record {
            upload = x.upload;
            at = get_more uploads upload i x.upload x.at;
            journal = x.journal;
            stored = same_before (is_ack answer) i x.journal (omega (arith, within, was.each)) x.stored;
            answers = x.answers;
          }

      last : i ≡ length answers → answer ≡ a
          → AnswersAt limits before.journal (uploads ++ upload ∷ []) (was.accepted ++ is_ack answer ∷ []) i a
      last at is = record {
        upload = upload;
        at = ap (λ k. slice_get (uploads ++ upload ∷ []) k) (at ∙ was.each) ∙ get_last uploads upload;
        journal = mid.journal;
        stored = subst (λ k. IsStoredBefore limits before.journal (uploads ++ upload ∷ []) (was.accepted ++ is_ack answer ∷ []) k mid.journal)
            (sym (at ∙ was.each)) (same_before (is_ack answer) (length uploads) mid.journal (omega arith) was.stored);
        answers = subst (λ (x : Answer). Answers limits upload mid.journal x) is now.answers;
      }

  -- nothing stored is lost
  kept_by : (a : Answer) → Leaves limits upload mid.journal a after.journal → (e : LogEntry) → IsStored mid.journal e → IsStored after.journal e
  kept_by (Ack source start count new left) h e s = (h.has e).1 (inl s)
  kept_by (No of code place) h e s = subst (λ (m : Journal). IsStored m e) (sym h) s

  acks_by : (i : ℕ) (a : Answer) (source : Id128) (start count new left : ℕ) → a ≡ Ack source start count new left → i ≡ length uploads
      → Answers limits upload mid.journal a → Leaves limits upload mid.journal a after.journal
      → AcksStored limits (uploads ++ upload ∷ []) i count after.journal
  acks_by i a source start count new left is at answers leaves =
      let t : IsTaken limits upload mid.journal (source, start) count new left
      = subst (λ (x : Answer). Answers limits upload mid.journal x) is answers in
      let j : Joins limits upload mid.journal after.journal
      = subst (λ (x : Answer). Leaves limits upload mid.journal x after.journal) is leaves in
      let same = once limits upload t.reading j.reading (inr (t.head, t.says)) j.says in
      record {
        reading = j.reading;
        says = subst (λ k. SaysAt limits (uploads ++ upload ∷ []) k j.reading) (sym at) (says_last limits uploads upload j.reading j.says);
        all = t.counted ∙ ap (λ (r : Reading). length r.entries) same;
        stored = λ k d within. (j.has _).1 (inr (All-contains_itself j.reading.entries k d within));
      }

  acknowledged_more : (i : ℕ) (source : Id128) (start count new left : ℕ) → slice_get (answers ++ answer ∷ []) i ≡ Some (Ack source start count new left)
      → AcksStored limits (uploads ++ upload ∷ []) i count after.journal
  acknowledged_more i source start count new left h =
      ⊎_elim
      (λ w. let x = was.acknowledged i source start count new left w.1 in
      record {
        reading = x.reading;
        says = says_more limits uploads upload i x.reading x.says;
        all = x.all;
        stored = λ k d within. kept_by answer now.leaves _ (x.stored k d within);
      })
      (λ w. acks_by i answer source start count new left w.1 (w.0 ∙ was.each) now.answers now.leaves)
      (get_cases answers answer i (Ack source start count new left) h)

  module _
      (read_earlier : (i : ℕ) → i < length answers → slice_index after.read_failures i ≡ slice_index mid.read_failures i)
      (read : HasCode answer ReadFailed → Rose (slice_index before.read_failures (length answers)) (slice_index after.read_failures (length answers)))
      (store_before : before.store_failures ≤ mid.store_failures)
      (store : HasCause StoreFailed mid.store_failures after.store_failures answer)
      (left_earlier : (i : ℕ) → i < length answers → left_at after i ≡ left_at mid i)
      (unread : FailsUnread answer → HasGivenFewer 48 (left_at before (length answers)) (left_at after (length answers))) where
    reads_more : AreCaused ReadFailed (answers ++ answer ∷ []) (λ i. Rose (slice_index before.read_failures i) (slice_index after.read_failures i))
    reads_more i a h code =
        ⊎_elim
        (λ w. subst (λ n. Rose (slice_index before.read_failures i) n) (sym (read_earlier i w.0)) (was.reads i a w.1 code))
        (λ w. subst (λ k. Rose (slice_index before.read_failures k) (slice_index after.read_failures k)) (sym w.0)
        (read (subst (λ (x : Answer). HasCode x ReadFailed) (sym w.1) code)))
        (get_cases answers answer i a h)

    stores_more : AreCaused StoreFailed (answers ++ answer ∷ []) (λ _. Rose before.store_failures after.store_failures)
    stores_more i a h code =
        ⊎_elim
        (λ w. rose_later before.store_failures mid.store_failures after.store_failures (was.stores i a w.1 code) store.never_falls)
        (λ w. rose_earlier before.store_failures mid.store_failures after.store_failures store_before
        (store.failed (subst (λ (x : Answer). HasCode x StoreFailed) (sym w.1) code)))
        (get_cases answers answer i a h)

    unread_more : (i : ℕ) (a : Answer) → slice_get (answers ++ answer ∷ []) i ≡ Some a → FailsUnread a
        → HasGivenFewer 48 (left_at before i) (left_at after i)
    unread_more i a h fails =
        ⊎_elim
        (λ w. subst (λ (o : Option (List ℕ)). HasGivenFewer 48 (left_at before i) o) (sym (left_earlier i w.0)) (was.unread i a w.1 fails))
        (λ w. subst (λ k. HasGivenFewer 48 (left_at before k) (left_at after k)) (sym w.0)
        (unread (subst (λ (x : Answer). FailsUnread x) (sym w.1) fails)))
        (get_cases answers answer i a h)

    pub collected_more : Collected limits (uploads ++ upload ∷ []) before after (answers ++ answer ∷ [])
    collected_more = record {
      each = length_more answers answer ∙ ap (λ n. n + 1) was.each ∙ sym (length_more uploads upload);
      accepted = was.accepted ++ is_ack answer ∷ [];
      are_accepted = marks_more;
      answered = answered_more;
      stored = stored_next once limits uploads upload before.journal mid.journal was.accepted was.are_accepted.each was.stored
          answer after.journal now.leaves;
      acknowledged = acknowledged_more;
      kept = λ e h. kept_by answer now.leaves e (was.kept e h);
      reads = reads_more;
      stores = stores_more;
      unread = unread_more;
    }
