-- Over one journal no upload has two answers.
use Rattle.std.proofs.Common.{◌≡◌, ◌⊎◌, ◌↔◌, ℕ, ◌+◌, ◌<◌, ◌≤◌, Bool, List, [], ◌∷◌, ◌++◌, Option, Some, None, length, take, drop, refl, sym, ap, subst, ◌∙◌, inl, inr, ⊎_elim, append_assoc, arith, rules}
use Rattle.std.specs.Cmp.{IsTotalOrder}
use Rattle.std.specs.Cmp.Rules.{comparing}
use Rattle.std.specs.Cmp.Lexicographic.{slice_cmp}
use Rattle.std.specs.Ordering.{nat_cmp}
use Rattle.std.specs.FinMap.{get, len, same_map}
use Rattle.std.proofs.Math.Seq.{take-append_seam}
use Rattle.std.proofs.lemmas.List.{take-append-drop, take-append-le}
use Rattle.std.proofs.lemmas.List.Elements.{Contains-append_left}
use Rattle.std.proofs.lemmas.Map.Lookups.{CmpEqualImpliesEq, exact_pairs, exact_unsigned, exact_bytes}
use Rattle.jc_base.specs.declared.fault.Ending.{Ending}
use Rattle.jc_base.specs.declared.fault.Ending.TheVariants.{End, Bad}
use Rattle.jc_base.specs.declared.fault.Fault.{Fault}
use Rattle.jc_base.specs.declared.id.Id128.{Id128}
use Rattle.jc_base.specs.declared.id.Key.{Key}
use Rattle.jc_base.specs.declared.limits.Limits.{Limits}
use Rattle.jc_base.specs.Fault.{number_of}
use Rattle.jc_base.specs.Journal.{Journal, key_cmp}
use Rattle.jc_base.specs.LogEntry.{LogEntry, Body}
use Rattle.jc_base.specs.Reading.{Reading}
use Rattle.jc_keeper.specs.Agree.{Agree, IsStored, StandsIn, IsFirstConflict}
use Rattle.jc_upload.specs.declared.answer.Answer.{Answer}
use Rattle.jc_upload.specs.declared.answer.Answer.TheVariants.{Ack, No}
use Rattle.jc_upload.specs.declared.head.UploadHead.{UploadHead}
use Rattle.jc_upload.specs.Head.{IsHead, IsHeadFault, head_text}
use Rattle.jc_collect.specs.Accepted.{IsStoredBefore}
use Rattle.jc_collect.specs.Answer.{IsAnswerTo, IsTaken, IsRefused, IsUnread, AreNew, ReportsConflict, ReportsFault, named_by}
use Rattle.jc_upload.specs.Says.{SaysBehind}
use Rattle.jc_collect.proofs.Lists.{length_more}
use Rattle.jc_collect.proofs.OneMore.{SaysOnce, end_not_bad}

-- ---- journals with the same entries are one

key_total : IsTotalOrder key_cmp
key_total = search (comparing, rules)

key_exact : CmpEqualImpliesEq key_cmp
key_exact a b h =
    let key_of : List ℕ × ℕ → Key = λ p. record { seqnum_id = record { 0 = p.0 }; seqnum = p.1 } in
    let parts = exact_pairs (slice_cmp nat_cmp) nat_cmp exact_bytes exact_unsigned in
    ap key_of (parts (a.seqnum_id.0, a.seqnum) (b.seqnum_id.0, b.seqnum) h)

same_option : {X : Type 0} (o p : Option X) → ((x : X) → o ≡ Some x → p ≡ Some x) → ((x : X) → p ≡ Some x → o ≡ Some x) → o ≡ p
same_option (Some x) p f g = sym (f x refl)
same_option None None f g = refl
same_option None (Some x) f g = g x refl

abbrev entry : Key → Body → LogEntry
entry k b = record { key = k; body = b }

pub same_journal : (m n : Journal) → ((e : LogEntry) → IsStored m e ↔ IsStored n e) → m ≡ n
same_journal m n h = same_map key_total key_exact m n (λ k. same_option (get m k) (get n k) (λ b. (h (entry k b)).0) (λ b. (h (entry k b)).1))

pub stored_once : (limits : Limits) (start : Journal) (uploads : List (List ℕ)) (accepted : List Bool) (i : ℕ) (m n : Journal)
    → IsStoredBefore limits start uploads accepted i m → IsStoredBefore limits start uploads accepted i n → m ≡ n
stored_once limits start uploads accepted i m n a b = same_journal m n (λ e. (λ h. (b e).1 ((a e).0 h), λ h. (a e).1 ((b e).0 h)))

new_once : (m : Journal) (es : List LogEntry) (x y : ℕ) → AreNew m es x → AreNew m es y → x ≡ y
new_once m es x y a b =
    let same = same_journal a.0 b.0 (λ e. (λ h. (b.1 e).1 ((a.1 e).0 h), λ h. (a.1 e).1 ((b.1 e).0 h))) in
    let counted : len m + x ≡ len m + y = sym a.2 ∙ ap (λ (j : Journal). len j) same ∙ b.2 in
    omega (arith, counted)

-- ---- the first conflict is one

front_agrees : (m : Journal) (es more : List LogEntry) → Agree m (es ++ more) → Agree m es
front_agrees m es more h e f in_e in_f = h e f (wider e in_e) (wider f in_f)
  where
    wider : (e : LogEntry) → StandsIn m es e → StandsIn m (es ++ more) e
    wider e w = ⊎_elim (λ s. inl s) (λ c. inr (Contains-append_left es more e c)) w

-- a list that agrees has no conflict in it
pub none_within : (m : Journal) (es : List LogEntry) (number : ℕ) → Agree m es → ¬ IsFirstConflict m es number
none_within m es number agrees first =
    first.differs (front_agrees m (first.before ++ first.entry ∷ []) first.behind
    (subst (λ (l : List LogEntry). Agree m l) (first.whole ∙ sym (append_assoc first.before (first.entry ∷ []) first.behind)) agrees))

-- the entries before a conflict have none, and so it is not before another one
not_before : (m : Journal) (es : List LogEntry) (x y : ℕ) → IsFirstConflict m es x → IsFirstConflict m es y → ¬ (x < y)
not_before m es x y a b below = a.differs (subst (λ (l : List LogEntry). Agree m l) (sym front) shorter)
  where
    longer : length (a.before ++ a.entry ∷ []) ≤ length b.before
    longer = omega (arith, length_more a.before a.entry, a.at, b.at, below)

    whole : a.before ++ a.entry ∷ [] ++ a.behind ≡ b.before ++ b.entry ∷ b.behind
    whole = append_assoc a.before (a.entry ∷ []) a.behind ∙ sym a.whole ∙ b.whole

    front : a.before ++ a.entry ∷ [] ≡ take (length (a.before ++ a.entry ∷ [])) b.before
    front =
        sym (take-append_seam (a.before ++ a.entry ∷ []) a.behind)
        ∙ ap (λ (l : List LogEntry). take (length (a.before ++ a.entry ∷ [])) l) whole
        ∙ take-append-le (length (a.before ++ a.entry ∷ [])) b.before (b.entry ∷ b.behind) longer

    shorter : Agree m (take (length (a.before ++ a.entry ∷ [])) b.before)
    shorter =
        front_agrees m (take (length (a.before ++ a.entry ∷ [])) b.before) (drop (length (a.before ++ a.entry ∷ [])) b.before)
        (subst (λ (l : List LogEntry). Agree m l) (sym (take-append-drop (length (a.before ++ a.entry ∷ [])) b.before)) b.agreed)

conflict_once : (m : Journal) (es : List LogEntry) (x y : ℕ) → IsFirstConflict m es x → IsFirstConflict m es y → x ≡ y
conflict_once m es x y a b = omega (arith, not_before m es x y a b, not_before m es y x b a)

-- ---- the answer is one

abbrev left_of : Ending → ℕ
left_of (End left) = left
left_of (Bad fault) = 0

abbrev fault_of : Ending → Fault → Fault
fault_of (End left) other = other
fault_of (Bad fault) other = fault

same_ack : (s t : Id128) (a b c d e f g h : ℕ) → s ≡ t → a ≡ b → c ≡ d → e ≡ f → g ≡ h → Ack s a c e g ≡ Ack t b d f h
same_ack s t a b c d e f g h st ab cd ef gh =
    ap (λ x. Ack x a c e g) st ∙ ap (λ x. Ack t x c e g) ab ∙ ap (λ x. Ack t b x e g) cd ∙ ap (λ x. Ack t b d x g) ef ∙ ap (λ x. Ack t b d f x) gh

same_no : (o p : Option (Id128 × ℕ)) (a b c d : ℕ) → o ≡ p → a ≡ b → c ≡ d → No o a c ≡ No p b d
same_no o p a b c d op ab cd = ap (λ x. No x a c) op ∙ ap (λ x. No p x c) ab ∙ ap (λ x. No p b x) cd

module _
    (one : (a b : UploadHead) (x y : List ℕ) → IsHead a → IsHead b → head_text a ++ x ≡ head_text b ++ y → (a ≡ b) × (x ≡ y))
    (passes : (head : UploadHead) (body : List ℕ) (fault : Fault) → IsHead head → ¬ IsHeadFault (head_text head ++ body) fault)
    (one_fault : (bytes : List ℕ) (a b : Fault) → IsHeadFault bytes a → IsHeadFault bytes b → a ≡ b)
    (once : SaysOnce) (limits : Limits) (upload : List ℕ) (m : Journal) where
  same_head : (h k : UploadHead) (r s : Reading) → SaysBehind limits upload h r → SaysBehind limits upload k s → h ≡ k
  same_head h k r s a b = (one h k a.body b.body a.has.lawful b.has.lawful (sym a.has.whole ∙ b.has.whole)).0

  same_reading : (h k : UploadHead) (r s : Reading) → SaysBehind limits upload h r → SaysBehind limits upload k s → r ≡ s
  same_reading h k r s a b = once limits upload r s (inr (h, a)) (inr (k, b))

  not_unread : (h : UploadHead) (r : Reading) (code place : ℕ) → SaysBehind limits upload h r → ¬ IsUnread upload code place
  not_unread h r code place a b =
      passes h a.body b.fault a.has.lawful (subst (λ (u : List ℕ). IsHeadFault u b.fault) a.has.whole b.shown)

  taken_once : (o p : Id128 × ℕ) (a b c d e f : ℕ) → IsTaken limits upload m o a c e → IsTaken limits upload m p b d f
      → Ack o.0 o.1 a c e ≡ Ack p.0 p.1 b d f
  taken_once o p a b c d e f t u =
      let head = same_head t.head u.head t.reading u.reading t.says u.says in
      let same = same_reading t.head u.head t.reading u.reading t.says u.says in
      let named : o ≡ p = t.named ∙ ap (λ (h : UploadHead). named_by h) head ∙ sym u.named in
      same_ack o.0 p.0 o.1 p.1 a b c d e f (ap (λ (x : Id128 × ℕ). x.0) named) (ap (λ (x : Id128 × ℕ). x.1) named)
      (t.counted ∙ ap (λ (r : Reading). length r.entries) same ∙ sym u.counted)
      (new_once m u.reading.entries c d (subst (λ (r : Reading). AreNew m r.entries c) same t.grown) u.grown)
      (ap left_of (sym t.ended ∙ ap (λ (r : Reading). r.ending) same ∙ u.ended))

  unread_once : (a b c d : ℕ) → IsUnread upload a c → IsUnread upload b d → No None a c ≡ No None b d
  unread_once a b c d x y =
      let same = one_fault upload x.fault y.fault x.shown y.shown in
      same_no None None a b c d refl
      (x.reported.number ∙ ap (λ (f : Fault). number_of f.code) same ∙ sym y.reported.number)
      (x.reported.at ∙ ap (λ (f : Fault). f.place) same ∙ sym y.reported.at)

  faults_once : (r : Reading) (a b c d : ℕ) → ReportsFault m r a c → ReportsFault m r b d → (a ≡ b) × (c ≡ d)
  faults_once r a b c d x y =
      let same : x.fault ≡ y.fault = ap (λ (e : Ending). fault_of e x.fault) (sym x.ended ∙ y.ended) in (
        x.reported.number ∙ ap (λ (f : Fault). number_of f.code) same ∙ sym y.reported.number,
        x.reported.at ∙ ap (λ (f : Fault). f.place) same ∙ sym y.reported.at,
      )

  why_once : (r : Reading) (a b c d : ℕ) → ReportsConflict m r a c ⊎ ReportsFault m r a c → ReportsConflict m r b d ⊎ ReportsFault m r b d → (a ≡ b) × (c ≡ d)
  why_once r a b c d x y =
      ⊎_elim
      (λ (w : ReportsConflict m r a c). ⊎_elim
      (λ (v : ReportsConflict m r b d). (w.number ∙ sym v.number, conflict_once m r.entries c d w.first v.first))
      (λ (v : ReportsFault m r b d). absurd (none_within m r.entries c v.agrees w.first)) y)
      (λ (w : ReportsFault m r a c). ⊎_elim
      (λ (v : ReportsConflict m r b d). absurd (none_within m r.entries d w.agrees v.first))
      (λ (v : ReportsFault m r b d). faults_once r a b c d w v) y)
      x

  refused_once : (o p : Id128 × ℕ) (a b c d : ℕ) → IsRefused limits upload m o a c → IsRefused limits upload m p b d → No (Some o) a c ≡ No (Some p) b d
  refused_once o p a b c d x y =
      let head = same_head x.head y.head x.reading y.reading x.says y.says in
      let same = same_reading x.head y.head x.reading y.reading x.says y.says in
      let same_why = why_once y.reading a b c d
      (subst (λ (r : Reading). ReportsConflict m r a c ⊎ ReportsFault m r a c) same x.why) y.why in
      same_no (Some o) (Some p) a b c d
      (ap (λ (z : Id128 × ℕ). Some z) (x.named ∙ ap (λ (h : UploadHead). named_by h) head ∙ sym y.named)) same_why.0 same_why.1

  not_refused : (o p : Id128 × ℕ) (count new left code place : ℕ) → IsTaken limits upload m o count new left → ¬ IsRefused limits upload m p code place
  not_refused o p count new left code place t x =
      let same = same_reading t.head x.head t.reading x.reading t.says x.says in
      ⊎_elim
      (λ (w : ReportsConflict m x.reading code place).
      none_within m x.reading.entries place (subst (λ (r : Reading). Agree m r.entries) same t.agrees) w.first)
      (λ (w : ReportsFault m x.reading code place).
      end_not_bad left w.fault (sym t.ended ∙ ap (λ (r : Reading). r.ending) same ∙ w.ended))
      x.why

  pub answer_once : (x y : Answer) → IsAnswerTo limits upload m x → IsAnswerTo limits upload m y → x ≡ y
  answer_once (Ack s a c e g) (Ack t b d f h) x y = taken_once (s, a) (t, b) c d e f g h x y
  answer_once (Ack s a c e g) (No None b d) x y = absurd (not_unread x.head x.reading b d x.says y)
  answer_once (Ack s a c e g) (No (Some p) b d) x y = absurd (not_refused (s, a) p c e g b d x y)
  answer_once (No None a c) (Ack t b d f h) x y = absurd (not_unread y.head y.reading a c y.says x)
  answer_once (No None a c) (No None b d) x y = unread_once a b c d x y
  answer_once (No None a c) (No (Some p) b d) x y = absurd (not_unread y.head y.reading a c y.says x)
  answer_once (No (Some o) a c) (Ack t b d f h) x y = absurd (not_refused (t, b) o d f h a c y x)
  answer_once (No (Some o) a c) (No None b d) x y = absurd (not_unread x.head x.reading b d x.says y)
  answer_once (No (Some o) a c) (No (Some p) b d) x y = refused_once o p a b c d x y
