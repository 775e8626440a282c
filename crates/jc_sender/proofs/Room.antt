-- How many entries an upload has room for, and the bytes that it then has.
use Rattle.std.proofs.Common.{◌≡◌, ◌∙◌, ℕ, zero, suc, ◌+◌, ◌<◌, ◌≤◌, Bool, true, false, List, [], ◌∷◌, ◌++◌, length, take, drop, get_or, Option, Some, None, max, refl, sym, ap, subst, arith, append-nil, length-append, length-take}
use Rattle.std.specs.Prelude.{flat_map}
use Rattle.std.proofs.lemmas.Grind.{flat_map-append}
use Rattle.std.proofs.lemmas.List.{take-take, take_more}
use Rattle.jc_base.specs.LogEntry.{LogEntry}
use Rattle.jc_base.specs.Number.{IsId}
use Rattle.jc_export.specs.Canonical.{canon}
use Rattle.jc_upload.specs.declared.excerpt.Excerpt.{Excerpt}
use Rattle.jc_upload.specs.declared.head.UploadHead.{UploadHead}
use Rattle.jc_upload.specs.declared.head.Version.{Version}
use Rattle.jc_upload.specs.declared.head.Version.TheVariants.{V1, V2}
use Rattle.jc_upload.specs.Excerpt.{IsExcerpt}
use Rattle.jc_upload.specs.Head.{head_text, magic_of}
use Rattle.jc_upload.specs.Upload.{Sender, export_head, second_head, sent_of}
use Rattle.jc_sender.specs.Sent.{IsCount, stream_upload_of}
use Rattle.jc_sender.specs.Within.{IsGreatest, IsKept, IsRoom, upload_size}

-- ---- as entries are counted

size_one : (es : List LogEntry) (e : LogEntry) → upload_size (es ++ e ∷ []) ≡ upload_size es + length (canon e)
size_one es e =
    let split = ap length (flat_map-append canon es (e ∷ [])) ∙ length-append (flat_map canon es) (canon e ++ []) in
    omega (arith, split, ap length (append-nil (canon e)))

pub size_more : (entries : List LogEntry) (e : LogEntry) (i : ℕ) → i < length entries → e ≡ get_or entries i e
    → upload_size (take (i + 1) entries) ≡ upload_size (take i entries) + length (canon e)
size_more entries e i within is =
    ap upload_size (take_more entries i e within ∙ ap (λ (x : LogEntry). take i entries ++ x ∷ []) (sym is)) ∙ size_one (take i entries) e

never_less : (es : List LogEntry) (i : ℕ) → length (flat_map canon (take i es)) ≤ length (flat_map canon (take (suc i) es))
never_less [] zero = omega arith
never_less [] (suc i) = omega arith
never_less (e ∷ es) zero = omega arith
never_less (e ∷ es) (suc i) =
    omega (arith, length-append (canon e) (flat_map canon (take i es)), length-append (canon e) (flat_map canon (take (suc i) es)), never_less es i)

at_stop : (most : ℕ) (entries : List LogEntry) (count found : ℕ) → found ≡ max count 1 → count < length entries
    → (0 < count → upload_size (take count entries) ≤ most) → most < upload_size (take (count + 1) entries)
    → IsGreatest most (length entries) (λ n. upload_size (take n entries)) found
at_stop most entries zero found is within fits more =
    subst (IsGreatest most (length entries) (λ n. upload_size (take n entries))) (sym is) (record {
      within = omega (arith, within);
      fits = λ above. absurd (omega (arith, above));
      full = λ _. (omega arith, omega (arith, more, never_less entries 1));
    })
at_stop most entries (suc n) found is within fits more =
    let same : found ≡ suc n = omega (arith, is) in
    subst (IsGreatest most (length entries) (λ n. upload_size (take n entries))) (sym same) (record {
      within = omega (arith, within);
      fits = λ _. fits (omega arith);
      full = λ _. (omega arith, more);
    })

-- One entry more, of this size, leaves this room.
module _ (most : ℕ) (entries : List LogEntry) (e : LogEntry) (i size : ℕ) (room left : Option ℕ)
    (within : i < length entries) (is : e ≡ get_or entries i e) (sized : size ≡ length (canon e))
    (before : IsRoom most (upload_size (take i entries)) room)
    (behind : (most before : ℕ) → IsRoom most before room → IsRoom most (before + size) left)
  where
    pub goes_on : IsRoom most (upload_size (take (i + 1) entries)) left
    goes_on =
        let more : upload_size (take i entries) + size ≡ upload_size (take (i + 1) entries) =
        ap (λ k. upload_size (take i entries) + k) sized ∙ sym (size_more entries e i within is) in
        subst (λ s. IsRoom most s left) more (behind most (upload_size (take i entries)) before)

    -- There is none: the entries before it have room, or it is the first one, which is there in any case.
    pub stops : (count found : ℕ) → count ≡ i → (room ≡ None → count ≡ 0) → left ≡ None → found ≡ max count 1
        → IsGreatest most (length entries) (λ n. upload_size (take n entries)) found
    stops count found same some none found_is =
        let over : most < upload_size (take (i + 1) entries) = subst (IsRoom most (upload_size (take (i + 1) entries))) none goes_on in
        at_stop most entries count found found_is (omega (arith, same, within))
        (λ above. subst (λ k. upload_size (take k entries) ≤ most) (sym same) (fits room before some above))
        (subst (λ k. most < upload_size (take (k + 1) entries)) (sym same) over)
      where
        fits : (room : Option ℕ) → IsRoom most (upload_size (take i entries)) room → (room ≡ None → count ≡ 0) → 0 < count
            → upload_size (take i entries) ≤ most
        fits None before some above = absurd (omega (arith, some refl, above))
        fits (Some rest) before some above = omega (arith, before)

-- ---- the bytes of an upload

magic_size : (version : Version) → length (magic_of version) ≡ 8
magic_size V1 = refl
magic_size (V2 whole entries) = refl

head_size : (h : UploadHead) → IsId h.source.0 → length (head_text h) ≡ 48
unfolding head_text
head_size h id = let magic = magic_size h.version in simp (length-append) (omega (arith, magic, id.0))

upload_length : (sender : Sender) (n : ℕ) (whole : Bool) (entries : List LogEntry) → IsId sender.source.0
    → length (stream_upload_of sender n whole entries) ≡ upload_size (sent_of sender entries n)
upload_length sender n true entries id =
    let sent = sent_of sender entries n in
    let head = second_head sender true (length sent) in
    length-append (head_text head) (flat_map canon sent) ∙ ap (λ k. k + length (flat_map canon sent)) (head_size head id)
upload_length sender n false entries id =
    let sent = sent_of sender entries n in
    let head = export_head sender in
    length-append (head_text head) (flat_map canon sent) ∙ ap (λ k. k + length (flat_map canon sent)) (head_size head id)

-- ---- an excerpt of which the first entries are kept

-- how many they are
abbrev IsCountOf : Sender → (limit : ℕ) → (most : Option ℕ) → List LogEntry → (count : ℕ) → Type 0
IsCountOf sender limit None entries count = count ≡ limit
IsCountOf sender limit (Some most) entries count =
    let sent = sent_of sender entries limit in IsGreatest most (length sent) (λ n. upload_size (take n sent)) count

module _ (sender : Sender) (limit : ℕ) (entries : List LogEntry) where
  abbrev sent : List LogEntry
  sent = sent_of sender entries limit

  sent_within : length sent ≤ limit
  sent_within = omega (arith, length-take limit (drop sender.point.position entries))

  first_sent : (n : ℕ) → n ≤ limit → take n sent ≡ sent_of sender entries n
  first_sent n within = take-take n limit (drop sender.point.position entries) within

  pub kept : (most : Option ℕ) (before after : Excerpt) → IsExcerpt sender.point.position limit entries before
      → after.count ≡ before.count → after.before ≡ before.before → IsKept most before.carried.items after.carried.items
      → (count : ℕ) × IsExcerpt sender.point.position count entries after × IsCountOf sender limit most entries count
  kept None before after is counted last same = (
    limit,
    record { counted = counted ∙ is.counted; before = last ∙ is.before; carried = same ∙ is.carried },
    refl,
  )
  kept (Some most) before after is counted last same =
      let greatest : IsGreatest most (length sent) (λ n. upload_size (take n sent)) same.0 =
      subst (λ (es : List LogEntry). IsGreatest most (length es) (λ n. upload_size (take n es)) same.0) is.carried same.1 in (
        same.0,
        record {
          counted = counted ∙ is.counted;
          before = last ∙ is.before;
          carried =
              same.2 ∙ (ap (take same.0) is.carried ∙ first_sent same.0 (omega (arith, greatest.within, sent_within)));
        },
        greatest,
      )

  pub counted : (most : Option ℕ) (whole : Bool) (count : ℕ) → IsId sender.source.0
      → IsCountOf sender limit most entries count → IsCount sender limit most whole entries count
  counted None whole count id is = is
  counted (Some most) whole count id is = record {
    within = is.within;
    fits = λ above. subst (λ s. s ≤ most) (size count (omega (arith, is.within, sent_within))) (is.fits above);
    full = λ less. (
      (is.full less).0,
      subst (λ s. most < s) (size (count + 1) (omega (arith, less, sent_within))) (is.full less).1,
    );
  }
    where
      size : (n : ℕ) → n ≤ limit → upload_size (take n sent) ≡ length (stream_upload_of sender n whole entries)
      size n within = ap upload_size (first_sent n within) ∙ sym (upload_length sender n whole entries id)
