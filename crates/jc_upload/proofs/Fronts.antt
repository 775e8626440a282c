-- What a beginning of an upload says.
use Rattle.std.proofs.Common.{◌≡◌, ◌⊎◌, ◌<◌, ◌≤◌, ◌+◌, ◌-◌, ◌&&◌, if◌then◌else◌, nat_eq, Bool, true, false, ℕ, List, [], ◌∷◌, ◌++◌, length, take, drop, refl, sym, ap, subst, ◌∙◌, inl, inr, ⊎_elim, arith, take-append-drop, append-nil}
use Rattle.std.proofs.lemmas.Bool.{cases_lt, eq-eqb, eqb-true}
use Rattle.std.proofs.lemmas.List.{get_or_at, length-append, length-drop, length-take, take_all}
use Rattle.std.proofs.Math.Seq.{take-append-add}
use Rattle.std.specs.List.{All}
use Rattle.jc_base.specs.declared.fault.Ending.{Ending}
use Rattle.jc_base.specs.declared.fault.Ending.TheVariants.{End, Bad}
use Rattle.jc_base.specs.declared.fault.Code.TheVariants.{Incomplete, ShortHeader}
use Rattle.jc_base.specs.declared.fault.Fault.{Fault}
use Rattle.jc_base.specs.declared.limits.Limits.{Limits}
use Rattle.jc_base.specs.Limit.{AreKept}
use Rattle.jc_base.specs.LogEntry.{IsEntry, LogEntry}
use Rattle.jc_base.specs.Reading.{EndsWell, IsFront, Reading, reading}
use Rattle.jc_stream.specs.StreamFault.{IsStreamCode}
use Rattle.jc_stream.specs.StreamFaultLaws.{stream_code}
use Rattle.jc_export.specs.Cut.{AllFit, ReadsBack, joined}
use Rattle.jc_export.specs.Stream.{StreamReading}
use Rattle.jc_file.specs.Bytes.{part}
use Rattle.jc_file.specs.Cut.{IsCutShort}
use Rattle.jc_file.specs.FileReading.{IsFileReading}
use Rattle.jc_upload.specs.Front.{CutsBy, CutsOfExport, CutsOfFile, CutsOfSecond, CutsOfWhole, EndsWhole, lacks_header}
use Rattle.jc_upload.specs.Head.{IsHead, IsHeadFault, fault_at, head_text}
use Rattle.jc_upload.specs.Says.{IsBodyReading, IsInParts, SaysBehind, BodySays, SaysFault, Says, ending_of_whole, reading_under}
use Rattle.jc_upload.specs.declared.head.Kind.{Kind}
use Rattle.jc_upload.specs.declared.head.Kind.TheVariants.{Export, File}
use Rattle.jc_upload.specs.declared.head.UploadHead.{UploadHead}
use Rattle.jc_upload.specs.declared.head.Version.{Version}
use Rattle.jc_upload.specs.declared.head.Version.TheVariants.{V1, V2}
use Rattle.jc_upload.proofs.HeadLemmas.{head_length, no_head_fault, one_head}

-- ---- a beginning cut off in the header, and one behind it

short_shown : (bytes : List ℕ) → length bytes < 48 → IsHeadFault bytes (fault_at ShortHeader (length bytes))
short_shown bytes few = inl ((λ h. omega (arith, few, h)), refl)

cut_length : (cut : ℕ) (head : UploadHead) (body : List ℕ) → IsHead head → cut < 48 → length (take cut (head_text head ++ body)) ≡ cut
cut_length cut head body lawful few =
    let long : length (head_text head ++ body) ≡ 48 + length body =
    length-append (head_text head) body ∙ ap (λ n. n + length body) (head_length head lawful) in
    let taken = length-take cut (head_text head ++ body) in
    omega (arith, long, taken, few)

cut_behind : (cut : ℕ) (head : UploadHead) (body : List ℕ) → IsHead head → 48 ≤ cut
    → take cut (head_text head ++ body) ≡ head_text head ++ take (cut - 48) body
cut_behind cut head body lawful enough =
    let size : cut ≡ length (head_text head) + (cut - 48) = omega (arith, head_length head lawful, enough) in
    ap (λ n. take n (head_text head ++ body)) size ∙ take-append-add (head_text head) body (cut - 48)

module _ (one_fault : (bytes : List ℕ) (a b : Fault) → IsHeadFault bytes a → IsHeadFault bytes b → a ≡ b)
    (limits : Limits) (cut : ℕ) (head : UploadHead) (body : List ℕ) (lawful : IsHead head) (r : Reading)
    (says : Says limits (take cut (head_text head ++ body)) r) where
  pub cut_short : cut < 48 → r ≡ lacks_header cut
  cut_short few =
      let bytes = take cut (head_text head ++ body) in
      let size : length bytes ≡ cut = cut_length cut head body lawful few in
      let shown = short_shown bytes (subst (λ (n : ℕ). n < 48) (sym size) few) in
      ⊎_elim
      (λ (s : SaysFault bytes r).
      s.nothing ∙ ap (λ (f : Fault). reading [] (Bad f)) (one_fault bytes s.fault (fault_at ShortHeader (length bytes)) s.shown shown)
      ∙ ap (λ (n : ℕ). lacks_header n) size)
      (λ (s : (other : UploadHead) × SaysBehind limits bytes other r).
      absurd (no_head_fault s.0 s.1.body s.1.has.lawful (fault_at ShortHeader (length bytes))
      (subst (λ (u : List ℕ). IsHeadFault u (fault_at ShortHeader (length bytes))) s.1.has.whole shown)))
      says

  pub cut_body : 48 ≤ cut → BodySays limits head.version head.kind (take (cut - 48) body) r
  cut_body enough =
      let bytes = take cut (head_text head ++ body) in
      let cut_off : bytes ≡ head_text head ++ take (cut - 48) body = cut_behind cut head body lawful enough in
      ⊎_elim
      (λ (s : SaysFault bytes r).
      absurd (no_head_fault head (take (cut - 48) body) lawful s.fault (subst (λ (u : List ℕ). IsHeadFault u s.fault) cut_off s.shown)))
      (λ (s : (other : UploadHead) × SaysBehind limits bytes other r).
      let same = one_head s.0 head s.1.body (take (cut - 48) body) s.1.has.lawful lawful (sym s.1.has.whole ∙ cut_off) in
      subst (λ (b : List ℕ). BodySays limits head.version head.kind b r) same.1
      (subst (λ (h : UploadHead). BodySays limits h.version h.kind s.1.body r) same.0 s.1.reads))
      says

-- what isn't to be whole counts as it is read
in_parts : (version : Version) (r : Reading) → IsInParts version → reading_under version r ≡ r
in_parts V1 r parts = refl
in_parts (V2 false entries) r parts = refl
in_parts (V2 true entries) r parts = absurd parts

parts_body : (limits : Limits) (version : Version) (kind : Kind) (body : List ℕ) (r : Reading) → IsInParts version
    → BodySays limits version kind body r → IsBodyReading limits kind body r
parts_body limits version kind body r parts says =
    subst (λ (s : Reading). IsBodyReading limits kind body s) (sym (says.under ∙ in_parts version says.read parts)) says.reads

-- ---- what is to be whole

abbrev whole_of : ℕ → Reading → Reading
whole_of number s = reading_under (V2 true number) s

counted : (number left : ℕ) (s : Reading) (none same : Bool) → nat_eq left 0 ≡ none → nat_eq (length s.entries) number ≡ same
    → ((left ≡ 0) × (length s.entries ≡ number) × (ending_of_whole number (length s.entries) (End left) ≡ End left))
    ⊎ (ending_of_whole number (length s.entries) (End left) ≡ Bad (fault_at Incomplete (length s.entries)))
counted number left s true true is_none is_same =
    inl (
      eqb-true left 0 is_none,
      eqb-true (length s.entries) number is_same,
      ap (λ (b : Bool). if b && nat_eq (length s.entries) number then End left else Bad (fault_at Incomplete (length s.entries))) is_none
          ∙ ap (λ (b : Bool). if b then End left else Bad (fault_at Incomplete (length s.entries))) is_same,
    )
counted number left s true false is_none is_same =
    inr (ap (λ (b : Bool). if b && nat_eq (length s.entries) number then End left else Bad (fault_at Incomplete (length s.entries))) is_none
    ∙ ap (λ (b : Bool). if b then End left else Bad (fault_at Incomplete (length s.entries))) is_same)
counted number left s false same is_none is_same =
    inr (ap (λ (b : Bool). if b && nat_eq (length s.entries) number then End left else Bad (fault_at Incomplete (length s.entries))) is_none)

-- as many entries as all of them are all of them
all_front : (front all : List LogEntry) → IsFront front all → length front ≡ length all → front ≡ all
all_front front all is same = sym (append-nil front) ∙ ap (λ (l : List LogEntry). front ++ l) (sym (nothing is.more none)) ∙ sym is.whole
  where
    none : length is.more ≡ 0
    none = omega (arith, ap (λ (l : List LogEntry). length l) is.whole, length-append front is.more, same)

    nothing : (l : List LogEntry) → length l ≡ 0 → l ≡ []
    nothing [] h = refl
    nothing (e ∷ es) h = absurd (omega (arith, h))

whole_ends : (limits : Limits) (entries : List LogEntry) (upload : List ℕ) (cut : ℕ) (s : Reading) (ending : Ending) → s.ending ≡ ending → IsFront s.entries entries
    → (AllFit limits entries → EndsWell s) → ((fault : Fault) → s.ending ≡ Bad fault → IsStreamCode fault.code)
    → (length s.entries ≡ length entries → length upload ≤ cut)
    → EndsWhole limits entries upload cut (whole_of (length entries) s)
whole_ends limits entries upload cut s (Bad fault) is front ends codes full =
    inr (inr (
      λ fit. let well = ends fit in bad_end fault well.left (sym is ∙ well.ends),
      (fault, ap (ending_of_whole (length entries) (length s.entries)) is, codes fault is),
    ))
  where
    bad_end : (fault : Fault) (left : ℕ) → ¬ (Bad fault ≡ End left)
    bad_end fault left h = cc
whole_ends limits entries upload cut s (End left) is front ends codes full =
    let ends = ap (ending_of_whole (length entries) (length s.entries)) is in
    elim (counted (length entries) left s (nat_eq left 0) (nat_eq (length s.entries) (length entries)) refl refl) [
      | inl all ↦
          let same : s.entries ≡ entries = all_front s.entries entries front all.1 in
          inl (
            full all.1,
            ap (λ (z : Ending). reading s.entries z) (ends ∙ all.2 ∙ ap End all.0) ∙ ap (λ (es : List LogEntry). reading es (End 0)) same,
          )
      | inr none ↦ inr (inl (ends ∙ none))
    ]

whole_well : (entries : List LogEntry) → whole_of (length entries) (reading entries (End 0)) ≡ reading entries (End 0)
whole_well entries =
    ap (λ (b : Bool). reading entries (if b then End 0 else Bad (fault_at Incomplete (length entries)))) (eq-eqb (length entries) (length entries) refl)

-- at its full length all of the body is there
whole_body : (cut : ℕ) (head : UploadHead) (body : List ℕ) → IsHead head → length (head_text head ++ body) ≤ cut
    → (48 ≤ cut) × (take (cut - 48) body ≡ body)
whole_body cut head body lawful all =
    let long : length (head_text head ++ body) ≡ 48 + length body =
    length-append (head_text head) body ∙ ap (λ n. n + length body) (head_length head lawful) in
    (omega (arith, long, all), take_all (cut - 48) body (omega (arith, long, all)))

-- what is read back of entries that fit is all of them
fitting : (limits : Limits) (entries : List LogEntry) (r : Reading) → AllFit limits entries → ReadsBack limits entries r → r ≡ reading entries (End 0)
fitting limits entries r fit (inl back) = back.1
fitting limits entries r fit (inr stops) =
    let all : AllFit limits (r.entries ++ stops.first ∷ stops.more) = subst (AllFit limits) stops.whole fit in
    absurd (stops.beyond (subst (λ (f : LogEntry). AreKept limits f.body.pairs) (get_or_at r.entries stops.first stops.more stops.first (length r.entries) refl)
    (all (length r.entries) stops.first (omega (arith, length-append r.entries (stops.first ∷ stops.more))))))

-- ---- uploads of entries, and of files

module _ (one_fault : (bytes : List ℕ) (a b : Fault) → IsHeadFault bytes a → IsHeadFault bytes b → a ≡ b) where
  module _
      (reads_back : (limits : Limits) (at : ℕ) (es : List LogEntry) (r : Reading) →
      All IsEntry es → StreamReading limits at (joined es) r → ReadsBack limits es r)
      (front : (limits : Limits) (at : ℕ) (es : List LogEntry) (front more : List ℕ) (r : Reading) →
      All IsEntry es → joined es ≡ front ++ more → StreamReading limits at front r → IsFront r.entries es)
      (fewer : (limits : Limits) (at : ℕ) (es : List LogEntry) (front more : List ℕ) (r : Reading) →
      All IsEntry es → joined es ≡ front ++ more → 0 < length more → StreamReading limits at front r → length r.entries < length es)
      (ends : (limits : Limits) (at : ℕ) (es : List LogEntry) (front more : List ℕ) (r : Reading) →
      All IsEntry es → AllFit limits es → joined es ≡ front ++ more → StreamReading limits at front r → EndsWell r)
      (head : UploadHead) (entries : List LogEntry) (lawful : IsHead head) where
    pub export_cuts : IsInParts head.version → head.kind ≡ Export → All IsEntry entries → CutsOfExport entries (head_text head ++ joined entries)
    export_cuts parts is are limits cut r says =
        let text = joined entries in
        let split : text ≡ take (cut - 48) text ++ drop (cut - 48) text = sym (take-append-drop (cut - 48) text) in
        let body : 48 ≤ cut → StreamReading limits 0 (take (cut - 48) text) r =
        λ enough. subst (λ (k : Kind). IsBodyReading limits k (take (cut - 48) text) r) is
        (parts_body limits head.version head.kind (take (cut - 48) text) r parts (cut_body one_fault limits cut head text lawful r says enough)) in
        record {
          short = cut_short one_fault limits cut head text lawful r says;
          first = λ enough. front limits 0 entries (take (cut - 48) text) (drop (cut - 48) text) r are split (body enough);
          ends = λ enough fit. ends limits 0 entries (take (cut - 48) text) (drop (cut - 48) text) r are fit split (body enough);
          whole = λ all.
              let full = whole_body cut head text lawful all in
              reads_back limits 0 entries r are (subst (λ (b : List ℕ). StreamReading limits 0 b r) full.1 (body full.0));
        }

    -- a beginning of the upload that has all its entries is all of it
    all_read : All IsEntry entries → (limits : Limits) (cut : ℕ) (s : Reading) → 48 ≤ cut → StreamReading limits 0 (take (cut - 48) (joined entries)) s
        → length s.entries ≡ length entries → length (head_text head ++ joined entries) ≤ cut
    all_read are limits cut s enough reads all =
        let text = joined entries in
        let long : length (head_text head ++ text) ≡ 48 + length text =
        length-append (head_text head) text ∙ ap (λ n. n + length text) (head_length head lawful) in
        ⊎_elim
        (λ (low : cut < length (head_text head ++ text)).
        let more : 0 < length (drop (cut - 48) text) = omega (arith, length-drop (cut - 48) text, long, low, enough) in
        absurd (omega (
          arith,
          all,
          fewer limits 0 entries (take (cut - 48) text) (drop (cut - 48) text) s are (sym (take-append-drop (cut - 48) text)) more reads,
        )))
        (λ (high : length (head_text head ++ text) ≤ cut). high)
        (cases_lt cut (length (head_text head ++ text)))

    pub whole_cuts : head.version ≡ V2 true (length entries) → head.kind ≡ Export → All IsEntry entries → CutsOfWhole entries (head_text head ++ joined entries)
    whole_cuts version is are limits cut r says =
        let text = joined entries in
        let split : text ≡ take (cut - 48) text ++ drop (cut - 48) text = sym (take-append-drop (cut - 48) text) in
        let says_body : 48 ≤ cut → BodySays limits (V2 true (length entries)) Export (take (cut - 48) text) r =
        λ enough. subst (λ (k : Kind). BodySays limits (V2 true (length entries)) k (take (cut - 48) text) r) is
        (subst (λ (v : Version). BodySays limits v head.kind (take (cut - 48) text) r) version
        (cut_body one_fault limits cut head text lawful r says enough)) in
        record {
          short = cut_short one_fault limits cut head text lawful r says;
          first = λ enough.
              let b = says_body enough in
              subst (λ (s : Reading). IsFront s.entries entries) (sym b.under)
              (front limits 0 entries (take (cut - 48) text) (drop (cut - 48) text) b.read are split b.reads);
          ends = λ enough.
              let b = says_body enough in
              subst (EndsWhole limits entries (head_text head ++ text) cut) (sym b.under)
              (whole_ends limits entries (head_text head ++ text) cut b.read b.read.ending refl
              (front limits 0 entries (take (cut - 48) text) (drop (cut - 48) text) b.read are split b.reads)
              (λ fit. ends limits 0 entries (take (cut - 48) text) (drop (cut - 48) text) b.read are fit split b.reads)
              (λ fault is. stream_code limits 0 (take (cut - 48) text) b.read fault b.reads is)
              (all_read are limits cut b.read enough b.reads));
          whole = λ all fit.
              let full = whole_body cut head text lawful all in
              let b = says_body full.0 in
              let back = reads_back limits 0 entries b.read are (subst (λ (l : List ℕ). StreamReading limits 0 l b.read) full.1 b.reads) in
              b.under ∙ ap (whole_of (length entries)) (fitting limits entries b.read fit back) ∙ whole_well entries;
        }

    -- by the version of the header
    pub cuts_by : (version : Version) → head.version ≡ version → head.kind ≡ Export → All IsEntry entries
        → CutsBy version entries (head_text head ++ joined entries)
    cuts_by V1 version is are = export_cuts (subst IsInParts (sym version) tt) is are
    cuts_by (V2 false number) version is are = export_cuts (subst IsInParts (sym version) tt) is are
    cuts_by (V2 true number) version is are = λ same. whole_cuts (version ∙ ap (λ (n : ℕ). V2 true n) same) is are

  module _
      (one_reading : (limits : Limits) (b : List ℕ) (r s : Reading) → IsFileReading limits b r → IsFileReading limits b s → r ≡ s)
      (front : (limits : Limits) (b : List ℕ) (cut : ℕ) (entries : List LogEntry) (r : Reading) →
      IsFileReading limits b (reading entries (End 0)) → IsFileReading limits (part b 0 cut) r →
      (r ≡ reading entries (End 0)) ⊎ IsCutShort r)
      (head : UploadHead) (file : List ℕ) (lawful : IsHead head) (parts : IsInParts head.version) (is : head.kind ≡ File) where
    pub file_cuts : CutsOfFile file (head_text head ++ file)
    file_cuts limits cut entries r well says =
        let body : 48 ≤ cut → IsFileReading limits (take (cut - 48) file) r =
        λ enough. subst (λ (k : Kind). IsBodyReading limits k (take (cut - 48) file) r) is
        (parts_body limits head.version head.kind (take (cut - 48) file) r parts (cut_body one_fault limits cut head file lawful r says enough)) in
        record {
          short = cut_short one_fault limits cut head file lawful r says;
          body = λ enough. front limits file (cut - 48) entries r well (body enough);
          whole = λ all.
              let full = whole_body cut head file lawful all in
              one_reading limits file r (reading entries (End 0))
              (subst (λ (b : List ℕ). IsFileReading limits b r) full.1 (body full.0)) well;
        }

-- the number that its header says is that of its entries
pub second_cuts : (whole : Bool) (number : ℕ) (entries : List LogEntry) (upload : List ℕ) → CutsBy (V2 whole number) entries upload
    → number ≡ length entries → CutsOfSecond whole entries upload
second_cuts true number entries upload cuts same = cuts same
second_cuts false number entries upload cuts same = cuts
