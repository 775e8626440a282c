-- What an ack to an upload that a machine made says of the machine's entries.
use Rattle.std.proofs.Common.{◌≡◌, ◌⊎◌, ℕ, ◌+◌, ◌≤◌, Bool, true, false, List, ◌++◌, Some, length, map, take, drop, refl, sym, ap, subst, ◌∙◌, inr, ⊎_elim, arith, length-append, append_assoc}
use Rattle.std.specs.Prelude.{◌&&◌, nat_eq, if◌then◌else◌, flat_map}
use Rattle.std.specs.List.{slice_get, All, Contains}
use Rattle.std.specs.Option.{option_map}
use Rattle.std.proofs.lemmas.List.{take-append-drop, take_at}
use Rattle.std.proofs.lemmas.List.Elements.{All-contains_itself, All-drop, All-take, All-weaker}
use Rattle.std.proofs.lemmas.Option.{slice_get-map}
use Rattle.jc_base.specs.Journal.{Journal}
use Rattle.jc_base.specs.LogEntry.{IsEntry, LogEntry}
use Rattle.jc_base.specs.Reading.{IsFront, Reading, reading}
use Rattle.jc_base.specs.declared.fault.Code.TheVariants.{Incomplete}
use Rattle.jc_base.specs.declared.fault.Ending.{Ending}
use Rattle.jc_base.specs.declared.fault.Ending.TheVariants.{Bad, End}
use Rattle.jc_base.specs.declared.fault.Fault.{Fault}
use Rattle.jc_base.specs.declared.id.Id128.{Id128}
use Rattle.jc_base.specs.declared.limits.Limits.{Limits}
use Rattle.jc_export.specs.Canonical.{canon}
use Rattle.jc_export.specs.Stream.{StreamReading}
use Rattle.jc_file.specs.Bytes.{part}
use Rattle.jc_file.specs.FileReading.{IsFileReading}
use Rattle.jc_keeper.specs.Agree.{HasBoth, IsStored}
use Rattle.jc_upload.specs.declared.head.Kind.{Kind}
use Rattle.jc_upload.specs.declared.head.Kind.TheVariants.{Export, File}
use Rattle.jc_upload.specs.declared.head.UploadHead.{UploadHead}
use Rattle.jc_upload.specs.declared.head.Version.{Version}
use Rattle.jc_upload.specs.declared.head.Version.TheVariants.{V1, V2}
use Rattle.jc_upload.specs.Head.{IsHead, fault_at, head_text}
use Rattle.jc_collect.specs.Answer.{IsTaken}
use Rattle.jc_collect.specs.Position.{Joins}
use Rattle.jc_upload.specs.Says.{HasHead, IsBodyReading, Says, ending_of_whole, reading_under}
use Rattle.jc_file.specs.Cut.{IsCutShort}
use Rattle.jc_world.specs.Kept.{AreStored, IsExportOf, IsFileOf}
use Rattle.jc_world.specs.State.{AreDistinct, MachineState, source_of}
use Rattle.jc_world.proofs.Lists.{get_contained, take_rest_front}

-- ---- one machine has a source

pub same_machine : (machines : List MachineState) (a b : MachineState) → AreDistinct (map source_of machines) → Contains machines a → Contains machines b
    → source_of a ≡ source_of b → a ≡ b
same_machine machines a b distinct in_a in_b same =
    let at_a : slice_get (map source_of machines) in_a.0 ≡ Some (source_of a) = at a in_a in
    let at_b : slice_get (map source_of machines) in_b.0 ≡ Some (source_of a) = at b in_b ∙ ap (λ (id : Id128). Some id) (sym same) in
    let place : in_a.0 ≡ in_b.0 = distinct in_a.0 in_b.0 (source_of a) at_a at_b in
    let both : Some a ≡ Some b = sym (get_contained machines a in_a) ∙ ap (λ (n : ℕ). slice_get machines n) place ∙ get_contained machines b in_b in
    cc
  where
    at : (x : MachineState) (c : Contains machines x) → slice_get (map source_of machines) c.0 ≡ Some (source_of x)
    at x c = slice_get-map source_of machines c.0 ∙ ap (option_map source_of) (get_contained machines x c)

-- ---- an ack

-- A reading has the same entries under each version.
same_entries : (version : Version) (r : Reading) → (reading_under version r).entries ≡ r.entries
same_entries V1 r = refl
same_entries (V2 false entries) r = refl
same_entries (V2 true entries) r = refl

-- Under a version it ends without a fault only if it does.
whole_ended : (number count : ℕ) (ending : Ending) (left : ℕ) → ending_of_whole number count ending ≡ End left → ending ≡ End left
whole_ended number count (Bad fault) left h = h
whole_ended number count (End end) left h = either (nat_eq end 0 && nat_eq count number) h
  where
    either : (all : Bool) → (if all then End end else Bad (fault_at Incomplete count)) ≡ End left → End end ≡ End left
    either true e = e
    either false e = cc

same_end : (version : Version) (r : Reading) (left : ℕ) → (reading_under version r).ending ≡ End left → r.ending ≡ End left
same_end V1 r left h = h
same_end (V2 false entries) r left h = h
same_end (V2 true entries) r left h = whole_ended entries (length r.entries) r.ending left h

-- An ack to a delivery is of this reading of its body, whose entries are stored.
pub record IsAckOf (limits : Limits) (delivery : List ℕ) (source : Id128) (start count : ℕ) (after : Journal) : Type 0 where
  pub head : UploadHead
  pub body : List ℕ
  pub has : HasHead delivery head body
  pub read : Reading
  pub reads : IsBodyReading limits head.kind body read
  pub of_source : source ≡ head.source
  pub of_start : start ≡ head.start
  pub left : ℕ
  pub ended : read.ending ≡ End left
  pub counted : count ≡ length read.entries
  pub stored : All (IsStored after) read.entries

abbrev pub SaysOnce : Type 0
SaysOnce = (limits : Limits) (upload : List ℕ) (r s : Reading) → Says limits upload r → Says limits upload s → r ≡ s

abbrev pub HeadOnce : Type 0
HeadOnce = (a b : UploadHead) (x y : List ℕ) → IsHead a → IsHead b → head_text a ++ x ≡ head_text b ++ y → (a ≡ b) × (x ≡ y)

-- A beginning of canonical texts has the first entries.
abbrev pub TextsCut : Type 0
TextsCut = (limits : Limits) (at : ℕ) (es : List LogEntry) (front more : List ℕ) (r : Reading) → All IsEntry es
    → flat_map canon es ≡ front ++ more → StreamReading limits at front r → IsFront r.entries es

-- A beginning of a file reads as the file, or is cut short.
abbrev pub FilesCut : Type 0
FilesCut = (limits : Limits) (b : List ℕ) (cut : ℕ) (entries : List LogEntry) (r : Reading)
    → IsFileReading limits b (reading entries (End 0)) → IsFileReading limits (part b 0 cut) r
    → (r ≡ reading entries (End 0)) ⊎ IsCutShort r

stored_both : (before after : Journal) (es : List LogEntry) → HasBoth before es after → All (IsStored after) es
stored_both before after es has = All-weaker (Contains es) (IsStored after) (λ e c. (has e).1 (inr c)) es (All-contains_itself es)

pub ack_of : SaysOnce → (limits : Limits) (delivery : List ℕ) (source : Id128) (start count new left : ℕ) (before after : Journal)
    → IsTaken limits delivery before (source, start) count new left → Joins limits delivery before after
    → IsAckOf limits delivery source start count after
ack_of once limits delivery source start count new left before after taken joins = record {
  head = taken.head;
  body = taken.says.body;
  has = taken.says.has;
  read = taken.says.reads.read;
  reads = taken.says.reads.reads;
  of_source = ap (λ (p : Id128 × ℕ). p.0) taken.named;
  of_start = ap (λ (p : Id128 × ℕ). p.1) taken.named;
  left = left;
  ended = same_end taken.head.version taken.says.reads.read left
      (ap (λ (r : Reading). r.ending) (sym taken.says.reads.under) ∙ taken.ended);
  counted = taken.counted ∙ ap (λ (es : List LogEntry). length es) same;
  stored = subst (All (IsStored after)) same
      (subst (λ (r : Reading). All (IsStored after) r.entries)
      (once limits delivery joins.reading taken.reading joins.says (inr (taken.head, taken.says)))
      (stored_both before after joins.reading.entries joins.has));
}
  where
    same : taken.reading.entries ≡ taken.says.reads.read.entries
    same = ap (λ (r : Reading). r.entries) taken.says.reads.under ∙ same_entries taken.head.version taken.says.reads.read

-- ---- a beginning of an upload

-- it has the upload's header, and a beginning of its body
head_cut : HeadOnce → (upload : List ℕ) (cut : ℕ) (h k : UploadHead) (whole body : List ℕ) → HasHead upload h whole → HasHead (take cut upload) k body
    → (k ≡ h) × (body ++ drop cut upload ≡ whole)
head_cut once upload cut h k whole body has begins =
    once k h (body ++ drop cut upload) whole begins.lawful has.lawful
    (sym (append_assoc (head_text k) body (drop cut upload))
    ∙ ap (λ (t : List ℕ). t ++ drop cut upload) (sym begins.whole)
    ∙ take-append-drop cut upload ∙ has.whole)

-- entries that are a beginning of what the machine has from a place on
backed_by : (after : Journal) (entries read more : List LogEntry) (start count : ℕ) → drop start entries ≡ read ++ more
    → count ≡ length read → start + count ≤ length entries → All (IsStored after) read → AreStored after entries start count
backed_by after entries read more start count is size within stored = record {
  within = within;
  stored = subst (All (IsStored after)) (sym (take_rest_front entries read more start count is size)) stored;
}

-- the first ones of entries' rest are entries
sent_lawful : (start : ℕ) (entries sent more : List LogEntry) → All IsEntry entries → drop start entries ≡ sent ++ more → All IsEntry sent
sent_lawful start entries sent more all is =
    let rest : All IsEntry (sent ++ more) = subst (All IsEntry) is (All-drop IsEntry start entries all) in
    subst (All IsEntry) (take_at sent more (length sent) refl) (All-take IsEntry (length sent) (sent ++ more) rest)

ending_once : (a b : Ending) (left : ℕ) (fault : Fault) → a ≡ End left → a ≡ Bad fault → ⊥
ending_once a b left fault e f = cc

module _ (one_head : HeadOnce) (texts : TextsCut) (files : FilesCut) where
  export_backed : (limits : Limits) (machine : MachineState) (upload : List ℕ) (cut : ℕ) (source : Id128) (start count : ℕ) (after : Journal)
      → All IsEntry machine.entries → IsExportOf machine upload → IsAckOf limits (take cut upload) source start count after
      → (source ≡ source_of machine) × AreStored after machine.entries start count
  export_backed limits machine upload cut source start count after lawful made ack =
      let same = head_cut one_head upload cut made.head ack.head (flat_map canon made.sent) ack.body made.has ack.has in
      let kind : ack.head.kind ≡ Export = ap (λ (h : UploadHead). h.kind) same.0 ∙ made.kind in
      let begun : start ≡ made.head.start = ack.of_start ∙ ap (λ (h : UploadHead). h.start) same.0 in
      let reads : StreamReading limits 0 ack.body ack.read =
      subst (λ (k : Kind). IsBodyReading limits k ack.body ack.read) kind ack.reads in
      let sent : All IsEntry made.sent = sent_lawful made.head.start machine.entries made.sent made.part.more lawful made.part.whole in
      let front = texts limits 0 made.sent ack.body (drop cut upload) ack.read sent (sym same.1) reads in
      let rest : drop start machine.entries ≡ ack.read.entries ++ (front.more ++ made.part.more) =
      ap (λ (n : ℕ). drop n machine.entries) begun ∙ made.part.whole
      ∙ ap (λ (es : List LogEntry). es ++ made.part.more) front.whole
      ∙ append_assoc ack.read.entries front.more made.part.more in
      let size : length made.sent ≡ length ack.read.entries + length front.more =
      ap (λ (es : List LogEntry). length es) front.whole ∙ length-append ack.read.entries front.more in
      let within : start + count ≤ length machine.entries = omega (arith, size, begun, ack.counted, made.within) in (
        ack.of_source ∙ ap (λ (h : UploadHead). h.source) same.0 ∙ made.own,
        backed_by after machine.entries ack.read.entries (front.more ++ made.part.more) start count rest ack.counted within ack.stored,
      )

  file_backed : (limits : Limits) (machine : MachineState) (upload : List ℕ) (cut : ℕ) (source : Id128) (start count : ℕ) (after : Journal)
      → IsFileOf limits machine upload → IsAckOf limits (take cut upload) source start count after
      → (source ≡ source_of machine) × AreStored after machine.entries start count
  file_backed limits machine upload cut source start count after made ack =
      let same = head_cut one_head upload cut made.head ack.head made.file ack.body made.has ack.has in
      let kind : ack.head.kind ≡ File = ap (λ (h : UploadHead). h.kind) same.0 ∙ made.kind in
      let begun : start ≡ 0 = ack.of_start ∙ ap (λ (h : UploadHead). h.start) same.0 ∙ made.first in
      let whole : Reading = made.reads.0 in
      let first : part made.file 0 (length ack.body) ≡ ack.body =
      ap (λ (t : List ℕ). take (length ack.body) t) (sym same.1) ∙ take_at ack.body (drop cut upload) (length ack.body) refl in
      let reads : IsFileReading limits (part made.file 0 (length ack.body)) ack.read =
      subst (λ (t : List ℕ). IsFileReading limits t ack.read) (sym first)
      (subst (λ (k : Kind). IsBodyReading limits k ack.body ack.read) kind ack.reads) in
      let all : IsFileReading limits made.file (reading whole.entries (End 0)) =
      subst (λ (ending : Ending). IsFileReading limits made.file (reading whole.entries ending)) made.reads.2.ends made.reads.1 in
      let is : ack.read.entries ≡ whole.entries = ⊎_elim
      (λ (e : ack.read ≡ reading whole.entries (End 0)). ap (λ (r : Reading). r.entries) e)
      (λ (short : IsCutShort ack.read). absurd (ending_once ack.read.ending ack.read.ending ack.left short.fault ack.ended short.ends))
      (files limits made.file (length ack.body) whole.entries ack.read all reads) in
      let front = made.reads.2.front in
      let rest : drop start machine.entries ≡ ack.read.entries ++ front.more =
      ap (λ (n : ℕ). drop n machine.entries) begun ∙ front.whole ∙ ap (λ (es : List LogEntry). es ++ front.more) (sym is) in
      let within : start + count ≤ length machine.entries =
      omega (
        arith,
        ap (λ (es : List LogEntry). length es) front.whole,
        length-append whole.entries front.more,
        ap (λ (es : List LogEntry). length es) is,
        ack.counted,
        begun,
      ) in (
        ack.of_source ∙ ap (λ (h : UploadHead). h.source) same.0 ∙ made.own,
        backed_by after machine.entries ack.read.entries front.more start count rest ack.counted within ack.stored,
      )

  -- An ack to a beginning of an upload that a machine made is backed.
  pub made_backed : (limits : Limits) (machine : MachineState) (upload : List ℕ) (cut : ℕ) (source : Id128) (start count : ℕ) (after : Journal)
      → All IsEntry machine.entries → IsExportOf machine upload ⊎ IsFileOf limits machine upload
      → IsAckOf limits (take cut upload) source start count after
      → (source ≡ source_of machine) × AreStored after machine.entries start count
  made_backed limits machine upload cut source start count after lawful from ack = ⊎_elim
      (λ (made : IsExportOf machine upload). export_backed limits machine upload cut source start count after lawful made ack)
      (λ (made : IsFileOf limits machine upload). file_backed limits machine upload cut source start count after made ack)
      from
