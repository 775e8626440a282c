-- What a source over an export stream gave is what some bytes say, or what the known ones of its device say.
use Rattle.std.proofs.Common.{◌≡◌, ◌∙◌, ◌++◌, ℕ, List, [], Option, Some, append-nil, inl, inr, refl, subst, sym}
use Rattle.std.specs.List.{All}
use Rattle.jc_base.specs.LimitBounds.{AreDefaults}
use Rattle.jc_base.specs.LogEntry.{IsEntry, LogEntry}
use Rattle.jc_base.specs.Reading.{EndsWell, Reading, reading}
use Rattle.jc_base.specs.declared.fault.Ending.{Ending}
use Rattle.jc_base.specs.declared.fault.Ending.TheVariants.{End, Bad}
use Rattle.jc_base.specs.declared.fault.Fault.{Fault}
use Rattle.jc_base.specs.declared.limits.Limits.{Limits}
use Rattle.jc_export.specs.Computed.Lines.{reading_of}
use Rattle.jc_export.specs.Cut.{AllFit, ReadsBack, joined}
use Rattle.jc_export.specs.Stream.{IsOnlyReading, StreamReading}
use Rattle.jc_stream.specs.StreamFault.{IsStreamFault}
use Rattle.jc_stream.specs.Streaming.{ReadsKnown}
use Rattle.jc_upload.specs.Excerpt.{AreOfStream, Gave, IsStreamEnding}
use Rattle.jc_sender.proofs.Verdicts.{stream_reading}
use Rattle.jc_sender.specs.Reads.{ReadsAs}
use Rattle.jc_sender.specs.Source.{HasEntriesOf, HasFault}
use Rattle.jc_command_args.specs.declared.request.InputKind.TheVariants.{Export}

-- Entries that a stream may have are read back from their canonical texts.
module _
    (some : (limits : Limits) (at : ℕ) (bytes : List ℕ) → StreamReading limits at bytes (reading_of limits at bytes))
    (only : (limits : Limits) (at : ℕ) (bytes : List ℕ) → IsOnlyReading limits at bytes (reading_of limits at bytes))
    (whole : (limits : Limits) (at : ℕ) (es : List LogEntry) (r : Reading) →
    All IsEntry es → StreamReading limits at (joined es) r → ReadsBack limits es r)
    (ends : (limits : Limits) (at : ℕ) (es : List LogEntry) (front more : List ℕ) (r : Reading) →
    All IsEntry es → AllFit limits es → joined es ≡ front ++ more → StreamReading limits at front r → EndsWell r)
  where
    all_of : (limits : Limits) (entries : List LogEntry) (r : Reading) → EndsWell r → ReadsBack limits entries r → r ≡ reading entries (End 0)
    all_of limits entries r well (inl back) = back.1
    all_of limits entries r well (inr stops) =
        let clash : Bad stops.fault ≡ End well.left = sym stops.ends ∙ well.ends in
        absurd (let none : ⊥ = cc in none)

    read_back : (limits : Limits) (entries : List LogEntry) → AreOfStream limits entries → ReadsAs Export limits (joined entries) (reading entries (End 0))
    read_back limits entries are =
        let bytes = joined entries in
        let read = some limits 0 bytes in
        let well = ends limits 0 entries bytes [] (reading_of limits 0 bytes) are.lawful are.fit (sym (append-nil bytes)) read in
        let all : reading_of limits 0 bytes ≡ reading entries (End 0) = all_of limits entries (reading_of limits 0 bytes) well (whole limits 0 entries (reading_of limits 0 bytes) are.lawful read) in
        (subst (StreamReading limits 0 bytes) all read, λ other is. only limits 0 bytes other is ∙ all)

    pub some_entries : (limits found : Limits) (entries : List LogEntry)
        → AreDefaults limits.name limits.value limits.fields limits.entry limits.file → found ≡ limits
        → AreOfStream found entries → HasEntriesOf Export (joined entries) entries
    some_entries limits found entries defaults same are = (
      reading entries (End 0),
      record {
        limits = limits;
        defaults = defaults;
        reads = read_back limits entries (subst (λ (l : Limits). AreOfStream l entries) same are);
        ends = (0, refl);
      },
      refl,
    )

-- The bytes that a stream's fault is of.
pub some_fault : (only : (limits : Limits) (at : ℕ) (bytes : List ℕ) → IsOnlyReading limits at bytes (reading_of limits at bytes))
    → (limits found : Limits) (ending : Ending) (fault : Fault)
    → AreDefaults limits.name limits.value limits.fields limits.entry limits.file → found ≡ limits → ending ≡ Bad fault
    → IsStreamEnding found ending → (bytes : List ℕ) × HasFault Export bytes fault
some_fault only limits found ending fault defaults same is ends =
    let here : IsStreamFault limits fault =
    subst (λ (e : Ending). IsStreamEnding limits e) is (subst (λ (l : Limits). IsStreamEnding l ending) same ends) in
    let one = only limits 0 here.bytes in (
      here.bytes,
      record {
        limits = limits;
        defaults = defaults;
        reading = here.reading;
        reads = (here.reads, λ other reads. one other reads ∙ sym (one here.reading here.reads));
        ends = here.ends;
      },
    )

module _
    (bytes : List ℕ) (limits : Limits) (known : Option (List ℕ)) (answered : Option Reading) (entries : List LogEntry) (ending : Ending)
    (defaults : AreDefaults limits.name limits.value limits.fields limits.entry limits.file)
    (has : known ≡ Some bytes) (reads : ReadsKnown limits known answered)
    (only : IsOnlyReading limits 0 bytes (reading_of limits 0 bytes)) (gave : Gave answered entries ending)
  where
    found : (reading : Reading) × ReadsAs Export limits bytes reading × (entries ≡ reading.entries) × (ending ≡ reading.ending)
    found =
        let it = stream_reading bytes limits known answered has reads only in
        let are : Gave (Some it.0) entries ending = subst (λ t. Gave t entries ending) it.1 gave in
        (it.0, it.2, are.0, are.1)

    pub known_entries : (left : ℕ) → ending ≡ End left → HasEntriesOf Export bytes entries
    known_entries left is = (
      found.0,
      record { limits = limits; defaults = defaults; reads = found.1; ends = (left, sym found.3 ∙ is) },
      found.2,
    )

    pub known_fault : (fault : Fault) → ending ≡ Bad fault → HasFault Export bytes fault
    known_fault fault is = record {
      limits = limits;
      defaults = defaults;
      reading = found.0;
      reads = found.1;
      ends = sym found.3 ∙ is;
    }
