-- The line of a reading is that of the bytes that have the reading.
use Rattle.std.proofs.Common.{◌≡◌, ◌∙◌, ℕ, List, Option, Some, None, length, refl, subst, sym}
use Rattle.std.specs.Prelude.{IsSomeAnd, IfOk, Result}
use Rattle.std.proofs.lemmas.Result.{IfOk-weaker}
use Rattle.jc_base.specs.LimitBounds.{AreDefaults}
use Rattle.jc_base.specs.Reading.{Reading}
use Rattle.jc_base.specs.declared.fault.Ending.{Ending}
use Rattle.jc_base.specs.declared.limits.Limits.{Limits}
use Rattle.jc_export.specs.Computed.Lines.{reading_of}
use Rattle.jc_export.specs.Stream.{IsOnlyReading}
use Rattle.jc_stream.specs.Streaming.{ReadsKnown}
use Rattle.jc_file.specs.FileReading.{IsFileReading}
use Rattle.jc_sender.specs.Gathered.{HasCount}
use Rattle.jc_sender.specs.Reads.{EndsAs, ReadsAs}
use Rattle.jc_sender.specs.Verdict as V
use Rattle.jc_sender.specs.Verdict.{PrintsReadingOf, PrintsSomeReading}
use Rattle.jc_command_shared.specs.declared.failure.Failure.{Failure}
use Rattle.jc_command_shared.specs.declared.status.Status.{Status}
use Rattle.jc_command_args.specs.declared.request.InputKind.{InputKind}
use Rattle.jc_command_args.specs.declared.request.InputKind.TheVariants.{Export, File}

-- the line that was printed is that of a reading of this kind
pub prints_some : (kind : InputKind) (limits found : Limits) (count : ℕ) (ending : Ending) (r : Result Status Failure)
    (old new : Option (List ℕ)) → AreDefaults limits.name limits.value limits.fields limits.entry limits.file
    → found ≡ limits → EndsAs kind found ending → IfOk r (λ status. V.PrintsReading count ending status old new)
    → IfOk r (λ status. PrintsSomeReading kind status old new)
prints_some kind limits found count ending r old new defaults same ends printed =
    IfOk-weaker r _ _ (λ status prints. record {
      limits = limits;
      defaults = defaults;
      count = count;
      ending = ending;
      ends = subst (λ (l : Limits). EndsAs kind l ending) same ends;
      printed = prints;
    }) printed

-- the line that was printed is that of the bytes' reading
pub prints_reading_of : (kind : InputKind) (bytes : List ℕ) (limits : Limits) (reading : Reading) (count : ℕ) (ending : Ending)
    (r : Result Status Failure) (old new : Option (List ℕ))
    → AreDefaults limits.name limits.value limits.fields limits.entry limits.file → ReadsAs kind limits bytes reading
    → count ≡ length reading.entries → ending ≡ reading.ending
    → IfOk r (λ status. V.PrintsReading count ending status old new) → IfOk r (λ status. PrintsReadingOf kind bytes status old new)
prints_reading_of kind bytes limits reading count ending r old new defaults reads counted ends printed =
    IfOk-weaker r _ _ (λ status prints. record {
      limits = limits;
      defaults = defaults;
      reading = reading;
      reads = reads;
      printed = rw (← counted, ← ends) prints;
    }) printed

-- what a source over a file gave is the file's one reading
pub file_reading : (bytes : List ℕ) (limits : Limits) (answered : Option Reading) → IsSomeAnd answered (IsFileReading limits bytes)
    → ((r : Reading) → IsFileReading limits bytes r → answered ≡ Some r)
    → (reading : Reading) × (answered ≡ Some reading) × ReadsAs File limits bytes reading
file_reading bytes limits None reads only = absurd reads
file_reading bytes limits (Some reading) reads only =
    (reading, refl, (reads, λ other is. let same : Some reading ≡ Some other = only other is in cc))

pub prints_file : (bytes : List ℕ) (limits : Limits) (answered : Option Reading) (count : ℕ) (ending : Ending)
    (r : Result Status Failure) (old new : Option (List ℕ))
    → AreDefaults limits.name limits.value limits.fields limits.entry limits.file
    → IsSomeAnd answered (IsFileReading limits bytes) → ((r : Reading) → IsFileReading limits bytes r → answered ≡ Some r)
    → HasCount answered count ending
    → IfOk r (λ status. V.PrintsReading count ending status old new) → IfOk r (λ status. PrintsReadingOf File bytes status old new)
prints_file bytes limits answered count ending r old new defaults reads only counted prints =
    let found = file_reading bytes limits answered reads only in
    let counts : HasCount (Some found.0) count ending = subst (λ t. HasCount t count ending) found.1 counted in
    prints_reading_of File bytes limits found.0 count ending r old new defaults found.2 counts.0 counts.1 prints

-- what a source over a stream gave is the stream's one reading
pub stream_reading : (bytes : List ℕ) (limits : Limits) (known : Option (List ℕ)) (answered : Option Reading) → known ≡ Some bytes
    → ReadsKnown limits known answered → IsOnlyReading limits 0 bytes (reading_of limits 0 bytes)
    → (reading : Reading) × (answered ≡ Some reading) × ReadsAs Export limits bytes reading
stream_reading bytes limits known answered has reads only =
    go answered (subst (λ (k : Option (List ℕ)). ReadsKnown limits k answered) has reads)
  where
    go : (answered : Option Reading) → ReadsKnown limits (Some bytes) answered
        → (reading : Reading) × (answered ≡ Some reading) × ReadsAs Export limits bytes reading
    go None reads = absurd reads
    go (Some reading) reads = (reading, refl, (reads, λ other is. only other is ∙ sym (only reading reads)))

pub prints_stream : (bytes : List ℕ) (limits : Limits) (known : Option (List ℕ)) (answered : Option Reading) (count : ℕ) (ending : Ending)
    (r : Result Status Failure) (old new : Option (List ℕ))
    → AreDefaults limits.name limits.value limits.fields limits.entry limits.file
    → known ≡ Some bytes → ReadsKnown limits known answered → IsOnlyReading limits 0 bytes (reading_of limits 0 bytes)
    → HasCount answered count ending
    → IfOk r (λ status. V.PrintsReading count ending status old new) → IfOk r (λ status. PrintsReadingOf Export bytes status old new)
prints_stream bytes limits known answered count ending r old new defaults has reads only counted prints =
    let found = stream_reading bytes limits known answered has reads only in
    let counts : HasCount (Some found.0) count ending = subst (λ t. HasCount t count ending) found.1 counted in
    prints_reading_of Export bytes limits found.0 count ending r old new defaults found.2 counts.0 counts.1 prints
