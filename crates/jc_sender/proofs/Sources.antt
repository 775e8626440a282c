-- What the bytes of a source say, from what a source of entries over them gave.
use Rattle.std.proofs.Common.{◌≡◌, ◌∙◌, ℕ, List, Option, Some, sym, subst}
use Rattle.std.specs.Prelude.{IsSomeAnd}
use Rattle.jc_base.specs.LimitBounds.{AreDefaults}
use Rattle.jc_base.specs.LogEntry.{LogEntry}
use Rattle.jc_base.specs.Reading.{Reading}
use Rattle.jc_base.specs.declared.fault.Ending.{Ending}
use Rattle.jc_base.specs.declared.fault.Ending.TheVariants.{End, Bad}
use Rattle.jc_base.specs.declared.fault.Fault.{Fault}
use Rattle.jc_base.specs.declared.limits.Limits.{Limits}
use Rattle.jc_file.specs.FileReading.{IsFileReading}
use Rattle.jc_sender.proofs.Verdicts.{file_reading}
use Rattle.jc_sender.specs.Gathered.{HasCount, HasEntries}
use Rattle.jc_sender.specs.Source.{HasEntriesOf, HasFault, ReadsWell}
use Rattle.jc_command_args.specs.declared.request.InputKind.TheVariants.{File}

module _
    (bytes : List ℕ) (limits : Limits) (known : Option Reading)
    (defaults : AreDefaults limits.name limits.value limits.fields limits.entry limits.file)
    (reads : IsSomeAnd known (IsFileReading limits bytes))
    (only : (r : Reading) → IsFileReading limits bytes r → known ≡ Some r)
  where
    pub entries_well : (entries : List LogEntry) (ending : Ending) (left : ℕ) → HasEntries known entries ending
        → ending ≡ End left → HasEntriesOf File bytes entries
    entries_well entries ending left has ends =
        let found = file_reading bytes limits known reads only in
        let are : HasEntries (Some found.0) entries ending = subst (λ t. HasEntries t entries ending) found.1 has in
        (found.0, record { limits = limits; defaults = defaults; reads = found.2; ends = (left, sym are.1 ∙ ends) }, are.0)

    pub entries_faulty : (entries : List LogEntry) (ending : Ending) (fault : Fault) → HasEntries known entries ending
        → ending ≡ Bad fault → HasFault File bytes fault
    entries_faulty entries ending fault has ends =
        let found = file_reading bytes limits known reads only in
        let are : HasEntries (Some found.0) entries ending = subst (λ t. HasEntries t entries ending) found.1 has in
        record { limits = limits; defaults = defaults; reading = found.0; reads = found.2; ends = sym are.1 ∙ ends }

    pub counted_well : (count : ℕ) (ending : Ending) (left : ℕ) → HasCount known count ending
        → ending ≡ End left → (reading : Reading) × ReadsWell File bytes reading
    counted_well count ending left has ends =
        let found = file_reading bytes limits known reads only in
        let are : HasCount (Some found.0) count ending = subst (λ t. HasCount t count ending) found.1 has in
        (found.0, record { limits = limits; defaults = defaults; reads = found.2; ends = (left, sym are.1 ∙ ends) })

    pub counted_faulty : (count : ℕ) (ending : Ending) (fault : Fault) → HasCount known count ending
        → ending ≡ Bad fault → HasFault File bytes fault
    counted_faulty count ending fault has ends =
        let found = file_reading bytes limits known reads only in
        let are : HasCount (Some found.0) count ending = subst (λ t. HasCount t count ending) found.1 has in
        record { limits = limits; defaults = defaults; reading = found.0; reads = found.2; ends = sym are.1 ∙ ends }
