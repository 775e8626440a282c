-- A text that is exported of a journal, and taken up by an empty one.
use Rattle.std.proofs.Common.{◌≡◌, ℕ, List, [], Option, Some, Ok, subst}
use Rattle.std.specs.List.{All}
use Rattle.std.specs.FinMap.{empty, len}
use Rattle.std.specs.Io.KnownBytes.{Appends}
use Rattle.jc_base.specs.declared.limits.Limits.{Limits}
use Rattle.jc_base.specs.Journal.{Journal}
use Rattle.jc_base.specs.Limit.{AreKept}
use Rattle.jc_base.specs.LogEntry.{IsEntry}
use Rattle.jc_base.specs.Reading.{Reading}
use Rattle.jc_export.specs.Stream.{StreamReading}
use Rattle.jc_keeper.specs.declared.keeper.Absorbed.{Absorbed}
use Rattle.jc_keeper.specs.declared.keeper.Absorbed.TheVariants.{Taken}
use Rattle.jc_keeper.specs.Absorb.{IsNotTheOwner, Step}
use Rattle.jc_keeper.specs.Listing.{entries_of, export_text}
use Rattle.jc_theorems.specs.Copied.{IsCopied, TakesText}

-- A sink that had nothing has what was written.
pub has_written : (before now : Option (List ℕ)) (text bytes : List ℕ) → before ≡ Some [] → now ≡ Some bytes → Appends before now text → bytes ≡ text
has_written before now text bytes first last appended =
    subst (λ (known : Option (List ℕ)). Appends known (Some bytes) text) first
    (subst (λ (known : Option (List ℕ)). Appends before known text) last appended)

pub is_copied : (limits : Limits) (before : Journal) {text came : List ℕ} {absorbed : Absorbed} {after : Journal}
    → ((after : Journal) (read : Reading) (absorbed : Absorbed)
    → All IsEntry (entries_of before) → All (λ e. AreKept limits e.body.pairs) (entries_of before)
    → StreamReading limits 0 (export_text before) read → Step empty read absorbed after → ¬ IsNotTheOwner (Ok absorbed)
    → (absorbed ≡ Taken (len before) (len before) 0) × (after ≡ before))
    → All IsEntry (entries_of before) → text ≡ export_text before → came ≡ text
    → TakesText limits came absorbed after → IsCopied limits before text absorbed after
is_copied limits before {text = text} {came = came} {absorbed = absorbed} {after = after} law lawful exported same taken = record {
  exported = exported;
  taken = subst (λ (bytes : List ℕ). TakesText limits bytes absorbed after) same taken;
  whole = λ kept.
      law after taken.reading absorbed lawful kept
      (subst (λ (bytes : List ℕ). StreamReading limits 0 bytes taken.reading) exported
      (subst (λ (bytes : List ℕ). StreamReading limits 0 bytes taken.reading) same taken.reads))
      taken.step taken.owned;
}
