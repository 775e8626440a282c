-- A journal that was exported, and taken up by an empty one. (own)
use Rattle.std.specs.Prelude.{◌≡◌, ℕ, List, Ok}
use Rattle.std.specs.List.{All}
use Rattle.std.specs.FinMap.{empty, len}
use Rattle.jc_base.specs.declared.limits.Limits.{Limits}
use Rattle.jc_base.specs.Journal.{Journal}
use Rattle.jc_base.specs.Limit.{AreKept}
use Rattle.jc_base.specs.Reading.{Reading}
use Rattle.jc_export.specs.Stream.{StreamReading}
use Rattle.jc_keeper.specs.declared.keeper.Absorbed.{Absorbed}
use Rattle.jc_keeper.specs.declared.keeper.Absorbed.TheVariants.{Taken}
use Rattle.jc_keeper.specs.Absorb.{IsNotTheOwner, Step}
use Rattle.jc_keeper.specs.Listing.{entries_of, export_text}

-- An empty journal took up what a text says as an export stream, or refused it. No sequence belonged to another machine.
pub record TakesText (limits : Limits) (text : List ℕ) (absorbed : Absorbed) (after : Journal) : Type 0 where
  pub reading : Reading
  pub reads : StreamReading limits 0 text reading
  pub step : Step empty reading absorbed after
  pub owned : ¬ IsNotTheOwner (Ok absorbed)

-- The text is what is exported of a journal, and an empty one took it up or refused it. If all entries keep the limits, each
-- was new, and it is the same journal.
pub record IsCopied (limits : Limits) (before : Journal) (text : List ℕ) (absorbed : Absorbed) (after : Journal) : Type 0 where
  pub exported : text ≡ export_text before
  pub taken : TakesText limits text absorbed after
  pub whole : All (λ e. AreKept limits e.body.pairs) (entries_of before) → (absorbed ≡ Taken (len before) (len before) 0) × (after ≡ before)
