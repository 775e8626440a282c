-- The codes by which databases are refused. (own)
use Rattle.std.specs.Prelude.{◌≡◌, ◌⊎◌}
use Rattle.jc_base.specs.declared.fault.Code.{Code}
use Rattle.jc_base.specs.declared.fault.Code.TheVariants.{NotAJournal, OldSchema}
use Rattle.jc_store.specs.Meaning.{Adoption}

-- A database with no journal in a layout is refused by one of these.
abbrev pub RefusesByKnown : Adoption → Type 0
RefusesByKnown adoption = (code : Code) → adoption.refuses_by code → (code ≡ NotAJournal) ⊎ (code ≡ OldSchema)
