-- What becomes of the file that is to have a journal's export. (own)
use Rattle.std.specs.Prelude.{◌≡◌, ◌⊎◌, ◌∷◌, [], ℕ, List, Option, Some, None}
use Rattle.jc_base.specs.Journal.{Journal}
use Rattle.jc_command_shared.specs.Deeds.{Adds, Deed, LeavesOld, OpensOnce, Replaces, beside, changes, puts}
use Rattle.jc_keeper.specs.Listing.{export_text}
use Rattle.jc_collector.specs.OverFiles.{KeepsStored}

-- If a path is given, the file at it was replaced by one with this text. Else nothing was done.
abbrev pub ReplacesIf : (at : Option (List ℕ)) → (text : List ℕ) → (old new : Option (List Deed)) → Type 0
ReplacesIf None text old new = new ≡ old
ReplacesIf (Some at) text old new = Replaces at text old new

-- If one is given, the file at it stays as it was.
abbrev pub LeavesOldIf : (at : Option (List ℕ)) → (old new : Option (List Deed)) → Type 0
LeavesOldIf None old new = new ≡ old
LeavesOldIf (Some at) old new = LeavesOld at old new

-- The file at this path stays as it was, or a new one took its place, the only one, which was made beside it.
abbrev pub MayReplace : (at : List ℕ) → (old new : Option (List Deed)) → Type 0
MayReplace at old new = LeavesOld at old new ⊎ ((held : Option (List ℕ)) × Adds old new (changes (beside at) ∷ puts (beside at) at held ∷ []))

-- The same of a path that is given. Else nothing was done.
abbrev pub MayReplaceIf : (at : Option (List ℕ)) → (old new : Option (List Deed)) → Type 0
MayReplaceIf None old new = new ≡ old
MayReplaceIf (Some at) old new = MayReplace at old new

-- The database at this path was opened, once or not at all. Then that file stayed, or was replaced.
pub record OpensAndMayReplace (database : List ℕ) (at : Option (List ℕ)) (old new : Option (List Deed)) : Type 0 where
  pub between : Option (List Deed)
  pub opened : OpensOnce database old between
  pub replaced : MayReplaceIf at between new

-- The database at this path was opened, once or not at all. Then the file that is to have the export was replaced by one with
-- that of this journal.
pub record OpensAndExports (database : List ℕ) (at : Option (List ℕ)) (old new : Option (List Deed)) (journal : Journal) : Type 0 where
  pub between : Option (List Deed)
  pub opened : OpensOnce database old between
  pub replaced : ReplacesIf at (export_text journal) between new

-- What was stored is, and the journal that is left was exported.
pub record KeepsAndExports (database : List ℕ) (at : Option (List ℕ)) (old new : Option (List Deed)) (before after : Journal) : Type 0 where
  pub kept : KeepsStored before after
  pub exported : OpensAndExports database at old new after
