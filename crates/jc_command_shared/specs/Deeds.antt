-- What a run does to files. (own)
use Rattle.std.specs.Prelude.{◌≡◌, ◌⊎◌, ◌∷◌, ◌++◌, ⊤, ℕ, List, [], Option, None, Some, codes, option_map}

-- A database is opened, or another file is made, emptied or taken away: the file at this path. Or a new file gets another
-- path in place of its own, and has these bytes then, where they are known.
pub data Deed : Type 0 where
  opens : (path : List ℕ) → Deed
  changes : (path : List ℕ) → Deed
  puts : (from path : List ℕ) → (held : Option (List ℕ)) → Deed

-- Where it is known what was done to files before, it is known now, and these deeds came behind it.
abbrev pub Adds : (old new : Option (List Deed)) → (deeds : List Deed) → Type 0
Adds old new deeds = new ≡ option_map (λ before. before ++ deeds) old

-- Nothing was done, or these deeds came behind what was done before.
abbrev pub MayAdd : (old new : Option (List Deed)) → (deeds : List Deed) → Type 0
MayAdd old new deeds = (new ≡ old) ⊎ Adds old new deeds

-- No database is opened, and each file that is changed is one of these.
abbrev pub AreChanges : (Mine : List ℕ → Type 0) → List Deed → Type 0
AreChanges Mine [] = ⊤
AreChanges Mine (opens path ∷ deeds) = ⊥
AreChanges Mine (changes path ∷ deeds) = Mine path × AreChanges Mine deeds
AreChanges Mine (puts from path held ∷ deeds) = Mine from × (Mine path × AreChanges Mine deeds)

-- No database was opened, and no file changed but these.
pub record ChangesOnly (Mine : List ℕ → Type 0) (old new : Option (List Deed)) : Type 0 where
  pub deeds : List Deed
  pub only : AreChanges Mine deeds
  pub added : Adds old new deeds

-- The database at this path was opened, once or not at all, and no file changed.
abbrev pub OpensOnce : (database : List ℕ) → (old new : Option (List Deed)) → Type 0
OpensOnce database old new = MayAdd old new (opens database ∷ [])

-- The database at this path was opened, once or not at all, and then no file changed but these.
pub record OpensAndChanges (database : List ℕ) (Mine : List ℕ → Type 0) (old new : Option (List Deed)) : Type 0 where
  pub between : Option (List Deed)
  pub opened : OpensOnce database old between
  pub changed : ChangesOnly Mine between new

-- the path of the file that is to take another one's place
abbrev pub beside : (at : List ℕ) → List ℕ
beside at = at ++ codes ".new"

-- The path is this one, or that of the file beside it which is to take its place.
abbrev pub IsReplaced : (at path : List ℕ) → Type 0
IsReplaced at path = (path ≡ at) ⊎ (path ≡ beside at)

-- The file at this path was replaced by one that has this text and no more: a new one was made beside it, the only one, and
-- then got its path.
abbrev pub Replaces : (at text : List ℕ) → (old new : Option (List Deed)) → Type 0
Replaces at text old new = Adds old new (changes (beside at) ∷ puts (beside at) at (Some text) ∷ [])

-- No file took the place of the one at this path, which stays as it was: none was changed but that beside it.
abbrev pub LeavesOld : (at : List ℕ) → (old new : Option (List Deed)) → Type 0
LeavesOld at old new = ChangesOnly (λ path. path ≡ beside at) old new

-- The same of a path that is given or isn't.
abbrev pub IsReplacedIf : (at : Option (List ℕ)) → (path : List ℕ) → Type 0
IsReplacedIf None path = ⊥
IsReplacedIf (Some at) path = IsReplaced at path
