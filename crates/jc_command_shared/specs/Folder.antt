-- The folder that a path leads to, and the name in it. (own)
use Rattle.std.specs.Prelude.{◌≡◌, ◌≢◌, ◌<◌, ◌⊎◌, ◌++◌, ◌∷◌, ℕ, List, [], codes, get_or, length}

-- the number of `/`
abbrev pub slash : ℕ
slash = 47

abbrev pub HasNoSlash : List ℕ → Type 0
HasNoSlash name = (at : ℕ) → at < length name → get_or name at 0 ≢ slash

-- A path has this name in this folder: the name is all after the last slash, and the folder what comes before it. That
-- is the root if nothing does, and without a slash the folder that the program runs in.
pub record IsIn (path folder name : List ℕ) : Type 0 where
  pub last : HasNoSlash name
  pub joined :
      ((folder ≢ []) × (path ≡ folder ++ slash ∷ name))
      ⊎ ((folder ≡ codes "/") × (path ≡ slash ∷ name))
      ⊎ ((folder ≡ codes ".") × (path ≡ name))
