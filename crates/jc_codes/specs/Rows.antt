-- What the table of codes says of one.
use Rattle.std.specs.Prelude.{◌≡◌, ◌≢◌, ◌++◌, ◌∷◌, ◌<◌, ℕ, List, codes, decimal, length, get_or, drop}
use Rattle.std.specs.Str.{trim}
use Rattle.jc_codes.specs.declared.table.Coded.{Coded}

-- a text has no such byte
abbrev pub Lacks : (text : List ℕ) (byte : ℕ) → Type 0
Lacks text byte = (at : ℕ) → at < length text → get_or text at 0 ≢ byte

-- What two lines say, the first of which begins behind its number: its first word is the name, the meaning stands behind
-- that, and the advice is the line below.
pub record SaysRow (rest : List ℕ) (row : Coded) : Type 0 where
  pub line : List ℕ
  pub meaning : List ℕ
  pub advice : List ℕ
  pub after : List ℕ
  pub lines : rest ≡ line ++ 10 ∷ (advice ++ 10 ∷ after)
  pub line_ends : Lacks line 10
  pub advice_ends : Lacks advice 10
  pub words : trim line ≡ row.name.now ++ 32 ∷ meaning
  pub name_ends : Lacks row.name.now 32
  pub means : row.meaning.now ≡ trim meaning
  pub advised : row.advice.now ≡ trim advice

-- The first line behind another one that begins so has this rest.
pub record IsBelow (begin text rest : List ℕ) : Type 0 where
  pub before : List ℕ
  pub there : text ≡ before ++ 10 ∷ (begin ++ rest)
  pub first : (at : ℕ) (other : List ℕ) → at < length before → drop at text ≢ 10 ∷ (begin ++ other)

-- The first line of a text that begins so has this rest, with all that follows.
pub data BeginsLine (begin text rest : List ℕ) : Type 0 where
  at_once : text ≡ begin ++ rest → BeginsLine begin text rest
  below : ((other : List ℕ) → text ≢ begin ++ other) → IsBelow begin text rest → BeginsLine begin text rest

-- A table says this of a code, in the first line that begins with its number and in the one below.
pub record IsRow (code : ℕ) (table : List ℕ) (row : Coded) : Type 0 where
  pub rest : List ℕ
  pub begins : BeginsLine (decimal code ++ codes " ") table rest
  pub says : SaysRow rest row
