-- The names of fields that a command line asks for. (own)
use Rattle.std.specs.Prelude.{◌≡◌, ℕ, List, false}
use Rattle.jc_base.specs.Pair.{IsName, is_metadata}

-- a name that a field of an entry can have: metadata is none of its fields
abbrev pub IsFieldName : List ℕ → Type 0
IsFieldName name = IsName name × (is_metadata name ≡ false)
