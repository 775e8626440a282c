-- The least and the greatest value of each limit. (own)
use Rattle.std.specs.Prelude.{ℕ, ◌≡◌, ◌≤◌, ◌^◌}

-- a limit from its least value up to 2^40
pub record IsBetween (least n : ℕ) : Type 0 where
  pub low : least ≤ n
  pub high : n ≤ 2 ^ 40

pub record AreLimits (name value fields entry file : ℕ) : Type 0 where
  pub name_in : IsBetween 64 name
  pub value_in : IsBetween 64 value
  pub fields_in : IsBetween 8 fields
  pub entry_in : IsBetween 1024 entry
  pub file_in : IsBetween 208 file

-- the limits of the programs
pub record AreDefaults (name value fields entry file : ℕ) : Type 0 where
  pub name_is : name ≡ 1024
  pub value_is : value ≡ 16777216
  pub fields_is : fields ≡ 4096
  pub entry_is : entry ≡ 33554432
  pub file_is : file ≡ 1073741824
