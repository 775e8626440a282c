-- What devices do: streams that are read, sinks that are written.
use Rattle.std.specs.Prelude.{ℕ, ◌+◌, ◌-◌, ◌^◌, ◌<◌, ◌≤◌, List, length, take, Option, Result, MatchResult, OnErr}
use Rattle.std.specs.Io.KnownBytes.{Appends}

-- the count of failures at which it stays
abbrev pub most_failures : ℕ
most_failures = 2 ^ 64 - 1

-- A count of failures has risen, or it is the greatest and stays.
pub record Rose (before now : ℕ) : Type 0 where
  pub never_falls : before ≤ now
  pub rises : before < most_failures → before < now

-- A call leaves a count of failures: it never falls, and has risen if the call failed.
pub record CountsFailure {T E : Type 0} (before now : ℕ) (result : Result T E) : Type 0 where
  pub never_falls : before ≤ now
  pub failed : OnErr result (Rose before now)

-- A bound on what is still to come falls by what a call gave.
abbrev pub BoundFalls : {E : Type 0} → (before now : ℕ) → Result ℕ E → Type 0
BoundFalls before now result = MatchResult result (λ count. now + count ≤ before) (λ _. now ≤ before)

-- This many bytes of a text went out, and no more.
pub record WentOut (before now : Option (List ℕ)) (text : List ℕ) (count : ℕ) : Type 0 where
  pub within : count ≤ length text
  pub front : Appends before now (take count text)
