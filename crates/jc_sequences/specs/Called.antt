-- A call of a file that may be closed. (own)
use Rattle.std.specs.Prelude.{Option, IsSomeAnd}

-- It was open and is, and of what it was and is its own call says this.
abbrev pub Called : {D : Type 0} → (old new : Option D) → (Says : D → D → Type 0) → Type 0
Called old new Says = IsSomeAnd old (λ before. IsSomeAnd new (λ after. Says before after))
