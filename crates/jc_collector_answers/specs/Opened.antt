-- Why UPLOAD files aren't opened. (own)
use Rattle.std.specs.Prelude.{ℕ, List, ⊤}
use Rattle.std.specs.List.{Contains}
use Rattle.jc_command_shared.specs.declared.failure.Failure.{Failure}
use Rattle.jc_command_shared.specs.declared.failure.Failure.TheVariants.{CannotOpen, OutOfMemory, ReadFailed}

-- Why the uploads in files with these paths can't be read.
abbrev pub WhyUnopened : (uploads : List (List ℕ)) → Failure → Type 0
WhyUnopened uploads (CannotOpen path) = Contains uploads path.now
WhyUnopened uploads ReadFailed = ⊤
WhyUnopened uploads OutOfMemory = ⊤
WhyUnopened uploads _ = ⊥
