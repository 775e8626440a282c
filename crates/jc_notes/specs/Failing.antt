-- Why commands over notes fail. (own)
use Rattle.std.specs.Prelude.{◌≡◌, ◌⊎◌, ℕ}
use Rattle.jc_command_shared.specs.declared.failure.Failure.{Failure}
use Rattle.jc_command_shared.specs.declared.failure.Failure.TheVariants.{BadId, BadLine, OutOfMemory, ReadFailed, WriteFailed}

-- notes can't be read
abbrev pub ReadingFails : Failure → Type 0
ReadingFails failure = (failure ≡ ReadFailed) ⊎ (failure ≡ OutOfMemory)

-- ... or changed, or printed
abbrev pub WorkFails : Failure → Type 0
WorkFails failure = (failure ≡ WriteFailed) ⊎ ReadingFails failure

-- ... or a line of standard input isn't one that is read
abbrev pub LinesFail : Failure → Type 0
LinesFail failure = ((line : ℕ) × (failure ≡ BadLine line)) ⊎ WorkFails failure

-- ... or an id isn't one
abbrev pub NamedFails : Failure → Type 0
NamedFails failure = (failure ≡ BadId) ⊎ WorkFails failure
