-- Options among the words of a command line, and the commands that have objects.
use Rattle.std.specs.Prelude.{◌≡◌, ◌≢◌, ◌⊎◌, ◌<◌, ◌≤◌, ℕ, Bool, true, false, List, Option, Some, None, IfSome, IsSomeAnd, codes, bytes_eq, if◌then◌else◌, length, slice_get}
use Rattle.std.specs.List.{remove}

module _ {W : Type 0} (text : W → List ℕ) where
  module _ (option : List ℕ) where
    -- The option stands at this place, behind the program's name.
    abbrev pub IsAt : List W → ℕ → Type 0
    IsAt words at = (1 ≤ at) × IsSomeAnd (slice_get words at) (λ word. text word ≡ option)

    -- No word before this place, behind the program's name, is the option, or `--`, which ends the options.
    abbrev pub IsClear : List W → ℕ → Type 0
    IsClear words before =
        (at : ℕ) → at < before → 1 ≤ at → IfSome (slice_get words at) (λ word. (text word ≢ option) × (text word ≢ codes "--"))

    -- The option isn't there, or stands behind `--`.
    abbrev pub IsMissing : List W → Type 0
    IsMissing words =
        IsClear words (length words)
        ⊎ ((end : ℕ) × IsClear words end × (1 ≤ end) × IsSomeAnd (slice_get words end) (λ word. text word ≡ codes "--"))

    -- The option is taken off the words where it stands first, and nothing else is. It is left only if it is missing.
    abbrev pub Takes : (old new : List W) → Bool → Type 0
    Takes old new true = (at : ℕ) × IsAt old at × IsClear old at × (new ≡ remove old at)
    Takes old new false = IsMissing old × (new ≡ old)

  abbrev pub is_option : Option W → Bool
  is_option None = false
  is_option (Some word) = bytes_eq (text word) (codes "--json")

  -- the word that names the command: the first behind the program's name, or the one behind the option
  abbrev pub command_in : List W → Option W
  command_in words = if is_option (slice_get words 1) then slice_get words 2 else slice_get words 1

abbrev pub HasObjects : (command : List ℕ) → Type 0
HasObjects command =
    (command ≡ codes "check") ⊎ ((command ≡ codes "codes") ⊎ ((command ≡ codes "inspect") ⊎ ((command ≡ codes "show") ⊎ (command ≡ codes "verify"))))
