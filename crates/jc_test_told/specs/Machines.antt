-- What is told of files with the uploads of two machines, and of one with a list. (own)
use Rattle.std.specs.Prelude.{◌==◌, ℕ, List, [], ◌∷◌, Option, Some, None, if◌then◌else◌}
use Rattle.jc_test_told.specs.declared.machines.TheConstants.{ONE, OTHER, LOST, LIST}

-- by the first letter of a name
abbrev pub told_of_machines : List ℕ → Option (List ℕ)
told_of_machines [] = None
told_of_machines (letter ∷ rest) =
    if letter == 49 then Some ONE.now
    else (if letter == 50 then Some OTHER.now
    else (if letter == 51 then Some LOST.now
    else (if letter == 108 then Some LIST.now else None)))
