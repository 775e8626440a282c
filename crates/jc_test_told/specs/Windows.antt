-- What is told of the files in a folder of notes. (own)
use Rattle.std.specs.Prelude.{ℕ, List, Option, Some, None, bytes_eq, codes, if◌then◌else◌}
use Rattle.jc_test_told.specs.declared.windows.TheConstants.{FIRST, FIFTH, OWNER}

-- by the path of a window's file
abbrev pub told_of_windows : List ℕ → Option (List ℕ)
told_of_windows path =
    if bytes_eq path (codes "n/000102030405060708090a0b0c0d0e0f/0") then Some FIRST.now
    else (if bytes_eq path (codes "n/000102030405060708090a0b0c0d0e0f/5") then Some FIFTH.now
    else (if bytes_eq path (codes "n/000102030405060708090a0b0c0d0e0f/2251799813685248") then Some OWNER.now else None))
