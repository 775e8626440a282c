-- What is told of files with uploads, of one with a stream, and of one with a resume text. (own)
use Rattle.std.specs.Prelude.{◌==◌, ℕ, List, [], ◌∷◌, Option, Some, None, if◌then◌else◌}
use Rattle.jc_test_told.specs.declared.samples.TheConstants.{FIRST, SECOND, CUT, CHANGED, STREAM, RESUME}

-- by the first letter of a name
abbrev pub told_by_letter : List ℕ → Option (List ℕ)
told_by_letter [] = None
told_by_letter (letter ∷ rest) =
    if letter == 97 then Some FIRST.now
    else (if letter == 98 then Some SECOND.now
    else (if letter == 99 then Some CUT.now
    else (if letter == 100 then Some CHANGED.now
    else (if letter == 101 then Some STREAM.now
    else (if letter == 102 then Some RESUME.now else None)))))
