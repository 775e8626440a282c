-- What the split of a path at its last slash is.
use Rattle.std.proofs.Common.{◌≡◌, ◌+◌, ◌++◌, ◌∷◌, ℕ, List, Some, None, length, sym, ap, arith, take-append-drop, ◌∙◌}
use Rattle.std.specs.Prelude.{take, drop}
use Rattle.std.specs.Str.Pattern.{RFindsChar}
use Rattle.std.proofs.lemmas.List.{drop_more}
use Rattle.std.proofs.lemmas.Str.{len_utf8_ascii}
use Rattle.std.proofs.lemmas.Str.Pattern.{NoCharPasses-char}
use Rattle.jc_command_shared.specs.Folder.{HasNoSlash}

pub unsplit : (path : List ℕ) → RFindsChar 47 path None → HasNoSlash path
unsplit path none = λ at within. NoCharPasses-char 47 path at none (omega arith) within

pub split_at : (path folder name : List ℕ) (i j : ℕ) → RFindsChar 47 path (Some (i, j)) → folder ≡ take i path
    → name ≡ drop j path → length folder ≡ i → length name + j ≡ length path → (path ≡ folder ++ 47 ∷ name) × HasNoSlash name
split_at path folder name i j found before after long short = (
  whole,
  λ at within. NoCharPasses-char 47 name at (rw after found.0) (omega arith) within,
)
  where
    next : j ≡ i + 1
    next = omega (arith, found.1.ends, len_utf8_ascii 47 (omega arith))

    whole : path ≡ folder ++ 47 ∷ name
    whole =
        sym (take-append-drop i path)
        ∙ ap (λ l. take i path ++ l) (drop_more path i 0 (omega (arith, next, short)) ∙ ap (λ b. b ∷ drop (i + 1) path) (found.1.byte (omega arith)))
        ∙ (λ t. sym before t ++ 47 ∷ sym (after ∙ ap (λ n. drop n path) next) t)
