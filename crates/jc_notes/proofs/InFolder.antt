-- Files in a folder.
use Rattle.std.proofs.Common.{◌≡◌, ◌∙◌, ◌++◌, ◌∷◌, ℕ, List, Option, ap, append_assoc, codes, inl, inr}
use Rattle.jc_command_shared.specs.DeedLaws.{changes_more}
use Rattle.jc_command_shared.specs.Deeds.{ChangesOnly, Deed, IsReplaced}
use Rattle.jc_notes.specs.Changed.{IsInFolder}

in_folder : (folder name path at : List ℕ) → path ≡ folder ++ 47 ∷ name → IsReplaced path at → IsInFolder folder at
in_folder folder name path at is (inl same) = (name, same ∙ is)
in_folder folder name path at is (inr same) =
    (name ++ codes ".new", same ∙ ap (λ (l : List ℕ). l ++ codes ".new") is ∙ append_assoc folder (47 ∷ name) (codes ".new"))

-- a file in it and the one beside that
pub within : (folder name path : List ℕ) {old new : Option (List Deed)} → path ≡ folder ++ 47 ∷ name → ChangesOnly (IsReplaced path) old new
    → ChangesOnly (IsInFolder folder) old new
within folder name path is changed = changes_more (λ at it. in_folder folder name path at is it) changed
