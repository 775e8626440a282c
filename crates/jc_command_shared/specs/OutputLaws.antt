-- Texts that go out to a writer.
use Rattle.std.proofs.Common.{◌∙◌, ℕ, List, Option, Some, None}
use Rattle.std.specs.Io.KnownBytes.{Appends, Keeps}

-- a text, and then nothing
pub Appends-kept : (before was now : Option (List ℕ)) (text : List ℕ) → Appends before was text → Keeps was now → Appends before now text
Appends-kept None was now text gained keeps = tt
Appends-kept (Some b) None now text gained keeps = absurd gained
Appends-kept (Some b) (Some x) None text gained keeps = absurd keeps
Appends-kept (Some b) (Some x) (Some y) text gained keeps = keeps ∙ gained
