-- A text that isn't told yet is told behind the others.
use Rattle.std.proofs.Common.{◌≡◌, ◌∙◌, ◌++◌, ◌∷◌, ◌||◌, [], ℕ, false, List, refl, ap, sym, map, string_bytes}
use Rattle.std.specs.Prelude.{bytes_eq}
use Rattle.std.specs.List.{list_any}
use Rattle.std.proofs.lemmas.List.{map-append}
use Rattle.jc_command_args.specs.declared.codes.TheConstants.{CODES}
use Rattle.jc_render.specs.Explanations.{more, Explains, told_line}
use Rattle.jc_render.proofs.explain.add_line.Goals as goal

any_of_map : {X : Type 0} (v : X → List ℕ) (xs : List X) (text : List ℕ) → list_any (λ t. bytes_eq t text) (map v xs) ≡ list_any (λ x. bytes_eq (v x) text) xs
any_of_map v [] text = refl
any_of_map v (x ∷ xs) text = ap (λ b. bytes_eq (v x) text || b) (any_of_map v xs text)

pub returns-clause-added : goal.returns-clause-added
returns-clause-added c = λ given inside so_far.
    let says : Explains c.args.subject.now CODES.now c.args.trouble.now (string_bytes c.in-Some.text) =
    rw c.in-Some.is at c.in_ok-text.ensures in
    let none : list_any (λ y. bytes_eq (string_bytes y) (string_bytes c.in-Some.text)) c.args.told.now.items ≡ false =
    rw c.deref.ensures.value at (sym c.contains.ensures.value ∙ c.if-contains.false) in
    let texts : map string_bytes c.push.new.self.items ≡ map string_bytes c.args.told.now.items ++ string_bytes c.in-Some.text ∷ [] =
    ap (λ xs. map string_bytes xs) c.in_ok-push.ensures.items ∙ map-append string_bytes c.args.told.now.items (c.in-Some.text ∷ []) in
    let lines : string_bytes c.push_str.new.self ≡ string_bytes c.args.lines.now ++ told_line (string_bytes c.in-Some.text) =
    c.in_ok-push_str.ensures.bytes ∙ ap (λ zs. string_bytes c.args.lines.now ++ zs) (c.as_str.ensures.value ∙ c.in_ok-line.ensures.ok) in
    rw texts (rw lines (more (map string_bytes c.args.told.now.items) (string_bytes c.args.lines.now) c.args.trouble.now (string_bytes c.in-Some.text)
    so_far inside says (any_of_map string_bytes c.args.told.now.items (string_bytes c.in-Some.text) ∙ none)))
