-- The names in a text, and what stands behind a tab.
use Rattle.std.proofs.Common.{◌≡◌, ◌∙◌, ◌==◌, ◌<◌, ◌-◌, ◌+◌, ◌⊎◌, inl, inr, ⊎_elim, ℕ, zero, suc, Bool, true, false, List, [], ◌∷◌, ◌++◌, Option, Some, None, length, map, take, refl, sym, ap, subst, arith}
use Rattle.std.specs.Prelude.{IfSome, IsSome, unwrap_or, if◌then◌else◌}
use Rattle.std.specs.Option.{option_to_list}
use Rattle.std.specs.List.{slice_get, slice_index_or}
use Rattle.std.specs.Io.BufRead.{DropsThrough, drop_through, take_through}
use Rattle.std.proofs.lemmas.List.{length-append}
use Rattle.jc_collect.proofs.Lists.{take_more}
use Rattle.jc_command_shared.specs.Lines.{with_byte}
use Rattle.jc_collector_answers.specs.Collected.{LosesName, after_tab, names_in, upload_in}
use Rattle.jc_collector_answers.specs.Named.{HasNoTab, HasParts}
use Rattle.jc_collector_answers.specs.declared.name_lines.NameLines.{NameLines}
use Rattle.jc_collector_answers.specs.declared.name_lines.NameLines.TheVariants.{Uploads, MachinesAndUploads}

-- ---- the first name of a text

-- a text up to its first newline
front : List ℕ → List ℕ
front [] = []
front (b ∷ text) = if b == 10 then [] else b ∷ front text

names_first : (b : ℕ) (text : List ℕ) → names_in (b ∷ text) ≡ front (b ∷ text) ∷ names_in (drop_through 10 (b ∷ text))
unfolding names_in front
names_first b [] = go (b == 10) refl
  where
    go : (is : Bool) → b == 10 ≡ is → names_in (b ∷ []) ≡ front (b ∷ []) ∷ names_in (drop_through 10 (b ∷ []))
    go true e = rw e refl
    go false e = rw e refl
names_first b (c ∷ text) = go (b == 10) refl (names_first c text)
  where
    go : (is : Bool) → b == 10 ≡ is → names_in (c ∷ text) ≡ front (c ∷ text) ∷ names_in (drop_through 10 (c ∷ text))
        → names_in (b ∷ c ∷ text) ≡ front (b ∷ c ∷ text) ∷ names_in (drop_through 10 (b ∷ c ∷ text))
    go true e rest = rw e refl
    go false e rest = rw e (ap (λ (ns : List (List ℕ)). with_byte b ns) rest)

is_newline : (b : ℕ) → b == 10 ≡ true → b ≡ 10
is_newline b is = grind (arith)

no_newline : (b : ℕ) → b == 10 ≡ false → b ≡ 10 → ⊥
no_newline b is same = grind (arith)

-- with its newline, or at the end without one
through : (text : List ℕ) → (take_through 10 text ≡ front text ++ 10 ∷ []) ⊎ (take_through 10 text ≡ front text)
unfolding front
through [] = inr refl
through (b ∷ text) = go (b == 10) refl (through text)
  where
    go : (is : Bool) → b == 10 ≡ is → (take_through 10 text ≡ front text ++ 10 ∷ []) ⊎ (take_through 10 text ≡ front text)
        → (take_through 10 (b ∷ text) ≡ front (b ∷ text) ++ 10 ∷ []) ⊎ (take_through 10 (b ∷ text) ≡ front (b ∷ text))
    go true e rest = inl (rw e (ap (λ (n : ℕ). n ∷ []) (is_newline b e)))
    go false e (inl with) = inl (rw e (ap (λ (l : List ℕ). b ∷ l) with))
    go false e (inr without) = inr (rw e (ap (λ (l : List ℕ). b ∷ l) without))

front_has_none : (text : List ℕ) (n : ℕ) → slice_get (front text) n ≡ Some 10 → ⊥
unfolding front
front_has_none [] n = λ h. absurd cc
front_has_none (b ∷ text) n = go (b == 10) refl n (λ m. front_has_none text m)
  where
    go : (is : Bool) → b == 10 ≡ is → (n : ℕ) → ((m : ℕ) → slice_get (front text) m ≡ Some 10 → ⊥) → slice_get (front (b ∷ text)) n ≡ Some 10 → ⊥
    go true e n rest = rw e (λ h. absurd cc)
    go false e zero rest = rw e (λ h. no_newline b e (cc h))
    go false e (suc n) rest = rw e (λ h. rest n h)

last_at : (xs : List ℕ) (n : ℕ) → n ≡ length xs → slice_get (xs ++ 10 ∷ []) n ≡ Some 10
last_at [] zero e = refl
last_at [] (suc n) e = absurd (omega (arith, e))
last_at (x ∷ xs) zero e = absurd (omega (arith, e))
last_at (x ∷ xs) (suc n) e = last_at xs n (omega (arith, e))

same_front : (xs ys : List ℕ) (x y : ℕ) → xs ++ x ∷ [] ≡ ys ++ y ∷ [] → xs ≡ ys
same_front [] [] x y e = refl
same_front [] (z ∷ ys) x y e = absurd (longer (length-append ys (y ∷ [])) (cc e))
  where
    longer : length (ys ++ y ∷ []) ≡ length ys + 1 → [] ≡ ys ++ y ∷ [] → ⊥
    longer one none = let zero_long : 0 ≡ length (ys ++ y ∷ []) = ap (λ (l : List ℕ). length l) none in omega (arith, one, zero_long)
same_front (z ∷ xs) [] x y e = absurd (longer (length-append xs (x ∷ [])) (cc e))
  where
    longer : length (xs ++ x ∷ []) ≡ length xs + 1 → xs ++ x ∷ [] ≡ [] → ⊥
    longer one none = let zero_long : length (xs ++ x ∷ []) ≡ 0 = ap (λ (l : List ℕ). length l) none in omega (arith, one, zero_long)
same_front (z ∷ xs) (w ∷ ys) x y e =
    let first : z ≡ w = cc e in
    let rest : xs ++ x ∷ [] ≡ ys ++ y ∷ [] = cc e in
    ap (λ (n : ℕ). n ∷ xs) first ∙ ap (λ (l : List ℕ). w ∷ l) (same_front xs ys x y rest)

module _ (text name items : List ℕ) (read : items ≡ take_through 10 text) where
  -- its newline is taken away
  front_ended : (last : ℕ) → items ≡ name ++ last ∷ [] → slice_get items (length items - 1) ≡ Some 10 → name ≡ front text
  front_ended last was ends =
      ⊎_elim (λ with. same_front name (front text) last 10 (sym was ∙ read ∙ with))
      (λ without. absurd (front_has_none text (length items - 1) (ap (λ (l : List ℕ). slice_get l (length items - 1)) (sym without ∙ sym read) ∙ ends)))
      (through text)

  -- or it had none
  front_open : items ≡ name → (slice_get items (length items - 1) ≡ Some 10 → ⊥) → name ≡ front text
  front_open was none =
      ⊎_elim (λ with. absurd (none (has (read ∙ with)))) (λ without. sym was ∙ read ∙ without) (through text)
    where
      has : items ≡ front text ++ 10 ∷ [] → slice_get items (length items - 1) ≡ Some 10
      has is =
          let long : length items ≡ length (front text) + 1 = ap (λ (l : List ℕ). length l) is ∙ length-append (front text) (10 ∷ []) in
          ap (λ (l : List ℕ). slice_get l (length items - 1)) is ∙ last_at (front text) (length items - 1) (omega (arith, long))

loses_front : (old new : Option (List ℕ)) (name : List ℕ) → DropsThrough old new 10 → IfSome old (λ text. 0 < length (take_through 10 text))
    → IfSome old (λ text. name ≡ front text) → LosesName name old new
loses_front None new name drops some is = tt
loses_front (Some []) new name drops some is = absurd (omega (arith, some))
loses_front (Some (b ∷ text)) new name drops some is =
    subst (λ (o : Option (List ℕ)). LosesName name (Some (b ∷ text)) o) (sym drops)
    (names_first b text ∙ ap (λ (l : List ℕ). l ∷ names_in (drop_through 10 (b ∷ text))) (sym is))

pub loses_ended : (old new : Option (List ℕ)) (before items name : List ℕ) (last : ℕ) → DropsThrough old new 10
    → IfSome old (λ text. 0 < length (take_through 10 text)) → before ≡ [] → IfSome old (λ text. items ≡ before ++ take_through 10 text)
    → items ≡ name ++ last ∷ [] → slice_get items (length items - 1) ≡ Some 10 → LosesName name old new
loses_ended None new before items name last drops some clear read was ends = tt
loses_ended (Some text) new before items name last drops some clear read was ends =
    loses_front (Some text) new name drops some
    (front_ended text name items (read ∙ ap (λ (l : List ℕ). l ++ take_through 10 text) clear) last was ends)

none_is : IsSome {T = ℕ} None → ⊥
none_is h = cc

pub loses_popped : (old new : Option (List ℕ)) (before items name : List ℕ) (popped : Option ℕ) → DropsThrough old new 10
    → IfSome old (λ text. 0 < length (take_through 10 text)) → before ≡ [] → IfSome old (λ text. items ≡ before ++ take_through 10 text)
    → items ≡ name ++ option_to_list popped → (0 < length items → IsSome popped) → slice_get items (length items - 1) ≡ Some 10 → LosesName name old new
loses_popped old new before [] name popped drops some clear read was pops ends = absurd cc
loses_popped old new before (b ∷ items) name None drops some clear read was pops ends = absurd (none_is (pops (omega arith)))
loses_popped old new before (b ∷ items) name (Some last) drops some clear read was pops ends =
    loses_ended old new before (b ∷ items) name last drops some clear read was ends

pub loses_open : (old new : Option (List ℕ)) (before items : List ℕ) → DropsThrough old new 10
    → IfSome old (λ text. 0 < length (take_through 10 text)) → before ≡ [] → IfSome old (λ text. items ≡ before ++ take_through 10 text)
    → (slice_get items (length items - 1) ≡ Some 10 → ⊥) → LosesName items old new
loses_open None new before items drops some clear read none = tt
loses_open (Some text) new before items drops some clear read none =
    loses_front (Some text) new items drops some
    (front_open text items items (read ∙ ap (λ (l : List ℕ). l ++ take_through 10 text) clear) refl none)

-- ---- the upload in a line

is_tab : (b : ℕ) → b == 9 ≡ true → b ≡ 9
is_tab b is = grind (arith)

no_tab : (line : List ℕ) → HasNoTab line → after_tab line ≡ None
no_tab [] none = refl
no_tab (b ∷ line) none = go (b == 9) refl (no_tab line (λ k d below. none (suc k) d (omega (arith, below))))
  where
    go : (is : Bool) → b == 9 ≡ is → after_tab line ≡ None → after_tab (b ∷ line) ≡ None
    go true e rest = absurd (none 0 b (omega arith) (is_tab b e))
    go false e rest = rw e rest

behind_tab : (machine upload : List ℕ) → HasNoTab machine → after_tab (machine ++ 9 ∷ upload) ≡ Some upload
behind_tab [] upload none = refl
behind_tab (b ∷ machine) upload none = go (b == 9) refl (behind_tab machine upload (λ k d below. none (suc k) d (omega (arith, below))))
  where
    go : (is : Bool) → b == 9 ≡ is → after_tab (machine ++ 9 ∷ upload) ≡ Some upload → after_tab (b ∷ (machine ++ 9 ∷ upload)) ≡ Some upload
    go true e rest = absurd (none 0 b (omega arith) (is_tab b e))
    go false e rest = rw e rest

pub upload_is : (lines : NameLines) (line : List ℕ) (machine : Option (List ℕ)) (upload : List ℕ) → HasParts lines line machine upload → upload ≡ upload_in lines line
upload_is Uploads line None upload has = has
upload_is Uploads line (Some machine) upload has = absurd has
upload_is MachinesAndUploads line None upload (is, none) = is ∙ sym (ap (λ (o : Option (List ℕ)). unwrap_or o line) (no_tab line none))
upload_is MachinesAndUploads line (Some machine) upload (is, none) =
    sym (ap (λ (o : Option (List ℕ)). unwrap_or o line) (ap after_tab is ∙ behind_tab machine upload none))

-- ---- uploads in files with these paths

module _ {U P : Type 0} (known : U → Option (List ℕ)) (told : P → Option (List ℕ)) (upload : U) where
  map_one : (us : List U) → map known (us ++ upload ∷ []) ≡ map known us ++ known upload ∷ []
  map_one [] = refl
  map_one (u ∷ us) = ap (λ (ks : List (Option (List ℕ))). known u ∷ ks) (map_one us)

  get_told : (ps : List P) (n : ℕ) (d : P) → n < length ps → slice_get (map told ps) n ≡ Some (told (slice_index_or ps n d))
  get_told [] n d within = absurd (omega (arith, within))
  get_told (p ∷ ps) zero d within = refl
  get_told (p ∷ ps) (suc n) d within = get_told ps n d (omega (arith, within))

  pub known_more : (uploads : List U) (paths : List P) (i : ℕ) (d : P) → i < length paths → map known uploads ≡ take i (map told paths)
      → known upload ≡ told (slice_index_or paths i d) → map known (uploads ++ upload ∷ []) ≡ take (i + 1) (map told paths)
  known_more uploads paths i d within so_far is =
      map_one uploads ∙ ap (λ (ks : List (Option (List ℕ))). ks ++ known upload ∷ []) so_far
      ∙ ap (λ (k : Option (List ℕ)). take i (map told paths) ++ k ∷ []) is
      ∙ sym (take_more (map told paths) i (told (slice_index_or paths i d)) (get_told paths i d within))
