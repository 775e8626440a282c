-- What stands behind the first place of a text is one text.
use Rattle.std.proofs.Common.{◌≡◌, ◌≢◌, ◌∙◌, ◌+◌, ◌++◌, ◌∷◌, ℕ, List, Option, Some, None, Bor, length, take, drop, ap, sym, subst, arith, inl, inr, codes, lit<, length-append}
use Rattle.std.specs.Prelude.{MatchOption, decimal}
use Rattle.std.specs.Str.{trim}
use Rattle.std.specs.Str.Pattern.{FindsText}
use Rattle.std.proofs.Math.Seq.{drop-append_seam}
use Rattle.std.proofs.lemmas.Bool.{cases_order}
use Rattle.std.proofs.lemmas.List.{append_cancel_left, take-append-drop}
use Rattle.std.proofs.lemmas.Str.Pattern.{IsSplitOnceResult, split_after}
use Rattle.jc_codes.specs.Rows.{IsBelow, IsRow, SaysRow, at_once, below}
use Rattle.jc_codes.specs.declared.table.Coded.{Coded}

module _ (begin text : List ℕ) where
  at_place : (before rest : List ℕ) → text ≡ before ++ 10 ∷ (begin ++ rest) → drop (length before) text ≡ 10 ∷ (begin ++ rest)
  at_place before rest there = ap (λ zs. drop (length before) zs) there ∙ drop-append_seam before (10 ∷ (begin ++ rest))

  -- the first line that begins so has one rest
  pub one_rest : (rest other : List ℕ) → IsBelow begin text rest → IsBelow begin text other → rest ≡ other
  one_rest rest other a b =
      let here : drop (length a.before) text ≡ 10 ∷ (begin ++ rest) = at_place a.before rest a.there in
      let there : drop (length b.before) text ≡ 10 ∷ (begin ++ other) = at_place b.before other b.there in
      elim (cases_order (length a.before) (length b.before)) [
        | inl same ↦ append_cancel_left (10 ∷ begin) rest other (sym here ∙ (ap (λ n. drop n text) same ∙ there))
        | inr order ↦ elim order [
          | inl earlier ↦ absurd (b.first (length a.before) rest earlier here)
          | inr later ↦ absurd (a.first (length b.before) other later there)
        ]
      ]

  -- the first place that is found is that of the first line
  pub found_below : (i j : ℕ) (front rest : List ℕ) → FindsText (10 ∷ begin) text (Some (i, j)) → front ≡ take i text → rest ≡ drop j text
      → length front ≡ i → IsBelow begin text rest
  found_below i j front rest finds before behind long =
      let size : length (take i text) ≡ i = sym (ap length before) ∙ long in
      record {
        before = take i text;
        there = sym (take-append-drop i text) ∙ ap (λ zs. take i text ++ zs) (finds.1.split ∙ ap (λ zs. (10 ∷ begin) ++ zs) (sym behind));
        first = λ at other inside. finds.0 at (omega arith) other;
      }

  pub none_below : FindsText (10 ∷ begin) text None → (rest : List ℕ) → ¬ IsBelow begin text rest
  none_below lacks rest is =
      let long : length text ≡ length is.before + length (10 ∷ (begin ++ rest)) =
      ap length is.there ∙ length-append is.before (10 ∷ (begin ++ rest)) in
      lacks (length is.before) (omega arith) rest (at_place is.before rest is.there)

  -- a row, or none, of the line that was found
  pub row_there : (o : Option Coded) (rest : List ℕ) → IsBelow begin text rest → MatchOption o ((row : Coded) → ¬ SaysRow rest row) (SaysRow rest)
      → MatchOption o ((other : List ℕ) (row : Coded) → IsBelow begin text other → ¬ SaysRow other row)
      (λ row. (behind : List ℕ) × IsBelow begin text behind × SaysRow behind row)
  row_there None rest there none = λ other row is says. none row (subst (λ (r : List ℕ). SaysRow r row) (one_rest other rest is there) says)
  row_there (Some row) rest there says = (rest, there, says)

module _ (code : ℕ) (table : List ℕ) where
  -- the table begins with the number
  pub row_at_once : (o : Option Coded) (rest : List ℕ) → table ≡ (decimal code ++ codes " ") ++ rest
      → MatchOption o ((row : Coded) → ¬ SaysRow rest row) (SaysRow rest) → MatchOption o ((row : Coded) → ¬ IsRow code table row) (IsRow code table)
  row_at_once None rest whole none = λ row is.
      elim is.begins [
        | at_once again ↦
            let same : is.rest ≡ rest = append_cancel_left (decimal code ++ codes " ") is.rest rest (sym again ∙ whole) in
            none row (subst (λ (r : List ℕ). SaysRow r row) same is.says)
        | below lacks there ↦ lacks rest whole
      ]
  row_at_once (Some row) rest whole says = record { rest = rest; begins = at_once whole; says = says }

  -- it doesn't
  pub row_below : (o : Option Coded) → ((other : List ℕ) → table ≢ (decimal code ++ codes " ") ++ other)
      → MatchOption o ((rest : List ℕ) (row : Coded) → IsBelow (decimal code ++ codes " ") table rest → ¬ SaysRow rest row)
      (λ row. (rest : List ℕ) × IsBelow (decimal code ++ codes " ") table rest × SaysRow rest row)
      → MatchOption o ((row : Coded) → ¬ IsRow code table row) (IsRow code table)
  row_below None lacks none = λ row is. elim is.begins [ at_once whole ↦ lacks is.rest whole | below _ there ↦ none is.rest row there is.says ]
  row_below (Some row) lacks (rest, there, says) = record { rest = rest; begins = below lacks there; says = says }

module _ (rest : List ℕ) where
  pub no_line : IsSplitOnceResult 10 rest None → (row : Coded) → ¬ SaysRow rest row
  no_line none row says = split_after 10 rest says.line (says.advice ++ 10 ∷ says.after) None none (lit< tt) says.lines says.line_ends

  module _ (line behind : Bor (List ℕ)) (first : IsSplitOnceResult 10 rest (Some (line, behind))) where
    pub no_name : IsSplitOnceResult 32 (trim line.now) None → (row : Coded) → ¬ SaysRow rest row
    no_name none row says =
        let same = split_after 10 rest says.line (says.advice ++ 10 ∷ says.after) (Some (line, behind)) first (lit< tt) says.lines says.line_ends in
        split_after 32 (trim line.now) row.name.now says.meaning None none (lit< tt) (ap trim same.0 ∙ says.words) says.name_ends

    pub no_advice : IsSplitOnceResult 10 behind.now None → (row : Coded) → ¬ SaysRow rest row
    no_advice none row says =
        let same = split_after 10 rest says.line (says.advice ++ 10 ∷ says.after) (Some (line, behind)) first (lit< tt) says.lines says.line_ends in
        split_after 10 behind.now says.advice says.after None none (lit< tt) same.1 says.advice_ends
