-- The word at the place that was looked at is the option, or ends the options, or is passed over.
use Rattle.std.proofs.Common.{◌≡◌, ◌≢◌, ◌+◌, ◌<◌, ◌≤◌, ℕ, List, Some, IfSome, length, refl, rules, inr, string_bytes, codes, slice_get, below_more}
use Rattle.std.proofs.lemmas.Option.{slice_get_read}
use Rattle.jc_render.specs.Words.{IsClear}
use Rattle.jc_render.proofs.words.place_of_option.Goals as goal

module _ {W : Type 0} (text : W → List ℕ) (option : List ℕ) (words : List W) where
  clear_more : (at : ℕ) (word : W) → slice_get words at ≡ Some word → text word ≢ option → text word ≢ codes "--"
      → IsClear text option words at → IsClear text option words (at + 1)
  clear_more at word stands other goes_on clear =
      below_more (λ (k : ℕ). 1 ≤ k → IfSome (slice_get words k) (λ w. (text w ≢ option) × (text w ≢ codes "--"))) at clear
      (λ low. rw stands (other, goes_on))

pub returns-then-eq-clause-found : goal.returns-then-eq-clause-found
returns-then-eq-clause-found c =
    let inside : c.loop-at.at < length c.args.words.now = search rules in
    let stands = slice_get_read c.args.words.now (length c.args.words.now) c.loop-at.at c.index-words-at.result refl inside
    c.index-words-at.is in
    let same : string_bytes c.index-words-at.result ≡ c.args.option.now =
    search (rules, c.as_str-word.ensures.value, c.if-eq.ensures) in
    ((c.loop-at.invariant.0, rw stands same), c.loop-at.invariant.1)

pub loop-at-preserved : goal.loop-at-preserved
loop-at-preserved c =
    let inside : c.loop-at.at < length c.args.words.now = search rules in
    let stands = slice_get_read c.args.words.now (length c.args.words.now) c.loop-at.at c.index-words-at.result refl inside
    c.index-words-at.is in
    let other : string_bytes c.index-words-at.result ≢ c.args.option.now = search (rules, c.as_str-word.ensures.value, c.if-eq.ensures) in
    let goes_on : string_bytes c.index-words-at.result ≢ codes "--" = search (rules, c.as_str-word.ensures.value, c.if-eq-2.ensures) in (
      search rules,
      clear_more string_bytes c.args.option.now c.args.words.now c.loop-at.at c.index-words-at.result stands other goes_on
          c.loop-at.invariant.1,
    )

pub returns-then-eq-2-clause-missing : goal.returns-then-eq-2-clause-missing
returns-then-eq-2-clause-missing c =
    let inside : c.loop-at.at < length c.args.words.now = search rules in
    let stands = slice_get_read c.args.words.now (length c.args.words.now) c.loop-at.at c.index-words-at.result refl inside
    c.index-words-at.is in
    let same : string_bytes c.index-words-at.result ≡ codes "--" = search (rules, c.as_str-word.ensures.value, c.if-eq-2.ensures) in
    inr (c.loop-at.at, c.loop-at.invariant.1, c.loop-at.invariant.0, rw stands same)
