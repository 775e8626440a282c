-- A reading of which a source has given the first entries of a list.
use Rattle.std.proofs.Common.{◌≡◌, ◌++◌, ◌∷◌, [], List, Option, Some, None, Ok, sym, ap, subst, ◌∙◌, append_assoc}
use Rattle.std.specs.Prelude.{⊤}
use Rattle.std.proofs.lemmas.List.{append_cancel_left}
use Rattle.std.proofs.lemmas.Option.{none-some, same_Some}
use Rattle.jc_base.specs.LogEntry.{LogEntry}
use Rattle.jc_base.specs.Reading.{Reading}
use Rattle.jc_base.specs.Source.{Gives, GivesOf}
use Rattle.jc_base.specs.declared.source.Step.TheVariants.{Entry}
use Rattle.jc_world.specs.Given.{ReadsFront}

-- The same entries were given of a reading and taken from a list, and this reading and this list are left.
pub record HasGone (before : Reading) (entries : List LogEntry) (now : Reading) (rest : List LogEntry) : Type 0 where
  pub gone : List LogEntry
  pub given : before.entries ≡ gone ++ now.entries
  pub taken : entries ≡ gone ++ rest
  pub ending : now.ending ≡ before.ending

abbrev pub FollowsOn : Option Reading → List LogEntry → Option Reading → List LogEntry → Type 0
FollowsOn None entries now rest = ⊤
FollowsOn (Some before) entries None rest = ⊥
FollowsOn (Some before) entries (Some now) rest = HasGone before entries now rest

cancel_left : (gone xs ys : List LogEntry) → gone ++ xs ≡ gone ++ ys → xs ≡ ys
cancel_left gone xs ys e = append_cancel_left gone xs ys e

-- one entry more of both
pub follows_more : (before now next : Option Reading) (entries rest others : List LogEntry) (first e : LogEntry) → FollowsOn before entries now rest
    → Gives now next (Ok (Entry e)) → rest ≡ first ∷ others → first ≡ e → FollowsOn before entries next others
follows_more None now next entries rest others first e h g is same = tt
follows_more (Some before) None next entries rest others first e h g is same = absurd h
follows_more (Some before) (Some now) None entries rest others first e h g is same = absurd g
follows_more (Some before) (Some now) (Some next) entries rest others first e h g is same = record {
  gone = h.gone ++ e ∷ [];
  given = h.given ∙ ap (λ (es : List LogEntry). h.gone ++ es) g.0 ∙ sym (append_assoc h.gone (e ∷ []) next.entries);
  taken = h.taken ∙ ap (λ (es : List LogEntry). h.gone ++ es) (is ∙ ap (λ (f : LogEntry). f ∷ others) same)
      ∙ sym (append_assoc h.gone (e ∷ []) others);
  ending = g.1 ∙ h.ending;
}

heads : (x y : LogEntry) (xs ys : List LogEntry) → x ∷ xs ≡ y ∷ ys → x ≡ y
heads x y xs ys e = cc

-- another entry than the list's next one
differ : (before now next : Reading) (entries rest others : List LogEntry) (first e : LogEntry) → HasGone before entries now rest
    → GivesOf now next (Ok (Entry e)) → rest ≡ first ∷ others → ¬ (first ≡ e) → ¬ ReadsFront entries before
differ before now next entries rest others first e h g is apart reads =
    let whole : h.gone ++ (e ∷ (next.entries ++ reads.front.more)) ≡ h.gone ++ (first ∷ others) =
    sym (append_assoc h.gone (e ∷ next.entries) reads.front.more)
    ∙ ap (λ (es : List LogEntry). h.gone ++ es ++ reads.front.more) (sym g.0)
    ∙ ap (λ (es : List LogEntry). es ++ reads.front.more) (sym h.given)
    ∙ sym reads.front.whole ∙ h.taken ∙ ap (λ (es : List LogEntry). h.gone ++ es) is in
    apart (sym (heads e first (next.entries ++ reads.front.more) others
    (cancel_left h.gone (e ∷ (next.entries ++ reads.front.more)) (first ∷ others) whole)))

pub differs : (before now next : Option Reading) (entries rest others : List LogEntry) (first e : LogEntry) → FollowsOn before entries now rest
    → Gives now next (Ok (Entry e)) → rest ≡ first ∷ others → ¬ (first ≡ e)
    → (reading : Reading) → before ≡ Some reading → ¬ ReadsFront entries reading
differs None now next entries rest others first e h g is apart reading known = absurd (none-some reading known)
differs (Some before) None next entries rest others first e h g is apart reading known = absurd h
differs (Some before) (Some now) None entries rest others first e h g is apart reading known = absurd g
differs (Some before) (Some now) (Some next) entries rest others first e h g is apart reading known =
    let all : ¬ ReadsFront entries before = differ before now next entries rest others first e h g is apart in
    subst (λ (r : Reading). ¬ ReadsFront entries r) (same_Some before reading known) all
