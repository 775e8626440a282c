-- What is said of a result by what is said of another one.
use Rattle.std.proofs.Common.{◌≡◌, ◌⊎◌, inl, inr, None, Ok, Err, Option, Result, Some, refl, subst, sym}
use Rattle.std.specs.Prelude.{IfOk, IfErr, IfSome, IsSomeAnd, MatchResult, OnOk}
use Rattle.std.specs.Result.{result_ok}
use Rattle.jc_keeper.specs.declared.keeper.KeepStop.{KeepStop}
use Rattle.jc_collector.specs.declared.into_union.opening.OpenStop.{OpenStop}
use Rattle.jc_collector.specs.declared.into_union.opening.OpenStop.TheVariants.{Stopped}

pub IfOk-each : {T E : Type 0} (r : Result T E) (P Q : T → Type 0) → ((x : T) → P x → Q x) → IfOk r P → IfOk r Q
IfOk-each (Ok x) P Q each p = each x p
IfOk-each (Err e) P Q each p = tt

pub IfOk-both : {T E : Type 0} (r : Result T E) (P Q R : T → Type 0) → ((x : T) → P x → Q x → R x) → IfOk r P → IfOk r Q → IfOk r R
IfOk-both (Ok x) P Q R both p q = both x p q
IfOk-both (Err e) P Q R both p q = tt

pub IfOk-three : {T E : Type 0} (r : Result T E) (P Q R Z : T → Type 0) → ((x : T) → P x → Q x → R x → Z x) → IfOk r P → IfOk r Q → IfOk r R → IfOk r Z
IfOk-three (Ok x) P Q R Z all p q s = all x p q s
IfOk-three (Err e) P Q R Z all p q s = tt

pub IfOk-four : {T E : Type 0} (r : Result T E) (P Q R S Z : T → Type 0) → ((x : T) → P x → Q x → R x → S x → Z x) → IfOk r P → IfOk r Q → IfOk r R → IfOk r S → IfOk r Z
IfOk-four (Ok x) P Q R S Z all p q r s = all x p q r s
IfOk-four (Err e) P Q R S Z all p q r s = tt

pub IfErr-each : {T E : Type 0} (r : Result T E) (P Q : E → Type 0) → ((e : E) → P e → Q e) → IfErr r P → IfErr r Q
IfErr-each (Ok x) P Q each p = tt
IfErr-each (Err e) P Q each p = each e p

pub IfErr-both : {T E : Type 0} (r : Result T E) (P Q R : E → Type 0) → ((e : E) → P e → Q e → R e) → IfErr r P → IfErr r Q → IfErr r R
IfErr-both (Ok x) P Q R both p q = tt
IfErr-both (Err e) P Q R both p q = both e p q

pub at_err : {T E : Type 0} (r : Result T E) (e : E) (P : E → Type 0) → r ≡ Err e → IfErr r P → P e
at_err r e P is p = subst (λ d. IfErr d P) is p

-- a value that is another result's
pub value_of_other : {C T E F : Type 0} (r : Result C F) (done : Result T E) (value : C → T) (P : T → Type 0)
    → IfOk r (λ c. done ≡ Ok (value c)) → IfOk done P → IfOk r (λ c. P (value c))
value_of_other (Ok c) done value P is p = subst (λ d. IfOk d P) is p
value_of_other (Err e) done value P is p = tt

-- a failure that is another result's, or one of these
pub failure_of_other : {C T E : Type 0} (r : Result C E) (done : Result T E) (More P : E → Type 0)
    → IfErr r (λ e. (done ≡ Err e) ⊎ More e) → IfErr done P → ((e : E) → More e → P e) → IfErr r P
failure_of_other (Ok c) done More P why p more = tt
failure_of_other (Err e) done More P (inl is) p more = subst (λ d. IfErr d P) is p
failure_of_other (Err e) done More P (inr its) p more = more e its

-- the same where it is kept with more
pub failure_in_other : {C T E F : Type 0} (r : Result C F) (done : Result T E) (failure : F → E) (More P : E → Type 0)
    → IfErr r (λ f. (done ≡ Err (failure f)) ⊎ More (failure f)) → IfErr done P → ((e : E) → More e → P e) → IfErr r (λ f. P (failure f))
failure_in_other (Ok c) done failure More P why p more = tt
failure_in_other (Err f) done failure More P (inl is) p more = subst (λ d. IfErr d P) is p
failure_in_other (Err f) done failure More P (inr its) p more = more (failure f) its

-- what follows of a value that there is
pub some_each : {X : Type 0} (o : Option X) (P Q : X → Type 0) → IsSomeAnd o P → ((x : X) → P x → Q x) → IsSomeAnd o Q
some_each None P Q some each = some
some_each (Some x) P Q some each = each x some

pub on_ok : {T E : Type 0} (r : Result T E) (x : T) (P : Type 0) → r ≡ Ok x → OnOk r P → P
on_ok r x P is p = subst (λ d. OnOk d P) is p

pub if_some : {X : Type 0} (o : Option X) (P : X → Type 0) → ((x : X) → o ≡ Some x → P x) → IfSome o P
if_some None P each = tt
if_some (Some x) P each = each x refl

-- what holds if a value is given, by what follows from that
pub on_ok_if : {T E : Type 0} (r : Result T E) (Z : Type 0) → ((x : T) → ((P : Type 0) → OnOk r P → P) → Z) → OnOk r Z
on_ok_if (Ok x) Z each = each x (λ P p. p)
on_ok_if (Err e) Z each = tt

pub at_ok : {T E : Type 0} (r : Result T E) (x : T) (P : T → Type 0) → r ≡ Ok x → IfOk r P → P x
at_ok r x P is p = subst (λ d. IfOk d P) is p

pub on_any : {T E : Type 0} (r : Result T E) (P : Type 0) → P → OnOk r P
on_any (Ok x) P p = p
on_any (Err e) P p = tt

pub if_some_each : {X : Type 0} (o : Option X) (P Q : X → Type 0) → ((x : X) → P x → Q x) → IfSome o P → IfSome o Q
if_some_each None P Q each p = tt
if_some_each (Some x) P Q each p = each x p

pub of_some : {T E : Type 0} (r : Result T E) (x : T) (P : T → Type 0) → Some x ≡ result_ok r → IfOk r P → P x
of_some (Ok y) x P is p = subst (λ (o : Option _). IfSome o P) (sym is) p
of_some (Err e) x P is p = cc

pub on_each : {T E : Type 0} (r : Result T E) (P : Type 0) (Q : Type 0) → OnOk r P → (P → OnOk r Q) → OnOk r Q
on_each (Ok x) P Q p each = each p
on_each (Err e) P Q p each = tt

pub ok_each : {T E : Type 0} (r : Result T E) (P : Type 0) (Q : T → Type 0) → OnOk r P → (P → IfOk r Q) → IfOk r Q
ok_each (Ok x) P Q p each = each p
ok_each (Err e) P Q p each = tt

-- what follows from what a success says as long as this holds
pub on_ok_while : {T E : Type 0} (r : Result T E) (While Kept : Type 0) (Why : E → Type 0) (Z : Type 0) → (While → MatchResult r (λ _. Kept) Why)
    → ((While → Kept) → Z) → OnOk r Z
on_ok_while (Ok x) While Kept Why Z holds each = each holds
on_ok_while (Err e) While Kept Why Z holds each = tt

pub if_err_of : {T E : Type 0} (r : Result T E) (P : T → Type 0) (Why : E → Type 0) → MatchResult r P Why → IfErr r Why
if_err_of (Ok x) P Why holds = tt
if_err_of (Err e) P Why holds = holds

-- if the text is there, and the union is opened, then both are sound
pub both_sound : {A B : Type 0} (text : Result A KeepStop) (opened : Result B OpenStop) (P Q Z : Type 0)
    → IfErr text (λ stop. opened ≡ Err (Stopped stop)) → OnOk text P → OnOk opened Q → (P → Q → Z) → OnOk opened Z
both_sound (Ok a) (Ok b) P Q Z is p q both = both p q
both_sound {B = B} (Err stop) (Ok b) P Q Z is p q both = absurd (let none : ⊥ = cc in none)
both_sound text (Err why) P Q Z is p q both = tt
