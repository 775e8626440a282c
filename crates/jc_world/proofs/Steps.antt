-- What calls on the parts of a world are as events.
use Rattle.std.proofs.Common.{◌≡◌, ℕ, ◌<◌, ◌≤◌, Bool, true, false, List, [], ◌∷◌, ◌++◌, Option, Some, None, Ok, length, get_or, map, set, take, refl, sym, ap, subst, ◌∙◌, inl, inr}
use Rattle.std.specs.List.{slice_get, Contains}
use Rattle.std.specs.Option.{option_map}
use Rattle.std.proofs.lemmas.List.{map-append, set-get_or}
use Rattle.std.proofs.lemmas.Option.{get_or_from_slice_get, none-some, same_Some, slice_get-map, slice_get_read}
use Rattle.jc_base.specs.Journal.{Journal}
use Rattle.jc_base.specs.declared.id.Id128.{Id128}
use Rattle.jc_base.specs.declared.limits.Limits.{Limits}
use Rattle.jc_upload.specs.declared.answer.Answer.{Answer}
use Rattle.jc_upload.specs.Head.{IsHead}
use Rattle.jc_upload.specs.Resume.{Point}
use Rattle.jc_upload.specs.Upload.{export_head, file_head, file_upload_of, next_upload2_of, next_upload_of, second_head, sent_of}
use Rattle.jc_world.specs.Event.{Collects, Delivers, DeliversAlien, Hands, IsAlien, Makes, Makes2, MakesFile, Restarts, named}
use Rattle.jc_world.specs.Given.{FileReadsFront, StandsAt}
use Rattle.jc_world.specs.Machine.{GoesBack, TakesAnswer}
use Rattle.jc_world.specs.Stepped.{IsAnswered, Never, Steps}
use Rattle.jc_world.specs.State.{MachineState, State, source_of, sources, with_machine, with_upload}
use Rattle.jc_world.proofs.Lists.{contains_get, contains_map}

-- ---- lists

set_same : {X : Type 0} (xs : List X) (i : ℕ) (x : X) → slice_get xs i ≡ Some x → set xs i x ≡ xs
set_same xs i x h = ap (set xs i) (sym (get_or_from_slice_get xs i x x h)) ∙ set-get_or xs i x

pub map_push : {X Y : Type 0} (f : X → Y) (xs news : List X) (x : X) (y : Y) → news ≡ xs ++ x ∷ [] → f x ≡ y → map f news ≡ map f xs ++ y ∷ []
map_push f xs news x y e h = ap (map f) e ∙ map-append f xs (x ∷ []) ∙ ap (λ z. map f xs ++ z ∷ []) h

pub map_none : {X Y : Type 0} (f : X → Y) (xs : List X) → xs ≡ [] → map f xs ≡ []
map_none f xs none = ap (map f) none

pub map_get : {X Y : Type 0} (f : X → Y) (xs : List X) (i : ℕ) (x : X) → slice_get xs i ≡ Some x → slice_get (map f xs) i ≡ Some (f x)
map_get f xs i x h = slice_get-map f xs i ∙ ap (option_map f) h

-- what `get` found in a list that is seen through a reference
pub got : {X : Type 0} (xs seen : List X) (i : ℕ) (x : X) → seen ≡ xs → i < length seen → x ≡ get_or seen i x → slice_get xs i ≡ Some x
got {X} xs seen i x same within is = ap (λ (l : List X). slice_get l i) (sym same) ∙ slice_get_read seen (length seen) i x refl within is

-- ---- states

pub same_upload : (s : State) (uploads : List (List ℕ)) (upload : List ℕ) → uploads ≡ s.uploads ++ upload ∷ [] → record s { uploads = uploads } ≡ with_upload s upload
same_upload s uploads upload e = ap (λ (us : List (List ℕ)). record s { uploads = us }) e

pub same_machines : (s : State) (m : ℕ) (machine : MachineState) → slice_get s.machines m ≡ Some machine → with_machine s m machine ≡ s
same_machines s m machine at = ap (λ (ms : List MachineState). record s { machines = ms }) (set_same s.machines m machine at)

-- ---- uploads

pub makes : (s t : State) (m limit : ℕ) (machine : MachineState) (upload : List ℕ) → slice_get s.machines m ≡ Some machine → IsHead (export_head machine.sender)
    → upload ≡ next_upload_of machine.sender machine.entries limit → t ≡ with_upload s upload → Makes s m limit t
makes s t m limit machine upload at head is after = record {
  machine = machine;
  at = at;
  head = head;
  after = after ∙ ap (with_upload s) is;
}

pub makes2 : (s t : State) (m limit : ℕ) (whole : Bool) (machine : MachineState) (upload : List ℕ) → slice_get s.machines m ≡ Some machine
    → IsHead (second_head machine.sender whole (length (sent_of machine.sender machine.entries limit)))
    → upload ≡ next_upload2_of machine.sender machine.entries limit whole → t ≡ with_upload s upload → Makes2 s m limit whole t
makes2 s t m limit whole machine upload at head is after = record {
  machine = machine;
  at = at;
  head = head;
  after = after ∙ ap (with_upload s) is;
}

pub makes_file : (limits : Limits) (s t : State) (m : ℕ) (file : List ℕ) (machine : MachineState) (upload : List ℕ) → slice_get s.machines m ≡ Some machine
    → FileReadsFront limits file machine.entries → IsHead (file_head machine.sender.source)
    → upload ≡ file_upload_of machine.sender.source file → t ≡ with_upload s upload → MakesFile limits s m file t
makes_file limits s t m file machine upload at reads head is after = record {
  machine = machine;
  at = at;
  reads = reads;
  head = head;
  after = after ∙ ap (with_upload s) is;
}

-- ---- deliveries

collected : (limits : Limits) (s t : State) (bytes : List ℕ) (answers : List Answer) (journal : Journal) → IsAnswered limits bytes s.journal s.answers answers journal
    → t ≡ record s { answers = answers; journal = journal } → Collects limits s bytes t
collected limits s t bytes answers journal h after = record {
  answer = h.answer;
  journal = journal;
  answers = h.answers;
  after = after ∙ ap (λ (all : List Answer). record s { answers = all; journal = journal }) h.last;
}

pub delivers : (limits : Limits) (s t : State) (i cut : ℕ) (upload : List ℕ) (answers : List Answer) (journal : Journal) → slice_get s.uploads i ≡ Some upload → cut ≤ length upload
    → IsAnswered limits (take cut upload) s.journal s.answers answers journal
    → t ≡ record s { answers = answers; journal = journal } → Delivers limits s i cut t
delivers limits s t i cut upload answers journal at within h after = record {
  upload = upload;
  at = at;
  within = within;
  collects = collected limits s t (take cut upload) answers journal h after;
}

pub delivers_alien : (limits : Limits) (s t : State) (bytes : List ℕ) (answers : List Answer) (journal : Journal) → IsAlien (sources s) bytes
    → IsAnswered limits bytes s.journal s.answers answers journal
    → t ≡ record s { answers = answers; journal = journal } → DeliversAlien limits s bytes t
delivers_alien limits s t bytes answers journal alien h after = record {
  alien = alien;
  collects = collected limits s t bytes answers journal h after;
}

-- ---- answers

pub hands : (E : Type 0) (s t : State) (j m : ℕ) (answer : Answer) (machine after : MachineState) (moved : Bool) → slice_get s.answers j ≡ Some answer → slice_get s.machines m ≡ Some machine
    → named answer ≡ Some (source_of machine) → TakesAnswer {E = E} machine answer (Ok moved) after → t ≡ with_machine s m after → Hands s j t
hands E s t j m answer machine after true given at own h is = record {
  answer = answer;
  given = given;
  m = m;
  machine = machine;
  at = at;
  own = own;
  after = inl (h.0, is ∙ ap (with_machine s m) h.1);
}
hands E s t j m answer machine after false given at own h is = record {
  answer = answer;
  given = given;
  m = m;
  machine = machine;
  at = at;
  own = own;
  after = inr (h.0, is ∙ ap (with_machine s m) h.1 ∙ same_machines s m machine at);
}

-- the machine that stands where it was looked for has the source that was named
pub stands_own : (machines seen : List MachineState) (m : ℕ) (answer : Answer) (source : Id128) (machine : MachineState) → seen ≡ machines → StandsAt seen source m
    → machine ≡ get_or machines m machine → Some source ≡ named answer → named answer ≡ Some (source_of machine)
stands_own machines seen m answer source machine same there is names =
    let at : slice_get machines m ≡ Some there.machine = ap (λ (ms : List MachineState). slice_get ms m) (sym same) ∙ there.at in
    let found : machine ≡ there.machine = is ∙ get_or_from_slice_get machines m there.machine machine at in
    sym names ∙ ap (λ (id : Id128). Some id) (sym there.own ∙ ap source_of (sym found))

pub stands_at : (machines seen : List MachineState) (m : ℕ) (source : Id128) (machine : MachineState) → seen ≡ machines → StandsAt seen source m
    → machine ≡ get_or machines m machine → slice_get machines m ≡ Some machine
stands_at machines seen m source machine same there is =
    let at : slice_get machines m ≡ Some there.machine = ap (λ (ms : List MachineState). slice_get ms m) (sym same) ∙ there.at in
    at ∙ ap (λ (x : MachineState). Some x) (sym (is ∙ get_or_from_slice_get machines m there.machine machine at))

-- an answer that names no machine
pub no_hand : (s : State) (j : ℕ) (answer : Answer) (source : Id128) → slice_get s.answers j ≡ Some answer → named answer ≡ Some source
    → ¬ Contains (sources s) source → Never (Hands s j)
no_hand s j answer source given names none u h =
    let same : h.answer ≡ answer = same_Some h.answer answer (sym h.given ∙ given) in
    let own : source_of h.machine ≡ source = same_Some (source_of h.machine) source (sym h.own ∙ ap named same ∙ names) in
    none (subst (Contains (sources s)) own (contains_map source_of s.machines h.machine (contains_get s.machines h.m h.machine h.at)))

restarts_by : (s t : State) (m k : ℕ) (machine after : MachineState) (went : Bool) (found : Option Point) → slice_get machine.saved k ≡ found
    → slice_get s.machines m ≡ Some machine → GoesBack machine found went after → t ≡ with_machine s m after
    → (went ≡ true → Restarts s m k t) × (went ≡ false → Never (Restarts s m k) × (t ≡ s))
restarts_by s t m k machine after went (Some point) was at h is = (
  λ _. record { machine = machine; at = at; point = point; was = was; after = is ∙ ap (with_machine s m) h.1 },
  λ e. absurd (both went h.0 e),
)
  where
    both : (b : Bool) → b ≡ true → b ≡ false → ⊥
    both b e f = cc
restarts_by s t m k machine after went None was at h is = (
  λ e. absurd (both went h.0 e),
  λ _. (never, is ∙ ap (with_machine s m) h.1 ∙ same_machines s m machine at),
)
  where
    both : (b : Bool) → b ≡ false → b ≡ true → ⊥
    both b e f = cc

    never : Never (Restarts s m k)
    never u r =
        let same : r.machine ≡ machine = same_Some r.machine machine (sym r.at ∙ at) in
        none-some r.point (sym was ∙ ap (λ (x : MachineState). slice_get x.saved k) (sym same) ∙ r.was)

steps_by : (E : Type 0) (Does : State → Type 0) (s t : State) (went : Bool) → (went ≡ true → Does t) → (went ≡ false → Never Does × (t ≡ s)) → Steps {E = E} Does s (Ok went) t
steps_by E Does s t true f g = f refl
steps_by E Does s t false f g = g refl

pub restarts : (E : Type 0) (s t : State) (m k : ℕ) (machine after : MachineState) (went : Bool) → slice_get s.machines m ≡ Some machine
    → GoesBack machine (slice_get machine.saved k) went after → t ≡ with_machine s m after → Steps {E = E} (Restarts s m k) s (Ok went) t
restarts E s t m k machine after went at h is =
    let both = restarts_by s t m k machine after went (slice_get machine.saved k) refl at h is in
    steps_by E (Restarts s m k) s t went both.0 both.1
