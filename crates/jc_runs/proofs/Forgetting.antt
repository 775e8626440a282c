-- Windows that keep their first notes.
use Rattle.std.proofs.Common.{◌≡◌, ◌≢◌, ◌⊎◌, ◌∙◌, ◌&&◌, ◌≤◌, ◌<◌, ◌++◌, ℕ, zero, suc, Bool, true, false, not, if◌then◌else◌, is_some, nat_lt, List, [], ◌∷◌, Option, Some, None, IfSome, length, map, take, take_all, ap, refl, subst, sym, inl, inr, arith}
use Rattle.std.specs.BTreeMap.{is_at}
use Rattle.std.specs.FinMap.{empty}
use Rattle.std.specs.List.{All, AllByRecursion, AllPairs, AllZip, Contains}
use Rattle.std.specs.Ordering.{nat_cmp}
use Rattle.std.proofs.lemmas.Bool.{le-ltb, lt-ltb, ltb-false}
use Rattle.std.proofs.lemmas.List.Elements.{All-take, recursion_from_All}
use Rattle.std.proofs.lemmas.Map.Lookups.{exact_unsigned}
use Rattle.std.proofs.lemmas.Map.Views.{tells_apart}
use Rattle.sqlite.specs.Recovery.{Image}
use Rattle.jc_base.specs.declared.id.Id128.{Id128}
use Rattle.jc_base.specs.declared.id.Key.{Key}
use Rattle.jc_base.specs.Journal.{Journal}
use Rattle.jc_base.specs.LogEntry.{LogEntry}
use Rattle.jc_command.specs.Run.{begins_with}
use Rattle.jc_command_args.specs.declared.request.Tables.{Tables}
use Rattle.jc_command_shared.specs.Deeds.{Adds, Deed}
use Rattle.jc_keeper.specs.declared.form.Shape.{Shape}
use Rattle.jc_keeper.specs.KeyLaws.{same_key}
use Rattle.jc_ledger.specs.declared.digest.EntryDigest.{EntryDigest}
use Rattle.jc_ledger.specs.Union.{union}
use Rattle.jc_ledger_files.specs.Blocks.{HasNotes, IsNote, blocks}
use Rattle.jc_ledger_files.specs.Noted.{noted, noted_from, noted_over}
use Rattle.jc_ledger_files.specs.NotesOf.{notes_of}
use Rattle.jc_ledger_files.specs.Owned.{owner_found, owner_of, owner_window}
use Rattle.jc_ledger_files.specs.Windows.{known_in, same_window, window_of}
use Rattle.jc_ledger_files.specs.declared.window_name.WindowName.{WindowName}
use Rattle.jc_ledger_files.specs.declared.window_note.WindowNote.{WindowNote}
use Rattle.jc_notes.specs.Changed.{IsKeptFront, replacing}
use Rattle.jc_notes.specs.Each.{WorksEach, deeds_in}
use Rattle.jc_notes.specs.Found.{AreRead}
use Rattle.jc_sequences.specs.Placed.{path_of}
use Rattle.jc_runs.specs.Between.{Between}
use Rattle.jc_runs.specs.Forgotten.{FrontsAreKept, IsNotedFirst, MayKeepFirst, WindowsGo, all_notes, first_notes, has_more, keeps_each, keeps_first, may_go, replacing_each, replacing_first, KeepsFronts, WindowFront, window_front, windows_with_each, windows_with_first, with_each, with_first, without_windows}
use Rattle.jc_runs.specs.Next.{BeganWith}
use Rattle.jc_runs.specs.Renamed.{IsFoundIn}
use Rattle.jc_runs.specs.Steps.{Leads, LeadsOn}
use Rattle.jc_runs.proofs.WorkedFiles.{Files, none_noted, with_nothing}

name_of : Key → WindowName
name_of k = record { sequence = k.seqnum_id; window = k.seqnum }

same_name : (a b : WindowName) → same_window a b ≡ true → a ≡ b
unfolding name_of
same_name a b is = ap name_of (same_key (record { seqnum_id = a.sequence; seqnum = a.window }) (record { seqnum_id = b.sequence; seqnum = b.window }) is)

-- ---- windows whose files go

module _ (files : Files) (windows : WindowName → List ℕ) (went : WindowName → Bool) (b : Between) where
  pub knows_without : (k : Key) → known_in (λ w. notes_of (windows w)) k ≡ b.known k
      → known_in (λ w. notes_of (if went w then [] else windows w)) k ≡ (without_windows went b).known k
  knows_without k known = by_test (went (window_of k))
    where
      by_test : (gone : Bool) → noted (notes_of (if gone then [] else windows (window_of k))) k.seqnum ≡ (if gone then None else b.known k)
      by_test true = ap (λ (ns : List WindowNote). noted ns k.seqnum) (none_noted files)
      by_test false = known

  pub owns_without : (s : Id128) → owner_found windows s ≡ b.owner s → owner_found (λ w. if went w then [] else windows w) s ≡ (without_windows went b).owner s
  owns_without s owner = by_test (went (owner_window s))
    where
      by_test : (gone : Bool) → owner_of (notes_of (if gone then [] else windows (owner_window s))) ≡ (if gone then None else b.owner s)
      by_test true = ap owner_of (none_noted files)
      by_test false = owner

pub windows_go : Files → WindowsGo
windows_go files made kind b finished aside windows image came told found deeds shape went began = (
  record {
    known = λ k. refl;
    owner = λ s stays. ap (λ (gone : Bool). if gone then None else b.owner s) stays;
    earlier = refl;
    past = refl;
    now = refl;
    came = refl;
    forgotten = λ k. refl;
    released = λ s. refl;
  },
  λ still_finished still_aside told' found' deeds' shape' same. record {
    holds = began.holds;
    noted = λ k key. knows_without files windows went b k (began.noted k key);
    owner = λ s. owns_without files windows went b s (began.owner s);
    past = same;
    came = began.came;
  },
)

-- ---- one window

pub leads_first : (front : WindowFront) (windows : WindowName → List ℕ) (b : Between) → Leads (keeps_first front windows) b (with_first front windows b)
leads_first front windows b = record {
  known = λ k. refl;
  owner = λ s stays. ap (λ (is : Bool). if is then owner_of (first_notes front windows) else b.owner s) stays;
  earlier = refl;
  past = refl;
  now = refl;
  came = refl;
  forgotten = λ k. refl;
  released = λ s. refl;
}

-- what is told of a number whose note stays or goes
stays_or_goes : (all first : Option EntryDigest) → (first ≡ None) ⊎ (first ≡ all) → first ≡ (if is_some all && not (is_some first) then None else all)
stays_or_goes None None is = refl
stays_or_goes (Some d) None is = refl
stays_or_goes None (Some e) (inl is) = absurd cc
stays_or_goes None (Some e) (inr is) = absurd cc
stays_or_goes (Some d) (Some e) (inl is) = absurd cc
stays_or_goes (Some d) (Some e) (inr is) = is

module _ (files : Files) (front : WindowFront) (windows : WindowName → List ℕ) (lawful : All IsNote (all_notes front windows)) (once : IsNotedFirst windows front) where
  put : List ℕ
  put = blocks (first_notes front windows) ++ 0 ∷ []

  anew : notes_of put ≡ first_notes front windows
  unfolding put
  anew = files.read put (first_notes front windows)
      (record { rest = 0 ∷ []; whole = refl; closed = inl (λ is. cc); are = All-take IsNote front.count (all_notes front windows) lawful })

  -- A window that has no more keeps all.
  whole : has_more front windows ≡ false → first_notes front windows ≡ all_notes front windows
  whole no_more = take_all front.count (all_notes front windows) (ltb-false front.count (length (all_notes front windows)) no_more)

  module _ (b : Between) where
    knows : (k : Key) → known_in (λ w. notes_of (windows w)) k ≡ b.known k
        → known_in (λ w. notes_of (windows_with_first front windows w)) k ≡ (with_first front windows b).known k
    unfolding put
    knows k known = by_test (has_more front windows) (same_window front.window (window_of k)) refl refl
      where
        here : same_window front.window (window_of k) ≡ true → noted (all_notes front windows) k.seqnum ≡ noted (notes_of (windows (window_of k))) k.seqnum
        here is = ap (λ (w : WindowName). noted (notes_of (windows w)) k.seqnum) (same_name front.window (window_of k) is)

        of_first : same_window front.window (window_of k) ≡ true → noted (first_notes front windows) k.seqnum
            ≡ (if is_some (noted (all_notes front windows) k.seqnum) && not (is_some (noted (first_notes front windows) k.seqnum)) then None else b.known k)
        of_first is = stays_or_goes (noted (all_notes front windows) k.seqnum) (noted (first_notes front windows) k.seqnum) (once k.seqnum)
            ∙ ap (λ (o : Option EntryDigest). if is_some (noted (all_notes front windows) k.seqnum) && not (is_some (noted (first_notes front windows) k.seqnum)) then None else o)
            (here is ∙ known)

        by_test : (more is : Bool) → has_more front windows ≡ more → same_window front.window (window_of k) ≡ is
            → noted (notes_of (if more then (if is then put else windows (window_of k)) else windows (window_of k))) k.seqnum
            ≡ (if is && (is_some (noted (all_notes front windows) k.seqnum) && not (is_some (noted (first_notes front windows) k.seqnum))) then None else b.known k)
        by_test true true has is = ap (λ (ns : List WindowNote). noted ns k.seqnum) anew ∙ of_first is
        by_test true false has is = known
        by_test false true has is = sym (here is) ∙ (ap (λ (ns : List WindowNote). noted ns k.seqnum) (sym (whole has)) ∙ of_first is)
        by_test false false has is = known

    owns : (s : Id128) → owner_found windows s ≡ b.owner s → owner_found (windows_with_first front windows) s ≡ (with_first front windows b).owner s
    unfolding put
    owns s owner = by_test (has_more front windows) (may_go front s) refl refl
      where
        by_test : (more is : Bool) → has_more front windows ≡ more → may_go front s ≡ is
            → owner_of (notes_of (if more then (if is then put else windows (owner_window s)) else windows (owner_window s)))
            ≡ (if is then owner_of (first_notes front windows) else b.owner s)
        by_test true true has is = ap owner_of anew
        by_test true false has is = owner
        by_test false true has is = ap (λ (w : WindowName). owner_of (notes_of (windows w))) (sym (same_name front.window (owner_window s) is)) ∙ ap owner_of (sym (whole has))
        by_test false false has is = owner

-- ---- what is done

-- what is said of a window and its count
record IsKept (found : List ℕ → Option (List ℕ)) (folder : List ℕ) (front : WindowFront) (deeds : List Deed) : Type 0 where
  pub notes : List WindowNote
  pub read : AreRead (found (path_of folder front.window)) notes
  pub done : ((length notes ≤ front.count) × (deeds ≡ []))
      ⊎ ((front.count < length notes) × (deeds ≡ replacing (path_of folder front.window) (take front.count notes)))

chosen : (count : ℕ) (notes : List WindowNote) (put deeds : List Deed) → ((length notes ≤ count) × (deeds ≡ [])) ⊎ ((count < length notes) × (deeds ≡ put))
    → deeds ≡ (if nat_lt count (length notes) then put else [])
chosen count notes put deeds (inl none) = none.1 ∙ sym (ap (λ (more : Bool). if more then put else []) (le-ltb count (length notes) none.0))
chosen count notes put deeds (inr some) = some.1 ∙ sym (ap (λ (more : Bool). if more then put else []) (lt-ltb count (length notes) some.0))

module _ (files : Files) (found : List ℕ → Option (List ℕ)) (folder : List ℕ) (front : WindowFront) (windows : WindowName → List ℕ) (deeds : List Deed)
    (there : found (path_of folder front.window) ≡ Some (windows front.window)) (kept : IsKept found folder front deeds) where
  are_all : all_notes front windows ≡ kept.notes
  are_all = files.read (windows front.window) kept.notes (subst (λ (o : Option (List ℕ)). IfSome o (λ file. HasNotes file kept.notes)) there kept.read.known)

  all_lawful : All IsNote (all_notes front windows)
  all_lawful = subst (All IsNote) (sym are_all) kept.read.are

  does_so : deeds ≡ replacing_first folder front windows
  does_so = chosen front.count kept.notes (replacing (path_of folder front.window) (take front.count kept.notes)) deeds kept.done
      ∙ ap (λ (ns : List WindowNote). if nat_lt front.count (length ns) then replacing (path_of folder front.window) (take front.count ns) else []) (sym are_all)

-- ---- one after the other

-- What windows that are named have is found.
abbrev AreFoundFor : (found : List ℕ → Option (List ℕ)) (folder : List ℕ) (windows : WindowName → List ℕ) → List WindowFront → Type 0
AreFoundFor found folder windows fronts = AllByRecursion (λ (front : WindowFront). IsFoundIn folder found windows front.window) fronts

-- the others are of other windows
abbrev AreOthers : WindowFront → List WindowFront → Type 0
AreOthers front fronts = AllByRecursion (λ (other : WindowFront). front.window ≢ other.window) fronts

abbrev AreOnce : List WindowFront → Type 0
AreOnce [] = Unit {0}
AreOnce (front ∷ fronts) = AreOthers front fronts × AreOnce fronts

module _ (front : WindowFront) (windows : WindowName → List ℕ) where
  other_stays : (other : WindowFront) → front.window ≢ other.window → windows other.window ≡ windows_with_first front windows other.window
  other_stays other apart = by_test (has_more front windows) (same_window front.window other.window) refl
    where
      by_test : (more is : Bool) → same_window front.window other.window ≡ is
          → windows other.window ≡ (if more then (if is then blocks (first_notes front windows) ++ 0 ∷ [] else windows other.window) else windows other.window)
      by_test true true is = absurd (apart (same_name front.window other.window is))
      by_test true false is = refl
      by_test false any is = refl

  others_found : (found : List ℕ → Option (List ℕ)) (folder : List ℕ) (fronts : List WindowFront) → AreOthers front fronts
      → AreFoundFor found folder windows fronts → AreFoundFor found folder (windows_with_first front windows) fronts
  others_found found folder [] apart there = tt
  others_found found folder (other ∷ fronts) apart there = (
    there.0 ∙ ap (λ (file : List ℕ). Some file) (other_stays other apart.0),
    others_found found folder fronts apart.1 there.1,
  )

  others_noted : (fronts : List WindowFront) → AreOthers front fronts → AllByRecursion (IsNotedFirst windows) fronts
      → AllByRecursion (IsNotedFirst (windows_with_first front windows)) fronts
  others_noted [] apart noted_first = tt
  others_noted (other ∷ fronts) apart noted_first = (
    subst (λ (file : List ℕ). (number : ℕ) → (noted (take other.count (notes_of file)) number ≡ None)
        ⊎ (noted (take other.count (notes_of file)) number ≡ noted (notes_of file) number)) (other_stays other apart.0) noted_first.0,
    others_noted fronts apart.1 noted_first.1,
  )

module _ (files : Files) (made kind : Tables) (image : Image) (came : List LogEntry) (found : List ℕ → Option (List ℕ)) (folder : List ℕ) where
  -- The next run begins with these files.
  abbrev NextBegins : (windows : WindowName → List ℕ) → Between → Type 0
  NextBegins windows b =
      (finished aside : Journal) (told seen : List ℕ → Option (List ℕ)) (deeds : Option (List Deed)) (shape : Shape) → union finished aside ≡ b.past
      → BeganWith made kind (begins_with image windows finished aside (Contains came) told seen deeds shape) b

  first_begins : (front : WindowFront) (windows : WindowName → List ℕ) (b : Between) → All IsNote (all_notes front windows) → IsNotedFirst windows front
      → NextBegins windows b → NextBegins (windows_with_first front windows) (with_first front windows b)
  first_begins front windows b lawful once begins finished aside told seen deeds shape same =
      let began = begins b.past empty told seen deeds shape (with_nothing b.past) in record {
        holds = began.holds;
        noted = λ k key. knows files front windows lawful once b k (began.noted k key);
        owner = λ s. owns files front windows lawful once b s (began.owner s);
        past = same;
        came = began.came;
      }

  each : (fronts : List WindowFront) (windows : WindowName → List ℕ) (b : Between) → NextBegins windows b → AreFoundFor found folder windows fronts
      → AreOnce fronts → AllByRecursion (IsNotedFirst windows) fronts
      → (works : List (List ℕ × List Deed)) → AllZip (λ (front : WindowFront) (one : List ℕ × List Deed). IsKept found folder front one.1) fronts works
      → (deeds_in works ≡ replacing_each folder fronts windows) × LeadsOn b (keeps_each fronts windows) (with_each fronts windows b)
      × NextBegins (windows_with_each fronts windows) (with_each fronts windows b)
  each [] windows b begins there once noted_first [] zip = (refl, refl, begins)
  each [] windows b begins there once noted_first (one ∷ works) none = absurd none
  each (front ∷ fronts) windows b begins there once noted_first [] none = absurd none
  each (front ∷ fronts) windows b begins there once noted_first (one ∷ works) (kept, zip) =
      let lawful = all_lawful files found folder front windows one.1 there.0 kept in
      let rest = each fronts (windows_with_first front windows) (with_first front windows b) (first_begins front windows b lawful noted_first.0 begins)
      (others_found front windows found folder fronts once.0 there.1) once.1 (others_noted front windows fronts once.0 noted_first.1)
      works zip in (
        ap (λ (ds : List Deed). ds ++ deeds_in works) (does_so files found folder front windows one.1 there.0 kept)
            ∙ ap (λ (ds : List Deed). replacing_first folder front windows ++ ds) rest.0,
        (with_first front windows b, leads_first front windows b, rest.1),
        rest.2,
      )

-- ---- those that lines name

module _ {A : Type 0} (f : A → WindowFront) where
  each_of : (P : WindowFront → Type 0) (xs : List A) → AllByRecursion (λ (x : A). P (f x)) xs → AllByRecursion P (map f xs)
  each_of P [] all = tt
  each_of P (x ∷ xs) all = (all.0, each_of P xs all.1)

  once_of : (xs : List A) → AllPairs (λ (one other : A). (f one).window ≢ (f other).window) xs → AreOnce (map f xs)
  once_of [] once = tt
  once_of (x ∷ xs) once = (
    each_of (λ (other : WindowFront). (f x).window ≢ other.window) xs
        (recursion_from_All (λ (other : A). (f x).window ≢ (f other).window) xs (λ k d within. once 0 (suc k) d (omega arith) (omega arith))),
    once_of xs (λ i j d before within. once (suc i) (suc j) d (omega arith) (omega arith)),
  )

  zip_of : {C : Type 0} (R : A → C → Type 0) (Q : WindowFront → C → Type 0) → ((x : A) (y : C) → R x y → Q (f x) y)
      → (xs : List A) (ys : List C) → AllZip R xs ys → AllZip Q (map f xs) ys
  zip_of R Q leads [] [] zip = tt
  zip_of R Q leads [] (y ∷ ys) none = absurd none
  zip_of R Q leads (x ∷ xs) [] none = absurd none
  zip_of R Q leads (x ∷ xs) (y ∷ ys) zip = (leads x y zip.0, zip_of R Q leads xs ys zip.1)

pub fronts_kept : Files → FrontsAreKept
fronts_kept files made kind b finished aside windows image came told found deeds shape folder text old new began named = record {
  items = named.items;
  lines = named.lines;
  does = (named.does.0, keeps);
}
  where
    fronts : List WindowFront
    fronts = map (λ front. window_front front.window front.count) named.items

    works : WorksEach (IsKeptFront found folder) named.items None None old new
    works = named.does.1.2

    all : (deeds_in works.works ≡ replacing_each folder fronts windows) × LeadsOn b (keeps_each fronts windows) (with_each fronts windows b)
        × NextBegins files made kind image came found folder (windows_with_each fronts windows) (with_each fronts windows b)
    all = each files made kind image came found folder fronts windows b
        (λ still_finished still_aside told' seen' deeds' shape' same.
        record { holds = began.holds; noted = began.noted; owner = began.owner; past = same; came = began.came })
        (each_of (λ front. window_front front.window front.count) (λ (front : WindowFront). IsFoundIn folder found windows front.window) named.items named.does.1.0)
        (once_of (λ front. window_front front.window front.count) named.items named.does.0)
        (each_of (λ front. window_front front.window front.count) (IsNotedFirst windows) named.items named.does.1.1)
        works.works
        (zip_of (λ front. window_front front.window front.count) _ (λ front one. IsKept found folder front one.1)
        (λ front one kept. record { notes = kept.notes; read = kept.read; done = kept.done }) named.items works.works works.each)

    keeps : KeepsFronts made kind b windows image came folder fronts old new
    keeps = (subst (Adds old new) all.0 works.added, all.1, all.2)

-- ---- windows of which this is so

-- Of a number that has no note here another one's tells nothing.
none_of_it : (before : Option EntryDigest) (notes : List WindowNote) (number : ℕ)
    → AllByRecursion (λ (note : WindowNote). is_at (nat_cmp note.number) number ≡ false) notes
    → (count : ℕ) → (noted_from before (take count notes) number ≡ before) × (noted_from before notes number ≡ before)
none_of_it before [] number none zero = (refl, refl)
none_of_it before [] number none (suc count) = (refl, refl)
none_of_it before (note ∷ notes) number none zero =
    let over : noted_over before note number ≡ before = ap (λ (b : Bool). if b then Some note.digest else before) none.0 in
    (refl, ap (λ (o : Option EntryDigest). noted_from o notes number) over ∙ (none_of_it before notes number none.1 zero).1)
none_of_it before (note ∷ notes) number none (suc count) =
    let over : noted_over before note number ≡ before = ap (λ (b : Bool). if b then Some note.digest else before) none.0 in
    let rest = none_of_it before notes number none.1 count in (
      ap (λ (o : Option EntryDigest). noted_from o (take count notes) number) over ∙ rest.0,
      ap (λ (o : Option EntryDigest). noted_from o notes number) over ∙ rest.1,
    )

abbrev AreDifferent : List WindowNote → Type 0
AreDifferent notes = AllPairs (λ (one other : WindowNote). one.number ≢ other.number) notes

others_of : (note : WindowNote) (notes : List WindowNote) → AreDifferent (note ∷ notes) → (number : ℕ) → is_at (nat_cmp note.number) number ≡ true
    → AllByRecursion (λ (other : WindowNote). is_at (nat_cmp other.number) number ≡ false) notes
others_of note notes different number is = recursion_from_All (λ (other : WindowNote). is_at (nat_cmp other.number) number ≡ false) notes
    (λ k d within. by_test _ (different 0 (suc k) d (omega arith) (omega arith)) _ refl)
  where
    by_test : (other : ℕ) → note.number ≢ other → (b : Bool) → is_at (nat_cmp other) number ≡ b → b ≡ false
    by_test other apart true same = absurd (apart (tells_apart exact_unsigned note.number number is ∙ sym (tells_apart exact_unsigned other number same)))
    by_test other apart false same = refl

first_or_all : (before : Option EntryDigest) (notes : List WindowNote) → AreDifferent notes → (number count : ℕ)
    → (noted_from before (take count notes) number ≡ before) ⊎ (noted_from before (take count notes) number ≡ noted_from before notes number)
first_or_all before notes different number zero = inl refl
first_or_all before [] different number (suc count) = inr refl
first_or_all before (note ∷ notes) different number (suc count) = by_test (is_at (nat_cmp note.number) number) refl
    (first_or_all before notes (λ i j d lt within. different (suc i) (suc j) d (omega arith) (omega arith)) number count)
  where
    by_test : (b : Bool) → is_at (nat_cmp note.number) number ≡ b
        → (noted_from before (take count notes) number ≡ before) ⊎ (noted_from before (take count notes) number ≡ noted_from before notes number)
        → (noted_from (if b then Some note.digest else before) (take count notes) number ≡ before)
        ⊎ (noted_from (if b then Some note.digest else before) (take count notes) number ≡ noted_from (if b then Some note.digest else before) notes number)
    by_test true is rest =
        let none = none_of_it (Some note.digest) notes number (others_of note notes different number is) count in
        inr (none.0 ∙ sym none.1)
    by_test false is rest = rest

pub may_keep_first : MayKeepFirst
may_keep_first windows front (inl none) number = inl (ap (λ (count : ℕ). noted (take count (all_notes front windows)) number) none)
may_keep_first windows front (inr different) number = first_or_all None (all_notes front windows) different number front.count
