-- What files of notes tell with which runs over the databases of the worked list begin, the first one with none.
use Rattle.std.proofs.Common.{◌≡◌, ◌∙◌, ◌<◌, ◌^◌, arith, ℕ, nat_eq, Bool, true, false, cond, List, [], ◌∷◌, Some, None, refl, sym, ap, subst, append-nil, inl, inr}
use Rattle.std.specs.BTreeMap.{is_at}
use Rattle.std.specs.FinMap.{empty, get, same_map}
use Rattle.std.specs.List.{All}
use Rattle.std.specs.Option.{option_map}
use Rattle.std.specs.Ordering.{nat_cmp}
use Rattle.std.proofs.lemmas.List.Elements.{All-from_recursion}
use Rattle.std.proofs.lemmas.Map.Lookups.{exact_unsigned}
use Rattle.std.proofs.lemmas.Map.Views.{tells_apart}
use Rattle.sha2.proofs.Facts256.{length-sha256}
use Rattle.jc_base.specs.declared.id.Id128.{Id128}
use Rattle.jc_base.specs.declared.id.Key.{Key}
use Rattle.jc_base.specs.Journal.{Journal}
use Rattle.jc_base.specs.LogEntry.{IsKey, LogEntry}
use Rattle.jc_collector.specs.Kinds.{BeginsIn}
use Rattle.jc_command_args.specs.declared.request.Tables.{Tables}
use Rattle.jc_export.specs.Canonical.{canon}
use Rattle.jc_keeper.specs.KeyLaws.{key_eq, key_eq_equiv, key_exact, key_total, same_key}
use Rattle.jc_ledger.specs.Kept.{IsKnownBy}
use Rattle.jc_ledger.specs.Known.{digest_of, digest_under, known_of}
use Rattle.jc_ledger.specs.Owners.{machine_named}
use Rattle.jc_ledger.specs.Union.{union}
use Rattle.jc_ledger_files.specs.Blocks.{HasNotes, IsNote, blocks}
use Rattle.jc_ledger_files.specs.declared.window_name.WindowName.{WindowName}
use Rattle.jc_ledger_files.specs.declared.window_note.WindowNote.{WindowNote}
use Rattle.jc_ledger_files.specs.Noted.{noted}
use Rattle.jc_ledger_files.specs.NotesOf.{notes_of}
use Rattle.jc_ledger_files.specs.Owned.{owner_found, owner_of, owner_window}
use Rattle.jc_ledger_files.specs.OwnersLaws.{with_owners}
use Rattle.jc_ledger_files.specs.Windows.{known_in, same_window, window_of}
use Rattle.jc_notes.specs.Printed.{owner_note}
use Rattle.jc_runs.specs.Between.{Between}
use Rattle.jc_runs.specs.Next.{FirstBegins, no_file}
use Rattle.jc_runs.specs.Starts.{BeginsAt}
use Rattle.jc_runs.specs.Worked.{of_one, of_other}
use Rattle.jc_runs.specs.WorkedNotes.{entry_notes, is_numbered, note_of, notes_owning, owner_notes, worked_notes, worked_windows}
use Rattle.jc_runs.proofs.Unions.{in_now, in_past, void}
use Rattle.jc_runs.proofs.WorkedSteps.{both_owners, has_no_third, has_one, m1, m2, no_one, owned_if, p1, p2, with_none}

-- what is read of files, and that owners among the notes do no harm
pub record Files : Type 0 where
  pub read : (file : List ℕ) (notes : List WindowNote) → HasNotes file notes → notes_of file ≡ notes
  pub known : (notes : WindowName → List WindowNote) (owners : Id128 → List WindowNote) (journal : Journal)
      → IsKnownBy (known_in notes) journal → IsKnownBy (known_in (with_owners notes owners)) journal

-- ---- what they tell of entries

is_key : (k : Key) (e : LogEntry) → same_window (window_of e.key) (window_of k) ≡ true → e.key.seqnum ≡ k.seqnum → key_eq k e.key ≡ true
is_key k e same number =
    let names = same_key (record { seqnum_id = e.key.seqnum_id; seqnum = (window_of e.key).window }) (record { seqnum_id = k.seqnum_id; seqnum = (window_of k).window }) same in
    let sequences : e.key.seqnum_id ≡ k.seqnum_id = ap (λ (x : Key). x.seqnum_id) names in
    let make : Id128 → ℕ → Key = λ s n. record { seqnum_id = s; seqnum = n } in
    let keys : k ≡ e.key = ap (λ (s : Id128). make s k.seqnum) (sym sequences) ∙ ap (λ (n : ℕ). make e.key.seqnum_id n) (sym number) in
    subst (λ (x : Key). key_eq k x ≡ true) keys (key_eq_equiv.refl k)

-- A note in another entry's window, under another number, tells nothing.
other_number : (k : Key) (e : LogEntry) → key_eq k e.key ≡ false → same_window (window_of e.key) (window_of k) ≡ true
    → noted (note_of e ∷ []) k.seqnum ≡ None
unfolding note_of
other_number k e other same = by_number (is_at (nat_cmp e.key.seqnum) k.seqnum) refl
  where
    by_number : (b : Bool) → is_at (nat_cmp e.key.seqnum) k.seqnum ≡ b → noted (note_of e ∷ []) k.seqnum ≡ None
    by_number true is = absurd (let it : key_eq k e.key ≡ true = is_key k e same (tells_apart exact_unsigned e.key.seqnum k.seqnum is) in cc)
    by_number false is = ap (λ (b : Bool). cond b (Some (digest_of e)) None) is

neither : (k : Key) → key_eq k of_one.key ≡ false → key_eq k of_other.key ≡ false → noted (entry_notes (window_of k)) k.seqnum ≡ None
unfolding entry_notes
neither k one other = by_first (same_window (window_of of_one.key) (window_of k)) refl
  where
    by_second : (b : Bool) → same_window (window_of of_other.key) (window_of k) ≡ b
        → noted (cond b (note_of of_other ∷ []) []) k.seqnum ≡ None
    by_second true is = other_number k of_other other is
    by_second false is = refl

    by_first : (b : Bool) → same_window (window_of of_one.key) (window_of k) ≡ b
        → noted (cond b (note_of of_one ∷ []) (cond (same_window (window_of of_other.key) (window_of k)) (note_of of_other ∷ []) [])) k.seqnum ≡ None
    by_first true is = other_number k of_one one is
    by_first false is = by_second (same_window (window_of of_other.key) (window_of k)) refl

pub has_one_of_p2 : get p2 of_one.key ≡ Some of_one.body
has_one_of_p2 = in_past p1 m2 of_one no_one (in_now empty m1 of_one (has_one of_one))

pub has_other_of_p2 : get p2 of_other.key ≡ Some of_other.body
has_other_of_p2 = in_now p1 m2 of_other (has_one of_other)

tells : (k : Key) → noted (entry_notes (window_of k)) k.seqnum ≡ known_of p2 k
unfolding entry_notes note_of
tells k = by_first (key_eq k of_one.key) refl
  where
    Tells : Key → Type 0
    Tells x = noted (entry_notes (window_of x)) x.seqnum ≡ known_of p2 x

    first : Tells of_one.key
    first = sym (ap (option_map (digest_under of_one.key)) has_one_of_p2)

    second : Tells of_other.key
    second = sym (ap (option_map (digest_under of_other.key)) has_other_of_p2)

    by_second : (b : Bool) → key_eq k of_other.key ≡ b → key_eq k of_one.key ≡ false → Tells k
    by_second true is one = subst Tells (sym (same_key k of_other.key is)) second
    by_second false is one = neither k one is ∙ sym (ap (option_map (digest_under k)) (has_no_third k one is))

    by_first : (b : Bool) → key_eq k of_one.key ≡ b → Tells k
    by_first true is = subst Tells (sym (same_key k of_one.key is)) first
    by_first false is = by_second (key_eq k of_other.key) refl is

-- ---- the files

lawful_note : (e : LogEntry) (few : e.key.seqnum < 2 ^ 64) → All IsNote (note_of e ∷ [])
unfolding note_of digest_of
lawful_note e few = All-from_recursion IsNote (note_of e ∷ []) (record { number = few; digest = length-sha256 (canon e) }, tt)

pub lawful_owner : (name : List ℕ) → All IsNote (owner_note (machine_named name) ∷ [])
unfolding machine_named
lawful_owner name = All-from_recursion IsNote (owner_note (machine_named name) ∷ []) (record { number = omega arith; digest = length-sha256 name }, tt)

pub no_notes : All IsNote []
no_notes = All-from_recursion IsNote [] tt

either_notes : (b : Bool) (x y : List WindowNote) → All IsNote x → All IsNote y → All IsNote (cond b x y)
either_notes true x y here there = here
either_notes false x y here there = there

lawful_owners : (one other : Bool) → All IsNote (notes_owning one other)
unfolding notes_owning
lawful_owners true other = lawful_owner (1 ∷ [])
lawful_owners false true = lawful_owner (2 ∷ [])
lawful_owners false false = no_notes

pub lawful_notes : (w : WindowName) → All IsNote (worked_notes w)
unfolding worked_notes entry_notes owner_notes
lawful_notes w = either_notes (nat_eq w.window (2 ^ 51)) (owner_notes w.sequence) (entry_notes w)
    (lawful_owners (is_numbered 1 w.sequence) (is_numbered 2 w.sequence))
    (either_notes (same_window (window_of of_one.key) w) (note_of of_one ∷ []) _ (lawful_note of_one (omega arith))
    (either_notes (same_window (window_of of_other.key) w) (note_of of_other ∷ []) [] (lawful_note of_other (omega arith)) no_notes))

pub with_nothing : (m : Journal) → union m empty ≡ m
with_nothing m = same_map key_total key_exact (union m void) m (λ k. sym (with_none m k))

-- A database file of no bytes has none.
pub makes_file : (made : Tables) → BeginsIn made made no_file void
makes_file made = inr (inl (inl (inl refl)), refl, refl)

module _ (files : Files) where
  found : (w : WindowName) → notes_of (worked_windows w) ≡ worked_notes w
  unfolding worked_windows
  found w = files.read (blocks (worked_notes w)) (worked_notes w)
      (record { rest = []; whole = sym (append-nil (blocks (worked_notes w))); closed = tt; are = lawful_notes w })

  pub known_there : (k : Key) → IsKey k → known_in (λ w. notes_of (worked_windows w)) k ≡ known_of p2 k
  unfolding worked_notes
  known_there k key = ap (λ (ns : List WindowNote). noted ns k.seqnum) (found (window_of k))
      ∙ files.known entry_notes owner_notes p2 (λ x lawful. tells x) k key

  pub none_noted : notes_of [] ≡ []
  none_noted = files.read [] [] (record { rest = []; whole = refl; closed = tt; are = no_notes })

  pub first : FirstBegins
  first made told seen deeds shape = record {
    holds = makes_file made;
    noted = λ k key. ap (λ (ns : List WindowNote). noted ns k.seqnum) none_noted;
    owner = λ s. ap owner_of none_noted;
    past = with_nothing void;
    came = λ e has. has;
  }

  owned : (one other : Bool) → owner_of (notes_owning one other) ≡ owned_if one other
  unfolding notes_owning owned_if
  owned true other = refl
  owned false true = refl
  owned false false = refl

  pub owner_there : (s : Id128) → owner_found worked_windows s ≡ both_owners s
  unfolding worked_notes owner_notes both_owners
  owner_there s = ap owner_of (found (owner_window s)) ∙ owned (is_numbered 1 s) (is_numbered 2 s)

  -- A run begins with these files where they tell what is known, and whose sequences are.
  pub begins_with_these : (b : Between) → ((k : Key) → b.known k ≡ known_of p2 k) → ((s : Id128) → b.owner s ≡ both_owners s) → BeginsAt worked_windows b
  begins_with_these b known owner made kind image told seen deeds shape begins = record {
    holds = begins;
    noted = λ k key. known_there k key ∙ sym (known k);
    owner = λ s. owner_there s ∙ sym (owner s);
    past = with_nothing b.past;
    came = λ e inside. inside;
  }
