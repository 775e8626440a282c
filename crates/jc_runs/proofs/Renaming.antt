-- A sequence that is renamed or released.
use Rattle.std.proofs.Common.{◌≡◌, ◌≢◌, ◌∙◌, ◌||◌, ◌++◌, arith, ℕ, Bool, true, false, if◌then◌else◌, List, [], ◌∷◌, Option, Some, None, IfSome, ap, refl, subst, sym, inl, inr, ⊎_elim}
use Rattle.std.specs.FinMap.{retain_keys, same_map}
use Rattle.std.specs.List.{All, Contains}
use Rattle.std.specs.Option.{option_map}
use Rattle.sqlite.specs.Recovery.{Image}
use Rattle.jc_base.specs.declared.id.Id128.{Id128}
use Rattle.jc_base.specs.declared.id.Key.{Key}
use Rattle.jc_base.specs.Journal.{Journal}
use Rattle.jc_base.specs.LogEntry.{IsKey, LogEntry}
use Rattle.jc_command.specs.Run.{begins_with}
use Rattle.jc_command_args.specs.declared.request.Tables.{Tables}
use Rattle.jc_command_shared.specs.Deeds.{Deed}
use Rattle.jc_keeper.specs.declared.form.Shape.{Shape}
use Rattle.jc_keeper.specs.KeyLaws.{key_exact, key_total, same_key}
use Rattle.jc_ledger.specs.declared.owner.MachineDigest.{MachineDigest}
use Rattle.jc_ledger.specs.Owners.{machine_named}
use Rattle.jc_ledger_files.specs.Blocks.{HasNotes, IsNote, blocks}
use Rattle.jc_ledger_files.specs.Noted.{noted}
use Rattle.jc_ledger_files.specs.NotesOf.{notes_of}
use Rattle.jc_ledger_files.specs.Owned.{owner_of, owner_window}
use Rattle.jc_ledger_files.specs.OwnersLaws.{window_before}
use Rattle.jc_ledger_files.specs.Windows.{same_window, window_of}
use Rattle.jc_ledger_files.specs.declared.window_name.WindowName.{WindowName}
use Rattle.jc_notes.specs.Printed.{IsOwnerChange}
use Rattle.jc_runs.specs.Between.{Between}
use Rattle.jc_runs.specs.Next.{BeganWith}
use Rattle.jc_runs.specs.Renamed.{ChangesOwner, IsFoundIn, OwnersAreChanged, owner_notes}
use Rattle.jc_runs.specs.Steps.{Leads, renames, with_owner}
use Rattle.jc_runs.proofs.Unions.{part_get}
use Rattle.jc_runs.proofs.WorkedFiles.{Files, lawful_owner, no_notes}

all_stays : (m : Journal) → m ≡ retain_keys m (λ k. true)
all_stays m = same_map key_total key_exact m (retain_keys m (λ k. true)) (λ k. sym (part_get m (λ _. true) k))

nor : (b : Bool) → b ≡ (b || false)
nor true = refl
nor false = refl

pub renamed : (b : Between) (s : Id128) (machine : Option MachineDigest) → Leads (renames s) b (with_owner s machine b)
renamed b s machine = record {
  known = λ k. refl;
  owner = λ t other. ap (λ (is : Bool). if is then machine else b.owner t) other;
  earlier = refl;
  past = all_stays b.past;
  now = refl;
  came = refl;
  forgotten = λ k. nor (b.forgotten k);
  released = λ t. refl;
}

-- ---- what `owners` changes

lawful : (name : Option (List ℕ)) → All IsNote (owner_notes name)
lawful None = no_notes
lawful (Some name) = lawful_owner name

told_so : (name : Option (List ℕ)) → owner_of (owner_notes name) ≡ option_map machine_named name
told_so None = refl
told_so (Some name) = refl

-- No entry is noted in a window of owners.
apart : (s : Id128) (k : Key) → IsKey k → same_window (owner_window s) (window_of k) ≡ false
apart s k key = by_test (same_window (owner_window s) (window_of k)) refl
  where
    key_at : Id128 → ℕ → Key
    key_at sequence number = record { seqnum_id = sequence; seqnum = number }

    by_test : (b : Bool) → same_window (owner_window s) (window_of k) ≡ b → b ≡ false
    by_test true is =
        let keys = same_key (key_at s (owner_window s).window) (key_at k.seqnum_id (window_of k).window) is in
        let windows : (owner_window s).window ≡ (window_of k).window = ap (λ (x : Key). x.seqnum) keys in
        absurd (omega (arith, windows, window_before k key))
    by_test false is = refl

module _ (files : Files) (made kind : Tables) (b : Between) (finished aside : Journal) (windows : WindowName → List ℕ) (image : Image) (came : List LogEntry)
    (told found : List ℕ → Option (List ℕ)) (deeds : Option (List Deed)) (shape : Shape) (folder : List ℕ) (s : Id128)
    (began : BeganWith made kind (begins_with image windows finished aside (Contains came) told found deeds shape) b) (there : IsFoundIn folder found windows (owner_window s)) where
  changed : (Asked : Option MachineDigest → Type 0) (name : Option (List ℕ)) (line text : List ℕ) (done : List Deed)
      → IsOwnerChange found folder (owner_window s) Asked line (owner_notes name) text done
      → ChangesOwner made kind b finished aside windows image came folder s Asked name done
  changed Asked name line text done change = ⊎_elim
      (λ did. inl (
        subst Asked same did.0,
        (
          did.1.1,
          λ told' found' deeds' shape'. record {
            holds = began.holds;
            noted = λ k key. ap (λ (is : Bool). noted (notes_of (if is then put else windows (window_of k))) k.seqnum) (apart s k key) ∙ began.noted k key;
            owner = λ t. by_test t (same_window (owner_window s) (owner_window t));
            past = began.past;
            came = began.came;
          },
        ),
      ))
      (λ left. inr (λ asked. left.0 (subst Asked (sym same) asked), left.1.1))
      change.done
    where
      put : List ℕ
      put = blocks (owner_notes name) ++ 0 ∷ []

      same : owner_of change.notes ≡ b.owner s
      same = ap owner_of (sym (files.read (windows (owner_window s)) change.notes
          (subst (λ (o : Option (List ℕ)). IfSome o (λ file. HasNotes file change.notes)) there change.read.known)))
          ∙ began.owner s

      anew : notes_of put ≡ owner_notes name
      anew = files.read put (owner_notes name) (record { rest = 0 ∷ []; whole = refl; closed = inl (λ is. cc); are = lawful name })

      by_test : (t : Id128) (is : Bool)
          → owner_of (notes_of (if is then put else windows (owner_window t))) ≡ (if is then option_map machine_named name else b.owner t)
      by_test t true = ap owner_of anew ∙ told_so name
      by_test t false = began.owner t

pub owners_changed : Files → OwnersAreChanged
owners_changed files made kind b finished aside windows image came told found deeds shape folder s began there =
    let change = changed files made kind b finished aside windows image came told found deeds shape folder s began there in (
      λ old other text done renaming. change (λ owner. owner ≡ Some (machine_named old)) (Some other) _ text done renaming,
      λ text done release. change (λ owner. owner ≢ None) None _ text done release,
    )
