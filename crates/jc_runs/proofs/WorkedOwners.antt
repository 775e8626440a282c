-- Two sequences that are renamed, one after the other.
use Rattle.std.proofs.Common.{◌≡◌, ℕ, List, [], ◌∷◌, Option, Some, append-nil, inl, refl, sym, ⊎_elim}
use Rattle.std.specs.FinMap.{empty}
use Rattle.std.specs.List.{Contains}
use Rattle.hex.specs.Hex.{encode_with}
use Rattle.jc_command_shared.specs.Deeds.{Deed}
use Rattle.jc_ledger.specs.Owners.{machine_named}
use Rattle.jc_ledger_files.specs.Owned.{owner_window}
use Rattle.jc_notes.specs.Changed.{replacing}
use Rattle.jc_notes.specs.Found.{AreRead}
use Rattle.jc_sequences.specs.Placed.{path_of}
use Rattle.jc_runs.specs.Between.{Between}
use Rattle.jc_runs.specs.Next.{BeganWith}
use Rattle.jc_runs.specs.Renamed.{IsFoundIn, owner_notes, with_notes}
use Rattle.jc_runs.specs.Starts.{BeginsAt, StartsNoted}
use Rattle.jc_runs.specs.Steps.{LeadsOn, renames, with_owner}
use Rattle.jc_runs.specs.Worked.{numbered}
use Rattle.jc_runs.specs.WorkedNotes.{entry_notes, is_numbered, notes_owning, owner_notes as owning, worked_notes, worked_windows}
use Rattle.jc_runs.specs.WorkedOwners.{AreRenamed, IsRenamed, found_of_owners, renamed_windows, third, with_third}
use Rattle.jc_runs.proofs.Renaming.{owners_changed, renamed}
use Rattle.jc_runs.proofs.WorkedFiles.{Files, lawful_notes}

first_read : AreRead (found_of_owners (path_of [] (owner_window (numbered 1)))) (worked_notes (owner_window (numbered 1)))
unfolding encode_with found_of_owners worked_windows
first_read = record {
  known = record { rest = []; whole = sym (append-nil _); closed = tt; are = lawful_notes (owner_window (numbered 1)) };
  are = lawful_notes (owner_window (numbered 1));
}

second_read : AreRead (found_of_owners (path_of [] (owner_window (numbered 2)))) (worked_notes (owner_window (numbered 2)))
unfolding encode_with found_of_owners worked_windows
second_read = record {
  known = record { rest = []; whole = sym (append-nil _); closed = tt; are = lawful_notes (owner_window (numbered 2)) };
  are = lawful_notes (owner_window (numbered 2));
}

done_at : ℕ → List Deed
done_at n = replacing (path_of [] (owner_window (numbered n))) (owner_notes (Some (3 ∷ [])))

first_is : IsRenamed 1 (done_at 1)
unfolding done_at worked_notes owning is_numbered notes_owning
first_is = record { notes = worked_notes (owner_window (numbered 1)); read = first_read; done = inl (refl, (refl, refl)) }

second_is : IsRenamed 2 (done_at 2)
unfolding done_at worked_notes owning is_numbered notes_owning
second_is = record { notes = worked_notes (owner_window (numbered 2)); read = second_read; done = inl (refl, (refl, refl)) }

module _ (files : Files) (b : Between) (starts : StartsNoted 4 b) where
  once : BeginsAt (with_notes (owner_window (numbered 1)) (owner_notes (Some (3 ∷ []))) worked_windows) (with_owner (numbered 1) (Some third) b)
  unfolding encode_with found_of_owners
  once made kind image told seen deeds shape begins = ⊎_elim (λ did. did.1.1 told seen deeds shape) (λ left. absurd (left.0 starts.owner))
      ((owners_changed files made kind b b.past empty worked_windows image b.came told found_of_owners deeds shape [] (numbered 1)
      (starts.began made kind image told found_of_owners deeds shape begins) refl).0 (1 ∷ []) (3 ∷ []) _ (done_at 1) first_is)

  twice : BeginsAt renamed_windows (with_third b)
  unfolding encode_with found_of_owners
  twice made kind image told seen deeds shape begins = ⊎_elim (λ did. did.1.1 told seen deeds shape) (λ left. absurd (left.0 starts.owner_of_other))
      ((owners_changed files made kind (with_owner (numbered 1) (Some third) b) b.past empty
      (with_notes (owner_window (numbered 1)) (owner_notes (Some (3 ∷ []))) worked_windows) image b.came told found_of_owners deeds shape [] (numbered 2)
      (once made kind image told found_of_owners deeds shape begins) refl).0 (2 ∷ []) (3 ∷ []) _ (done_at 2) second_is)

  pub both_renamed : AreRenamed b
  both_renamed = record {
    starts = starts;
    first = (done_at 1, first_is);
    second = (done_at 2, second_is);
    leads = (
      with_owner (numbered 1) (Some third) b,
      renamed b (numbered 1) (Some third),
      (with_third b, renamed (with_owner (numbered 1) (Some third) b) (numbered 2) (Some third), refl),
    );
    begins = twice;
  }
