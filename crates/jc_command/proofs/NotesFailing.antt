-- Why commands over notes fail, and what they change.
use Rattle.std.proofs.Common.{◌≡◌, ◌⊎◌, arith, ℕ, List, Option, None, [], Result, Ok, Err, inl, inr, subst, sym}
use Rattle.std.specs.Prelude.{◌≢◌, OnErr, OnOk}
use Rattle.std.specs.List.{AllPairs}
use Rattle.jc_command_args.specs.declared.request.NotesTask.{NotesTask}
use Rattle.jc_command_shared.specs.DeedLaws.{nothing_changes}
use Rattle.jc_command_shared.specs.Deeds.{ChangesOnly, Deed}
use Rattle.jc_command_shared.specs.Ids.{IsIdText}
use Rattle.jc_command_shared.specs.declared.failure.Failure.{Failure}
use Rattle.jc_command_shared.specs.declared.failure.Failure.TheVariants.{BadId, BadLine}
use Rattle.jc_ledger.specs.Owners.{machine_named}
use Rattle.jc_ledger_files.specs.Owned.{owner_window}
use Rattle.jc_ledger_files.specs.declared.window_name.WindowName.{WindowName}
use Rattle.jc_notes.proofs.Working.{gives_up_last, none_done, unseen}
use Rattle.jc_notes.specs.Changed.{IsInFolder}
use Rattle.jc_notes.specs.Each.{GivesUp, MayWork, Works, WorksEach}
use Rattle.jc_notes.specs.Failing.{LinesFail, NamedFails, WorkFails}
use Rattle.jc_notes.specs.Printed.{IsRelease, IsRenamingIf, OfSequence}
use Rattle.jc_sequences.specs.Placed.{path_of}
use Rattle.jc_command.specs.Notes.{ChangesOwners, ChangesSequence, FolderFailsBy, HasBadLine, NotesFailBy, ReleaseFailsBy}

pub by_work : (folder : List ℕ) (failure : Failure) → WorkFails failure → FolderFailsBy folder failure
by_work folder failure (inl is) = subst (FolderFailsBy folder) (sym is) tt
by_work folder failure (inr (inl is)) = subst (FolderFailsBy folder) (sym is) tt
by_work folder failure (inr (inr is)) = subst (FolderFailsBy folder) (sym is) tt

pub by_task : (folder : List ℕ) (task : NotesTask) (given : Option (List ℕ)) (failure : Failure) → WorkFails failure → NotesFailBy folder task given failure
by_task folder task given failure (inl is) = subst (NotesFailBy folder task given) (sym is) tt
by_task folder task given failure (inr (inl is)) = subst (NotesFailBy folder task given) (sym is) tt
by_task folder task given failure (inr (inr is)) = subst (NotesFailBy folder task given) (sym is) tt

pub by_lines : (folder : List ℕ) (task : NotesTask) (given : Option (List ℕ)) (failure : Failure) → ((line : ℕ) → failure ≡ BadLine line → HasBadLine task given line)
    → LinesFail failure → NotesFailBy folder task given failure
by_lines folder task given failure bad (inl (line, is)) = subst (NotesFailBy folder task given) (sym is) (bad line is)
by_lines folder task given failure bad (inr why) = by_task folder task given failure why

pub by_name : (folder digits : List ℕ) (failure : Failure) → NamedFails failure → (failure ≡ BadId → ¬ IsIdText digits)
    → ReleaseFailsBy folder digits failure
by_name folder digits failure (inl is) bad = subst (ReleaseFailsBy folder digits) (sym is) (bad is)
by_name folder digits failure (inr (inl is)) bad = subst (ReleaseFailsBy folder digits) (sym is) tt
by_name folder digits failure (inr (inr (inl is))) bad = subst (ReleaseFailsBy folder digits) (sym is) tt
by_name folder digits failure (inr (inr (inr is))) bad = subst (ReleaseFailsBy folder digits) (sym is) tt

-- ---- what is changed, by how it ends

module _ {T : Type 0} (found : List ℕ → Option (List ℕ)) (folder : List ℕ) where
  pub renames : (r : Result T Failure) (windows : List WindowName) → AllPairs (λ (one also : WindowName). one ≢ also) windows → (name other : List ℕ) (printed printed_now : Option (List ℕ)) (old new : Option (List Deed))
      → OnOk r (WorksEach (IsRenamingIf found folder (machine_named name) (machine_named other)) windows printed printed_now old new)
      → OnErr r (GivesUp (IsRenamingIf found folder (machine_named name) (machine_named other)) (path_of folder) windows old new)
      → ChangesOnly (IsInFolder folder) old new → ChangesOwners found folder name other old new
  renames (Ok done) windows once name other printed printed_now old new works stopped only =
      (only, (windows, once, gives_up_last (IsRenamingIf found folder (machine_named name) (machine_named other)) (path_of folder) works))
  renames (Err failure) windows once name other printed printed_now old new works stopped only = (only, (windows, once, stopped))

  pub releases : (r : Result T Failure) (digits : List ℕ) (printed printed_now : Option (List ℕ)) (old new : Option (List Deed))
      → OnOk r (OfSequence digits (λ s. Works (IsRelease found folder s) printed printed_now old new))
      → OnErr r ((new ≡ old) ⊎ OfSequence digits (λ s. MayWork (IsRelease found folder s) (path_of folder (owner_window s)) old new))
      → ChangesOnly (IsInFolder folder) old new → ChangesSequence found folder digits old new
  releases (Ok done) digits printed printed_now old new works stopped only =
      (only, inr (record { sequence = works.sequence; spelled = works.spelled; does = inr (unseen works.does) }))
  releases (Err failure) digits printed printed_now old new works stopped only = (only, stopped)

-- no window is known, and nothing is renamed
pub renames_none : (found : List ℕ → Option (List ℕ)) (folder name other : List ℕ) (old : Option (List Deed)) → ChangesOwners found folder name other old old
renames_none found folder name other old =
    let Is = IsRenamingIf found folder (machine_named name) (machine_named other) in
    (nothing_changes old, ([], λ i j d before within. absurd (omega arith), gives_up_last Is (path_of folder) (none_done Is None old)))
