-- A run of the program that ended, as a step.
use Rattle.std.proofs.Common.{◌≡◌, ◌↔◌, ℕ, List, Option, Some, None, IfSome, IsSomeAnd, subst, sym, inl, inr, ⊎_elim}
use Rattle.std.specs.FinMap.{empty}
use Rattle.std.specs.List.{Contains}
use Rattle.sqlite.specs.Recovery.{Image}
use Rattle.jc_base.specs.Journal.{Journal}
use Rattle.jc_base.specs.LogEntry.{LogEntry}
use Rattle.jc_command.specs.Run.{Begins, CollectsIntoUnion, Devices, Ends, Performs, PerformsAsked, begins_with, leaves}
use Rattle.jc_command_args.specs.declared.request.Request.{Request}
use Rattle.jc_command_args.specs.declared.request.Tables.{Tables}
use Rattle.jc_command_shared.specs.Deeds.{Deed}
use Rattle.jc_command_shared.specs.declared.status.Status.{Status}
use Rattle.jc_command_shared.specs.declared.status.Status.TheVariants.{Success, Refused, Misused, Failed, Unanswered}
use Rattle.jc_keeper.specs.declared.form.Shape.{Shape}
use Rattle.jc_ledger_files.specs.declared.window_name.WindowName.{WindowName}
use Rattle.jc_runs.specs.Asked.{EndsInStep, LeavesStep}
use Rattle.jc_runs.specs.Between.{Between, MayBegin}
use Rattle.jc_runs.specs.Next.{BeganWith, ComeAsList, EndIsStep}
use Rattle.jc_runs.specs.WorkedNotes.{worked_windows}

module _ {S C L N : Type 0} (begun : Begins) (g : Devices S C L N) (files_leave : N → WindowName → List ℕ → Type 0) (b : Between) where
  -- of files and notes that were handed back, if they were
  abbrev pub FollowIf : Option C → Option N → Type 0
  FollowIf files ledger = IfSome files (λ closed. IfSome ledger (λ notes. EndIsStep begun g files_leave notes closed × ComeAsList (g.ledger.came notes) b))

  pub following : (files : Option C) (ledger : Option N) → IfSome files (λ closed. IfSome ledger (λ notes. EndIsStep begun g files_leave notes closed))
      → IfSome files (λ closed. IfSome ledger (λ notes. ComeAsList (g.ledger.came notes) b)) → FollowIf files ledger
  following None ledger is come = tt
  following (Some closed) None is come = tt
  following (Some closed) (Some notes) is come = (is, come)

  collected : (files : Option C) (ledger : Option N) (deeds : Option (List Deed)) → FollowIf files ledger → MayBegin b
      → (made : Tables) (list : List ℕ) (most_windows : Option ℕ) (given old new : Option (List ℕ)) (status : Status)
      → CollectsIntoUnion begun g (leaves files ledger deeds) made list most_windows given old new status
      → IsSomeAnd files (λ closed. IsSomeAnd ledger (LeavesStep begun g files_leave b made list most_windows given old new status closed))
  collected None ledger deeds follow begins made list most_windows given old new status does = absurd does.stores
  collected (Some closed) None deeds follow begins made list most_windows given old new status does = absurd does.stores
  collected (Some closed) (Some notes) deeds follow begins made list most_windows given old new status does =
      λ clean l_clean apart kind windows image began left found.
      let come = follow.1.come apart in (
        follow.1.came,
        come,
        follow.0 made kind list most_windows given old new status b windows image follow.1.came deeds does clean l_clean began begins
            (record { files_left = left; image_left = found; come = come }),
      )

  module _ (files : Option C) (ledger : Option N) (deeds : Option (List Deed)) (follow : FollowIf files ledger) (begins : MayBegin b)
      (words : List (List ℕ)) (given old new : Option (List ℕ)) where
    performed : (status : Status) → PerformsAsked begun g (leaves files ledger deeds) words given old new status
        → EndsInStep begun g files_leave b (leaves files ledger deeds) words given old new status
    performed status (request, asks, does) = inl (
      request,
      asks,
      λ database list sequences tables most_windows then_export is.
          let it = subst (λ (r : Request). Performs begun g (leaves files ledger deeds) r given old new status) is does in
          collected files ledger deeds follow begins tables list.now most_windows given old new status it.0,
    )

    pub ended : (errors errors' : Option (List ℕ)) (status : Status) → Ends begun g (leaves files ledger deeds) words given old new errors errors' status
        → EndsInStep begun g files_leave b (leaves files ledger deeds) words given old new status
    ended errors errors' Success ends = ⊎_elim (λ help. inr (inl help)) (λ does. performed Success does) ends.1
    ended errors errors' Refused ends = ⊎_elim (λ does. performed Refused does) (λ stops. inr (inr (inr stops))) ends
    ended errors errors' Misused ends = ⊎_elim (λ wrong. inr (inr (inl wrong.0))) (λ stops. inr (inr (inr stops))) ends
    ended errors errors' Failed does = performed Failed does
    ended errors errors' Unanswered does = performed Unanswered does

-- ---- where a run begins behind the worked list

pub began_so : (b : Between) (past : Journal) → b.past ≡ past → (came : List LogEntry) → b.came ≡ came → (made kind : Tables) (image : Image)
    (told found : List ℕ → Option (List ℕ)) (deeds : Option (List Deed)) (shape : Shape)
    → BeganWith made kind (begins_with image worked_windows b.past empty (Contains b.came) told found deeds shape) b
    → BeganWith made kind (begins_with image worked_windows past empty (Contains came) told found deeds shape) b
began_so b past past_is came came_is made kind image told found deeds shape began =
    subst (λ (es : List LogEntry). BeganWith made kind (begins_with image worked_windows past empty (Contains es) told found deeds shape) b) came_is
    (subst (λ (m : Journal). BeganWith made kind (begins_with image worked_windows m empty (Contains b.came) told found deeds shape) b) past_is began)

pub came_so : (b : Between) (came : List LogEntry) → b.came ≡ came → (e : LogEntry) → Contains came e ↔ Contains b.came e
came_so b came came_is e = subst (λ (es : List LogEntry). Contains came e ↔ Contains es e) (sym came_is) (λ has. has, λ has. has)

-- ---- what a run handed back

pub both_some : {C N : Type 0} (P : C → N → Type 0) (files : Option C) (ledger : Option N) (closed : C) (notes : N) → files ≡ Some closed → ledger ≡ Some notes
    → P closed notes → IfSome files (λ f. IfSome ledger (λ n. P f n))
both_some P files ledger closed notes is same holds =
    subst (λ (o : Option _). IfSome o (λ f. IfSome ledger (λ n. P f n))) (sym is) (subst (λ (o : Option _). IfSome o (λ n. P closed n)) (sym same) holds)
