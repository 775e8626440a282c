-- What is left of a union, by what was answered over it. (own)
use Rattle.std.proofs.Common.{◌≡◌, ◌⊎◌, ℕ, List, Option, Result, Err, inl, inr, subst, sym}
use Rattle.std.proofs.Math.Logic.{∥∥₁_map}
use Rattle.std.specs.Prelude.{IfErr}
use Rattle.sqlite.specs.Store.{Ghosts}
use Rattle.sqlite.specs.Recovery.{Image}
use Rattle.sqlite.specs.State.{HasCleanDisk}
use Rattle.sqlite.specs.Held.{Held, state}
use Rattle.jc_base.specs.Journal.{Journal}
use Rattle.jc_base.specs.LogEntry.{LogEntry}
use Rattle.jc_collector_answers.specs.Collected.{KeepsFirstOf, those_named}
use Rattle.jc_collector_answers.specs.Kept.{HoldsPrinted}
use Rattle.jc_collector_answers.specs.PrintedLaws.{named, text_other}
use Rattle.jc_collector_answers.specs.declared.name_lines.NameLines.TheVariants.{MachinesAndUploads}
use Rattle.jc_command_args.specs.declared.request.Tables.{Tables}
use Rattle.jc_command_shared.specs.declared.failure.Failure.{Failure}
use Rattle.jc_command_shared.specs.declared.failure.Failure.TheVariants.{StoreFailed}
use Rattle.jc_command_shared.specs.declared.status.Status.{Status}
use Rattle.jc_database.specs.Files.{AreLawful, HoldsJournal}
use Rattle.jc_database.specs.Left.{IsLeftOf}
use Rattle.jc_keeper.specs.declared.keeper.Keeper as keepers
use Rattle.jc_ledger.specs.declared.ledger.Ledger as ledgers
use Rattle.jc_ledger.specs.Kept.{NoneCollide}
use Rattle.jc_ledger.specs.Known.{Known}
use Rattle.jc_ledger.specs.Lagging.{MayCatchUp}
use Rattle.jc_ledger.specs.Union.{union}
use Rattle.jc_store.specs.Crash.{LeavesJournals, MayLeave}
use Rattle.jc_store.specs.Meaning.{Meaning, journal_of}
use Rattle.jc_upload.specs.declared.answer.Answer.{Answer}
use Rattle.jc_collector.specs.Kinds.{BeginsIn, meaning_of}
use Rattle.jc_collector.specs.Noted.{HoldsNoted}
use Rattle.jc_collector.specs.Open.{IsFoundIn}
use Rattle.jc_collector.specs.UnionAnswered.{AnswersNoted}
use Rattle.jc_collector.specs.UnionLeft.{FilesLeft, IsLeftAs, LeavesNoted, UnionIsLeft}
use Rattle.jc_collector.specs.UnionOpened.{FaultsOver, MayOpen}
use Rattle.jc_collector.specs.UnionRun.{IsFoundAs}

module _ {S : Type 0} {g : Ghosts S} {m : Meaning} {present : Held S} {past before after : Journal} {Sound : Type 0} {known : Known} {came : LogEntry → Type 0}
    {ledgers : Known → Type 0}
  where
    pub leaves_noted : (AreUploads : List (Option (List ℕ)) → Type 0) (answers : List Answer) (image : Image) → IsLeftOf m g present image
        → HoldsNoted AreUploads past before after Sound known came (MayLeave m g present) ledgers answers
        → ∥ LeavesNoted AreUploads m past before came ledgers answers image ∥₁
    leaves_noted AreUploads answers image left h = ∥∥₁_map left (λ it. record {
      found = it.0;
      keeps = h.found it.0 it.1;
      lags = λ known in_ledger. h.lags it.0 known it.1 in_ledger;
      holds = it.2;
    })

-- it is said of another meaning, and of the journal in other words
leaves_as : (m n : Meaning) (AreUploads : List (Option (List ℕ)) → Type 0) (past one other : Journal) (came : LogEntry → Type 0) (ledgers : Known → Type 0)
    (answers : List Answer) (image : Image) → one ≡ other → ((found : Journal) → HoldsJournal m image found → HoldsJournal n image found)
    → ∥ LeavesNoted AreUploads m past one came ledgers answers image ∥₁ → ∥ LeavesNoted AreUploads n past other came ledgers answers image ∥₁
leaves_as m n AreUploads past one other came ledgers answers image same holds left = ∥∥₁_map left (λ it. record {
  found = it.found;
  keeps = subst (λ (j : Journal). KeepsFirstOf AreUploads (union past j) answers (union past it.found)) same it.keeps;
  lags = it.lags;
  holds = holds it.found it.holds;
})

-- a failure is that of the answers, or the database couldn't be closed
fault_of : (journal : Journal) (result : Result Status Failure) (failure : Failure) → IfErr result (FaultsOver journal)
    → (result ≡ Err failure) ⊎ (failure ≡ StoreFailed) → FaultsOver journal failure
fault_of journal result failure faults (inl is) = subst (λ (r : Result Status Failure). IfErr r (FaultsOver journal)) is faults
fault_of journal result failure faults (inr is) = subst (FaultsOver journal) (sym is) tt

-- A database that was found in files was the present one of a union, over which uploads were answered that a text names. It is
-- left, and so are the notes, as they are then.
module _ {S N U : Type 0} {g : Ghosts S} {n : ledgers.Ghosts N} {u : keepers.Ghosts U} {m : Meaning} {past : Journal} {text : Option (List ℕ)}
    {present now : Held S} {notes notes_now : N} {joined : U} {result : Result Status Failure} {old new : Option (List ℕ)} (told : List ℕ → Option (List ℕ)) (made : Tables) (first : Image) (found : IsFoundAs m g made first present)
    (ran : AnswersNoted m g n u past (named text) (those_named told MachinesAndUploads text) present notes joined now notes_now result old new)
    (joins : HasCleanDisk (state g now) → n.clean notes_now → NoneCollide (n.came notes_now) → u.clean joined)
    (journals : u.leaves_journals joined → LeavesJournals m g now) (lawful : AreLawful m)
  where
    at_end : (failure : Failure) → (result ≡ Err failure) ⊎ (failure ≡ StoreFailed) → (files : FilesLeft) → IsLeftAs m g now files
        → UnionIsLeft n made first told past (λ before. MayCatchUp (n.known notes) past before (n.came notes) × n.sound notes) text
        (λ Holds. HoldsPrinted (named text) Holds result old new) failure files notes_now
    at_end failure why files left clean l_clean none kind before begin noted =
        let AreUploads = those_named told MachinesAndUploads text in
        let u_clean = joins (left.was_clean clean) l_clean none in
        let was = (ran.was_clean u_clean).0 in
        let has = found.keeps was kind before begin in
        let may : MayOpen m g present (n.known notes) past (n.came notes) = record {
          sound = found.sound was;
          made = has.made;
          lags = subst (λ (j : Journal). MayCatchUp (n.known notes) past j (n.came notes)) (sym has.is) noted.0;
        } in (
          subst (λ (j : Journal). FaultsOver j failure) has.is (fault_of (journal_of m g present) result failure (ran.faults u_clean may) why),
          text_other _ _
              (λ answers h image is. leaves_as m (meaning_of kind) AreUploads past _ before _ _ answers image has.is (λ j holds. found.same was kind before begin image j holds)
              (leaves_noted AreUploads answers image
              (left.leaves lawful (ran.tables u_clean may) (journals (ran.recovers u_clean may noted.1)) clean image is) h))
              text result old new (ran.each u_clean may noted.1),
        )

    pub union_left : (failure : Failure) → (result ≡ Err failure) ⊎ (failure ≡ StoreFailed) → (files : FilesLeft) → IsLeftAs m g now files
        → (notes_left : N) → notes_left ≡ notes_now
        → UnionIsLeft n made first told past (λ before. MayCatchUp (n.known notes) past before (n.came notes) × n.sound notes) text
        (λ Holds. HoldsPrinted (named text) Holds result old new) failure files notes_left
    union_left failure why files left notes_left same =
        subst (λ (l : N). UnionIsLeft n made first told past (λ before. MayCatchUp (n.known notes) past before (n.came notes) × n.sound notes) text
        (λ Holds. HoldsPrinted (named text) Holds result old new) failure files l) (sym same) (at_end failure why files left)

-- what holds of a union that may be opened of what was found in the files, and of the notes beside it
module _ {S : Type 0} {g : Ghosts S} (made mine : Tables) (image : Image) (first : Held S) (found : IsFoundIn g made mine image first)
    (clean : HasCleanDisk (state g first)) (past : Journal) (known : Known) (came : LogEntry → Type 0)
  where
    pub at_found : (Says : Tables → Journal → Type 0)
        → (MayOpen (meaning_of mine) g first known past came → Says mine (journal_of (meaning_of mine) g first))
        → (kind : Tables) (before : Journal) → BeginsIn made kind image before → MayCatchUp known past before came → Says kind before
    at_found Says each kind before begin lags =
        let it = found clean in
        let at = it.1 kind before begin in
        let same = at.1.is in
        let may : MayOpen (meaning_of mine) g first known past came = record {
          sound = it.0;
          made = at.1.made;
          lags = subst (λ (j : Journal). MayCatchUp known past j came) (sym same) lags;
        } in
        subst (λ (k : Tables). Says k before) (sym at.0) (subst (λ (j : Journal). Says mine j) same (each may))
