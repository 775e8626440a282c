-- What a run leaves is what the next one finds.
use Rattle.std.proofs.Common.{◌≡◌, ◌∙◌, ◌↔◌, ◌++◌, ℕ, List, Option, Some, None, IfSome, refl, subst, sym, inl, inr, ⊎_elim}
use Rattle.std.specs.List.{Contains}
use Rattle.std.proofs.lemmas.List.Elements.{Contains-append_cases, Contains-append_left, Contains-append_right}
use Rattle.sqlite.specs.Recovery.{Image}
use Rattle.jc_base.specs.declared.id.Id128.{Id128}
use Rattle.jc_base.specs.declared.id.Key.{Key}
use Rattle.jc_base.specs.Journal.{Journal}
use Rattle.jc_base.specs.LogEntry.{IsKey, LogEntry}
use Rattle.jc_collect.specs.Each.{CollectsEach, KeepsCollected}
use Rattle.jc_collector.specs.Kinds.{BeginsIn}
use Rattle.jc_collector.specs.Unopened.{BeginsAgain, LeavesBegun}
use Rattle.jc_collector_answers.specs.Collected.{ByDefault, KeepsFirstOf, StoresFirstOf}
use Rattle.jc_command.specs.Run.{Begins, CameAsList}
use Rattle.jc_command_args.specs.declared.request.Tables.{Tables}
use Rattle.jc_database.specs.Files.{InFiles}
use Rattle.jc_ledger.specs.declared.owner.MachineDigest.{MachineDigest}
use Rattle.jc_ledger.specs.Kept.{ComesToo, IsKept}
use Rattle.jc_ledger.specs.Known.{Known}
use Rattle.jc_ledger.specs.Lagging.{MayCatchUp}
use Rattle.jc_ledger.specs.Owners.{StayOwnedAfter}
use Rattle.jc_ledger.specs.Union.{union}
use Rattle.jc_ledger_files.specs.declared.window_name.WindowName.{WindowName}
use Rattle.jc_ledger_files.specs.NotesOf.{notes_of}
use Rattle.jc_ledger_files.specs.Owned.{owner_found}
use Rattle.jc_ledger_files.specs.Windows.{known_in}
use Rattle.jc_upload.specs.declared.answer.Answer.{Answer}
use Rattle.jc_runs.specs.Between.{Between}
use Rattle.jc_runs.specs.Next.{AreFirst, BeganWith, ComeAsList, IsFoundUnopened, behind}
use Rattle.jc_runs.specs.Steps.{EndsRun, LeavesEarlier, StopsRun}

-- what is known alike, of the same past, when more had come
pub begins_alike : {known found : Known} {past later now : Journal} {came comes : LogEntry → Type 0} → past ≡ later
    → ((k : Key) → IsKey k → found k ≡ known k) → ComesToo came comes → MayCatchUp known past now came → MayCatchUp found later now comes
begins_alike {found = found} {now = now} {comes = comes} same alike more lag = subst (λ (m : Journal). MayCatchUp found m now comes) same (record {
  noted = lag.noted;
  kept = record {
    noted = λ k key. alike k key ∙ lag.kept.noted k key;
    apart = lag.kept.apart;
    have_come = λ e stored. more e (lag.kept.have_come e stored);
  };
  lags = lag.lags;
})

pub kept_alike : {known found : Known} {past later now : Journal} {came comes : LogEntry → Type 0} → past ≡ later
    → ((k : Key) → IsKey k → found k ≡ known k) → ComesToo came comes → IsKept known past now came → IsKept found later now comes
kept_alike {found = found} {now = now} {comes = comes} same alike more kept = subst (λ (m : Journal). IsKept found m now comes) same (record {
  noted = λ k key. alike k key ∙ kept.noted k key;
  apart = kept.apart;
  have_come = λ e stored. more e (kept.have_come e stored);
})

-- what came in a run, in front of what had come before
pub come_as_list : (before comes : LogEntry → Type 0) (b : Between) → CameAsList before comes
    → ((e : LogEntry) → before e ↔ Contains b.came e) → ComeAsList comes b
come_as_list before comes b came had = record {
  came = all;
  are = λ e. (into e, back e);
  come = λ none. record {
    had_come = λ e has. Contains-append_right more b.came e has;
    have_come = into;
    apart = λ e f here too. none e f (back e here) (back f too);
  };
}
  where
    more : List LogEntry
    more = came.0

    all : List LogEntry
    all = more ++ b.came

    into : (e : LogEntry) → comes e → Contains all e
    into e now = ⊎_elim
        (λ (old : before e). Contains-append_right more b.came e ((had e).0 old))
        (λ (new : Contains more e). Contains-append_left more b.came e new)
        ((came.1 e).0 now)

    back : (e : LogEntry) → Contains all e → comes e
    back e has = (came.1 e).1 (elim (Contains-append_cases more b.came e has) [ inl new ↦ inr new | inr old ↦ inl ((had e).1 old) ])

-- whoever else might own a sequence after a stop, its owner does
pub leaves_earlier : (made kind : Tables) (begun : Begins) (b : Between) (now : Journal) (windows : WindowName → List ℕ) (came : List LogEntry)
    (may_own : Id128 → Option MachineDigest → Type 0) → BeganWith made kind begun b → StayOwnedAfter begun.owner may_own
    → ((s : Id128) → may_own s (owner_found windows s)) → ((e : LogEntry) → Contains b.came e → Contains came e)
    → LeavesEarlier b (behind b now windows came)
leaves_earlier made kind begun b now windows came may_own began stay owners comes = record {
  earlier = refl;
  past = refl;
  forgotten = refl;
  released = refl;
  comes = comes;
  owners = λ s machine owns. stay s (owner_found windows s) (owners s) machine (began.owner s ∙ owns);
}

pub end_step : (AreUploads : List (Option (List ℕ)) → Type 0) (answers : List Answer) (b : Between) (past now : Journal) (windows : WindowName → List ℕ) (came : List LogEntry)
    (known : Known) (comes : LogEntry → Type 0) → past ≡ b.past → LeavesEarlier b (behind b now windows came)
    → ((k : Key) → IsKey k → known_in (λ w. notes_of (windows w)) k ≡ known k) → ComesToo comes (Contains came) → IsKept known past now comes
    → StoresFirstOf AreUploads (union past b.now) answers (union past now)
    → AreFirst AreUploads (λ uploads. EndsRun uploads answers b (behind b now windows came))
end_step AreUploads answers b past now windows came known comes same leaves alike more kept stored = record {
  first = stored.known;
  others = stored.others;
  both = stored.are;
  are = record {
    leaves = leaves;
    kept = λ begins none. kept_alike same alike more kept;
    stored = λ begins none.
        subst (λ (m : Journal). ByDefault (λ limits. CollectsEach limits stored.known (union m b.now) answers (union m now))) same stored.collected;
  };
}

pub stop_step : (AreUploads : List (Option (List ℕ)) → Type 0) (answers : List Answer) (b : Between) (past now : Journal) (windows : WindowName → List ℕ) (came : List LogEntry)
    (known : Known) (comes : LogEntry → Type 0) → past ≡ b.past → LeavesEarlier b (behind b now windows came)
    → ((k : Key) → IsKey k → known_in (λ w. notes_of (windows w)) k ≡ known k) → ComesToo comes (Contains came) → MayCatchUp known past now comes
    → KeepsFirstOf AreUploads (union past b.now) answers (union past now)
    → AreFirst AreUploads (λ uploads. StopsRun uploads answers b (behind b now windows came))
stop_step AreUploads answers b past now windows came known comes same leaves alike more lags stored = record {
  first = stored.known;
  others = stored.others;
  both = stored.are;
  are = record {
    leaves = leaves;
    lags = λ begins none. begins_alike same alike more lags;
    stored = λ begins none.
        subst (λ (m : Journal). ByDefault (λ limits. KeepsCollected limits stored.known (union m b.now) answers (union m now))) same stored.keeps;
  };
}

-- with what is found of files that weren't opened as a database
module _ {S C L : Type 0} (o : InFiles S C L) (made : Tables) (first image : Image) where
  pub begins_unopened : (left : Option L) → IfSome left (LeavesBegun o made first) → IsFoundUnopened o first left image
      → BeginsAgain made first image
  begins_unopened None begun same = λ kind found begins.
      ∣ subst (λ (i : Image). BeginsIn made kind i found) (sym same) begins ∣₁
  begins_unopened (Some files) begun is = begun is.0 is.1.0 image is.1.1
