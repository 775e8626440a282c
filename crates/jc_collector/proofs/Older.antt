-- Which tables `migrate` finds in a database, and what becomes of their journal.
use Rattle.std.proofs.Common.{◌≡◌, ◌↔◌, inl, inr, refl, sym, ap, subst, ◌∙◌}
use Rattle.sqlite.specs.Store.{Ghosts}
use Rattle.sqlite.specs.Recovery.{Image}
use Rattle.sqlite.specs.State.{HasCleanDisk}
use Rattle.sqlite.specs.Held.{Held, state}
use Rattle.sqlite.specs.Effect.{Database}
use Rattle.jc_command_args.specs.declared.request.Tables.TheVariants.{ByKey}
use Rattle.jc_store.specs.Statements.{IsBlank}
use Rattle.jc_database.specs.Files.{HoldsJournal, IsFound}
use Rattle.jc_database.specs.FilesLaws.{database_found, keeps_found}
use Rattle.jc_collector.specs.Kinds.{HasFields}
use Rattle.jc_collector.proofs.Found.{fields_by_key, no_fields}
use Rattle.jc_collector.specs.Earlier.{Becomes, EarlierOver, IsEarlierFound, IsTakenFrom, Older, meaning_before, older_of, oldest, by_key}

-- A database with a journal has tables of the kind that they tell.
which_older : (mine : Older) (now : Database) → (mine ≡ by_key) ↔ HasFields now.schema
    → (kind : Older) (db : Database) → (meaning_before kind).is_journal db → db ≡ now → kind ≡ mine
which_older oldest now tells oldest db journal is = refl
which_older oldest now tells by_key db journal is =
    sym (tells.1 (subst HasFields (sym journal.spells.schema ∙ ap (λ (d : Database). d.schema) is) (fields_by_key journal.spells.shape)))
which_older by_key now tells oldest db journal is =
    absurd (no_fields (subst HasFields (sym (ap (λ (d : Database). d.schema) is) ∙ journal.schema) (tells.0 refl)))
which_older by_key now tells by_key db journal is = refl

-- ---- how a run begins

pub earlier_found : {S : Type 0} {g : Ghosts S} (image : Image) (opened : Held S) → (HasCleanDisk (state g opened) → IsFound g image opened)
    → (¬ IsBlank (state g opened).now) → (taken : EarlierOver S) → IsTakenFrom g opened taken → IsEarlierFound g image taken
earlier_found {g = g} image opened found tables taken it sound kind before (inl holds) =
    let mine = older_of taken in
    let was = it.was_sound sound in
    let is = database_found (meaning_before kind) image opened (found was.clean) before holds in
    let same = which_older mine (state g opened).now it.kind kind holds.database holds.is_journal (sym is) in
    let kept = keeps_found (meaning_before mine) image opened (found was.clean) before (subst (λ (k : Older). HoldsJournal (meaning_before k) image before) same holds) in
    (same, record { made = it.keeps.made kept.made; is = it.keeps.same was kept.made sound ∙ kept.is })
earlier_found image opened found tables taken it sound kind before (inr nothing) =
    absurd (tables ((found (it.was_sound sound).clean).none nothing.0))

-- ---- what becomes tables by key

pub by_key_alone : (Says : Older → Type 0) → Says oldest → (kind : Older) → Becomes kind ByKey → Says kind
by_key_alone Says is oldest becomes = is
by_key_alone Says is by_key becomes = absurd cc
