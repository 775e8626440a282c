-- What an open that fails leaves is as what was there.
use Rattle.std.proofs.Common.{◌≡◌, ◌⊎◌, ◌∷◌, ℕ, ◌%◌, ◌≤◌, Bool, false, true, eqb, List, [], IsTrue, inl, inr, sym, subst, ◌∙◌, arith}
use Rattle.std.proofs.Math.Logic.{∥∥₁_elim, ∥∥₁_map}
use Rattle.std.proofs.lemmas.Bool.{cases_Bool, cases_eq, eqb-true}
use Rattle.sqlite_disk.specs.declared.Disk as disk
use Rattle.sqlite_disk.specs.declared.Files.{Files}
use Rattle.sqlite_disk.specs.Events.{Event, replay, settled}
use Rattle.sqlite_disk.specs.History.{MayLeave}
use Rattle.sqlite_wal.specs.PageSize.{IsPageSize}
use Rattle.sqlite_wal.specs.Recovery as raw
use Rattle.sqlite_wal.specs.Recovery.{IsIgnored}
use Rattle.sqlite_pool.specs.Stored.{reserved, is_summed, stored_size, StandsAs}
use Rattle.sqlite_pool.proofs.ProbeLemmas.{size_by_log, size_by_file, reserved_word}
use Rattle.sqlite_store.specs.Unopened.{state_of}
use Rattle.sqlite_store.specs.declared.store.FileStore.{FileStore}
use Rattle.sqlite_store.specs.declared.store.open.Unopened.{Unopened}
use Rattle.sqlite_catalog.specs.Listing.{IsSound}
use Rattle.sqlite.specs.FileStore.{state, view}
use Rattle.sqlite.specs.Recovery.{Image}
use Rattle.sqlite.specs.Schema.{Schema}
use Rattle.sqlite.specs.WalFiles.{outcomes}
use Rattle.sqlite.specs.Tree.{Trees}
use Rattle.sqlite.specs.Opening.{HoldsIn}
use Rattle.sqlite.specs.Files.{AreFoundIn, HoldsDatabase, IsCleanLeft, IsEmpty, IsNothing, IsUnderWay, LeavesFiles, NamesSize, SaysSums, image_of}
use Rattle.sqlite.proofs.ListingLemmas.{empty_is_sound}
use Rattle.sqlite.specs.declared.file.Leftover.{Leftover}
use Rattle.sqlite.specs.declared.file.Leftover.TheVariants as leftover
use Rattle.jc_database.specs.Left.{HaveNoSums, LeavesAsBefore, StaysAs}
use Rattle.jc_database.specs.OverDisk.{over_disk}
use Rattle.jc_database.proofs.Blank.{never_blank}
use Rattle.jc_database.proofs.Stores.{found_in, no_database}

-- ---- the size of pages, and whether they end in sums

few_reserved : (size : ℕ) → reserved size ≤ 8
few_reserved size = elim (cases_Bool (eqb (size % 16) 8)) [ inl on ↦ rw on (omega arith) | inr off ↦ rw off (omega arith) ]

some_reserved : (size : ℕ) → is_summed size ≡ true → reserved size ≡ 8
some_reserved size on = eqb-true (reserved size) 8 on

none_reserved : (size : ℕ) → is_summed size ≡ false → reserved size ≡ 0
none_reserved size none = elim (cases_Bool (eqb (size % 16) 8)) [ inl on ↦ absurd (let never = rw on at none in cc) | inr off ↦ rw off ]

module _ (size : ℕ) (image : Image) (names : NamesSize image (stored_size size)) (sums : IsTrue (is_summed size) → SaysSums (stored_size size) image)
    (plain : is_summed size ≡ false → HaveNoSums image) (db : Trees) (held : HoldsDatabase image db)
  where
    large : 504 ≤ held.0
    large = omega (arith, held.1.0, few_reserved held.0)

    same_stored : stored_size held.0 ≡ stored_size size
    same_stored = elim (cases_eq (stored_size held.0) (stored_size size)) [
      | inl same ↦ same
      | inr other ↦
          let read = λ (seen : ¬ IsIgnored image.log). other (sym (size_by_log held.0 image held.2.pages held.2.found seen) ∙ sym (names.0 seen)) in
          absurd (read (λ ignored. other (sym (size_by_file held.0 image held.2.pages held.2.found large held.2.ours.file.sound ignored) ∙ sym (names.1 ignored))))
    ]

    same_reserved : reserved held.0 ≡ reserved size
    same_reserved = elim (cases_Bool (is_summed size)) [
      | inl on ↦
          let (first, is, len, word, begins) = reserved_word held.0 image held.2.pages held.2.found large held.2.ours.file.sound in
          let found = subst (λ n. raw.Recovers n image held.2.found.stored) same_stored held.2.found.found in
          let said = sums on held.2.found.stored first found is (len ∙ same_stored) in
          omega (arith, word, said, some_reserved size on)
      | inr off ↦ none_reserved held.0 (plain off held.0 db held.2) ∙ sym (none_reserved size off)
    ]

    same_size : held.0 ≡ size
    same_size = omega (arith, same_stored, same_reserved)

    -- what stands for the same pages has the same database
    still_held : (left : Image) → StandsAs size image left → HoldsDatabase left db
    still_held left stands =
        let it = subst (λ n. HoldsIn n image db) same_size held.2 in (
          size,
          subst (λ n. IsPageSize (stored_size n)) same_size held.1,
          record {
            pages = it.pages;
            wanted = it.wanted;
            schema = it.schema;
            found = stands.1 it.pages it.found;
            ours = it.ours;
            reads = it.reads;
            sound = it.sound;
          },
        )

-- ---- files that were settled, and of which nothing has been asked since

pub settled_leaves : (mixes : Bool) (start : List ℕ) (history : List Event) (key : ℕ) → history ≡ settled key ∷ [] → (c : List ℕ)
    → MayLeave mixes (replay start history).seen (replay start history).synced (replay start history).steps c → c ≡ start
settled_leaves mixes start history key is c may =
    let fresh : MayLeave mixes start start [] c =
    subst (λ (h : List Event). MayLeave mixes (replay start h).seen (replay start h).synced (replay start h).steps c) is may in
    elim fresh [ inl seen ↦ seen | inr synced ↦ synced ]

-- ---- each of the three that an open hands back

module _ (before : Image) where
  itself : (image : Image) → image ≡ before → StaysAs before image
  itself image is = subst (StaysAs before) (sym is) (record { kept = λ db held. held; none = λ none. none })

  emptied : (image : Image) → ((db : Trees) → ∥ HoldsDatabase before db ∥₁ → ∥ HoldsDatabase image db ∥₁)
      → ∥ ((db : Trees) × HoldsDatabase before db × IsEmpty db) ∥₁ → ∥ ((db : Trees) × HoldsDatabase image db × IsEmpty db) ∥₁
  emptied image kept empty = ∥∥₁_elim empty squash₁ (λ (it : (db : Trees) × HoldsDatabase before db × IsEmpty db).
      ∥∥₁_map (kept it.0 ∣ it.1 ∣₁) (λ (held : HoldsDatabase image it.0).
      let r : (db : Trees) × HoldsDatabase image db × IsEmpty db = (it.0, held, it.2) in r))

module _ {D : Type 0} (g : disk.Ghosts D) (before : Image) (files : Files D) (same : image_of g files ≡ before)
    (only : (image : Image) → outcomes g files.log files.db image → image ≡ before)
  where
    under_way : IsNothing before → (image : Image) → IsUnderWay g files image → StaysAs before image
    under_way nothing image (inl old) = itself before image (only image old)
    under_way nothing image (inr none) = record {
      kept = λ db held. ∥∥₁_elim held squash₁ (λ (it : HoldsDatabase before db). absurd (no_database before db it nothing));
      none = λ _. none;
    }

    stood : (size : ℕ) → ¬ IsNothing before → NamesSize before (stored_size size) → (IsTrue (is_summed size) → SaysSums (stored_size size) before)
        → (is_summed size ≡ false → HaveNoSums before) → (image : Image) → outcomes g files.log files.db image ⊎ StandsAs size (image_of g files) image → StaysAs before image
    stood size something names sums plain image (inl old) = itself before image (only image old)
    stood size something names sums plain image (inr new) =
        let stands = subst (λ (i : Image). StandsAs size i image) same new in
        let kept : (db : Trees) → ∥ HoldsDatabase before db ∥₁ → ∥ HoldsDatabase image db ∥₁ =
        λ db holds. ∥∥₁_map holds (λ (held : HoldsDatabase before db). still_held size before names sums plain db held image stands) in
        record {
          kept = kept;
          none = λ none. elim none [ inl nothing ↦ absurd (something nothing) | inr empty ↦ inr (emptied before image kept empty) ];
        }

    unopened : (now : Unopened D g) → LeavesFiles files (leftover.Unopened now) → (is_summed (state_of now).page_size ≡ false → HaveNoSums before)
        → (image : Image) → (state_of now).may_leave image → StaysAs before image
    unopened now (inl it) plain image may = under_way (subst IsNothing same it.0) image (it.1 image may)
    unopened now (inr it) plain image may =
        let size = (state_of now).page_size in
        stood size (subst (λ (i : Image). ¬ IsNothing i) same it.0) (subst (λ (i : Image). NamesSize i (stored_size size)) same it.1)
        (λ on. subst (SaysSums (stored_size size)) same (it.3 on)) plain image (it.4 image may).same

    module _ (now : FileStore D g) (leaves : LeavesFiles files (leftover.Store now)) (numbered : IsTrue (view now).is_numbered)
        (image : Image) (may : (state now).may_leave image)
      where
        still_there : (db : Trees) → ∥ HoldsDatabase before db ∥₁ → ∥ HoldsDatabase image db ∥₁
        still_there db holds = ∥∥₁_elim holds squash₁ (λ (held : HoldsDatabase before db).
            ∥∥₁_map (found_in now numbered image may) (λ it.
            let is : it.0 ≡ db = (leaves it.0 it.1).1 db (subst (λ (i : Image). HoldsDatabase i db) (sym same) held) in
            subst (HoldsDatabase image) is (it.2 held.2.schema (subst (IsSound held.2.schema) (sym is) held.2.sound))))

        stored : StaysAs before image
        stored = record {
          kept = still_there;
          none = λ none. elim none [
            | inl nothing ↦ inr (∥∥₁_elim (found_in now numbered image may) squash₁ (λ it.
                found_empty nothing it.0 (subst (λ (i : Image). AreFoundIn i it.0) same (leaves it.0 it.1).0) it.2))
            | inr empty ↦ inr (emptied before image still_there empty)
          ];
        }
          where
            found_empty : IsNothing before → (found : Trees) → AreFoundIn before found → ((schema : Schema) → IsSound schema found → HoldsDatabase image found)
                → ∥ ((db : Trees) × HoldsDatabase image db × IsEmpty db) ∥₁
            found_empty nothing found (inl (size, pages, wanted, adopts, ours, is)) holds =
                ∥∥₁_elim ours squash₁ (λ file. absurd (never_blank size before pages adopts file.file.sound nothing))
            found_empty nothing found (inr none) holds = ∣ (found, holds _ (empty_is_sound found none.1.1), none.1) ∣₁

    pub leaves_as_before : (left : Leftover D g) → (IsCleanLeft left → LeavesFiles files left) → LeavesAsBefore (over_disk g) before left
    leaves_as_before (leftover.Files now) leaves clean usual image may = itself before image (only image (leaves clean image may))
    leaves_as_before (leftover.Unopened now) leaves clean usual image may = unopened now (leaves clean) usual image may
    leaves_as_before (leftover.Store now) leaves clean usual image may = stored now (leaves clean) usual image may
