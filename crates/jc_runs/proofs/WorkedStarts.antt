-- Runs that begin behind steps of the worked list.
use Rattle.std.proofs.Common.{◌≡◌, ◌∙◌, ◌^◌, arith, ℕ, Bool, true, false, cond, not, List, [], ◌∷◌, Option, Some, None, take, refl, sym, ap, inl, inr}
use Rattle.std.specs.FinMap.{get, same_map}
use Rattle.std.specs.List.{Contains}
use Rattle.std.specs.Option.{option_map, option_or}
use Rattle.jc_base.specs.declared.id.Key.{Key}
use Rattle.jc_base.specs.declared.id.Id128.{Id128}
use Rattle.jc_base.specs.Journal.{Journal}
use Rattle.jc_base.specs.LogEntry.{Body}
use Rattle.jc_keeper.specs.KeyLaws.{key_eq, key_exact, key_total, same_key}
use Rattle.jc_ledger.specs.declared.digest.EntryDigest.{EntryDigest}
use Rattle.jc_ledger.specs.Kept.{NoneCollide}
use Rattle.jc_ledger.specs.Known.{digest_of, digest_under, known_of}
use Rattle.jc_ledger.specs.Owners.{machine_named}
use Rattle.jc_ledger.specs.Union.{union}
use Rattle.jc_ledger_files.specs.declared.window_name.WindowName.{WindowName}
use Rattle.jc_ledger_files.specs.Owned.{owner_window}
use Rattle.jc_ledger_files.specs.Windows.{window_of}
use Rattle.jc_runs.specs.Between.{Between, nothing}
use Rattle.jc_runs.specs.Steps.{LeadsOn}
use Rattle.jc_runs.specs.Starts.{AreStarts, BeginsAt, Starts, StartsNoted}
use Rattle.jc_runs.specs.Worked.{numbered, of_its_window, of_lost, of_one, of_other, worked}
use Rattle.jc_runs.specs.WorkedNotes.{is_numbered, windows_without, worked_windows}
use Rattle.jc_runs.proofs.Course.{keeps_on, stands_at_first}
use Rattle.jc_runs.proofs.Forgetting.{knows_without, owns_without}
use Rattle.jc_runs.proofs.OneMore.{Reads}
use Rattle.jc_runs.proofs.Stepping.{Laws}
use Rattle.jc_runs.proofs.Unions.{has_none, part_get, union_get, void}
use Rattle.jc_runs.proofs.WorkedFiles.{Files, begins_with_these, has_one_of_p2, has_other_of_p2, known_there, makes_file, owner_there, with_nothing}
use Rattle.jc_runs.proofs.WorkedSteps.{both_owners, has_one, leads_half, leads_there, leads_to_s4, leads_to_s6, leads_to_s7, leads_to_s8, m1, m2, no_lost, none_but, none_collide, none_collide_all, one_only, owned_if, p1, p2, p3, p4, s10, s4, s5, s6, s7, s8, stays_there, with_none}

knows_one : known_of p2 of_one.key ≡ Some (digest_of of_one)
knows_one = ap (option_map (digest_under of_one.key)) has_one_of_p2

knows_other : known_of p2 of_other.key ≡ Some (digest_of of_other)
knows_other = ap (option_map (digest_under of_other.key)) has_other_of_p2

-- ---- when a window is gone

begins_without : (files : Files) → BeginsAt windows_without s8
unfolding windows_without
begins_without files made kind image told seen deeds shape begins = record {
  holds = begins;
  noted = λ k key. knows_without files worked_windows of_its_window s7 k (known_there files k key);
  owner = λ s. owns_without files worked_windows of_its_window s7 s (owner_there files s);
  past = with_nothing p4;
  came = λ e inside. inside;
}

-- ---- when the entry of that window was stored again

-- No window of entries is one of owners.
not_of_owners : (s : Id128) → of_its_window (owner_window s) ≡ false
not_of_owners s = by_test (of_its_window (owner_window s)) refl
  where
    key_at : Id128 → ℕ → Key
    key_at sequence number = record { seqnum_id = sequence; seqnum = number }

    by_test : (b : Bool) → of_its_window (owner_window s) ≡ b → b ≡ false
    by_test true is =
        let keys = same_key (key_at (numbered 1) 0) (key_at s (2 ^ 51)) is in
        let windows : 0 ≡ 2 ^ 51 = ap (λ (x : Key). x.seqnum) keys in
        absurd (omega (arith, windows))
    by_test false is = refl

other_key : (k x : Key) → ¬ (of_its_window (window_of k) ≡ of_its_window (window_of x)) → key_eq k x ≡ false
other_key k x apart = by_test (key_eq k x) refl
  where
    by_test : (b : Bool) → key_eq k x ≡ b → b ≡ false
    by_test true is = absurd (apart (ap (λ (y : Key). of_its_window (window_of y)) (same_key k x is)))
    by_test false is = refl

again_get : (k : Key) → get (union p4 m1) k ≡ get p2 k
again_get k = union_get p4 m1 k ∙ (ap (λ (o : Option Body). option_or (get m1 k) o) (part_get p3 stays_there k)
    ∙ by_test (of_its_window (window_of k)) refl)
  where
    by_test : (b : Bool) → of_its_window (window_of k) ≡ b → option_or (get m1 k) (cond (not b) (get p3 k) None) ≡ get p2 k
    by_test true is =
        let other : key_eq k of_other.key ≡ false = other_key k of_other.key (λ same. let it : true ≡ false = sym is ∙ same in cc) in
        sym (union_get p1 m2 k ∙ (ap (λ (o : Option Body). option_or o (get p1 k)) (none_but of_other k other)
        ∙ (union_get void m1 k ∙ ap (λ (o : Option Body). option_or (get m1 k) o) (has_none k))))
    by_test false is =
        let one : key_eq k of_one.key ≡ false = other_key k of_one.key (λ same. let it : false ≡ true = sym is ∙ same in cc) in
        ap (λ (o : Option Body). option_or o (get p3 k)) (none_but of_one k one) ∙ sym (with_none p2 k)

as_before : union p4 m1 ≡ p2
as_before = same_map key_total key_exact (union p4 m1) p2 again_get

known_again : (k : Key) → s10.known k ≡ known_of p2 k
known_again k = ap (λ (m : Journal). known_of m k) as_before

owner_again : (s : Id128) → s10.owner s ≡ both_owners s
owner_again s = ap (λ (w : Bool). cond w None (both_owners s)) (not_of_owners s)

-- ---- all of them

module _ (files : Files) (laws : Laws) where
  -- A run begins behind such a list if nothing that came collides.
  starts_at : (steps : ℕ) (known : Option EntryDigest) (windows : WindowName → List ℕ) (b : Between) → LeadsOn nothing (take steps worked) b → NoneCollide (Contains b.came)
      → b.owner (numbered 1) ≡ Some (machine_named (1 ∷ [])) → b.owner (numbered 2) ≡ Some (machine_named (2 ∷ []))
      → b.known of_one.key ≡ known → b.known of_other.key ≡ Some (digest_of of_other) → BeginsAt windows b → Starts steps known windows b
  starts_at steps known windows b leads apart owner owner_of_other one other began = record {
    leads = leads;
    owner = owner;
    owner_of_other = owner_of_other;
    noted = one;
    noted_of_other = other;
    began = began;
    begins = (keeps_on laws nothing b (take steps worked) leads apart (stands_at_first laws.same)).stands.begins;
  }

  -- ... and if all is as after the first run over the second database
  starts_whole : (steps : ℕ) (b : Between) → LeadsOn nothing (take steps worked) b → NoneCollide (Contains b.came)
      → ((k : Key) → b.known k ≡ known_of p2 k) → ((s : Id128) → b.owner s ≡ both_owners s) → StartsNoted steps b
  unfolding both_owners is_numbered owned_if
  starts_whole steps b leads apart known owner = starts_at steps (Some (digest_of of_one)) worked_windows b leads apart (owner (numbered 1))
      (owner (numbered 2)) (known of_one.key ∙ knows_one) (known of_other.key ∙ knows_other) (begins_with_these files b known owner)

  pub starts : Reads → AreStarts
  unfolding one_only both_owners is_numbered owned_if
  starts reads = (
    (s4, starts_whole 4 s4 (leads_to_s4 reads) none_collide (λ k. refl) (λ s. refl), refl, refl, refl),
    (s5, starts_whole 5 s5 (leads_half reads) none_collide (λ k. refl) (λ s. refl), refl, makes_file),
    (s6, starts_whole 6 s6 (leads_to_s6 reads) none_collide_all (λ k. refl) (λ s. refl), refl, ap (option_map (digest_under of_lost.key)) no_lost),
    (s7, starts_whole 7 s7 (leads_to_s7 reads) none_collide_all (λ k. refl) (λ s. refl), makes_file, refl),
    (
      s8,
      starts_at 8 None windows_without s8 (leads_to_s8 reads) none_collide_all refl refl refl knows_other (begins_without files),
      makes_file,
      refl,
    ),
    (s10, starts_whole 10 s10 (leads_there reads) none_collide_all known_again owner_again, refl, inr (inr (inl (has_one of_one)))),
  )
