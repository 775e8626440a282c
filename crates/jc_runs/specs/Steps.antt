-- What comes between: runs, turns, and what goes for its age. (own)
use Rattle.std.specs.Prelude.{ℕ, ◌≡◌, ◌||◌, ◌&&◌, Bool, false, not, if◌then◌else◌, is_some, List, [], ◌∷◌, Option, None}
use Rattle.std.specs.List.{Contains}
use Rattle.std.specs.FinMap.{empty, get, retain_keys}
use Rattle.jc_base.specs.declared.id.Id128.{Id128}
use Rattle.jc_base.specs.declared.id.Key.{Key}
use Rattle.jc_base.specs.Journal.{Journal}
use Rattle.jc_base.specs.LogEntry.{LogEntry}
use Rattle.jc_collect.specs.Each.{CollectsEach, KeepsCollected}
use Rattle.jc_collector_answers.specs.Collected.{ByDefault}
use Rattle.jc_ledger.specs.declared.owner.MachineDigest.{MachineDigest}
use Rattle.jc_ledger.specs.Kept.{IsKept, NoneCollide}
use Rattle.jc_ledger.specs.Lagging.{LagsBehind}
use Rattle.jc_ledger.specs.Owners.{StayOwned}
use Rattle.jc_ledger.specs.Union.{union}
use Rattle.jc_ledger_files.specs.declared.window_name.WindowName.{WindowName}
use Rattle.jc_ledger_files.specs.Owned.{owner_window}
use Rattle.jc_ledger_files.specs.Windows.{same_window, window_of}
use Rattle.jc_upload.specs.declared.answer.Answer.{Answer}
use Rattle.jc_runs.specs.Between.{Between, Fate, MayBegin, database, journals_of}

pub data Step : Type 0 where
  -- A run printed the lines of these answers, each to the upload at its place, and ended.
  Ends : List (Option (List ℕ)) → List Answer → Step
  -- It printed these and was stopped, or failed.
  Stops : List (Option (List ℕ)) → List Answer → Step
  -- Another database, which is empty, became the present one: this became of the one before.
  Turns : Fate → Step
  -- Databases went for their age, or whatever became of them.
  Expires : Step
  -- Notes went: those of these keys, and those of these sequences' owners, if these weren't renamed.
  Forgets : (Key → Bool) → (Id128 → Bool) → Step

-- Windows of notes went for their age.
abbrev pub forgets_windows : (WindowName → Bool) → Step
forgets_windows went = Forgets (λ k. went (window_of k)) (λ s. went (owner_window s))

-- A sequence is another machine's, or nobody's: its owner's note was changed, and no other.
abbrev pub renames : Id128 → Step
renames s = Forgets (λ _. false) (λ t. same_window (owner_window s) (owner_window t))

abbrev pub with_owner : Id128 → Option MachineDigest → Between → Between
with_owner s machine b = record b {
  owner = λ t. if same_window (owner_window s) (owner_window t) then machine else b.owner t;
  released = λ t. b.released t || same_window (owner_window s) (owner_window t);
}

-- the answers whose lines were printed
abbrev pub answers_of : Step → List Answer
answers_of (Ends uploads answers) = answers
answers_of (Stops uploads answers) = answers
answers_of (Turns fate) = []
answers_of Expires = []
answers_of (Forgets keys sequences) = []

-- the uploads that they were given to, of each of which the bytes are known or not
abbrev pub answered_in : Step → List (Option (List ℕ))
answered_in (Ends uploads answers) = uploads
answered_in (Stops uploads answers) = uploads
answered_in (Turns fate) = []
answered_in Expires = []
answered_in (Forgets keys sequences) = []

-- ---- runs

-- A run does nothing to earlier databases, and to what is noted of them. It takes no sequence from its owner.
pub record LeavesEarlier (b c : Between) : Type 0 where
  pub earlier : c.earlier ≡ b.earlier
  pub past : c.past ≡ b.past
  pub forgotten : c.forgotten ≡ b.forgotten
  pub released : c.released ≡ b.released
  pub comes : (e : LogEntry) → Contains b.came e → Contains c.came e
  pub owners : StayOwned b.owner c.owner

-- Its uploads were collected into the union of what is noted of the earlier databases and the present one, all of which is
-- noted, if what it supposes holds.
pub record EndsRun (uploads : List (Option (List ℕ))) (answers : List Answer) (b c : Between) : Type 0 where
  pub leaves : LeavesEarlier b c
  pub kept : MayBegin b → NoneCollide (Contains c.came) → IsKept c.known b.past c.now (Contains c.came)
  pub stored : MayBegin b → NoneCollide (Contains c.came)
      → ByDefault (λ limits. CollectsEach limits uploads (union b.past b.now) answers (union b.past c.now))

-- The first of them were, and some more that no answer acknowledges, whole ones and in order, and some of it is noted.
pub record StopsRun (uploads : List (Option (List ℕ))) (answers : List Answer) (b c : Between) : Type 0 where
  pub leaves : LeavesEarlier b c
  pub lags : MayBegin b → NoneCollide (Contains c.came) → MayBegin c
  pub stored : MayBegin b → NoneCollide (Contains c.came)
      → ByDefault (λ limits. KeepsCollected limits uploads (union b.past b.now) answers (union b.past c.now))

-- ---- turns, and what goes for its age

-- The present database has had its turn. Of what it has this is noted, which is all of it behind a run that ended.
pub record Turn (fate : Fate) (b c : Between) : Type 0 where
  pub noted : Journal
  pub kept : IsKept b.known b.past noted (Contains b.came)
  pub lags : LagsBehind b.past noted b.now
  pub known : c.known ≡ b.known
  pub owner : c.owner ≡ b.owner
  pub earlier : c.earlier ≡ database fate b.now ∷ b.earlier
  pub past : c.past ≡ union b.past noted
  pub now : c.now ≡ empty
  pub came : c.came ≡ b.came
  pub forgotten : (k : Key) → c.forgotten k ≡ (b.forgotten k || (is_some (get b.now k) && not (is_some (get noted k))))
  pub released : c.released ≡ b.released

-- Whatever becomes of earlier databases, what is noted of them stays.
pub record Expiry (b c : Between) : Type 0 where
  pub known : c.known ≡ b.known
  pub owner : c.owner ≡ b.owner
  pub earlier : journals_of c.earlier ≡ journals_of b.earlier
  pub past : c.past ≡ b.past
  pub now : c.now ≡ b.now
  pub came : c.came ≡ b.came
  pub forgotten : c.forgotten ≡ b.forgotten
  pub released : c.released ≡ b.released

-- The notes of these keys went. So did those of these sequences' owners, or they name other machines. Nothing else changed.
pub record Forgetting (keys : Key → Bool) (sequences : Id128 → Bool) (b c : Between) : Type 0 where
  pub known : (k : Key) → c.known k ≡ (if keys k then None else b.known k)
  pub owner : (s : Id128) → sequences s ≡ false → c.owner s ≡ b.owner s
  pub earlier : c.earlier ≡ b.earlier
  pub past : c.past ≡ retain_keys b.past (λ k. not (keys k))
  pub now : c.now ≡ b.now
  pub came : c.came ≡ b.came
  pub forgotten : (k : Key) → c.forgotten k ≡ (b.forgotten k || keys k)
  pub released : (s : Id128) → c.released s ≡ (b.released s || sequences s)

-- ---- one after the other

abbrev pub Leads : Step → (before after : Between) → Type 0
Leads (Ends uploads answers) b c = EndsRun uploads answers b c
Leads (Stops uploads answers) b c = StopsRun uploads answers b c
Leads (Turns fate) b c = Turn fate b c
Leads Expires b c = Expiry b c
Leads (Forgets keys sequences) b c = Forgetting keys sequences b c

abbrev pub LeadsOn : (first : Between) → List Step → (last : Between) → Type 0
LeadsOn b [] last = last ≡ b
LeadsOn b (step ∷ steps) last = (c : Between) × Leads step b c × LeadsOn c steps last
