-- A file that is closed, or that something is asked of. (own)
use Rattle.std.specs.Prelude.{ℕ, ◌≡◌, Bool, List, IsTrue}

-- What it has stays, and what a crash leaves of it, and whether its device has returned what was written.
pub record StaysAs {D : Type 0} (seen : D → List ℕ) (may_leave : D → List ℕ → Type 0) (is_clean : D → Bool) (old new : D) : Type 0 where
  pub same : seen new ≡ seen old
  pub crash : (c : List ℕ) → may_leave new c → may_leave old c
  pub clean : is_clean new ≡ is_clean old

-- A file of which something was asked, as whether it is there. What it has stays, and a crash leaves no more of it.
pub record IsAsked {D : Type 0} (seen : D → List ℕ) (may_leave : D → List ℕ → Type 0) (is_clean : D → Bool) (old new : D) : Type 0 where
  pub same : seen new ≡ seen old
  pub crash : (c : List ℕ) → may_leave new c → may_leave old c
  pub was_clean : IsTrue (is_clean new) → IsTrue (is_clean old)
