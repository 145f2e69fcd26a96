-- A table of slots, of any origin: who runs in which slot, for ever.
use Rattle.std.specs.Prelude.{◌≡◌, Bool, List, ℕ, ◌+◌, ◌*◌, ◌≤◌, ◌<◌, length}
use Rattle.rule.specs.Places.{at, count}

-- `runs i u`: task i runs in slot u. So none runs twice in one slot; at most m run in each; and every task has its e slots in
-- every one of its periods, the j-th from slot p·j on.
pub record Table (es ps : List ℕ) (m : ℕ) (runs : ℕ → ℕ → Bool) : Type 0 where
  pub slots : (u : ℕ) → count (length es) (λ i. runs i u) ≤ m
  pub served : (i j : ℕ) → i < length es → count (at ps i) (λ v. runs i (at ps i * j + v)) ≡ at es i

-- The same with more than its share allowed: every task has at least e slots in every one of its periods.
pub record AtLeast (es ps : List ℕ) (m : ℕ) (runs : ℕ → ℕ → Bool) : Type 0 where
  pub few : (u : ℕ) → count (length es) (λ i. runs i u) ≤ m
  pub enough : (i j : ℕ) → i < length es → at es i ≤ count (at ps i) (λ v. runs i (at ps i * j + v))
