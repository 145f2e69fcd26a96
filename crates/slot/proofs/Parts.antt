-- The parts of what a slot leaves, and what is dealt by the rungs in each case: too many urgent, too few others, or a choice.
-- Assumes nothing.
use Rattle.std.specs.Prelude.{Err, Ok}
use mathlib.Core.Path.{◌≡◌, ap}
use mathlib.Core.List.{List}
use Prim.Native.Nat.{ℕ, ◌+◌, ◌-◌, ◌≤◌, ◌<◌}
use native.Mathlib.Omega.{arith}
use borrow.Author.Tests.{lt-ltb, le-ltb}
use lib.ListN.{length}
use Rattle.rule.specs.declared.Refusal.TheVariants.{Stuck}
use Rattle.rule.specs.Places.{at, bit, each}
use Rattle.rule.specs.Outcomes.{SlotAfter}
use Rattle.standing.specs.declared.Rung.{Rung}
use Rattle.slot.specs.Rungs.{urgent_to, contending_to, chosen_by, stuck_by, dealt_or_stuck, dealt_rungs}

-- A slot's answer and its lists, one by one.
pub parts : {a b : SlotAfter} → a ≡ b → (a.answer ≡ b.answer) × ((a.counts ≡ b.counts) × (a.bytes ≡ b.bytes))
parts q = (ap (λ r. r.answer) q, (ap (λ r. r.counts) q, ap (λ r. r.bytes) q))

module _ (units : ℕ) (es ps : List ℕ) (rungs : List Rung) (ks bytes : List ℕ) (t u c : ℕ) (urgent : u ≡ urgent_to (length es) rungs) (contending : c ≡ contending_to (length es) rungs) where
  pub stuck_urgent : units < u → record { answer = Err Stuck; counts = ks; bytes = bytes } ≡ dealt_rungs units es ps rungs ks bytes t
  unfolding dealt_rungs dealt_or_stuck stuck_by
  stuck_urgent h = rw (lt-ltb units (urgent_to (length es) rungs) (omega arith))

  pub stuck_few : u ≤ units → u + c < units → record { answer = Err Stuck; counts = ks; bytes = bytes } ≡ dealt_rungs units es ps rungs ks bytes t
  unfolding dealt_rungs dealt_or_stuck stuck_by
  stuck_few h g =
      rw (le-ltb units (urgent_to (length es) rungs) (omega arith), lt-ltb (urgent_to (length es) rungs + contending_to (length es) rungs) units (omega arith))

  -- The choice has room for as many contenders as the urgent ones leave.
  pub not_stuck : u ≤ units → units ≤ u + c → (cs bs : List ℕ)
      → cs ≡ each (length ks) (λ i. at ks i + bit (chosen_by (urgent_to (length es) rungs + (units - u)) es ps rungs t i))
      → bs ≡ each (length ks) (λ i. bit (chosen_by (urgent_to (length es) rungs + (units - u)) es ps rungs t i))
      → record { answer = Ok tt; counts = cs; bytes = bs } ≡ dealt_rungs units es ps rungs ks bytes t
  unfolding dealt_rungs dealt_or_stuck stuck_by
  not_stuck h g cs bs p q =
      let m : urgent_to (length es) rungs + (units - u) ≡ units = omega arith in
      rw (le-ltb units (urgent_to (length es) rungs) (omega arith), le-ltb (urgent_to (length es) rungs + contending_to (length es) rungs) units (omega arith), p, q, m)
