-- A run as its single slots: the j-th one works on the counts that the one before handed back and on its own part of the log.
use Rattle.std.specs.Prelude.{◌≡◌, ◌⊎◌, List, ℕ, zero, suc, ◌*◌, ◌≤◌, ◌<◌, length, take, drop, Err, Ok}
use Rattle.rule.specs.declared.Refusal.{Refusal}
use Rattle.rule.specs.Outcomes.{SlotAfter, slot, RunAfter}

-- The j-th single slot from time t and the counts ks on.
unfoldable pub slot_no : ℕ → List ℕ → List ℕ → ℕ → ℕ → List ℕ → List ℕ → SlotAfter
slot_no zero es ps m t ks log = slot es ps ks (take (length es) log) m t
slot_no (suc j) es ps m t ks log =
    slot_no j es ps m (suc t) (slot es ps ks (take (length es) log) m t).counts (drop (length es) log)

-- The counts before it.
unfoldable pub counts_no : ℕ → List ℕ → List ℕ → ℕ → ℕ → List ℕ → List ℕ → List ℕ
counts_no zero es ps m t ks log = ks
counts_no (suc j) es ps m t ks log =
    counts_no j es ps m (suc t) (slot es ps ks (take (length es) log) m t).counts (drop (length es) log)

-- A run of s slots equals its single slots up to the first refusal.
pub record IsSlots (s : ℕ) (es ps : List ℕ) (m t : ℕ) (ks log : List ℕ) (r : RunAfter) : Type 0 where
  pub few : r.answer.done ≤ s
  -- each slot that it counts as done was done, and wrote its own part of the log
  pub done : (j : ℕ) → j < r.answer.done → (slot_no j es ps m t ks log).answer ≡ Ok tt
  pub written : (j : ℕ) → j < r.answer.done → take (length es) (drop (length es * j) r.log) ≡ (slot_no j es ps m t ks log).bytes
  -- the counts are those after the done slots, and the log beyond them is as it was
  pub counts : r.counts ≡ counts_no r.answer.done es ps m t ks log
  pub beyond : drop (length es * r.answer.done) r.log ≡ drop (length es * r.answer.done) log
  pub whole : length r.log ≡ length log
  -- all were done, or the next one was refused and that refusal ended the run
  pub ended : ((r.answer.done ≡ s) × (r.answer.end ≡ Ok tt))
      ⊎ ((x : Refusal) × (r.answer.done < s) × ((slot_no r.answer.done es ps m t ks log).answer ≡ Err x) × (r.answer.end ≡ Err x))
