-- A set from time 0 with counts 0, slot after slot.
use Rattle.std.specs.Prelude.{Bool, List, ℕ, zero, suc, length}
use Rattle.rule.specs.Places.{each}
use Rattle.rule.specs.Outcomes.{runs_at, counts_after, slot}

abbrev pub zeros : List ℕ → List ℕ
zeros es = each (length es) (λ i. 0)

-- The counts at t where each slot deals by the rule, at every time there is.
unfoldable pub counts_at : List ℕ → List ℕ → ℕ → List ℕ
counts_at es ps zero = zeros es
counts_at es ps (suc t) = counts_after es ps (counts_at es ps t) t

-- Does task i run in slot u then?
abbrev pub runs_from_start : List ℕ → List ℕ → ℕ → ℕ → Bool
runs_from_start es ps i u = runs_at es ps (counts_at es ps u) u i

-- The counts at t where each slot is the entry's own, with the counts that it hands back.
unfoldable pub stepped : List ℕ → List ℕ → ℕ → ℕ → List ℕ
stepped es ps m zero = zeros es
stepped es ps m (suc t) = (slot es ps (stepped es ps m t) (zeros es) m t).counts
