-- The loop's invariant: both lists are written up to place i, the counts with 1 more where the place runs, and the rest is as it was; and
-- what is known of the cut holds.
use mathlib.Core.Path.{◌≡◌}
use mathlib.Core.List.{List}
use Prim.Native.Nat.{ℕ, ◌+◌}
use lib.ListN.{length}
use Rattle.rule.specs.Places.{at, bit}
use Rattle.rule.proofs.Written.{written}
use Rattle.standing.specs.declared.Rung.{Rung}
use Rattle.slot.specs.Rungs.{Cut, urgent_to, chosen_by}
use Rattle.slot.proofs.Field.choose.Given as goal

-- 1 where the slot runs place i, 0 where not.
abbrev pub picked : List ℕ → List ℕ → List Rung → ℕ → ℕ → ℕ → ℕ
picked es ps rungs t room i = bit (chosen_by (urgent_to (length es) rungs + room) es ps rungs t i)

-- The count of place i after the slot.
abbrev pub raised : List ℕ → List ℕ → List Rung → ℕ → ℕ → List ℕ → ℕ → ℕ
raised es ps rungs t room counts i = at counts i + picked es ps rungs t room i

abbrev pub invariant-loop-i : goal.invariant-loop-i
invariant-loop-i l =
    let f = l.self in
    record {
      counts : l.counts ≡ written l.i (raised f.requirements.now f.periods.now f.rungs.now f.t l.room l.initial.counts) l.initial.counts;
      bytes : l.bytes ≡ written l.i (picked f.requirements.now f.periods.now f.rungs.now f.t l.room) l.initial.bytes;
      cut : Cut f.requirements.now f.periods.now f.rungs.now f.t l.room l.known.inside l.known.outside;
    }
