-- The loop's invariant: `found` is the rank among the places before j, so at most j. The whole rank is no smaller, so that a room that is
-- taken stays taken.
use mathlib.Core.Path.{◌≡◌}
use Prim.Native.Nat.{◌≤◌}
use Rattle.slot.specs.Rungs.{rank_to}
use Rattle.slot.proofs.Field.has_room.Given as goal

abbrev pub invariant-loop-j : goal.invariant-loop-j
invariant-loop-j l =
    (l.found ≤ l.j) × (l.found ≡ rank_to l.j l.self.requirements.now l.self.periods.now l.self.rungs.now l.self.t l.i)
