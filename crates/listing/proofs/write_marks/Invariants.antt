-- The loop's invariant: the bytes up to place i are the marks of their rungs.
use mathlib.Core.Path.{◌≡◌}
use Prim.Native.Nat.{ℕ, ◌<◌}
use Rattle.rule.specs.Places.{at}
use Rattle.standing.specs.Judged.{rung_at}
use Rattle.listing.specs.Marks.{mark_by}
use Rattle.listing.proofs.write_marks.Given as goal

abbrev pub invariant-loop-i : goal.invariant-loop-i
invariant-loop-i l = (k : ℕ) → k < l.i → at l.bytes k ≡ mark_by (rung_at l.rungs k)
