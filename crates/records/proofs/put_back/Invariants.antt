-- The loop's invariant: the counts of the records so far are put back. Assumes nothing.
use mathlib.Core.Path.{◌≡◌}
use lib.ListN.{take}
use Rattle.records.specs.Door.{with_counts}
use Rattle.records.proofs.put_back.Given as goal

abbrev pub invariant-loop-i : goal.invariant-loop-i
invariant-loop-i l = l.tasks ≡ with_counts l.initial.tasks (take l.i l.counts)
