-- The loop's invariant: `load` is the sum of the shares of the records so far, each at most L, so 64 of them fit a u32.
use mathlib.Core.Path.{◌≡◌}
use Prim.Native.Nat.{◌*◌, ◌/◌, ◌≤◌}
use lib.ListN.{length}
use Rattle.rule.specs.Limits.{multiple_most}
use Rattle.rule.specs.Places.{at, sum}
use Rattle.rule.specs.Sets.{multiple as multiple_of}
use Rattle.admission.proofs.load_of.Given as goal

abbrev pub invariant-loop-e : goal.invariant-loop-e
invariant-loop-e l =
    (l.load ≤ multiple_most * length l.yielded)
    × (l.load ≡ sum (length l.yielded) (λ j. at l.requirements j * multiple_of l.periods / at l.periods j))
