-- The loop's invariant: `multiple` is the least common multiple of the periods that came so far, which are the last ones.
use mathlib.Core.Path.{◌≡◌}
use Prim.Native.Nat.{◌-◌}
use lib.ListN.{length, drop}
use Rattle.numbers.specs.Multiple.{lcm_all}
use Rattle.numbers.proofs.least_multiple.Given as goal

abbrev pub invariant-loop-period : goal.invariant-loop-period
invariant-loop-period l = l.multiple ≡ lcm_all (drop (length l.periods - length l.yielded) l.periods)
