-- Every refusal has room in its code: its number is small. Assumes nothing.
use Prim.Native.Nat.{◌≤◌}
use native.Mathlib.Omega.{arith}
use Rattle.rule.specs.declared.Refusal.{Refusal}
use Rattle.rule.specs.declared.Refusal.TheVariants.{Lengths, Tasks, Units, Record, Multiple, Load, Time, Lag, Stuck, Slots}
use Rattle.rule.specs.Answers.{number_of}

-- No refusal has a number above 10.
pub number_small : (r : Refusal) → number_of r ≤ 10
number_small Lengths = omega arith
number_small Tasks = omega arith
number_small Units = omega arith
number_small (Record place) = omega arith
number_small Multiple = omega arith
number_small (Load excess) = omega arith
number_small Time = omega arith
number_small (Lag place) = omega arith
number_small Stuck = omega arith
number_small Slots = omega arith
