-- `pair_at` meets its contract: a field of two bytes is the first times 256 and the second, and past the last byte both are 0. Assumes nothing.
use native.Mathlib.Omega.{arith}
use Rattle.std.proofs.Common.{rules}
use Rattle.digits.specs.Fields.{field_at}
use Rattle.digits.proofs.Bytes.{byte_past}
use Rattle.digits.proofs.pair_at.Goals as goal

pub returns-then-i-line : goal.returns-then-i-line
unfolding field_at
returns-then-i-line c = grind (arith, byte_past)

pub returns : goal.returns
unfolding field_at
returns c = search rules
