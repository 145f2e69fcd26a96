-- The code computes the definition: the divisor of a positive number is positive.
use native.Mathlib.Nat.{pos_of_dvd_of_pos}
use borrow.Author.Rules.{rules}
use Rattle.numbers.specs.Multiple.{lcm}
use Rattle.numbers.proofs.multiple_with.Goals as goal

pub nonzero_div-part : goal.nonzero_div-part
nonzero_div-part c = pos_of_dvd_of_pos c.gcd.ensures.which.0 c.requires

pub returns : goal.returns
unfolding lcm
returns c = search rules
