-- The code divides both parts by their greatest common divisor; where that is 0, both quotients are 0 by definition.
use native.Mathlib.Nat.{div-zero}
use Rattle.numbers.specs.Divide.{lowest_terms}
use Rattle.numbers.proofs.lowest_terms.Goals as goal

pub returns-then-divisor-eq0 : goal.returns-then-divisor-eq0
unfolding lowest_terms
returns-then-divisor-eq0 c = simp (← c.gcd-divisor.ensures.value, c.if-divisor-eq0.true, div-zero)

pub returns : goal.returns
unfolding lowest_terms
returns c = simp (← c.gcd-divisor.ensures.value)
