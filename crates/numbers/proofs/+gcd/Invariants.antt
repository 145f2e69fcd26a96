-- Each call takes one step of Euclid's rule, which keeps the greatest common divisor. The measure is b, since a remainder by b is below b.
use Rattle.numbers.proofs.+gcd.Given as goal

abbrev pub decreases-gcd : goal.decreases-gcd
decreases-gcd l = l.b
