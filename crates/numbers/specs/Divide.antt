-- Greatest common divisor and lowest terms. Assumes nothing.
use Rattle.std.specs.Prelude.{ℕ, zero, suc, ◌/◌, ◌%◌}
use Rattle.numbers.specs.declared.Fraction.{Fraction}

-- Euclid's rule in at most n steps: while b is not 0, go on with b and the remainder of a by b.
unfoldable pub euclid : ℕ → ℕ → ℕ → ℕ
euclid zero a b = a
euclid (suc n) a zero = a
euclid (suc n) a (suc b) = euclid n (suc b) (a % suc b)

-- The greatest common divisor. The remainder falls at each step, so b steps and one are enough.
unfoldable pub gcd : ℕ → ℕ → ℕ
gcd a b = euclid (suc b) a b

-- A fraction in lowest terms: both parts divided by their greatest common divisor.
unfoldable pub lowest_terms : ℕ → ℕ → Fraction
lowest_terms a b = record { above = a / gcd a b; below = b / gcd a b }
