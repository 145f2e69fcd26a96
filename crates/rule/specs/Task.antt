-- Document 01, "Records, time, counts" and "The rule of a slot", as far as they speak of one task or of two.
use Rattle.std.specs.Prelude.{Bool, ◌&&◌, List, [], ◌∷◌, ℕ, zero, suc, ◌*◌, ◌/◌, ℤ, pos, negsuc, neg_ℤ, ◌-ℤ◌, ◌*ℤ◌}
use Rattle.std.specs.Int.Signed.{lt_z}
use Rattle.rule.specs.declared.Symbol.{Symbol}
use Rattle.rule.specs.declared.Symbol.TheVariants.{Minus, Zero, Plus}
use Rattle.rule.specs.declared.Standing.{Standing}
use Rattle.rule.specs.declared.Standing.TheVariants.{Ahead, Punctual, Behind}
use Rattle.rule.specs.declared.Order.{Order}
use Rattle.rule.specs.declared.Order.TheVariants.{First, Second, Tie}

-- "A task is a requirement e and a period p"; "a count k is how often the task ran". The count is an integer, since
-- the spare's, M·t less the others', may come out below zero for free counts.
pub record Entry : Type 0 where
  pub e : ℕ
  pub p : ℕ
  pub k : ℤ

-- ---- the lag

-- "The lag times period of a task is e·t - p·k."
unfoldable pub lag : ℕ → Entry → ℤ
lag t x = pos (x.e * t) -ℤ pos x.p *ℤ x.k

-- The sign of an integer.
unfoldable pub sign : ℤ → Symbol
sign (pos zero) = Zero
sign (pos (suc n)) = Plus
sign (negsuc n) = Minus

-- "A value below zero is an answer, not an error: the task is ahead. Zero is punctual, above zero is behind."
unfoldable pub standing_of : Symbol → Standing
standing_of Minus = Ahead
standing_of Zero = Punctual
standing_of Plus = Behind

unfoldable pub standing : ℕ → Entry → Standing
standing t x = standing_of (sign (lag t x))

-- Is the lag strictly between -1 and 1: "e·t - p·k strictly between -p and p"?
unfoldable pub fair : ℕ → Entry → Bool
fair t x = lt_z (neg_ℤ (pos x.p)) (lag t x) && lt_z (lag t x) (pos x.p)

-- ---- symbols and strings

-- "Symbol of a task at time i: the sign of e·(i+1) - p·floor(e·i/p) - p"
unfoldable pub symbol : ℕ → ℕ → ℕ → Symbol
symbol e p i = sign (pos (e * suc i) -ℤ pos (p * (e * i / p)) -ℤ pos p)

-- A string goes on after - and +, and 0 is its last symbol.
unfoldable pub go_on : Symbol → List Symbol → List Symbol
go_on Minus rest = Minus ∷ rest
go_on Zero rest = Zero ∷ []
go_on Plus rest = Plus ∷ rest

-- The symbols at i, i+1, .. "up to and including the first 0", at most n of them.
unfoldable pub symbols_from : ℕ → ℕ → ℕ → ℕ → List Symbol
symbols_from zero e p i = []
symbols_from (suc n) e p i = let rest = symbols_from n e p (suc i) in go_on (symbol e p i) rest

-- "String of a task at t: its symbols at t+1, t+2, ... up to and including the first 0." One of any p symbols in a
-- row is 0, so p are enough (proofs/Strings.antt).
unfoldable pub string : ℕ → ℕ → ℕ → List Symbol
string e p t = symbols_from p e p (suc t)

-- ---- the order of two strings

-- "- below 0 below +": the higher symbol goes first.
unfoldable pub higher : Symbol → Symbol → Order
higher Minus Minus = Tie
higher Minus Zero = Second
higher Minus Plus = Second
higher Zero Minus = First
higher Zero Zero = Tie
higher Zero Plus = Second
higher Plus Minus = First
higher Plus Zero = First
higher Plus Plus = Tie

-- What one place says, or the places after it where it is a tie.
unfoldable pub or_later : Order → Order → Order
or_later First later = First
or_later Second later = Second
or_later Tie later = later

-- "The comparison stops at the first place where the two symbols differ. Equal strings tie." A string that has ended
-- is below one that goes on, which whole strings never show.
unfoldable pub compare_strings : List Symbol → List Symbol → Order
compare_strings [] [] = Tie
compare_strings [] (b ∷ bs) = Second
compare_strings (a ∷ as') [] = First
compare_strings (a ∷ as') (b ∷ bs) = let later = compare_strings as' bs in or_later (higher a b) later

-- Which of two tasks goes first at t, by their strings.
unfoldable pub compare : ℕ → (e p e' p' : ℕ) → Order
compare t e p e' p' = compare_strings (string e p t) (string e' p' t)
