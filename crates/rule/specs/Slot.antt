-- Document 01, "The rule of a slot": which tasks of a field run at t, where M units are in use.
use Rattle.std.specs.Prelude.{Bool, true, false, not, ◌&&◌, ◌||◌, ℕ, ◌+◌, ltb}
use Rattle.rule.specs.declared.Symbol.{Symbol}
use Rattle.rule.specs.declared.Symbol.TheVariants.{Minus, Zero, Plus}
use Rattle.rule.specs.declared.Standing.{Standing}
use Rattle.rule.specs.declared.Standing.TheVariants.{Ahead, Punctual, Behind}
use Rattle.rule.specs.declared.Order.{Order}
use Rattle.rule.specs.declared.Order.TheVariants.{First, Second, Tie}
use Rattle.rule.specs.Places.{count}
use Rattle.rule.specs.Task.{Entry, standing, symbol, compare}
use Rattle.rule.specs.Sets.{Field}

abbrev pub is_ahead : Standing → Bool
is_ahead Ahead = true
is_ahead Punctual = false
is_ahead Behind = false

abbrev pub is_behind : Standing → Bool
is_behind Ahead = false
is_behind Punctual = false
is_behind Behind = true

abbrev pub is_plus : Symbol → Bool
is_plus Minus = false
is_plus Zero = false
is_plus Plus = true

abbrev pub is_minus : Symbol → Bool
is_minus Minus = true
is_minus Zero = false
is_minus Plus = false

-- "Tnegru: ahead, and its symbol at t is not +."
unfoldable pub tnegru : ℕ → Entry → Bool
tnegru t x = is_ahead (standing t x) && not (is_plus (symbol x.e x.p t))

-- "Urgent: behind, and its symbol at t is not -."
unfoldable pub urgent : ℕ → Entry → Bool
urgent t x = is_behind (standing t x) && not (is_minus (symbol x.e x.p t))

-- "Contending: neither."
unfoldable pub contending : ℕ → Entry → Bool
contending t x = not (tnegru t x) && not (urgent t x)

-- How many of a field are urgent, and how many are not tnegru.
unfoldable pub urgents : ℕ → Field → ℕ
urgents t f = count f.size (λ i. urgent t (f.entry i))

unfoldable pub not_tnegrus : ℕ → Field → ℕ
not_tnegrus t f = count f.size (λ i. not (tnegru t (f.entry i)))

-- "Equal strings tie, and the lower place goes first."
abbrev pub goes_first : Order → Bool → Bool
goes_first First lower = true
goes_first Second lower = false
goes_first Tie lower = lower

-- Does place j precede place i in the order of contenders?
unfoldable pub precedes : ℕ → Field → ℕ → ℕ → Bool
precedes t f j i =
    let x = f.entry j in
    let y = f.entry i in
    goes_first (compare t x.e x.p y.e y.p) (ltb j i)

-- How many contenders precede place i.
unfoldable pub contenders_before : ℕ → Field → ℕ → ℕ
contenders_before t f i = count f.size (λ j. contending t (f.entry j) && precedes t f j i)

-- "The slot runs all urgent tasks and then the first contenders in that order, M in all."
unfoldable pub chosen : (units : ℕ) → ℕ → Field → ℕ → Bool
chosen units t f i =
    urgent t (f.entry i) || (contending t (f.entry i) && ltb (urgents t f + contenders_before t f i) units)
