-- `put_byte` meets its contract: each digit is stored where its place is below the length, and a store past the end changes nothing. Assumes nothing.
use Prim.Native.Nat.{ℕ}
use native.Mathlib.Omega.{arith}
use Rattle.std.proofs.Common.{rules}
use lib.ListN.{length-set}
use Rattle.std.proofs.lemmas.List.{set_past}
use Rattle.digits.specs.Digits.{digits_of}
use Rattle.digits.proofs.put_byte.Goals as goal

pub returns-then-at-n : goal.returns-then-at-n
unfolding digits_of
returns-then-at-n c = grind (arith, set_past {X = ℕ})

pub returns-then-at-n-2 : goal.returns-then-at-n-2
unfolding digits_of
returns-then-at-n-2 c = grind (arith, set_past {X = ℕ}, length-set {A = ℕ})

pub returns : goal.returns
unfolding digits_of
returns c = search rules
