-- `column` meets its contract: each call keeps the line and the first place, and gives the field of its index. Assumes nothing.
use mathlib.Core.Path.{◌≡◌, refl}
use mathlib.Core.List.{List}
use Prim.Native.Nat.{ℕ, ◌+◌, ◌*◌}
use borrow.Author.Rules.{rules}
use Rattle.std.proofs.Common.{Bor}
use Rattle.digits.specs.Digits.{bytes_of}
use Rattle.digits.specs.Fields.{field_at}
use Rattle.reading.specs.Asking.{column}
use Rattle.reading.proofs.Calls.{each_called}
use Rattle.reading.proofs.column.Goals as goal

pub returns : goal.returns
unfolding column
returns c =
    each_called {F = Bor (List ℕ) × Bor ℕ} _ (λ f. (f.0.now ≡ c.args.line.now) × (f.1.now ≡ c.args.from))
    (λ i. field_at 2 (bytes_of c.args.line.now) (c.args.from + 4 * i)) (λ p q i y h called. search rules) _ c.from_fn.result 64 (refl, refl)
    c.from_fn.ensures.items
