-- An array made by calls that each give what f says of their index: it lists f. Assumes nothing.
use mathlib.Core.Path.{◌≡◌, ap, ◌∙◌}
use mathlib.Core.List.{List}
use Prim.Native.Nat.{ℕ, zero, suc, ◌+◌, ◌<◌}
use native.Mathlib.Nat.{add-zero, zero-add}
use native.Mathlib.Omega.{arith}
use borrow.Author.Rules.{rules}
use Rattle.std.specs.Fn.{Mut, Called}
use Rattle.std.specs.Array.{IsFromFnResult, IsFromFnResultFrom}
use Rattle.rule.specs.Places.{at, each}
use Rattle.rule.proofs.Written.{written_none, written_rest}

-- `Kept` is what each call keeps of the closure that is called.
module _ {F : Type 0} (g : Mut F (ℕ × Unit {0}) ℕ) (Kept : F → Type 0) (f : ℕ → ℕ)
    (call : (p q : F) (i y : ℕ) → Kept p → Called g p (i, tt) y q → Kept q × (y ≡ f i)) where
  given : (p : F) (ys : List ℕ) (i n : ℕ) → Kept p → IsFromFnResultFrom g p ys i n → (k : ℕ) → k < n → at ys (i + k) ≡ f (i + k)
  given p ys i zero h r k l = absurd (omega arith)
  given p ys i (suc n) h (q, y, is, called, rest) zero l =
      let here : at ys i ≡ y = search rules in
      rw add-zero (here ∙ (call p q i y h called).1)
  given p ys i (suc n) h (q, y, is, called, rest) (suc k) l =
      let next : i + suc k ≡ i + 1 + k = omega arith in
      rw next (given q ys (i + 1) n (call p q i y h called).0 rest k (omega arith))

  pub each_called : (p : F) (ys : List ℕ) (n : ℕ) → Kept p → IsFromFnResult g p ys n → ys ≡ each n f
  each_called p ys n h r =
      written_none f ys ∙ written_rest 0 f ys (λ k some l. rw zero-add at (given p ys 0 n h r.each k (let long = r.long in omega arith))) ∙ ap (λ m. each m f) r.long
