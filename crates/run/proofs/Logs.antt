-- The length of a log, judged by quotient and remainder: a number is slots·n exactly where slots divides it n times. Assumes nothing.
use mathlib.Core.Path.{◌≡◌, sym, ap, ◌∙◌}
use mathlib.Core.Bool.{false}
use Prim.Native.Nat.{ℕ, ◌*◌, ◌/◌, ◌%◌}
use native.Mathlib.Nat.{zero-mul, mul-mod_right, div-add-mod, mul-div_right}
use native.Mathlib.Omega.{arith}
use borrow.Author.Tests.{eq-eqb, ne_eqb, eqb-true}
use lib.Dec.{eqb}
use Rattle.rule.proofs.Tests.{test_ext}

module _ (length slots n : ℕ) where
  -- Of no slots the log is empty.
  pub log_none : slots ≡ 0 → eqb length 0 ≡ eqb length (slots * n)
  log_none q = ap (λ x. eqb length x) (sym (zero-mul n) ∙ ap (λ s. s * n) (sym q))

  -- What the slots do not divide is no log of theirs.
  pub log_ragged : (length % slots ≡ 0 → ⊥) → false ≡ eqb length (slots * n)
  log_ragged h = sym (ne_eqb length (slots * n) (λ q. h (ap (λ x. x % slots) q ∙ mul-mod_right slots n)))

  -- What they divide is one of as many bytes a slot as the quotient says.
  pub log_even : (slots ≡ 0 → ⊥) → length % slots ≡ 0 → eqb (length / slots) n ≡ eqb length (slots * n)
  log_even some even =
      test_ext (eqb (length / slots) n) (eqb length (slots * n))
      (λ e. eq-eqb length (slots * n) (sym (div-add-mod length slots) ∙ omega (arith, ap (λ x. slots * x) (eqb-true (length / slots) n e))))
      (λ e. eq-eqb (length / slots) n (ap (λ x. x / slots) (eqb-true length (slots * n) e) ∙ mul-div_right n (omega (arith, some))))
