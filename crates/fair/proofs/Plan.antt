-- A plan: lines in grains that start at the counts as they are and deal out M units for ever. The even lines are one at time
-- 0; a plan bounds the counts and the classes now; and after a choice that follows the rule there is a plan again, by
-- exchanging grains until it starts with that choice. Assumes nothing.
use mathlib.Core.Path.{◌≡◌, sym, ap, ◌∙◌}
use mathlib.Core.Logic.{◌⊎◌, inl, inr, ⊎_elim, ◌≢◌}
use Prim.Native.Nat.{ℕ, suc, ◌+◌, ◌*◌, ◌≤◌, ◌<◌}
use native.Mathlib.Nat.{eq-or-lt_of_le, eq-zero-or-pos, lt_of_not-le, le_refl, le_of_mul-le-mul_right, lt_of_mul-lt-mul_right, mul-le-mul_left, mul-le-mul_right}
use native.Mathlib.Omega.{arith}
use Rattle.numbers.proofs.Quotient.{le_of_products, lt_of_products}
use Rattle.rule.specs.declared.Order.{Order}
use Rattle.rule.specs.declared.Order.TheVariants.{First}
use Rattle.rule.specs.Places.{sum}
use Rattle.rule.specs.Task.{symbol}
use Rattle.rule.proofs.Places.{sum_ext, sum_le, sum_add, sum_mul}
use Rattle.rule.proofs.Strings.{Compared}
use Rattle.fair.specs.Share.{share_down, share_up}
use Rattle.fair.proofs.Share.{down_bounds, up_bounds, up_near_down, up_grows, shape, even}
use Rattle.fair.proofs.Exchange.{Lines, Aim, exchange}

-- N tasks that fill M units: task i takes e i slots in p i, which is w i grains of every slot.
pub record Tasks (N M g : ℕ) (e p w : ℕ → ℕ) : Type 0 where
  pub grains : 0 < g
  pub some : (i : ℕ) → i < N → 0 < e i
  pub light : (i : ℕ) → i < N → e i < p i
  pub weight : (i : ℕ) → i < N → p i * w i ≡ e i * g
  pub full : sum N w ≡ M * g

-- The classes by the next lag.
abbrev pub Tnegru : (e p t k : ℕ) → Type 0
Tnegru e p t k = e * suc t ≤ p * k

abbrev pub Urgent : (e p t k : ℕ) → Type 0
Urgent e p t k = p * suc k ≤ e * suc t

abbrev pub Contending : (e p t k : ℕ) → Type 0
Contending e p t k = (p * k < e * suc t) × (e * suc t < p * suc k)

-- A choice of M tasks for the slot t, 1 for a chosen task, that follows the rule at the counts k.
pub record Follows (N M : ℕ) (e p : ℕ → ℕ) (t : ℕ) (k ch : ℕ → ℕ) : Type 0 where
  pub bits : (i : ℕ) → i < N → ch i ≤ 1
  pub full : sum N ch ≡ M
  pub urgent : (i : ℕ) → i < N → Urgent (e i) (p i) t (k i) → ch i ≡ 1
  pub tnegru : (i : ℕ) → i < N → Tnegru (e i) (p i) t (k i) → ch i ≡ 0
  pub in_order : (x y : ℕ) → x < N → y < N → Contending (e x) (p x) t (k x) → Contending (e y) (p y) t (k y) → ch x ≡ 0 → ch y ≡ 1
      → (o : Order) × Compared (symbol (e x) (p x)) (symbol (e y) (p y)) (suc t) o × (o ≢ First)

-- The lines of a set of tasks: each within its share, and M units dealt out in every slot.
abbrev pub SetLines : (N M g : ℕ) (e p : ℕ → ℕ) (t : ℕ) (K : ℕ → ℕ → ℕ) → Type 0
SetLines N M g e p t K = Lines N g (λ i u. share_down (e i) (p i) u * g) (λ i u. share_up (e i) (p i) u * g) (λ u. M * g * u) t K

-- A plan at t for the counts k.
pub record Plan (N M g : ℕ) (e p : ℕ → ℕ) (t : ℕ) (k : ℕ → ℕ) (K : ℕ → ℕ → ℕ) : Type 0 where
  pub start : (i : ℕ) → i < N → K i t ≡ k i * g
  pub lines : SetLines N M g e p t K

module _ (N M g : ℕ) (e p w : ℕ → ℕ) (tasks : Tasks N M g e p w) where
  period : (i : ℕ) → i < N → 0 < p i
  period i l = omega (arith, tasks.light i l)

  -- At time 0 the even lines are a plan.
  pub plan_at_0 : Plan N M g e p 0 (λ i. 0) (λ i u. w i * u)
  plan_at_0 =
      record {
        start = λ i l. omega arith;
        lines =
            record {
              line = λ i l. even (e i) (p i) (period i l) g (w i) (tasks.light i l) (tasks.weight i l);
              sums = λ u l. sum_mul N w u ∙ ap (λ x. x * u) tasks.full;
            };
      }

  module _ (t : ℕ) (k : ℕ → ℕ) (K : ℕ → ℕ → ℕ) (P : Plan N M g e p t k K) where
    -- ---- what a plan says of the counts now

    pub count_bounds : (i : ℕ) → i < N → (share_down (e i) (p i) t ≤ k i) × (k i ≤ share_up (e i) (p i) t)
    count_bounds i l = (
      le_of_mul-le-mul_right {n = k i} {k = g} (omega (arith, P.start i l, (P.lines.line i l).above t (le_refl t))) tasks.grains,
      le_of_mul-le-mul_right {m = k i} {k = g} (omega (arith, P.start i l, (P.lines.line i l).below t (le_refl t))) tasks.grains,
    )

    pub lag_bounds : (i : ℕ) → i < N → (p i * k i < e i * t + p i) × (e i * t < p i * k i + p i)
    lag_bounds i l =
        let b = count_bounds i l in
        omega (
          arith,
          down_bounds (e i) (p i) (period i l) t,
          up_bounds (e i) (p i) (period i l) t,
          mul-le-mul_left (p i) b.0,
          mul-le-mul_left (p i) b.1,
        )

    pub down_or_up : (i : ℕ) → i < N → (k i ≡ share_down (e i) (p i) t) ⊎ (k i ≡ share_up (e i) (p i) t)
    down_or_up i l = go (eq-or-lt_of_le (count_bounds i l).0)
      where
        go : (share_down (e i) (p i) t ≡ k i) ⊎ (share_down (e i) (p i) t < k i) → (k i ≡ share_down (e i) (p i) t) ⊎ (k i ≡ share_up (e i) (p i) t)
        go (inl q) = inl (sym q)
        go (inr h) = inr (omega (arith, (count_bounds i l).1, up_near_down (e i) (p i) (period i l) t))

    grain_sum : sum N k * g ≡ M * g * t
    grain_sum = sym (sum_mul N k g) ∙ sum_ext N (λ i. k i * g) (λ i. K i t) (λ i l. sym (P.start i l)) ∙ P.lines.sums t (le_refl t)

    pub count_sum : sum N k ≡ M * t
    count_sum =
        native.Mathlib.Nat.eq_of_mul-eq-mul_right g tasks.grains (sum N k) (M * t) (omega (arith, grain_sum))

    -- ---- the next slot, in grains

    next_above : (i : ℕ) → i < N → share_down (e i) (p i) (suc t) * g ≤ K i (suc t)
    next_above i l = (P.lines.line i l).above (suc t) (omega arith)

    next_below : (i : ℕ) → i < N → K i (suc t) ≤ share_up (e i) (p i) (suc t) * g
    next_below i l = (P.lines.line i l).below (suc t) (omega arith)

    next_from : (i : ℕ) → i < N → k i * g ≤ K i (suc t)
    next_from i l = omega (arith, P.start i l, (P.lines.line i l).grows t (le_refl t))

    next_upto : (i : ℕ) → i < N → K i (suc t) ≤ k i * g + g
    next_upto i l = omega (arith, P.start i l, (P.lines.line i l).slow t (le_refl t))

    next_sum : sum N (λ i. K i (suc t)) ≡ M * g * suc t
    next_sum = P.lines.sums (suc t) (omega arith)

    urgent_down : (i : ℕ) → i < N → Urgent (e i) (p i) t (k i) → suc (k i) ≤ share_down (e i) (p i) (suc t)
    urgent_down i l h =
        le_of_products (p i) (suc (k i)) (share_down (e i) (p i) (suc t)) (omega (arith, down_bounds (e i) (p i) (period i l) (suc t)))

    tnegru_up : (i : ℕ) → i < N → Tnegru (e i) (p i) t (k i) → share_up (e i) (p i) (suc t) ≤ k i
    tnegru_up i l h =
        le_of_products (p i) (share_up (e i) (p i) (suc t)) (k i) (omega (arith, up_bounds (e i) (p i) (period i l) (suc t)))

    -- c is 1 at urgent tasks only: there are at most M.
    pub few_urgent : (c : ℕ → ℕ) → ((i : ℕ) → i < N → c i ≤ 1) → ((i : ℕ) → i < N → 0 < c i → Urgent (e i) (p i) t (k i)) → sum N c ≤ M
    few_urgent c bits urgent =
        let s = sum_le N (λ i. (k i + c i) * g) (λ i. K i (suc t)) (λ i l. at i l (eq-zero-or-pos (c i))) in
        let q = sum_mul N (λ i. k i + c i) g in
        let r = ap (λ x. x * g) (sum_add N k c) in
        le_of_mul-le-mul_right {m = sum N c} {n = M} {k = g} (omega (arith, next_sum, grain_sum)) tasks.grains
      where
        at : (i : ℕ) → i < N → (c i ≡ 0) ⊎ (0 < c i) → (k i + c i) * g ≤ K i (suc t)
        at i l (inl z) = omega (arith, ap (λ x. x * g) z, next_from i l)
        at i l (inr z) =
            let one : c i ≡ 1 = omega (arith, bits i l) in
            omega (arith, ap (λ x. x * g) one, next_above i l, mul-le-mul_right g (urgent_down i l (urgent i l z)))

    -- c is 0 at tnegru tasks only: there are at least M others.
    pub enough_others : (c : ℕ → ℕ) → ((i : ℕ) → i < N → c i ≡ 0 → Tnegru (e i) (p i) t (k i)) → M ≤ sum N c
    enough_others c tnegru =
        let s = sum_le N (λ i. K i (suc t)) (λ i. (k i + c i) * g) (λ i l. at i l (eq-zero-or-pos (c i))) in
        let q = sum_mul N (λ i. k i + c i) g in
        let r = ap (λ x. x * g) (sum_add N k c) in
        le_of_mul-le-mul_right {m = M} {n = sum N c} {k = g} (omega (arith, next_sum, grain_sum)) tasks.grains
      where
        at : (i : ℕ) → i < N → (c i ≡ 0) ⊎ (0 < c i) → K i (suc t) ≤ (k i + c i) * g
        at i l (inl z) = omega (arith, ap (λ x. x * g) z, next_below i l, mul-le-mul_right g (tnegru_up i l (tnegru i l z)))
        at i l (inr z) = omega (arith, mul-le-mul_right g z, next_upto i l)

    -- ---- the step: after a choice that follows the rule there is a plan again

    module _ (ch : ℕ → ℕ) (C : Follows N M e p t k ch) where
      not_urgent : (i : ℕ) → i < N → ch i ≡ 0 → e i * suc t < p i * suc (k i)
      not_urgent i l z = lt_of_not-le (λ h. omega (arith, C.urgent i l h))

      not_tnegru : (i : ℕ) → i < N → 0 < ch i → p i * k i < e i * suc t
      not_tnegru i l z = lt_of_not-le (λ h. omega (arith, C.tnegru i l h))

      aim_above : (i : ℕ) → i < N → share_down (e i) (p i) (suc t) ≤ k i + ch i
      aim_above i l =
          let f = down_bounds (e i) (p i) (period i l) (suc t) in
          ⊎_elim
          (λ (z : ch i ≡ 0). let c = le_of_products (p i) (share_down (e i) (p i) (suc t)) (k i) (omega (arith, not_urgent i l z)) in omega arith)
          (λ (z : 0 < ch i).
          let c = le_of_products (p i) (share_down (e i) (p i) (suc t)) (k i + 1) (omega (arith, (lag_bounds i l).1, tasks.light i l)) in omega arith)
          (eq-zero-or-pos (ch i))

      aim_below : (i : ℕ) → i < N → k i + ch i ≤ share_up (e i) (p i) (suc t)
      aim_below i l =
          let f = up_bounds (e i) (p i) (period i l) (suc t) in
          ⊎_elim
          (λ (z : ch i ≡ 0). omega (arith, (count_bounds i l).1, up_grows (e i) (p i) (period i l) t))
          (λ (z : 0 < ch i).
          let c = lt_of_products (p i) (k i) (share_up (e i) (p i) (suc t)) (omega (arith, not_tnegru i l z)) in omega (arith, C.bits i l))
          (eq-zero-or-pos (ch i))

      ruled : (x y : ℕ) → x < N → y < N → (k x + ch x) * g < k x * g + g → (k x + ch x) * g < share_up (e x) (p x) (suc t) * g
          → k y * g < (k y + ch y) * g → share_down (e y) (p y) (suc t) * g < (k y + ch y) * g
          → (o : Order) × Compared (symbol (e x) (p x)) (symbol (e y) (p y)) (suc t) o × (o ≢ First)
      ruled x y lx ly h1 h2 h3 h4 =
          let g1 = lt_of_mul-lt-mul_right g {m = k x + ch x} {n = suc (k x)} (omega arith) in
          let g2 = lt_of_mul-lt-mul_right g {m = k x + ch x} {n = share_up (e x) (p x) (suc t)} h2 in
          let g3 = lt_of_mul-lt-mul_right g {m = k y} {n = k y + ch y} h3 in
          let g4 = lt_of_mul-lt-mul_right g {m = share_down (e y) (p y) (suc t)} {n = k y + ch y} h4 in
          let zx : ch x ≡ 0 = omega arith in
          let zy : ch y ≡ 1 = omega (arith, C.bits y ly) in
          C.in_order x y lx ly
          (lt_of_not-le (λ h. omega (arith, tnegru_up x lx h)), not_urgent x lx zx)
          (not_tnegru y ly (omega arith), lt_of_not-le (λ h. omega (arith, urgent_down y ly h)))
          zx zy

      aim : Aim N (λ i u. share_down (e i) (p i) u * g) (λ i u. share_up (e i) (p i) u * g) (λ i. symbol (e i) (p i)) (λ u. M * g * u) (suc t)
          (λ i. k i * g) (λ i. k i * g + g) (λ i. (k i + ch i) * g)
      aim =
          record {
            from = λ i l. omega arith;
            upto = λ i l. omega (arith, mul-le-mul_right g (C.bits i l));
            aim_low = λ i l. mul-le-mul_right g (aim_above i l);
            aim_high = λ i l. mul-le-mul_right g (aim_below i l);
            aim_sum = omega (arith, sum_mul N (λ i. k i + ch i) g, ap (λ x. x * g) (sum_add N k ch), ap (λ x. x * g) C.full, grain_sum);
            rule = ruled;
          }

      from_next : SetLines N M g e p (suc t) K
      from_next =
          record {
            line = λ i l. let T = P.lines.line i l in record {
              grows = λ u m. T.grows u (omega arith);
              slow = λ u m. T.slow u (omega arith);
              above = λ u m. T.above u (omega arith);
              below = λ u m. T.below u (omega arith);
            };
            sums = λ u m. P.lines.sums u (omega arith);
          }

      pub plan_after : (K' : ℕ → ℕ → ℕ) × Plan N M g e p (suc t) (λ i. k i + ch i) K'
      plan_after =
          let r =
          exchange N g (λ i u. share_down (e i) (p i) u * g) (λ i u. share_up (e i) (p i) u * g) (λ i. symbol (e i) (p i)) (λ u. M * g * u)
          (λ i l. shape (e i) (p i) (period i l) g (tasks.light i l)) (suc t)
          (λ i. k i * g) (λ i. k i * g + g) (λ i. (k i + ch i) * g) aim K from_next (λ i l. (next_from i l, next_upto i l))
          in (r.0, record { start = r.2; lines = r.1 })
