-- One grain goes from x to y over the slots up to the stop of a walk, again and again, until every line starts where it is
-- aimed: each time the lines that are above their aim come a grain nearer, so it ends. Assumes nothing.
use mathlib.Core.Path.{◌≡◌, refl, sym, ap, ◌∙◌, subst}
use mathlib.Core.Logic.{◌⊎◌, inl, inr, ◌≢◌}
use Prim.Native.Nat.{ℕ, zero, suc, ◌+◌, ◌-◌, ◌≤◌, ◌<◌}
use native.Mathlib.Nat.{le_refl, lt-suc_self}
use native.Mathlib.Decide.{dec_lt, dec_le, ℕ_discrete}
use native.Mathlib.Omega.{arith}
use Rattle.rule.specs.declared.Symbol.{Symbol}
use Rattle.rule.specs.declared.Order.{Order}
use Rattle.rule.specs.declared.Order.TheVariants.{First}
use Rattle.rule.specs.Places.{sum}
use Rattle.rule.proofs.Places.{sum_ext, sum_lt, sum_bump, find}
use Rattle.rule.proofs.Strings.{Compared}
use Rattle.fair.proofs.Walk.{Shape, Line, Stop, walk}

-- ---- a table of lines with one line changed

pick : {P : Type 0} → Dec P → (ℕ → ℕ) → (ℕ → ℕ) → ℕ → ℕ
pick (yes p) f g = f
pick (no n) f g = g

changed : (ℕ → ℕ → ℕ) → ℕ → (ℕ → ℕ) → ℕ → ℕ → ℕ
changed K x f i = pick (ℕ_discrete i x) f (K i)

-- What holds of the new line at x, and of the old lines elsewhere, holds of the changed table.
changed_all : (K : ℕ → ℕ → ℕ) (x : ℕ) (f : ℕ → ℕ) (P : ℕ → (ℕ → ℕ) → Type 0) → P x f → (i : ℕ) → (i ≢ x → P i (K i)) → P i (changed K x f i)
unfolding changed pick
changed_all K x f P hx i ho = go (ℕ_discrete i x)
  where
    go : (d : Dec (i ≡ x)) → P i (pick d f (K i))
    go (yes e) = subst (λ z. P z f) (sym e) hx
    go (no n) = ho n

changed_there : (K : ℕ → ℕ → ℕ) (x : ℕ) (f : ℕ → ℕ) → changed K x f x ≡ f
changed_there K x f = changed_all K x f (λ i g. i ≡ x → g ≡ f) (λ e. refl) x (λ n e. absurd (n e)) refl

changed_elsewhere : (K : ℕ → ℕ → ℕ) (x : ℕ) (f : ℕ → ℕ) (i : ℕ) → i ≢ x → changed K x f i ≡ K i
changed_elsewhere K x f i h = changed_all K x f (λ j g. j ≢ x → g ≡ K j) (λ n. absurd (n refl)) i (λ n m. refl) h

-- ---- a line with one grain less, or one more, up to a place

one : {P : Type 0} → Dec P → ℕ
one (yes p) = 1
one (no n) = 0

up_to : ℕ → ℕ → ℕ
up_to place u = one (dec_le u place)

abbrev Side : ℕ → ℕ → Type 0
Side place u = ((u ≤ place) × (up_to place u ≡ 1)) ⊎ ((place < u) × (up_to place u ≡ 0))

side : (place u : ℕ) → Side place u
unfolding up_to one
side place u = go (dec_le u place)
  where
    go : (d : Dec (u ≤ place)) → ((u ≤ place) × (one d ≡ 1)) ⊎ ((place < u) × (one d ≡ 0))
    go (yes l) = inl (l, refl)
    go (no n) = inr (omega arith, refl)

abbrev lowered : ℕ → (ℕ → ℕ) → ℕ → ℕ
lowered place k u = k u - up_to place u

abbrev raised : ℕ → (ℕ → ℕ) → ℕ → ℕ
raised place k u = k u + up_to place u

-- A time and the next one: both up to the place, on its two sides, or both past it.
data Edge (place u : ℕ) : Type 0 where
  inside : u ≤ place → up_to place u ≡ 1 → up_to place (suc u) ≡ 1 → Edge place u
  edge : u ≡ place → up_to place u ≡ 1 → up_to place (suc u) ≡ 0 → Edge place u
  past : up_to place u ≡ 0 → up_to place (suc u) ≡ 0 → Edge place u

edge_of : (place u : ℕ) → Edge place u
edge_of place u = go (side place u) (side place (suc u))
  where
    go : Side place u → Side place (suc u) → Edge place u
    go (inl (l, e)) (inl (m, f)) = inside l e f
    go (inl (l, e)) (inr (m, f)) = edge (omega arith) e f
    go (inr (l, e)) (inl (m, f)) = past e (omega arith)
    go (inr (l, e)) (inr (m, f)) = past e f

module _ (g t : ℕ) (low high k : ℕ → ℕ) (place : ℕ) (T : Line g t low high k) where
  lowered_line : ((v : ℕ) → t ≤ v → v ≤ place → low v < k v) → k (suc place) < k place + g → Line g t low high (lowered place k)
  lowered_line slack room =
      record {
        grows = λ u l. ups u l (edge_of place u);
        slow = λ u l. slows u l (edge_of place u);
        above = λ u l. lows u l (side place u);
        below = λ u l. omega (arith, T.below u l);
      }
    where
      ups : (u : ℕ) → t ≤ u → Edge place u → k u - up_to place u ≤ k (suc u) - up_to place (suc u)
      ups u l (inside m e f) = omega (arith, T.grows u l)
      ups u l (edge q e f) = omega (arith, T.grows u l)
      ups u l (past e f) = omega (arith, T.grows u l)

      slows : (u : ℕ) → t ≤ u → Edge place u → k (suc u) - up_to place (suc u) ≤ k u - up_to place u + g
      slows u l (inside m e f) = omega (arith, T.slow u l, slack u l m)
      slows u l (edge q e f) = omega (arith, subst (λ z. k (suc z) < k z + g) (sym q) room)
      slows u l (past e f) = omega (arith, T.slow u l)

      lows : (u : ℕ) → t ≤ u → Side place u → low u ≤ k u - up_to place u
      lows u l (inl (m, e)) = omega (arith, slack u l m)
      lows u l (inr (m, e)) = omega (arith, T.above u l)

  raised_line : ((v : ℕ) → t ≤ v → v ≤ place → k v < high v) → k place < k (suc place) → Line g t low high (raised place k)
  raised_line slack grain =
      record {
        grows = λ u l. ups u l (edge_of place u);
        slow = λ u l. slows u l (edge_of place u);
        above = λ u l. omega (arith, T.above u l);
        below = λ u l. highs u l (side place u);
      }
    where
      ups : (u : ℕ) → t ≤ u → Edge place u → k u + up_to place u ≤ k (suc u) + up_to place (suc u)
      ups u l (inside m e f) = omega (arith, T.grows u l)
      ups u l (edge q e f) = omega (arith, subst (λ z. k z < k (suc z)) (sym q) grain)
      ups u l (past e f) = omega (arith, T.grows u l)

      slows : (u : ℕ) → t ≤ u → Edge place u → k (suc u) + up_to place (suc u) ≤ k u + up_to place u + g
      slows u l (inside m e f) = omega (arith, T.slow u l)
      slows u l (edge q e f) = omega (arith, T.slow u l)
      slows u l (past e f) = omega (arith, T.slow u l)

      highs : (u : ℕ) → t ≤ u → Side place u → k u + up_to place u ≤ high u
      highs u l (inl (m, e)) = omega (arith, slack u l m)
      highs u l (inr (m, e)) = omega (arith, T.below u l)

-- ---- all the lines

-- The lines of N tasks from time t on, which together have had `total u` by time u.
pub record Lines (N g : ℕ) (low high : ℕ → ℕ → ℕ) (total : ℕ → ℕ) (t : ℕ) (K : ℕ → ℕ → ℕ) : Type 0 where
  pub line : (i : ℕ) → i < N → Line g t (low i) (high i) (K i)
  pub sums : (u : ℕ) → t ≤ u → sum N (λ i. K i u) ≡ total u

-- W is where the lines are to start at t; A and B bound where they may; and who is below its bound does not beat who is above.
pub record Aim (N : ℕ) (low high : ℕ → ℕ → ℕ) (symbols : ℕ → ℕ → Symbol) (total : ℕ → ℕ) (t : ℕ) (A B W : ℕ → ℕ) : Type 0 where
  pub from : (i : ℕ) → i < N → A i ≤ W i
  pub upto : (i : ℕ) → i < N → W i ≤ B i
  pub aim_low : (i : ℕ) → i < N → low i t ≤ W i
  pub aim_high : (i : ℕ) → i < N → W i ≤ high i t
  pub aim_sum : sum N W ≡ total t
  pub rule : (x y : ℕ) → x < N → y < N → W x < B x → W x < high x t → A y < W y → low y t < W y
      → (o : Order) × Compared (symbols x) (symbols y) t o × (o ≢ First)

module _ (N g : ℕ) (low high : ℕ → ℕ → ℕ) (symbols : ℕ → ℕ → Symbol) (total : ℕ → ℕ)
    (shape : (i : ℕ) → i < N → Shape g (low i) (high i) (symbols i)) (t : ℕ) where
  -- One grain from x to y.
  swap : (K : ℕ → ℕ → ℕ) → Lines N g low high total t K → (x y : ℕ) → x < N → y < N → x ≢ y → Stop g (low x) (high y) (K x) (K y) t
      → (K' : ℕ → ℕ → ℕ) × Lines N g low high total t K' × (K x t ≡ suc (K' x t)) × (K' y t ≡ suc (K y t))
      × ((i : ℕ) → i ≢ x → i ≢ y → K' i t ≡ K i t)
  swap K F x y lx ly ne S =
      (K2, record { line = lines; sums = λ u l. sums2 u l (side place u) }, at_x (side place t), at_y (side place t), λ i n m. other t i n m)
    where
      place : ℕ
      place = S.place

      fx : ℕ → ℕ
      fx = lowered place (K x)

      fy : ℕ → ℕ
      fy = raised place (K y)

      K1 : ℕ → ℕ → ℕ
      K1 = changed K x fx

      K2 : ℕ → ℕ → ℕ
      K2 = changed K1 y fy

      lines : (i : ℕ) → i < N → Line g t (low i) (high i) (K2 i)
      lines i l =
          changed_all K1 y fy (λ j k. Line g t (low j) (high j) k)
          (raised_line g t (low y) (high y) (K y) place (F.line y ly) (λ v l m. (S.slack v l m).1) S.grain) i (λ n.
          changed_all K x fx (λ j k. Line g t (low j) (high j) k)
          (lowered_line g t (low x) (high x) (K x) place (F.line x lx) (λ v l m. (S.slack v l m).0) S.room) i (λ m. F.line i l))

      x1 : (u : ℕ) → K1 x u ≡ K x u - up_to place u
      x1 u = ap (λ k. k u) (changed_there K x fx)

      other1 : (u i : ℕ) → i ≢ x → K1 i u ≡ K i u
      other1 u i n = ap (λ k. k u) (changed_elsewhere K x fx i n)

      y2 : (u : ℕ) → K2 y u ≡ K y u + up_to place u
      y2 u = ap (λ k. k u) (changed_there K1 y fy)

      other2 : (u i : ℕ) → i ≢ y → K2 i u ≡ K1 i u
      other2 u i m = ap (λ k. k u) (changed_elsewhere K1 y fy i m)

      other : (u i : ℕ) → i ≢ x → i ≢ y → K2 i u ≡ K i u
      other u i n m = other2 u i m ∙ other1 u i n

      at_x : Side place t → K x t ≡ suc (K2 x t)
      at_x (inl (l, e)) = omega (arith, other2 t x ne, x1 t, (S.slack t (le_refl t) l).0)
      at_x (inr (l, e)) = absurd (omega (arith, S.after))

      at_y : Side place t → K2 y t ≡ suc (K y t)
      at_y (inl (l, e)) = omega (arith, y2 t)
      at_y (inr (l, e)) = absurd (omega (arith, S.after))

      sums2 : (u : ℕ) → t ≤ u → Side place u → sum N (λ i. K2 i u) ≡ total u
      sums2 u l (inl (m, e)) =
          omega (
            arith,
            sum_bump N (λ i. K1 i u) (λ i. K i u) x lx (omega (arith, x1 u, (S.slack u l m).0)) (λ i k n. sym (other1 u i n)),
            sum_bump N (λ i. K1 i u) (λ i. K2 i u) y ly (omega (arith, y2 u, other1 u y (λ q. ne (sym q)))) (λ i k n. other2 u i n),
            F.sums u l,
          )
      sums2 u l (inr (m, e)) = sum_ext N (λ i. K2 i u) (λ i. K i u) (λ i k. unchanged i) ∙ F.sums u l
        where
          unchanged : (i : ℕ) → K2 i u ≡ K i u
          unchanged i =
              changed_all K1 y fy (λ j k. k u ≡ K j u) (omega arith) i (λ n.
              changed_all K x fx (λ j k. k u ≡ K j u) (omega arith) i (λ q. refl))

  module _ (A B W : ℕ → ℕ) (aim : Aim N low high symbols total t A B W) where
    -- How far the lines that are above their aim are above it.
    gap : (ℕ → ℕ → ℕ) → ℕ
    gap K = sum N (λ i. K i t - W i)

    abbrev Within : (ℕ → ℕ → ℕ) → Type 0
    Within K = (i : ℕ) → i < N → (A i ≤ K i t) × (K i t ≤ B i)

    -- One line is above its aim and one below: a grain goes over, and the gap shrinks.
    closer : (K : ℕ → ℕ → ℕ) → Lines N g low high total t K → Within K → (x y : ℕ) → x < N → y < N → W x < K x t → K y t < W y
        → (K' : ℕ → ℕ → ℕ) × Lines N g low high total t K' × Within K' × (gap K' < gap K)
    unfolding gap
    closer K F I x y lx ly hx hy = (r.0, r.1, within, smaller)
      where
        ne : x ≢ y
        ne e = omega (arith, subst (λ z. W z < K z t) e hx)

        stop : Stop g (low x) (high y) (K x) (K y) t
        stop =
            let ruled =
            aim.rule x y lx ly (omega (arith, (I x lx).1)) (omega (arith, (F.line x lx).below t (le_refl t))) (omega (arith, (I y ly).0))
            (omega (arith, (F.line y ly).above t (le_refl t)))
            in
            walk g t (low x) (high x) (low y) (high y) (K x) (K y) (symbols x) (symbols y) (shape x lx) (shape y ly) (F.line x lx) (F.line y ly)
            ruled.1 ruled.2 (le_refl t) (omega (arith, aim.aim_low x lx)) (omega (arith, aim.aim_high y ly))

        r : (K' : ℕ → ℕ → ℕ) × Lines N g low high total t K' × (K x t ≡ suc (K' x t)) × (K' y t ≡ suc (K y t)) × ((i : ℕ) → i ≢ x → i ≢ y → K' i t ≡ K i t)
        r = swap K F x y lx ly ne stop

        -- at x, at y and elsewhere
        split : (P : ℕ → Type 0) → P x → P y → (i : ℕ) → (i ≢ x → i ≢ y → P i) → P i
        split P px py i po = go (ℕ_discrete i x) (ℕ_discrete i y)
          where
            go : Dec (i ≡ x) → Dec (i ≡ y) → P i
            go (yes e) d = subst P (sym e) px
            go (no n) (yes e) = subst P (sym e) py
            go (no n) (no m) = po n m

        within : (i : ℕ) → i < N → (A i ≤ r.0 i t) × (r.0 i t ≤ B i)
        within i l =
            split (λ j. (A j ≤ r.0 j t) × (r.0 j t ≤ B j)) (omega (arith, aim.from x lx, I x lx, r.2)) (omega (arith, aim.upto y ly, I y ly, r.3)) i
            (λ n m. omega (arith, I i l, r.4 i n m))

        smaller : sum N (λ i. r.0 i t - W i) < sum N (λ i. K i t - W i)
        smaller =
            sum_lt N (λ i. r.0 i t - W i) (λ i. K i t - W i)
            (λ i l. split (λ j. r.0 j t - W j ≤ K j t - W j) (omega (arith, r.2)) (omega (arith, r.3)) i (λ n m. omega (arith, r.4 i n m)))
            x lx (omega (arith, r.2))

    abbrev Reached : Type 0
    Reached = (K : ℕ → ℕ → ℕ) × Lines N g low high total t K × ((i : ℕ) → i < N → K i t ≡ W i)

    -- at most so many grains more
    loop : (n : ℕ) (K : ℕ → ℕ → ℕ) → Lines N g low high total t K → Within K → gap K < n → Reached
    loop zero K F I h = absurd (omega arith)
    loop (suc n) K F I h = go (find N (λ i. W i < K i t) (λ i. dec_lt (W i) (K i t))) (find N (λ i. K i t < W i) (λ i. dec_lt (K i t) (W i))) (loop n)
      where
        sums : sum N (λ i. K i t) ≡ sum N W
        sums = F.sums t (le_refl t) ∙ sym aim.aim_sum

        go : ((i : ℕ) × (i < N) × (W i < K i t)) ⊎ ((i : ℕ) → i < N → ¬ (W i < K i t)) → ((i : ℕ) × (i < N) × (K i t < W i)) ⊎ ((i : ℕ) → i < N → ¬ (K i t < W i))
            → ((K' : ℕ → ℕ → ℕ) → Lines N g low high total t K' → Within K' → gap K' < n → Reached) → Reached
        go (inl (x, lx, hx)) (inl (y, ly, hy)) ih = let c = closer K F I x y lx ly hx hy in ih c.0 c.1 c.2 (omega (arith, c.3))
        go (inl (x, lx, hx)) (inr q) ih = absurd (omega (arith, sums, sum_lt N W (λ i. K i t) (λ i l. omega (arith, q i l)) x lx hx))
        go (inr p) (inl (y, ly, hy)) ih = absurd (omega (arith, sums, sum_lt N (λ i. K i t) W (λ i l. omega (arith, p i l)) y ly hy))
        go (inr p) (inr q) ih = (K, F, λ i l. omega (arith, p i l, q i l))

    -- The lines can be made to start where they are aimed.
    pub exchange : (K : ℕ → ℕ → ℕ) → Lines N g low high total t K → ((i : ℕ) → i < N → (A i ≤ K i t) × (K i t ≤ B i))
        → (K' : ℕ → ℕ → ℕ) × Lines N g low high total t K' × ((i : ℕ) → i < N → K' i t ≡ W i)
    exchange K F I = loop (suc (gap K)) K F I (lt-suc_self (gap K))
