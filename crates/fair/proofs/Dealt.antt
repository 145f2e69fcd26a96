-- One slot of an accepted set whose counts have a plan: every lag is within its bounds, at most M are urgent and at least M are not
-- tnegru, so the choice follows the rule, and the counts after it have a plan again. Assumes nothing.
use Rattle.std.specs.Prelude.{None, Option, Some}
use mathlib.Core.Path.{◌≡◌, refl, sym, ap, ◌∙◌, subst}
use mathlib.Core.Logic.{◌≢◌}
use mathlib.Core.Bool.{Bool, true, false, not, true≢false}
use mathlib.Core.List.{List}
use Prim.Native.Nat.{ℕ, suc, ◌+◌, ◌*◌, ◌≤◌, ◌<◌}
use native.Mathlib.Omega.{arith}
use borrow.Author.Tests.{leb-true, le-leb, lt-leb, not-false}
use lib.Dec.{leb}
use lib.ListN.{length}
use Rattle.rule.specs.declared.Weight.{Weight}
use Rattle.rule.specs.declared.Order.{Order}
use Rattle.rule.specs.declared.Order.TheVariants.{First}
use Rattle.rule.specs.Places.{at, bit, sum}
use Rattle.rule.specs.Task.{fair, symbol, compare}
use Rattle.rule.specs.Sets.{multiple, units_in_use, spare, Field, field}
use Rattle.rule.specs.Slot.{tnegru, urgent, contending, urgents, not_tnegrus, precedes, chosen}
use Rattle.rule.specs.Outcomes.{runs_at, counts_after}
use Rattle.rule.proofs.Lags.{counted, Bounds, bounds_fair, tnegru_iff_next_lag, urgent_iff_next_lag, contending_iff_next_lag}
use Rattle.rule.proofs.Places.{sum_ext, sum_add, length_each, at_each}
use Rattle.rule.proofs.Strings.{Compared, compare_derived}
use Rattle.rule.proofs.Ordering.{precedes_asymmetric}
use Rattle.rule.proofs.Choice.{IsChoice, chosen_is_choice}
use Rattle.rule.proofs.Sets.{AcceptedSet}
use Rattle.fair.proofs.Plan.{Tasks, Contending, Follows, Plan, lag_bounds, count_sum, few_urgent, enough_others, plan_after}
use Rattle.rule.proofs.Placed.{size, requirement_at, period_at, count_at, field_size, field_entry, count_task, count_spare, at_places, sum_places}
use Rattle.fair.proofs.Fields.{weight_at, fills}

bit_one : (b : Bool) → bit b ≤ 1
bit_one true = omega arith
bit_one false = omega arith

bit_true : (b : Bool) → 0 < bit b → b ≡ true
bit_true true h = refl
bit_true false h = absurd (omega arith)

bit_false : (b : Bool) → bit b ≡ 0 → b ≡ false
bit_false true h = absurd (omega arith)
bit_false false h = refl

module _ (es ps : List ℕ) (m : ℕ) (A : AcceptedSet es ps m) (ks : List ℕ) (same : length ks ≡ length es) (t : ℕ) (K : ℕ → ℕ → ℕ)
    (P : Plan (size es ps) (units_in_use es ps) (multiple ps) (requirement_at es ps) (period_at es ps) t (count_at es ps ks t) K) where
  abbrev M : ℕ
  M = units_in_use es ps

  abbrev f : Field
  f = field es ps ks t

  abbrev e : ℕ → ℕ
  e = requirement_at es ps

  abbrev p : ℕ → ℕ
  p = period_at es ps

  abbrev k : ℕ → ℕ
  k = count_at es ps ks t

  tasks : Tasks (size es ps) M (multiple ps) e p (weight_at es ps)
  tasks = fills es ps m A

  -- ---- the counts add up

  task_sum : sum (length es) k ≡ sum (length ks) (at ks)
  task_sum = sum_ext (length es) k (at ks) (λ i l. count_task es ps i l ks t) ∙ ap (λ n. sum n (at ks)) (sym same)

  all_sum : sum (size es ps) k ≡ M * t
  all_sum = count_sum (size es ps) M (multiple ps) e p (weight_at es ps) tasks t k K P

  -- With no spare the counts add up to M·t, with one to no more.
  pub counts_whole : spare es ps ≡ None → sum (length ks) (at ks) ≡ M * t
  counts_whole q = sym task_sum ∙ (sum_places es ps k).0 q ∙ all_sum

  pub counts_fit : sum (length ks) (at ks) ≤ M * t
  counts_fit = go (spare es ps) refl
    where
      go : (s : Option Weight) → spare es ps ≡ s → sum (length ks) (at ks) ≤ M * t
      go None q = omega (arith, counts_whole q)
      go (Some w) q = omega (arith, task_sum, all_sum, (sum_places es ps k).1 w.e w.p q, count_spare es ps ks t)

  -- ---- each entry of the field

  pub place : {i : ℕ} → i < f.size → i < size es ps
  place {i} l = subst (λ n. i < n) (field_size es ps ks t) l

  pub entry : (i : ℕ) → i < size es ps → f.entry i ≡ counted (e i) (p i) (k i)
  entry i l = field_entry es ps ks t i l counts_fit

  bounds : (i : ℕ) → i < size es ps → Bounds (e i) (p i) (k i) t
  bounds i l =
      let b = lag_bounds (size es ps) M (multiple ps) e p (weight_at es ps) tasks t k K P i l in
      record { over = b.0; under = b.1 }

  pub all_fair : (i : ℕ) → i < size es ps → fair t (f.entry i) ≡ true
  all_fair i l = ap (fair t) (entry i l) ∙ bounds_fair (e i) (p i) (k i) t (bounds i l)

  tnegru_is : (i : ℕ) → i < size es ps → tnegru t (f.entry i) ≡ leb (e i * suc t) (p i * k i)
  tnegru_is i l = ap (tnegru t) (entry i l) ∙ tnegru_iff_next_lag (e i) (p i) (k i) t (tasks.some i l) (tasks.light i l) (bounds i l)

  urgent_is : (i : ℕ) → i < size es ps → urgent t (f.entry i) ≡ leb (p i * suc (k i)) (e i * suc t)
  urgent_is i l = ap (urgent t) (entry i l) ∙ urgent_iff_next_lag (e i) (p i) (k i) t (tasks.some i l) (tasks.light i l) (bounds i l)

  contends : (i : ℕ) → i < size es ps → Contending (e i) (p i) t (k i) → contending t (f.entry i) ≡ true
  contends i l c =
      ap (contending t) (entry i l)
      ∙ contending_iff_next_lag (e i) (p i) (k i) t (tasks.some i l) (tasks.light i l) (bounds i l)
      ∙ rw (lt-leb (e i * suc t) (p i * k i) c.0, lt-leb (p i * suc (k i)) (e i * suc t) c.1)

  -- ---- refusal 9 cannot come

  pub urgents_fit : urgents t f ≤ M
  unfolding urgents
  urgents_fit =
      rw (field_size es ps ks t)
      (few_urgent (size es ps) M (multiple ps) e p (weight_at es ps) tasks t k K P (λ i. bit (urgent t (f.entry i))) (λ i l. bit_one (urgent t (f.entry i)))
      (λ i l h. leb-true (p i * suc (k i)) (e i * suc t) (sym (urgent_is i l) ∙ bit_true (urgent t (f.entry i)) h)))

  pub others_enough : M ≤ not_tnegrus t f
  unfolding not_tnegrus
  others_enough =
      rw (field_size es ps ks t)
      (enough_others (size es ps) M (multiple ps) e p (weight_at es ps) tasks t k K P (λ i. bit (not (tnegru t (f.entry i))))
      (λ i l h. leb-true (e i * suc t) (p i * k i) (sym (tnegru_is i l) ∙ not-false (tnegru t (f.entry i)) (bit_false (not (tnegru t (f.entry i))) h))))

  -- ---- the choice follows the rule

  pub is_choice : IsChoice M t f (chosen M t f)
  is_choice = chosen_is_choice M t f urgents_fit others_enough

  abbrev ch : ℕ → ℕ
  ch i = bit (chosen M t f i)

  outside : {i : ℕ} → i < size es ps → i < f.size
  outside {i} l = subst (λ n. i < n) (sym (field_size es ps ks t)) l

  not_before : (x y : ℕ) → precedes t f y x ≡ true → compare t (f.entry x).e (f.entry x).p (f.entry y).e (f.entry y).p ≢ First
  unfolding precedes
  not_before x y h q = true≢false (sym (rw q) ∙ precedes_asymmetric t f y x h)

  in_order : (x y : ℕ) → x < size es ps → y < size es ps → Contending (e x) (p x) t (k x) → Contending (e y) (p y) t (k y) → ch x ≡ 0 → ch y ≡ 1
      → (o : Order) × Compared (symbol (e x) (p x)) (symbol (e y) (p y)) (suc t) o × (o ≢ First)
  in_order x y lx ly cx cy zx zy =
      let h =
      is_choice.in_order y x (outside ly) (outside lx) (contends y ly cy) (contends x lx cx) (bit_true (chosen M t f y) (omega arith))
      (bit_false (chosen M t f x) zx)
      in (
        compare t (e x) (p x) (e y) (p y),
        compare_derived (e x) (p x) (e y) (p y) t (tasks.some x lx) (tasks.light x lx) (tasks.some y ly) (tasks.light y ly),
        λ q. not_before x y h (rw (entry x lx, entry y ly) q),
      )

  follows : Follows (size es ps) M e p t k ch
  follows =
      record {
        bits = λ i l. bit_one (chosen M t f i);
        full = ap (λ n. sum n ch) (sym (field_size es ps ks t)) ∙ is_choice.full;
        urgent = λ i l h. ap bit (is_choice.urgent_in i (outside l) (urgent_is i l ∙ le-leb (p i * suc (k i)) (e i * suc t) h));
        tnegru = λ i l h. ap bit (is_choice.tnegru_out i (outside l) (tnegru_is i l ∙ le-leb (e i * suc t) (p i * k i) h));
        in_order = in_order;
      }

  -- ---- the counts after the slot

  abbrev after : List ℕ
  after = counts_after es ps ks t

  pub length_after : length after ≡ length es
  unfolding counts_after
  length_after = length_each (length es) (λ i. at ks i + bit (runs_at es ps ks t i))

  task_after : (i : ℕ) → i < length es → at after i ≡ at ks i + ch i
  unfolding counts_after runs_at
  task_after i l = at_each (length es) (λ i. at ks i + bit (runs_at es ps ks t i)) i l

  sum_after : sum (length after) (at after) ≡ sum (length ks) (at ks) + sum (length es) ch
  sum_after =
      ap (λ n. sum n (at after)) length_after
      ∙ sum_ext (length es) (at after) (λ i. at ks i + ch i) task_after
      ∙ sum_add (length es) (at ks) ch
      ∙ ap (λ n. sum n (at ks) + sum (length es) ch) (sym same)

  -- Each place, the spare's too, has had what the choice gives it.
  counts_after_lem : (i : ℕ) → i < size es ps → count_at es ps after (suc t) i ≡ k i + ch i
  counts_after_lem =
      at_places es ps (λ i. count_at es ps after (suc t) i ≡ k i + ch i)
      (λ i l. count_task es ps i l after (suc t) ∙ task_after i l ∙ ap (λ x. x + ch i) (sym (count_task es ps i l ks t)))
      (λ e p q. omega (arith, count_spare es ps after (suc t), count_spare es ps ks t, sum_after, counts_fit, follows.full, (sum_places es ps ch).1 e p q))

  pub plan_next : (K' : ℕ → ℕ → ℕ) × Plan (size es ps) M (multiple ps) e p (suc t) (count_at es ps (counts_after es ps ks t) (suc t)) K'
  plan_next =
      let r = plan_after (size es ps) M (multiple ps) e p (weight_at es ps) tasks t k K P ch follows in
      (r.0, record { start = λ i l. r.1.start i l ∙ ap (λ x. x * multiple ps) (sym (counts_after_lem i l)); lines = r.1.lines })
