-- Never stuck, always fair: an accepted set, run from time 0 with counts 0, is never refused by 8 or 9, never runs more tasks than
-- units, and every task, the spare included, has at every time had e·t/p slots, rounded down or up. There is a plan at every time:
-- the even lines at 0, and one after each slot. Assumes nothing.
use Rattle.std.specs.Prelude.{Ok}
use mathlib.Core.Path.{◌≡◌, refl, sym, ap, ◌∙◌, subst}
use mathlib.Core.Logic.{◌⊎◌, inl, inr, ⊎_elim}
use mathlib.Core.Bool.{false, not, cond}
use mathlib.Core.List.{List, []}
use Prim.Native.Nat.{ℕ, zero, suc, ◌+◌, ◌*◌, ◌≤◌, ◌<◌}
use native.Mathlib.Decide.{dec_lt}
use native.Mathlib.Omega.{arith}
use borrow.Author.Tests.{lt-ltb, le-ltb, lt-leb, eq-eqb}
use lib.Dec.{ltb, eqb}
use lib.IntN.{pos}
use lib.ListN.{length}
use Rattle.rule.specs.declared.Accepted.{Accepted}
use Rattle.rule.specs.Limits.{time_most}
use Rattle.rule.specs.Places.{at, bit, sum, count}
use Rattle.rule.specs.Task.{fair}
use Rattle.rule.specs.Sets.{multiple, units_in_use, Field, field}
use Rattle.rule.specs.Slot.{urgents, not_tnegrus, chosen}
use Rattle.rule.specs.Refusals.{Verdict, passed, refused, first, lags, classes, unfair_at, unfair_place, differ, set_checks, admission_checks, slot_checks}
use Rattle.rule.specs.Outcomes.{admission_by, admission, runs_at, counts_after, bytes_after, slot_by, slot}
use Rattle.rule.proofs.Places.{lowest_none, length_each, at_each}
use Rattle.rule.proofs.Refusals.{NoneHolds, none, and, none_first, first_append, first_none, same_length}
use Rattle.rule.proofs.Sets.{AcceptedSet, accepted_set}
use Rattle.fair.specs.Share.{share_down, share_up}
use Rattle.fair.specs.FromStart.{zeros, counts_at, stepped}
use Rattle.fair.proofs.Share.{share_whole}
use Rattle.fair.proofs.Plan.{Plan, plan_at_0, down_or_up}
use Rattle.rule.proofs.Placed.{size, requirement_at, period_at, count_at, requirement_task, period_task, count_task, count_spare, at_places, task_place, no_spare_past, count_tasks}
use Rattle.fair.proofs.Fields.{weight_at, fills}
use Rattle.fair.proofs.Dealt.{counts_whole, place, entry, all_fair, urgents_fit, others_enough, is_choice, plan_next}

-- What is promised of a set at time t with the counts ks.
pub record FairAt (es ps : List ℕ) (m t : ℕ) (ks : List ℕ) : Type 0 where
  -- refusals 8 and 9 do not come
  pub no_lag_refusal : (lags es ps ks t).holds ≡ false
  pub no_class_refusal : (classes es ps ks t).holds ≡ false
  -- no slot runs more tasks than units in use, nor than units
  pub few_run : count (length es) (runs_at es ps ks t) ≤ units_in_use es ps
  pub units_enough : units_in_use es ps ≤ m
  -- each task, the spare included, has had its share, rounded down or up
  pub shares : (i : ℕ) → i < (field es ps ks t).size →
      let x = (field es ps ks t).entry i in
      (x.k ≡ pos (share_down x.e x.p t)) ⊎ (x.k ≡ pos (share_up x.e x.p t))
  -- at the end of its j-th period a task has had just e·j
  pub period_ends : (i j : ℕ) → i < length es → t ≡ at ps i * j → at ks i ≡ at es i * j
  -- and so has every entry of the field, the spare included
  pub entry_ends : (i j : ℕ) → i < (field es ps ks t).size →
      let x = (field es ps ks t).entry i in t ≡ x.p * j → x.k ≡ pos (x.e * j)

-- ---- a set whose counts have a plan

module _ (es ps : List ℕ) (m : ℕ) (A : AcceptedSet es ps m) (ks : List ℕ) (same : length ks ≡ length es) (t : ℕ) (K : ℕ → ℕ → ℕ)
    (P : Plan (size es ps) (units_in_use es ps) (multiple ps) (requirement_at es ps) (period_at es ps) t (count_at es ps ks t) K) where
  abbrev f : Field
  f = field es ps ks t

  none_unfair : (i : ℕ) → i < suc (length es) → unfair_at es ps ks t i ≡ false
  unfolding unfair_at
  none_unfair i l = go (dec_lt i f.size)
    where
      go : Dec (i < f.size) → cond (ltb i f.size) (not (fair t (f.entry i))) (not (eqb (sum (length ks) (at ks)) (units_in_use es ps * t))) ≡ false
      go (yes h) = rw (lt-ltb i f.size h, all_fair es ps m A ks same t K P i (place es ps m A ks same t K P h))
      go (no n) =
          let past : f.size ≤ i = omega arith in
          let whole = counts_whole es ps m A ks same t K P (no_spare_past es ps ks t i l past) in
          rw (le-ltb i f.size past, eq-eqb (sum (length ks) (at ks)) (units_in_use es ps * t) whole)

  no_lags : (lags es ps ks t).holds ≡ false
  unfolding unfair_place
  no_lags = rw (lowest_none (suc (length es)) (unfair_at es ps ks t) none_unfair) (lt-leb (suc (length es)) (length es) (omega arith))

  no_classes : (classes es ps ks t).holds ≡ false
  no_classes =
      rw (le-ltb (units_in_use es ps) (urgents t f) (urgents_fit es ps m A ks same t K P), le-ltb (not_tnegrus t f) (units_in_use es ps) (others_enough es ps m A ks same t K P))

  few : count (length es) (runs_at es ps ks t) ≤ units_in_use es ps
  unfolding runs_at
  few =
      subst (λ n. count (length es) (chosen (units_in_use es ps) t f) ≤ n) (is_choice es ps m A ks same t K P).full
      (count_tasks es ps ks t (chosen (units_in_use es ps) t f))

  had : (i : ℕ) → i < size es ps
      → (count_at es ps ks t i ≡ share_down (requirement_at es ps i) (period_at es ps i) t) ⊎ (count_at es ps ks t i ≡ share_up (requirement_at es ps i) (period_at es ps i) t)
  had =
      down_or_up (size es ps) (units_in_use es ps) (multiple ps) (requirement_at es ps) (period_at es ps) (weight_at es ps) (fills es ps m A) t
      (count_at es ps ks t) K P

  share : (i : ℕ) → i < f.size →
      let x = f.entry i in (x.k ≡ pos (share_down x.e x.p t)) ⊎ (x.k ≡ pos (share_up x.e x.p t))
  share i l =
      let h = place es ps m A ks same t K P l in
      subst (λ x. (x.k ≡ pos (share_down x.e x.p t)) ⊎ (x.k ≡ pos (share_up x.e x.p t))) (sym (entry es ps m A ks same t K P i h))
      (⊎_elim (λ q. inl (ap pos q)) (λ q. inr (ap pos q)) (had i h))

  ends : (i j : ℕ) → i < length es → t ≡ at ps i * j → at ks i ≡ at es i * j
  ends i j l q =
      let w = share_whole (at es i) (at ps i) j (omega (arith, A.requirement_lt i l)) in
      ⊎_elim (λ d. task d ∙ ap (share_down (at es i) (at ps i)) q ∙ w.0) (λ d. task d ∙ ap (share_up (at es i) (at ps i)) q ∙ w.1)
      (rw (requirement_task es ps i l, period_task es ps i l) at (had i (task_place es ps i l)))
    where
      task : {x : ℕ} → count_at es ps ks t i ≡ x → at ks i ≡ x
      task d = sym (count_task es ps i l ks t) ∙ d

  all_end : (i j : ℕ) → i < f.size → let x = f.entry i in t ≡ x.p * j → x.k ≡ pos (x.e * j)
  all_end i j l =
      let h = place es ps m A ks same t K P l in
      subst (λ x. t ≡ x.p * j → x.k ≡ pos (x.e * j)) (sym (entry es ps m A ks same t K P i h)) (λ q. go h q)
    where
      go : i < size es ps → t ≡ period_at es ps i * j → pos (count_at es ps ks t i) ≡ pos (requirement_at es ps i * j)
      go h q =
          let w = share_whole (requirement_at es ps i) (period_at es ps i) j (omega (arith, (fills es ps m A).light i h)) in
          ap pos
          (⊎_elim (λ d. d ∙ ap (share_down (requirement_at es ps i) (period_at es ps i)) q ∙ w.0)
          (λ d. d ∙ ap (share_up (requirement_at es ps i) (period_at es ps i)) q ∙ w.1) (had i h))

  pub fair_at : FairAt es ps m t ks
  fair_at =
      record {
        no_lag_refusal = no_lags;
        no_class_refusal = no_classes;
        few_run = few;
        units_enough = A.in_use_le;
        shares = share;
        period_ends = ends;
        entry_ends = all_end;
      }

-- ---- from time 0

module _ (es ps : List ℕ) (m : ℕ) (A : AcceptedSet es ps m) where
  pub length_counts : (t : ℕ) → length (counts_at es ps t) ≡ length es
  unfolding counts_at counts_after
  length_counts zero = length_each (length es) (λ i. 0)
  length_counts (suc t) = length_each (length es) (λ i. at (counts_at es ps t) i + bit (runs_at es ps (counts_at es ps t) t i))

  abbrev PlanAt : ℕ → (ℕ → ℕ → ℕ) → Type 0
  PlanAt t K = Plan (size es ps) (units_in_use es ps) (multiple ps) (requirement_at es ps) (period_at es ps) t (count_at es ps (counts_at es ps t) t) K

  -- At time 0 every count, the spare's too, is 0.
  counts_zero : (i : ℕ) → i < size es ps → count_at es ps (counts_at es ps 0) 0 i ≡ 0
  unfolding counts_at
  counts_zero =
      at_places es ps (λ i. count_at es ps (zeros es) 0 i ≡ 0)
      (λ i l. count_task es ps i l (zeros es) 0 ∙ at_each (length es) (λ i. 0) i l)
      (λ e p q. count_spare es ps (zeros es) 0 ∙ omega arith)

  planned : (t : ℕ) → (K : ℕ → ℕ → ℕ) × PlanAt t K
  unfolding counts_at
  planned zero =
      let P = plan_at_0 (size es ps) (units_in_use es ps) (multiple ps) (requirement_at es ps) (period_at es ps) (weight_at es ps) (fills es ps m A) in
      (λ i u. weight_at es ps i * u, record { start = λ i l. P.start i l ∙ ap (λ x. x * multiple ps) (sym (counts_zero i l)); lines = P.lines })
  planned (suc t) = let r = planned t in plan_next es ps m A (counts_at es ps t) (length_counts t) t r.0 r.1

  pub fair_always : (t : ℕ) → FairAt es ps m t (counts_at es ps t)
  fair_always t = let r = planned t in fair_at es ps m A (counts_at es ps t) (length_counts t) t r.0 r.1

  -- ---- and by the entry's own slots, to the calendar's end

  -- What a slot checks, with the counts as they are at t.
  slot_passes : (t : ℕ) (bytes : List ℕ) → length bytes ≡ length es → t ≤ time_most → first (set_checks es ps m) ≡ passed
      → first (slot_checks es ps (counts_at es ps t) bytes m t) ≡ passed
  unfolding slot_checks first differ
  slot_passes t bytes b h pass =
      let F = fair_always t in
      rw (eq-eqb (length ps) (length es) A.same_length, eq-eqb (length (counts_at es ps t)) (length es) (length_counts t), eq-eqb (length bytes) (length es) b)
      (first_append (set_checks es ps m) _ pass
      ∙ none_first (and (le-ltb time_most t h) (and F.no_lag_refusal (and F.no_class_refusal none))))

  pub slot_done : (t : ℕ) (bytes : List ℕ) → length bytes ≡ length es → t ≤ time_most → first (set_checks es ps m) ≡ passed
      → slot es ps (counts_at es ps t) bytes m t
      ≡ record { answer = Ok tt; counts = counts_at es ps (suc t); bytes = bytes_after es ps (counts_at es ps t) t }
  unfolding slot slot_by counts_at
  slot_done t bytes b h pass = rw (slot_passes t bytes b h pass)

  pub stepped_counts : (t : ℕ) → t ≤ suc time_most → first (set_checks es ps m) ≡ passed → stepped es ps m t ≡ counts_at es ps t
  unfolding stepped counts_at
  stepped_counts zero h pass = refl
  stepped_counts (suc t) h pass =
      ap (λ ks. (slot es ps ks (zeros es) m t).counts) (stepped_counts t (omega arith) pass)
      ∙ ap (λ r. r.counts) (slot_done t (zeros es) (length_each (length es) (λ i. 0)) (omega arith) pass)

-- ---- the theorem

-- An accepted set has passed every check.
accepted_passes : (es ps : List ℕ) (m : ℕ) (a : Accepted) → admission es ps m ≡ Ok a → NoneHolds (admission_checks es ps m)
unfolding admission admission_by
accepted_passes es ps m a q = first_none (admission_checks es ps m) (go (first (admission_checks es ps m)) q)
  where
    go : (v : Verdict) → admission_by v es ps ≡ Ok a → v ≡ passed
    go passed q = refl
    go (refused r) q = absurd (let z : ◌≡◌ {A = ℕ} 0 1 = cc in omega arith)

-- What admission gives the laws about accepted sets.
pub set_passes : (es ps : List ℕ) (m : ℕ) → NoneHolds (admission_checks es ps m) → (length ps ≡ length es) × (first (set_checks es ps m) ≡ passed)
unfolding admission_checks
set_passes es ps m (and l rest) = ((same_length (length es) (length ps) [] l).0, none_first rest)

module _ (es ps : List ℕ) (m : ℕ) (a : Accepted) (q : admission es ps m ≡ Ok a) where
  -- What admission accepts has the laws of an accepted set.
  pub checks : (length ps ≡ length es) × (first (set_checks es ps m) ≡ passed)
  checks = set_passes es ps m (accepted_passes es ps m a q)

  pub set : AcceptedSet es ps m
  set = accepted_set es ps m checks.0 checks.1

  -- At every time there is, with each slot dealt by the rule.
  pub never_stuck : (t : ℕ) → FairAt es ps m t (counts_at es ps t)
  never_stuck = fair_always es ps m set

  -- Up to the calendar's end, stepped by the slot's own outcome with the counts that it hands back: every slot is done.
  pub never_refused : (t : ℕ) (bytes : List ℕ) → length bytes ≡ length es → t ≤ time_most → (slot es ps (stepped es ps m t) bytes m t).answer ≡ Ok tt
  never_refused t bytes b h =
      ap (λ ks. (slot es ps ks bytes m t).answer) (stepped_counts es ps m set t (omega arith) checks.1)
      ∙ ap (λ r. r.answer) (slot_done es ps m set t bytes b h checks.1)

  -- And the counts that the slots hand back are fair at every time of the calendar, its end included.
  pub stepped_fair : (t : ℕ) → t ≤ suc time_most → FairAt es ps m t (stepped es ps m t)
  stepped_fair t h = subst (λ ks. FairAt es ps m t ks) (sym (stepped_counts es ps m set t h checks.1)) (never_stuck t)
