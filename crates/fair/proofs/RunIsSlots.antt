-- A run is its slots: it equals so many single slots up to the first refusal, its log part by part, its counts, and how it ended. By
-- induction on the slots: a done one writes its part, and the rest is a run on the rest of the log. Assumes nothing.
use Rattle.std.specs.Prelude.{Err, Ok, Result}
use mathlib.Core.Path.{◌≡◌, refl, sym, ap, ◌∙◌}
use mathlib.Core.Logic.{◌⊎◌, inl, inr, ⊎_elim}
use mathlib.Core.Bool.{not}
use mathlib.Core.List.{List, [], ◌∷◌, ◌++◌}
use Prim.Native.Nat.{ℕ, zero, suc, ◌+◌, ◌*◌, ◌<◌}
use native.Mathlib.Nat.{mul-zero, mul-suc, add_comm}
use native.Mathlib.Omega.{arith}
use lib.Dec.{eqb}
use lib.ListN.{length, take, drop, length-append, length-drop}
use lib.Seq.{take_at, drop-append-add, drop-drop}
use borrow.Author.Tests.{eqb-true, not-false}
use Rattle.rule.specs.declared.Refusal.{Refusal}
use Rattle.rule.specs.Refusals.{passed, first, differ, run_checks}
use Rattle.rule.specs.Outcomes.{SlotAfter, slot, RunAfter, stopped, one_more, after_slot, slots_from, run_by, run}
use Rattle.rule.proofs.Tests.{neither_true}
use Rattle.rule.proofs.Refusals.{Given, given_first, NoneHolds, none, and, first_none}
use Rattle.fair.specs.Slots.{slot_no, counts_no, IsSlots}
use Rattle.rule.proofs.Slots.{done_bytes}

module _ (es ps : List ℕ) (m : ℕ) where
  abbrev n : ℕ
  n = length es

  -- ---- a run that stops here

  stops : (s t : ℕ) (ks log : List ℕ) (o : Result Unit Refusal) → ((0 ≡ s) × (o ≡ Ok tt)) ⊎ ((x : Refusal) × (0 < s) × ((slot_no 0 es ps m t ks log).answer ≡ Err x) × (o ≡ Err x))
      → IsSlots s es ps m t ks log (stopped o ks log)
  unfolding counts_no
  stops s t ks log o end =
      record {
        few = omega arith;
        done = λ j l. absurd (omega arith);
        written = λ j l. absurd (omega arith);
        counts = refl;
        beyond = refl;
        whole = refl;
        ended = end;
      }

  -- ---- a slot that was done, and the rest

  module _ (s t : ℕ) (ks log : List ℕ) (long : length log ≡ suc s * n) (q : (slot es ps ks (take n log) m t).answer ≡ Ok tt) where
    abbrev now : SlotAfter
    now = slot es ps ks (take n log) m t

    goes_on : (r : RunAfter) → IsSlots s es ps m (suc t) now.counts (drop n log) r → IsSlots (suc s) es ps m t ks log (one_more now.bytes r)
    unfolding slot_no counts_no
    goes_on r R =
        record {
          few = omega (arith, R.few);
          done = dones;
          written = writtens;
          counts = R.counts;
          beyond =
              past r.answer.done
              ∙ R.beyond
              ∙ drop-drop (n * r.answer.done) n log
              ∙ ap (λ x. drop x log) (sym (one_part r.answer.done));
          whole =
              length-append now.bytes r.log
              ∙ omega (arith, done_bytes es ps ks (take n log) m t q, R.whole, length-drop n log, long);
          ended = ⊎_elim (λ e. inl (ap suc e.0, e.1)) (λ e. inr (e.0, omega (arith, e.1), e.2, e.3)) R.ended;
        }
      where
        dones : (j : ℕ) → j < suc r.answer.done → (slot_no j es ps m t ks log).answer ≡ Ok tt
        dones zero l = q
        dones (suc j) l = R.done j (omega arith)

        one_part : (j : ℕ) → n * suc j ≡ n + n * j
        one_part j = mul-suc n j ∙ add_comm (n * j) n

        past : (j : ℕ) → drop (n * suc j) (now.bytes ++ r.log) ≡ drop (n * j) r.log
        past j =
            ap (λ x. drop x (now.bytes ++ r.log)) (one_part j ∙ ap (λ x. x + n * j) (sym (done_bytes es ps ks (take n log) m t q)))
            ∙ drop-append-add now.bytes r.log (n * j)

        writtens : (j : ℕ) → j < suc r.answer.done → take n (drop (n * j) (now.bytes ++ r.log)) ≡ (slot_no j es ps m t ks log).bytes
        writtens zero l = rw (mul-zero n) (take_at now.bytes r.log n (done_bytes es ps ks (take n log) m t q))
        writtens (suc j) l = rw (past j) (R.written j (omega arith))

  -- ---- the theorem

  pub slots_are_slots : (s t : ℕ) (ks log : List ℕ) → length log ≡ s * n → IsSlots s es ps m t ks log (slots_from s es ps m t ks log)
  unfolding slots_from after_slot slot_no
  slots_are_slots zero t ks log long = stops 0 t ks log (Ok tt) (inl (refl, refl))
  slots_are_slots (suc s) t ks log long =
      go now.answer refl (slots_are_slots s (suc t) now.counts (drop n log) (length-drop n log ∙ omega arith))
    where
      now : SlotAfter
      now = slot es ps ks (take n log) m t

      rest : RunAfter
      rest = slots_from s es ps m (suc t) now.counts (drop n log)

      go : (o : Result Unit Refusal) → now.answer ≡ o → IsSlots s es ps m (suc t) now.counts (drop n log) rest
          → IsSlots (suc s) es ps m t ks log (after_slot o ks log now.bytes rest)
      go (Ok tt) q R = goes_on s t ks log long q rest R
      go (Err x) q R = stops (suc s) t ks log (Err x) (inr (x, omega arith, q, refl))

log_length : (s : ℕ) (es ps ks log : List ℕ) → NoneHolds (run_checks s es ps ks log) → length log ≡ s * length es
unfolding run_checks
log_length s es ps ks log (and x (and l none)) =
    eqb-true (length log) (s * length es)
    (not-false (eqb (length log) (s * length es)) (neither_true (differ (length es) (length ps ∷ length ks ∷ [])) (not (eqb (length log) (s * length es))) l).1)

-- A run that passes 10 and 1 equals its single slots.
pub run_is_slots : (s : ℕ) (es ps ks log : List ℕ) (m t : ℕ) → first (run_checks s es ps ks log) ≡ passed → IsSlots s es ps m t ks log (run s es ps ks log m t)
unfolding run run_by
run_is_slots s es ps ks log m t pass =
    rw pass (slots_are_slots es ps m s t ks log (log_length s es ps ks log (first_none (run_checks s es ps ks log) pass)))

-- One that does not is refused by the first of the two that holds, with 0 done and nothing changed.
pub run_refused : (s : ℕ) (es ps ks log : List ℕ) (m t : ℕ) (r : Refusal) → Given (run_checks s es ps ks log) r → run s es ps ks log m t ≡ stopped (Err r) ks log
unfolding run run_by
run_refused s es ps ks log m t r g = rw (given_first g)
