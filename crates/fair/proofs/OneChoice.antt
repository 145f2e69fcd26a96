-- One right choice: for records, time and counts that a slot does not refuse, every choice with the properties of the rule (all
-- urgent tasks, no tnegru one, contenders in order, M in all) is the outcome's. Assumes nothing.
use Rattle.std.specs.Prelude.{Ok}
use mathlib.Core.Path.{◌≡◌, sym, ap, ◌∙◌, subst}
use mathlib.Core.Bool.{Bool, false}
use mathlib.Core.List.{List}
use Prim.Native.Nat.{ℕ, ◌+◌, ◌<◌}
use borrow.Author.Tests.{ltb-false}
use lib.Dec.{ltb}
use lib.ListN.{length}
use Rattle.rule.specs.Places.{at, bit, each}
use Rattle.rule.specs.Sets.{units_in_use, field}
use Rattle.rule.specs.Slot.{urgents, not_tnegrus, chosen}
use Rattle.rule.specs.Refusals.{classes, set_checks, slot_checks}
use Rattle.rule.specs.Outcomes.{slot, runs_at, counts_after, bytes_after}
use Rattle.rule.proofs.Tests.{neither_true}
use Rattle.rule.proofs.Places.{each_ext}
use Rattle.rule.proofs.Refusals.{NoneHolds, none, and, first_none}
use Rattle.rule.proofs.Slots.{slot_passed, done_slot}
use Rattle.rule.proofs.Choice.{IsChoice, chosen_is_choice, one_choice}
use Rattle.rule.proofs.Placed.{task_place, field_size}

module _ (es ps ks bytes : List ℕ) (m t : ℕ) (q : (slot es ps ks bytes m t).answer ≡ Ok tt) where
  -- ---- it chose by the rule

  class_check : NoneHolds (slot_checks es ps ks bytes m t) → (classes es ps ks t).holds ≡ false
  unfolding slot_checks set_checks
  class_check (and l (and n (and u (and r (and x (and o (and ti (and la (and c none))))))))) = c

  pub outcome_is_choice : IsChoice (units_in_use es ps) t (field es ps ks t) (chosen (units_in_use es ps) t (field es ps ks t))
  outcome_is_choice =
      let f = field es ps ks t in
      let M = units_in_use es ps in
      let c = neither_true (ltb M (urgents t f)) (ltb (not_tnegrus t f) M) (class_check (first_none (slot_checks es ps ks bytes m t) (slot_passed es ps ks bytes m t q))) in
      chosen_is_choice M t f (ltb-false M (urgents t f) c.0) (ltb-false (not_tnegrus t f) M c.1)

  -- ---- and every choice by the rule is that one

  module _ (ch : ℕ → Bool) (C : IsChoice (units_in_use es ps) t (field es ps ks t) ch) where
    pub same_choice : (i : ℕ) → i < (field es ps ks t).size → ch i ≡ chosen (units_in_use es ps) t (field es ps ks t) i
    same_choice i l = one_choice C outcome_is_choice i l

    same_task : (i : ℕ) → i < length es → ch i ≡ runs_at es ps ks t i
    unfolding runs_at
    same_task i l = same_choice i (subst (λ n. i < n) (sym (field_size es ps ks t)) (task_place es ps i l))

    -- The bytes and the counts that the slot hands back are that choice's.
    pub one_right_choice : slot es ps ks bytes m t
        ≡ record { answer = Ok tt; counts = each (length es) (λ i. at ks i + bit (ch i)); bytes = each (length es) (λ i. bit (ch i)) }
    unfolding counts_after bytes_after
    one_right_choice =
        done_slot es ps ks bytes m t q
        ∙ ap (λ bs. record { answer = Ok tt; counts = counts_after es ps ks t; bytes = bs })
        (each_ext (length es) (λ i. bit (runs_at es ps ks t i)) (λ i. bit (ch i)) (λ i l. ap bit (sym (same_task i l))))
        ∙ ap (λ cs. record { answer = Ok tt; counts = cs; bytes = each (length es) (λ i. bit (ch i)) })
        (each_ext (length es) (λ i. at ks i + bit (runs_at es ps ks t i)) (λ i. at ks i + bit (ch i)) (λ i l. ap (λ b. at ks i + bit b) (sym (same_task i l))))
