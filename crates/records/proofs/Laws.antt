-- A record more taken apart, a count more put back, and what refusals 1 and 2 are for a list of records. Assumes nothing.
use mathlib.Core.Path.{◌≡◌, refl, sym, ap, ◌∙◌}
use mathlib.Core.Logic.{inr}
use mathlib.Core.List.{List, [], ◌∷◌, ◌++◌, map}
use Prim.Native.Nat.{ℕ, zero, suc, ◌+◌, ◌<◌}
use native.Mathlib.Omega.{arith}
use lib.ListN.{length, get_or, set, take, length-map}
use Rattle.std.specs.Prelude.{Err}
use Rattle.std.proofs.lemmas.List.{take_more_set, map_more}
use Rattle.rule.specs.declared.Refusal.{Refusal}
use Rattle.rule.specs.declared.Refusal.TheVariants.{Lengths, Tasks}
use Rattle.rule.specs.Limits.{tasks_most}
use Rattle.rule.specs.Refusals.{admission_checks, set_checks}
use Rattle.rule.specs.Outcomes.{admission, SlotAfter, slot}
use Rattle.rule.proofs.Refusals.{this, next, admission_refusal, differ_here, differ_later}
use Rattle.rule.proofs.Slots.{refused_slot}
use Rattle.admission.proofs.Laws.{outside, same_lengths}
use Rattle.slot.proofs.Accepted.{slot_lengths, slot_refused}
use Rattle.records.specs.declared.Task.{Task}
use Rattle.records.specs.declared.Lists.{Lists}
use Rattle.records.specs.Door.{requirements_of, periods_of, counts_of, with_count, with_counts}
use Rattle.records.specs.Apart.{none, Apart}

-- ---- a record more taken apart

-- Each of the lists has 64 places.
pub record Whole (lists : Lists) : Type 0 where
  pub requirements : length lists.requirements ≡ 64
  pub periods : length lists.periods ≡ 64
  pub counts : length lists.counts ≡ 64

pub one_more : (f : Task → ℕ) (i : ℕ) (xs : List ℕ) (ts : List Task) → i < length xs → i < length ts → take i xs ≡ map f (take i ts)
    → take (i + 1) (set xs i (f (get_or ts i none))) ≡ map f (take (i + 1) ts)
one_more f i xs ts h g q =
    take_more_set xs i (f (get_or ts i none)) h ∙ ap (λ l. l ++ f (get_or ts i none) ∷ []) q ∙ sym (map_more f ts i none g)

-- Of no record no count is put back.
pub nothing_back : (ks : List ℕ) → with_counts [] ks ≡ []
unfolding with_counts
nothing_back ks = refl

-- ---- a set taken apart

-- Admission of the first n numbers of each list is that of the set.
pub admission_apart : (n : ℕ) (ts : List Task) (lists : Lists) → Apart n ts lists → (m : ℕ)
    → admission (take n lists.requirements) (take n lists.periods) m ≡ admission (requirements_of ts) (periods_of ts) m
admission_apart n ts lists apart m = rw (apart.requirements, apart.periods)

-- The slot of a set of records, and of the first n numbers of each list.
abbrev pub slot_of : List Task → List ℕ → ℕ → ℕ → SlotAfter
slot_of ts bytes m t = slot (requirements_of ts) (periods_of ts) (counts_of ts) bytes m t

abbrev pub slot_first : ℕ → Lists → List ℕ → ℕ → ℕ → SlotAfter
slot_first n lists bytes m t = slot (take n lists.requirements) (take n lists.periods) (take n lists.counts) bytes m t

-- The two slots are one.
pub slot_apart : (n : ℕ) (ts : List Task) (lists : Lists) → Apart n ts lists → (bytes : List ℕ) (m t : ℕ) → slot_first n lists bytes m t ≡ slot_of ts bytes m t
slot_apart n ts lists apart bytes m t = rw (apart.requirements, apart.periods, apart.counts)

-- ---- a count more put back

pub with_none : (ts : List Task) → ts ≡ with_counts ts []
unfolding with_counts
with_none [] = refl
with_none (a ∷ ts) = refl

pub with_own : (ts : List Task) → ts ≡ with_counts ts (counts_of ts)
unfolding with_counts
with_own [] = refl
with_own (a ∷ ts) = ap (λ us. a ∷ us) (with_own ts)

-- Counts that are put back leave as many records as there were.
pub with_length : (ts : List Task) (ks : List ℕ) → length (with_counts ts ks) ≡ length ts
unfolding with_counts
with_length [] ks = refl
with_length (a ∷ ts) [] = refl
with_length (a ∷ ts) (k ∷ ks) = ap suc (with_length ts ks)

pub with_next : (i : ℕ) (ts : List Task) (ks : List ℕ) → i < length ks
    → let us = with_counts ts (take i ks) in
    set us i (with_count (get_or us i none) (get_or ks i 0)) ≡ with_counts ts (take (suc i) ks)
unfolding with_counts
with_next i ts [] h = absurd (omega arith)
with_next zero [] (k ∷ ks) h = refl
with_next zero (a ∷ ts) (k ∷ ks) h = ap (λ us. with_count a k ∷ us) (with_none ts)
with_next (suc i) [] (k ∷ ks) h = refl
with_next (suc i) (a ∷ ts) (k ∷ ks) h = ap (λ us. with_count a k ∷ us) (with_next i ts ks (omega arith))

-- ---- refusals 1 and 2

-- A refusal leaves the counts and the bytes as they were.
abbrev pub unchanged : List Task → List ℕ → Refusal → SlotAfter
unchanged ts bytes r = record { answer = Err r; counts = counts_of ts; bytes = bytes }

module _ (ts : List Task) where
  lengths : (length (requirements_of ts) ≡ length ts) × (length (periods_of ts) ≡ length ts) × (length (counts_of ts) ≡ length ts)
  lengths = (length-map ts (λ a. a.e), length-map ts (λ a. a.p), length-map ts (λ a. a.k))

  pub admission_too_many : (m : ℕ) → 64 < length ts → admission (requirements_of ts) (periods_of ts) m ≡ Err Tasks
  unfolding admission_checks set_checks
  admission_too_many m h =
      (admission_refusal (requirements_of ts) (periods_of ts) m Tasks).1
      (next (same_lengths _ _ (lengths.1 ∙ sym lengths.0)) (this (outside 1 tasks_most (length (requirements_of ts)) (inr (omega (arith, lengths.0))))))

  -- What a refusal leaves: the answer, the bytes, and the records with the counts that they had.
  module _ (bytes : List ℕ) (m t : ℕ) where
    abbrev due : SlotAfter
    due = slot_of ts bytes m t

    abbrev Refused : Refusal → Type 0
    Refused r = record { answer : Err r ≡ due.answer; bytes : bytes ≡ due.bytes; counts : ts ≡ with_counts ts due.counts }

    pub refused_back : (r : Refusal) → unchanged ts bytes r ≡ due → Refused r
    refused_back r e =
        record { answer = ap (λ s. s.answer) e; bytes = ap (λ s. s.bytes) e; counts = with_own ts ∙ ap (λ s. with_counts ts s.counts) e }

    pub slot_other_length : (length bytes ≡ length ts → ⊥) → unchanged ts bytes Lengths ≡ due
    slot_other_length ne =
        slot_lengths (requirements_of ts) (periods_of ts) (counts_of ts) bytes m t
        (differ_later (length (requirements_of ts)) (length (periods_of ts)) (length (counts_of ts) ∷ length bytes ∷ [])
        (differ_later _ _ _ (differ_here _ _ _ (λ e. ne (e ∙ lengths.0)))))

    pub slot_too_many : length bytes ≡ length ts → 64 < length ts → unchanged ts bytes Tasks ≡ due
    slot_too_many wide h =
        slot_refused (requirements_of ts) (periods_of ts) (counts_of ts) bytes m t (lengths.2 ∙ sym lengths.0) (wide ∙ sym lengths.0) Tasks
        (admission_too_many m h)

    pub refused_counts : (r : Refusal) → due.answer ≡ Err r → ts ≡ with_counts ts due.counts
    refused_counts r q =
        with_own ts ∙ ap (λ s. with_counts ts s.counts) (sym (refused_slot (requirements_of ts) (periods_of ts) (counts_of ts) bytes m t r q))
