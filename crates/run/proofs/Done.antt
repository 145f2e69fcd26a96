-- How many slots of a run are done: no more than are asked, none above 1,024, and only within the calendar. Assumes nothing.
use Rattle.std.specs.Prelude.{Err, Ok, Result}
use mathlib.Core.Path.{◌≡◌, refl, sym, ap}
use mathlib.Core.Bool.{Bool, true, false, cond}
use mathlib.Core.List.{List}
use Prim.Native.Nat.{ℕ, zero, suc, ◌+◌, ◌*◌, ◌≤◌, ◌<◌, max}
use native.Mathlib.Nat.{mul-le-mul_right}
use native.Mathlib.Omega.{arith}
use borrow.Author.Tests.{ltb-true, ltb-false}
use lib.Dec.{ltb}
use lib.ListN.{length, take, drop}
use Rattle.rule.specs.declared.Refusal.{Refusal}
use Rattle.rule.specs.Limits.{time_most, slots_most}
use Rattle.rule.specs.Refusals.{Verdict, passed, refused, first, run_checks}
use Rattle.rule.specs.Outcomes.{slot, RunAfter, after_slot, slots_from, run_by, run}
use Rattle.rule.proofs.Slots.{done_early}
use Rattle.run.proofs.Accepted.{run_too_long}

module _ (es ps : List ℕ) (m : ℕ) where
  after_few : (s : ℕ) (ks log bytes : List ℕ) (rest : RunAfter) → rest.answer.done ≤ s
      → (o : Result Unit Refusal) → (after_slot o ks log bytes rest).answer.done ≤ suc s
  unfolding after_slot
  after_few s ks log bytes rest h (Ok tt) = omega arith
  after_few s ks log bytes rest h (Err r) = omega arith

  slots_few : (s t : ℕ) (ks log : List ℕ) → (slots_from s es ps m t ks log).answer.done ≤ s
  unfolding slots_from
  slots_few zero t ks log = omega arith
  slots_few (suc s) t ks log =
      let now = slot es ps ks (take (length es) log) m t in
      let rest = drop (length es) log in
      after_few s ks log now.bytes (slots_from s es ps m (suc t) now.counts rest) (slots_few s (suc t) now.counts rest) now.answer

  after_early : (t : ℕ) (ks log bytes : List ℕ) (rest : RunAfter) → suc t + rest.answer.done ≤ max (suc t) (suc time_most)
      → (o : Result Unit Refusal) → (o ≡ Ok tt → t ≤ time_most) → t + (after_slot o ks log bytes rest).answer.done ≤ max t (suc time_most)
  unfolding after_slot
  after_early t ks log bytes rest h (Ok tt) early = let e = early refl in omega arith
  after_early t ks log bytes rest h (Err r) early = omega arith

  slots_early : (s t : ℕ) (ks log : List ℕ) → t + (slots_from s es ps m t ks log).answer.done ≤ max t (suc time_most)
  unfolding slots_from
  slots_early zero t ks log = omega arith
  slots_early (suc s) t ks log =
      let now = slot es ps ks (take (length es) log) m t in
      let rest = drop (length es) log in
      after_early t ks log now.bytes (slots_from s es ps m (suc t) now.counts rest) (slots_early s (suc t) now.counts rest) now.answer
      (λ q. done_early es ps ks (take (length es) log) m t q)

module _ (s : ℕ) (es ps ks log : List ℕ) (m t : ℕ) where
  few_by : (v : Verdict) → (run_by v s es ps ks log m t).answer.done ≤ s
  unfolding run_by
  few_by passed = slots_few es ps m s t ks log
  few_by (refused r) = omega arith

  run_few : (run s es ps ks log m t).answer.done ≤ s
  unfolding run
  run_few = few_by (first (run_checks s es ps ks log))

  early_by : (v : Verdict) → t + (run_by v s es ps ks log m t).answer.done ≤ max t (suc time_most)
  unfolding run_by
  early_by passed = slots_early es ps m s t ks log
  early_by (refused r) = omega arith

  -- A slot is done only within the calendar, so that the time after a run is within it or as it was.
  pub run_early : t + (run s es ps ks log m t).answer.done ≤ max t (suc time_most)
  unfolding run
  run_early = early_by (first (run_checks s es ps ks log))

  none_done : slots_most < s → (run s es ps ks log m t).answer.done ≡ 0
  none_done h = sym (ap (λ r. r.answer.done) (run_too_long s es ps ks log m t h))

  -- What is done has its bytes in the part of the log that a run takes. A run that asks for more than 1,024 slots takes none.
  pub done_fits : (n : ℕ) → (run s es ps ks log m t).answer.done * n ≤ cond (ltb slots_most s) 0 (s * n)
  done_fits n = go (ltb slots_most s) refl
    where
      go : (b : Bool) → ltb slots_most s ≡ b → (run s es ps ks log m t).answer.done * n ≤ cond b 0 (s * n)
      go true q =
          let none = none_done (ltb-true slots_most s q) in
          let less = mul-le-mul_right n (let l : (run s es ps ks log m t).answer.done ≤ 0 = omega arith in l) in
          omega arith
      go false q = mul-le-mul_right n run_few

  pub done_few : (run s es ps ks log m t).answer.done ≤ slots_most
  done_few = go (ltb slots_most s) refl
    where
      go : (b : Bool) → ltb slots_most s ≡ b → (run s es ps ks log m t).answer.done ≤ slots_most
      go true q = let none = none_done (ltb-true slots_most s q) in omega arith
      go false q = let few = ltb-false slots_most s q in let asked = run_few in omega arith
