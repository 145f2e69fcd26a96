-- A turn on the laid-out field of an accepted set is a turn of the set's own slots. Assumes nothing.
use Rattle.std.specs.Prelude.{Err, Ok, Result}
use Rattle.std.specs.Result.{is_err}
use mathlib.Core.Path.{◌≡◌, sym, ap, ◌∙◌}
use mathlib.Core.Bool.{true, false}
use mathlib.Core.List.{List, ◌++◌}
use Prim.Native.Nat.{ℕ, suc, ◌+◌, ◌-◌, ◌*◌, ◌<◌}
use native.Mathlib.Numerals.{add-one}
use native.Mathlib.Omega.{arith}
use lib.ListN.{length, take, drop, take-append-drop}
use Rattle.rule.specs.declared.Refusal.{Refusal}
use Rattle.rule.specs.Sets.{units_in_use}
use Rattle.rule.specs.Refusals.{passed, first, set_checks}
use Rattle.rule.specs.Outcomes.{SlotAfter, slot, RunAfter, slots_from}
use Rattle.rule.proofs.Sets.{accepted_set}
use Rattle.rule.proofs.Slots.{refused_slot, done_counts, done_bytes, done_early}
use Rattle.field.proofs.OfSet.{laid_requirements, laid_periods}
use Rattle.slot.specs.Deal.{dealt}
use Rattle.slot.proofs.OfSet.{dealt_is_slot}
use Rattle.run.proofs.Turns.{Going, going_refused, going_next, part_length}

-- A run's answer and its lists, one by one.
pub parts : {a b : RunAfter} → a ≡ b → record { answer : a.answer ≡ b.answer; counts : a.counts ≡ b.counts; log : a.log ≡ b.log }
parts q = record { answer = ap (λ r. r.answer) q; counts = ap (λ r. r.counts) q; log = ap (λ r. r.log) q }

-- What a run on a laid-out field relies on: the set passes 1 to 6, and these are its field's lists and its units.
pub record Laid (es ps : List ℕ) (m : ℕ) (es' ps' : List ℕ) (units : ℕ) : Type 0 where
  pub same : length ps ≡ length es
  pub pass : first (set_checks es ps m) ≡ passed
  pub requirements : es' ≡ laid_requirements es ps
  pub periods : ps' ≡ laid_periods es ps
  pub in_use : units ≡ units_in_use es ps

module _ (es ps : List ℕ) (m : ℕ) (es' ps' : List ℕ) (units : ℕ) (L : Laid es ps m es' ps' units)
    (s t : ℕ) (ks₀ log₀ ks log : List ℕ) (d : ℕ) (G : Going es ps m s t ks₀ log₀ ks log d) (more : d < s) where
  abbrev n : ℕ
  n = length es

  abbrev from : ℕ
  from = d * n

  abbrev after : SlotAfter
  after = dealt units es' ps' ks (take (from + n - from) (drop from log)) (t + d)

  part_of : from + n - from ≡ n
  part_of = omega arith

  -- What is dealt now is the set's slot.
  now_is : after ≡ slot es ps ks (take n (drop from log)) m (t + d)
  now_is =
      ap (λ k. dealt units es' ps' ks (take k (drop from log)) (t + d)) part_of
      ∙ rw (L.requirements, L.periods, L.in_use)
      (dealt_is_slot es ps m (accepted_set es ps m L.same L.pass) ks G.counts (t + d) (take n (drop from log))
      (part_length es ps m s t ks₀ log₀ ks log d G more) L.pass)

  abbrev log_after : List ℕ
  log_after = take from log ++ (after.bytes ++ drop (from + n - from) (drop from log))

  turn_refused : (x : Refusal) → after.answer ≡ Err x
      → record { answer = record { done = d; end = Err x }; counts = after.counts; log = log_after } ≡ slots_from s es ps m t ks₀ log₀
  turn_refused x q =
      let now = refused_slot es ps ks (take n (drop from log)) m (t + d) x (ap (λ r. r.answer) (sym now_is) ∙ q) in
      ap (λ r. record { answer = record { done = d; end = Err x }; counts = r.counts; log = take from log ++ (r.bytes ++ drop (from + n - from) (drop from log)) }) (now_is ∙ now)
      ∙ ap (λ k. record { answer = record { done = d; end = Err x }; counts = ks; log = take from log ++ (take n (drop from log) ++ drop k (drop from log)) }) part_of
      ∙ ap (λ l. record { answer = record { done = d; end = Err x }; counts = ks; log = l })
      (ap (λ l. take from log ++ l) (take-append-drop n (drop from log)) ∙ take-append-drop from log)
      ∙ sym (going_refused es ps m s t ks₀ log₀ ks log d G more x (ap (λ r. r.answer) (sym now_is) ∙ q))

  turn_done : after.answer ≡ Ok tt → Going es ps m s t ks₀ log₀ after.counts log_after (suc d)
  turn_done q =
      let q' = ap (λ r. r.answer) (sym now_is) ∙ q in
      going_next es ps m s t ks₀ log₀ ks log d G more q'
      (done_early es ps ks (take n (drop from log)) m (t + d) q')
      after.counts log_after (ap (λ r. r.counts) now_is)
      (ap (λ r. take from log ++ (r.bytes ++ drop (from + n - from) (drop from log))) now_is
      ∙ ap (λ k. take from log ++ ((slot es ps ks (take n (drop from log)) m (t + d)).bytes ++ drop k (drop from log))) part_of)
      (done_bytes es ps ks (take n (drop from log)) m (t + d) q')
      (ap (λ r. length r.counts) now_is ∙ done_counts es ps ks (take n (drop from log)) m (t + d) q')

  -- The same of what a turn of the code leaves: the answer, the counts and the bytes.
  module _ (o : Result Unit Refusal) (cs bs : List ℕ) (answer-is : o ≡ after.answer) (counts-are : cs ≡ after.counts) (bytes-are : bs ≡ after.bytes) where
    abbrev log_now : List ℕ
    log_now = take from log ++ (bs ++ drop (from + n - from) (drop from log))

    pub turned_refused : is_err o ≡ true → record { answer = record { done = d; end = o }; counts = cs; log = log_now } ≡ slots_from s es ps m t ks₀ log₀
    turned_refused h = rw (counts-are, bytes-are) (go o h (sym answer-is))
      where
        go : (o : Result Unit Refusal) → is_err o ≡ true → after.answer ≡ o → record { answer = record { done = d; end = o }; counts = after.counts; log = log_after } ≡ slots_from s es ps m t ks₀ log₀
        go (Ok tt) h q = cc
        go (Err x) h q = turn_refused x q

    pub turned_done : is_err o ≡ false → Going es ps m s t ks₀ log₀ cs log_now (d + 1)
    turned_done h = rw (add-one d, counts-are, bytes-are) (go o h (sym answer-is))
      where
        go : (o : Result Unit Refusal) → is_err o ≡ false → after.answer ≡ o → Going es ps m s t ks₀ log₀ after.counts log_after (suc d)
        go (Ok tt) h q = turn_done q
        go (Err x) h q = cc
