-- The public entries as total functions: for every input the answer and every lent list afterwards.
use Rattle.std.specs.Prelude.{Bool, Result, Ok, Err, List, ◌++◌, ℕ, zero, suc, ◌+◌, length, take, drop}
use Rattle.rule.specs.declared.Refusal.{Refusal}
use Rattle.rule.specs.declared.Order.{Order}
use Rattle.rule.specs.declared.Accepted.{Accepted}
use Rattle.rule.specs.declared.Ran.{Ran}
use Rattle.rule.specs.Places.{at, bit, each}
use Rattle.rule.specs.Task.{standing, compare}
use Rattle.rule.specs.Sets.{multiple, units_in_use, spare, task_at, field}
use Rattle.rule.specs.Slot.{chosen}
use Rattle.rule.specs.Refusals.{Verdict, passed, refused, first, admission_checks, slot_checks, listing_checks, run_checks, comparison_checks}
use Rattle.rule.specs.Answers.{mark}

-- ---- admission

-- "answers M, L and the spare, or that there is none"
unfoldable pub acceptance : List ℕ → List ℕ → Accepted
acceptance es ps = record { units = units_in_use es ps; multiple = multiple ps; spare = spare es ps }

unfoldable pub admission_by : Verdict → List ℕ → List ℕ → Result Accepted Refusal
admission_by passed es ps = Ok (acceptance es ps)
admission_by (refused r) es ps = Err r

unfoldable pub admission : List ℕ → List ℕ → ℕ → Result Accepted Refusal
admission es ps m = admission_by (first (admission_checks es ps m)) es ps

-- ---- comparison

unfoldable pub comparison_by : Verdict → Order → Result Order Refusal
comparison_by passed o = Ok o
comparison_by (refused r) o = Err r

-- "it answers first, second or tie"
unfoldable pub comparison : (e p e' p' t : ℕ) → Result Order Refusal
comparison e p e' p' t = let o = compare t e p e' p' in comparison_by (first (comparison_checks e p e' p' t)) o

-- ---- one slot

pub record SlotAfter : Type 0 where
  pub answer : Result Unit Refusal
  pub counts : List ℕ
  pub bytes : List ℕ

-- Is the task at a place of the set chosen at t?
unfoldable pub runs_at : List ℕ → List ℕ → List ℕ → ℕ → ℕ → Bool
runs_at es ps ks t i = chosen (units_in_use es ps) t (field es ps ks t) i

-- "A done slot adds 1 to the count of each chosen task, changes no other count"
unfoldable pub counts_after : List ℕ → List ℕ → List ℕ → ℕ → List ℕ
counts_after es ps ks t = each (length es) (λ i. at ks i + bit (runs_at es ps ks t i))

-- "and writes one byte per task in place order: 1 chosen, 0 not."
unfoldable pub bytes_after : List ℕ → List ℕ → List ℕ → ℕ → List ℕ
bytes_after es ps ks t = each (length es) (λ i. bit (runs_at es ps ks t i))

-- "Every refusal leaves every lent list unchanged."
unfoldable pub slot_by : Verdict → List ℕ → List ℕ → List ℕ → List ℕ → ℕ → SlotAfter
slot_by passed es ps ks bytes t =
    record { answer = Ok tt; counts = counts_after es ps ks t; bytes = bytes_after es ps ks t }
slot_by (refused r) es ps ks bytes t = record { answer = Err r; counts = ks; bytes = bytes }

unfoldable pub slot : List ℕ → List ℕ → List ℕ → List ℕ → ℕ → ℕ → SlotAfter
slot es ps ks bytes m t = slot_by (first (slot_checks es ps ks bytes m t)) es ps ks bytes t

-- ---- a run

pub record RunAfter : Type 0 where
  pub answer : Ran
  pub counts : List ℕ
  pub log : List ℕ

-- Stopped here with this answer: what is not done is as it was.
abbrev pub stopped : Result Unit Refusal → List ℕ → List ℕ → RunAfter
stopped o ks log = record { answer = record { done = 0; end = o }; counts = ks; log = log }

-- One slot more, that wrote these bytes, before the rest of a run.
abbrev pub one_more : List ℕ → RunAfter → RunAfter
one_more bytes r =
    record {
      answer = record { done = suc r.answer.done; end = r.answer.end };
      counts = r.counts;
      log = bytes ++ r.log;
    }

-- What a slot's answer makes of the rest of the run: go on if it was done, stop if it was refused.
unfoldable pub after_slot : Result Unit Refusal → List ℕ → List ℕ → List ℕ → RunAfter → RunAfter
after_slot (Ok tt) ks log bytes rest = one_more bytes rest
after_slot (Err r) ks log bytes rest = stopped (Err r) ks log

-- "it equals that many single slots, stops at the first refusal, says how many slots were done, and leaves the log beyond
-- them as it was": a slot on the first n bytes of the log, and the rest of the run on the others.
unfoldable pub slots_from : ℕ → List ℕ → List ℕ → ℕ → ℕ → List ℕ → List ℕ → RunAfter
slots_from zero es ps m t ks log = stopped (Ok tt) ks log
slots_from (suc s) es ps m t ks log =
    let now = slot es ps ks (take (length es) log) m t in
    let rest = slots_from s es ps m (suc t) now.counts (drop (length es) log) in
    after_slot now.answer ks log now.bytes rest

unfoldable pub run_by : Verdict → ℕ → List ℕ → List ℕ → List ℕ → List ℕ → ℕ → ℕ → RunAfter
run_by passed s es ps ks log m t = slots_from s es ps m t ks log
run_by (refused r) s es ps ks log m t = stopped (Err r) ks log

-- "A run checks 10 first, then 1"; "A run of 0 slots that passes 10 and 1 answers 0 done; 2 to 9 are not checked."
unfoldable pub run : ℕ → List ℕ → List ℕ → List ℕ → List ℕ → ℕ → ℕ → RunAfter
run s es ps ks log m t = run_by (first (run_checks s es ps ks log)) s es ps ks log m t

-- ---- a listing

pub record ListingAfter : Type 0 where
  pub answer : Result Unit Refusal
  pub bytes : List ℕ

-- The byte of the task at a place.
unfoldable pub mark_at : List ℕ → List ℕ → List ℕ → ℕ → ℕ → ℕ
mark_at es ps ks t i = mark (standing t (task_at es ps ks i))

unfoldable pub listing_by : Verdict → List ℕ → List ℕ → List ℕ → List ℕ → ℕ → ListingAfter
listing_by passed es ps ks bytes t = record { answer = Ok tt; bytes = each (length es) (mark_at es ps ks t) }
listing_by (refused r) es ps ks bytes t = record { answer = Err r; bytes = bytes }

unfoldable pub listing : List ℕ → List ℕ → List ℕ → List ℕ → ℕ → ℕ → ListingAfter
listing es ps ks bytes m t = listing_by (first (listing_checks es ps ks bytes m t)) es ps ks bytes t
