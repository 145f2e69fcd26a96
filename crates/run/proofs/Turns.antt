-- The turns of a run: after d done slots the run is d slots with their part of the log, and then the run of the rest. A done slot moves
-- one more over, and a refusal or the end leaves what is there. Assumes nothing.
use Rattle.std.specs.Prelude.{Err, Ok, Result}
use mathlib.Core.Path.{◌≡◌, sym, ap, ◌∙◌}
use mathlib.Core.List.{List, [], ◌++◌, append_assoc}
use Prim.Native.Nat.{ℕ, suc, ◌+◌, ◌-◌, ◌*◌, ◌≤◌, ◌<◌, max}
use native.Mathlib.Nat.{zero-add, zero-mul, add-zero, add-suc, sub-zero, mul-le-mul_right}
use native.Mathlib.Omega.{arith}
use lib.ListN.{length, take, drop, take-append-drop, length-append, length-take, length-drop}
use lib.Seq.{take_at, drop_at}
use Rattle.rule.specs.declared.Refusal.{Refusal}
use Rattle.rule.specs.Limits.{time_most}
use Rattle.rule.specs.Outcomes.{SlotAfter, slot, RunAfter, stopped, one_more, after_slot, slots_from}

-- d slots that wrote this front of the log, before the rest of a run.
unfoldable pub resume : ℕ → List ℕ → RunAfter → RunAfter
resume d front r =
    record {
      answer = record { done = d + r.answer.done; end = r.answer.end };
      counts = r.counts;
      log = front ++ r.log;
    }

-- What stops here with the log in two pieces has the whole log.
whole_log : (d from : ℕ) (ks log : List ℕ) (o : Result Unit Refusal) → resume d (take from log) (stopped o ks (drop from log)) ≡ record { answer = record { done = d; end = o }; counts = ks; log = log }
unfolding resume
whole_log d from ks log o =
    ap (λ n. record { answer = record { done = n; end = o }; counts = ks; log = take from log ++ drop from log }) (add-zero d)
    ∙ ap (λ l. record { answer = record { done = d; end = o }; counts = ks; log = l }) (take-append-drop from log)

-- One slot more before the rest is one slot more at the end of the front.
moved : (d : ℕ) (front bytes : List ℕ) (r : RunAfter) → resume d front (one_more bytes r) ≡ resume (suc d) (front ++ bytes) r
unfolding resume
moved d front bytes r =
    let n : d + suc r.answer.done ≡ suc d + r.answer.done = omega arith in
    ap (λ x. record { answer = record { done = x; end = r.answer.end }; counts = r.counts; log = front ++ (bytes ++ r.log) }) n
    ∙ ap (λ l. record { answer = record { done = suc d + r.answer.done; end = r.answer.end }; counts = r.counts; log = l }) (sym (append_assoc front bytes r.log))

module _ (es ps : List ℕ) (m : ℕ) where
  -- Where the run of s slots from t, the counts ks₀ and the log log₀ stands after d of them.
  pub record Going (s t : ℕ) (ks₀ log₀ ks log : List ℕ) (d : ℕ) : Type 0 where
    pub few : d ≤ s
    pub counts : length ks ≡ length es
    pub whole : length log ≡ s * length es
    pub early : t + d ≤ max t (suc time_most)
    pub runs : slots_from s es ps m t ks₀ log₀ ≡ resume d (take (d * length es) log) (slots_from (s - d) es ps m (t + d) ks (drop (d * length es) log))

  pub going_start : (s t : ℕ) (ks log : List ℕ) → length ks ≡ length es → length log ≡ s * length es → Going s t ks log ks log 0
  unfolding resume
  going_start s t ks log h g =
      record {
        few = omega arith;
        counts = h;
        whole = g;
        early = omega arith;
        runs = sym (rw (sub-zero s, add-zero t, zero-mul (length es)) (resume_none (slots_from s es ps m t ks log)));
      }
    where
      resume_none : (r : RunAfter) → resume 0 [] r ≡ r
      resume_none r = ap (λ d. record { answer = record { done = d; end = r.answer.end }; counts = r.counts; log = r.log }) (zero-add r.answer.done)

  -- ---- one turn

  module _ (s t : ℕ) (ks₀ log₀ ks log : List ℕ) (d : ℕ) (G : Going s t ks₀ log₀ ks log d) (more : d < s) where
    -- Where its part of the log begins.
    abbrev from : ℕ
    from = d * length es

    -- The slot that comes now, on its own part of the log.
    abbrev part : List ℕ
    part = take (length es) (drop from log)

    abbrev now : SlotAfter
    now = slot es ps ks part m (t + d)

    pub part_inside : from + length es ≤ length log
    part_inside = omega (arith, G.whole, mul-le-mul_right (length es) more)

    pub part_length : length part ≡ length es
    part_length = omega (arith, length-take (length es) (drop from log), length-drop from log, part_inside)

    unrolled : slots_from s es ps m t ks₀ log₀
        ≡ resume d (take from log) (after_slot now.answer ks (drop from log) now.bytes (slots_from (s - suc d) es ps m (suc (t + d)) now.counts (drop (length es) (drop from log))))
    unfolding slots_from
    unrolled =
        let one : s - d ≡ suc (s - suc d) = omega arith in
        G.runs ∙ ap (λ x. resume d (take from log) (slots_from x es ps m (t + d) ks (drop from log))) one

    -- A refused slot ends the run: nothing is changed any more.
    pub going_refused : (x : Refusal) → now.answer ≡ Err x
        → slots_from s es ps m t ks₀ log₀ ≡ record { answer = record { done = d; end = Err x }; counts = ks; log = log }
    unfolding after_slot
    going_refused x q = unrolled ∙ rw q (whole_log d from ks log (Err x))

    -- A done slot moves over to the front.
    pub going_next : now.answer ≡ Ok tt → t + d ≤ time_most → (ks' log' : List ℕ) → ks' ≡ now.counts
        → log' ≡ take from log ++ (now.bytes ++ drop (length es) (drop from log)) → length now.bytes ≡ length es → length ks' ≡ length es
        → Going s t ks₀ log₀ ks' log' (suc d)
    unfolding after_slot
    going_next q h ks' log' k l b c =
        record {
          few = more;
          counts = c;
          whole = ap length l ∙ length-append front (now.bytes ++ back) ∙ omega (arith, length-append now.bytes back, front_length, length-drop (length es) (drop from log), length-drop from log, part_inside, G.whole);
          early = omega arith;
          runs = runs_on;
        }
      where
        front : List ℕ
        front = take from log

        back : List ℕ
        back = drop (length es) (drop from log)

        front_length : length front ≡ from
        front_length = omega (arith, length-take from log, part_inside)

        seam : length (front ++ now.bytes) ≡ suc d * length es
        seam = length-append front now.bytes ∙ omega (arith, front_length, b)

        regrouped : log' ≡ (front ++ now.bytes) ++ back
        regrouped = l ∙ sym (append_assoc front now.bytes back)

        taken : take (suc d * length es) log' ≡ front ++ now.bytes
        taken = ap (take (suc d * length es)) regrouped ∙ take_at (front ++ now.bytes) back (suc d * length es) seam

        dropped : drop (suc d * length es) log' ≡ back
        dropped = ap (drop (suc d * length es)) regrouped ∙ drop_at (front ++ now.bytes) back (suc d * length es) seam

        rest : RunAfter
        rest = slots_from (s - suc d) es ps m (suc (t + d)) now.counts back

        runs_on : slots_from s es ps m t ks₀ log₀ ≡ resume (suc d) (take (suc d * length es) log') (slots_from (s - suc d) es ps m (t + suc d) ks' (drop (suc d * length es) log'))
        runs_on =
            unrolled
            ∙ ap (λ o. resume d front (after_slot o ks (drop from log) now.bytes rest)) q
            ∙ moved d front now.bytes rest
            ∙ rw (taken, dropped, k, add-suc)

  -- At the end all slots are done.
  pub going_end : (s t : ℕ) (ks₀ log₀ ks log : List ℕ) (d : ℕ) → Going s t ks₀ log₀ ks log d → s ≤ d
      → slots_from s es ps m t ks₀ log₀ ≡ record { answer = record { done = s; end = Ok tt }; counts = ks; log = log }
  unfolding slots_from
  going_end s t ks₀ log₀ ks log d G h =
      let from = d * length es in
      let none : s - d ≡ 0 = omega (arith, G.few) in
      let all : d ≡ s = omega (arith, G.few) in
      G.runs ∙ ap (λ x. resume d (take from log) (slots_from x es ps m (t + d) ks (drop from log))) none ∙ whole_log d from ks log (Ok tt)
      ∙ ap (λ x. record { answer = record { done = x; end = Ok tt }; counts = ks; log = log }) all
