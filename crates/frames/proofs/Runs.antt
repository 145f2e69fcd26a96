-- The answer to a run: what the calls of the code give, from the cleared part of the log on. Assumes nothing.
use mathlib.Core.Path.{◌≡◌, refl, sym, ap, ◌∙◌}
use mathlib.Core.Bool.{Bool, true, false, cond}
use mathlib.Core.List.{List, [], ◌++◌}
use Prim.Native.Nat.{ℕ, suc, ◌+◌, ◌*◌, ◌≤◌, max}
use native.Mathlib.Omega.{arith}
use borrow.Author.Tests.{ltb-true}
use lib.Dec.{ltb}
use lib.ListN.{length}
use Rattle.rule.specs.declared.Ran.{Ran}
use Rattle.rule.specs.Limits.{tasks_most, time_most, slots_most}
use Rattle.rule.specs.Places.{each}
use Rattle.rule.specs.Outcomes.{RunAfter, run as run_of}
use Rattle.run.proofs.Accepted.{run_too_long}
use Rattle.run.proofs.Done.{done_fits, done_few, run_early}
use Rattle.writing.specs.AnswerLines.{slot_lines, end_line, run_text}
use Rattle.writing.proofs.Texts.{run_fits}
use Rattle.reading.specs.Kinds.{run}
use Rattle.frames.specs.Session.{in_force}
use Rattle.frames.specs.Replies.{run_reply, reply}

-- A log before a run: all its bytes are 0.
abbrev pub zeros : ℕ → List ℕ
zeros n = each n (λ i. 0)

module _ (s : ℕ) (es ps ks : List ℕ) (m t : ℕ) where
  -- Above 1,024 slots the log is not looked at.
  same_reply : run_reply m es ps t (run_of s es ps ks (zeros (cond (ltb slots_most s) 0 (s * length es))) m t)
      ≡ run_reply m es ps t (run_of s es ps ks (zeros (s * length es)) m t)
  unfolding run_reply slot_lines each
  same_reply = go (ltb slots_most s) refl
    where
      go : (b : Bool) → ltb slots_most s ≡ b
          → run_reply m es ps t (run_of s es ps ks (zeros (cond b 0 (s * length es))) m t) ≡ run_reply m es ps t (run_of s es ps ks (zeros (s * length es)) m t)
      go true q =
          let h = ltb-true slots_most s q in
          ap (run_reply m es ps t) (sym (run_too_long s es ps ks [] m t h))
          ∙ ap (run_reply m es ps t) (run_too_long s es ps ks (zeros (s * length es)) m t h)
      go false q = refl

-- How much of the log a run takes.
abbrev pub size_of : ℕ → ℕ → ℕ
size_of s n = cond (ltb slots_most s) 0 (s * n)

module _ (s m : ℕ) (es ps ks : List ℕ) (t n : ℕ) (whole : length es ≡ n) where
  abbrev after : RunAfter
  after = run_of s es ps ks (zeros (size_of s n)) m t

  ran_reply : reply (in_force m es ps ks t) (run s) ≡ run_reply m es ps t after
  unfolding reply
  ran_reply = rw (← whole) (sym (same_reply s es ps ks m t))

  -- What the calls of a run give, from its cleared log on.
  module _ (size : ℕ) (is : size ≡ size_of s n) (log : List ℕ) (clean : log ≡ zeros size)
      (r : Ran) (answer : r ≡ (run_of s es ps ks log m t).answer) where
    same_run : run_of s es ps ks log m t ≡ after
    same_run = rw (clean, is)

    same_answer : r ≡ after.answer
    same_answer = answer ∙ ap (λ x. x.answer) same_run

    pub ran_bounds : (r.done ≤ slots_most) × (r.done * n ≤ size) × (t + r.done ≤ max t (suc time_most))
    ran_bounds =
        let fits = done_fits s es ps ks log m t n in
        let few = done_few s es ps ks log m t in
        let early = run_early s es ps ks log m t in
        let done = ap (λ x. x.done) answer in
        let bytes = ap (λ x. x.done * n) answer in
        (omega (arith, few, done), omega (arith, fits, is, bytes), omega (arith, early, done))

    pub ran_session : (ks' : List ℕ) → ks' ≡ (run_of s es ps ks log m t).counts
        → in_force m es ps ks' (t + r.done) ≡ (reply (in_force m es ps ks t) (run s)).session
    unfolding run_reply
    ran_session ks' counts =
        ap (λ ys. in_force m es ps ys (t + r.done)) (counts ∙ ap (λ x. x.counts) same_run)
        ∙ ap (λ x. in_force m es ps after.counts (t + x.done)) same_answer
        ∙ sym (ap (λ x. x.session) ran_reply)

    module _ (log₂ : List ℕ) (written-log : log₂ ≡ (run_of s es ps ks log m t).log) where
      whole_text : slot_lines r.done n t log₂ ++ end_line r.end ≡ (reply (in_force m es ps ks t) (run s)).text
      unfolding run_reply
      whole_text =
          ap (λ x. slot_lines x.done n t log₂ ++ end_line x.end) same_answer
          ∙ ap (λ l. slot_lines after.answer.done n t l ++ end_line after.answer.end) (written-log ∙ ap (λ x. x.log) same_run)
          ∙ ap (λ i. slot_lines after.answer.done i t after.log ++ end_line after.answer.end) (sym whole)
          ∙ sym (ap (λ x. x.text) ran_reply)

      -- A run of the set in force fits, so that its lines are all written.
      pub ran_text : n ≤ tasks_most → t ≤ 4294967295 → size ≤ length log₂
          → run_text r.done n t log₂ r.end ≡ (reply (in_force m es ps ks t) (run s)).text
      ran_text few small room =
          let b = ran_bounds in
          run_fits r.done n t log₂ r.end b.0 few (omega (arith, b.1, room)) (omega (arith, b.2, small)) ∙ whole_text
