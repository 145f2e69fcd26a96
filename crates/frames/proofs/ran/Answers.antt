-- `ran` meets its contract: the run on the cleared part of the log is the one that the answer is of, and it fits, so that its lines are all
-- written. Assumes nothing.
use mathlib.Core.Path.{◌≡◌, ap, ◌∙◌}
use Prim.Native.Nat.{◌+◌, ◌<◌, ◌≤◌}
use native.Mathlib.Omega.{arith}
use borrow.Author.Rules.{rules}
use lib.ListN.{length, take}
use lib.Seq.{sets, length-take-le, take_at}
use Rattle.rule.specs.Places.{each}
use Rattle.writing.specs.AnswerLines.{run_text}
use Rattle.reading.specs.Kinds.{run as a_run}
use Rattle.frames.specs.Keeping.{session_of}
use Rattle.frames.specs.Replies.{reply}
use Rattle.frames.proofs.Keeping.{cleared}
use Rattle.frames.proofs.Runs.{ran_bounds, ran_session, ran_text}
use Rattle.frames.proofs.ran.Goals as goal

pub overflow_add-kept : goal.overflow_add-kept
overflow_add-kept c =
    let k = c.args.kept.now in
    let s = c.args.set in
    let size = c.log_size-size in
    let run = c.run-done in
    -- the time is a u32
    let small : s.t ≤ 4294967295 = search rules in
    let whole = length-take-le s.n k.requirements.now (search rules) in
    let room = length-take-le size.result k.log.now (search rules) in
    let clean : c.fill.new.self ≡ each size.result (λ i. 0) = c.fill.ensures.after (λ y h. h) ∙ rw room (cleared size.result) in
    let b = ran_bounds c.args.slots s.m (take s.n k.requirements.now) (take s.n k.periods.now) (take s.n k.counts.now) s.t s.n whole size.result size.ensures.size c.fill.new.self clean run.result run.ensures.answer in
    let fits : s.t + run.result.done < 4294967296 = omega (arith, b.2, small) in
    record { fits = fits }

pub returns : goal.returns
returns c =
    let k = c.args.kept.now in
    let s = c.args.set in
    let size = c.log_size-size in
    let run = c.run-done in
    -- the time is a u32
    let small : s.t ≤ 4294967295 = search rules in
    let whole = length-take-le s.n k.requirements.now (search rules) in
    let room = length-take-le size.result k.log.now (search rules) in
    let clean : c.fill.new.self ≡ each size.result (λ i. 0) = c.fill.ensures.after (λ y h. h) ∙ rw room (cleared size.result) in
    let wide : size.result ≤ length run.new.log = search rules in
    let few : s.n ≤ 64 = search rules in
    let text : run_text run.result.done s.n s.t run.new.log run.result.end ≡ (reply (session_of k) (a_run c.args.slots)).text =
    rw (c.requires.in_force) (ran_text c.args.slots s.m (take s.n k.requirements.now) (take s.n k.periods.now) (take s.n k.counts.now) s.t s.n whole size.result size.ensures.size c.fill.new.self clean run.result run.ensures.answer run.new.log run.ensures.log few small wide) in
    record {
      same = search rules;
      session = rw (c.requires.in_force, take_at (take s.n k.requirements.now) _ s.n (search rules), take_at (take s.n k.periods.now) _ s.n (search rules), take_at run.new.counts _ s.n (search rules)) (ran_session c.args.slots s.m (take s.n k.requirements.now) (take s.n k.periods.now) (take s.n k.counts.now) s.t s.n whole size.result size.ensures.size c.fill.new.self clean run.result run.ensures.answer run.new.counts run.ensures.counts);
      text = c.put_run.ensures.out ∙ ap (sets _ 0) text;
      size = c.put_run.ensures.place ∙ ap length text;
      tasks = search rules;
    }
