-- The tasks' rungs are written already; a spare's lag is within its bounds, so its count is a number, and its rung goes to place n.
use mathlib.Core.Path.{sym, ap, ◌∙◌}
use native.Mathlib.Omega.{arith}
use lib.ListN.{length, set}
use Rattle.rule.specs.Task.{fair}
use Rattle.standing.specs.Judged.{rung}
use Rattle.standing.proofs.Entries.{laid_task, laid_spare, spare_within, rungs_of_tasks, rungs_with_spare}
use Rattle.standing.proofs.Field.rungs.Goals as goal

pub task_rungs-rungs-requires : goal.task_rungs-rungs-requires
task_rungs-rungs-requires c =
    let f = c.args.self.now in
    let least = f.sound.least in
    record {
      each_fair =
          λ i h. ap (λ x. fair f.t x) (sym (laid_task f.units f.requirements.now f.periods.now f.counts.now f.t i h)) ∙ c.requires.each_fair i (omega arith);
    }

pub returns-then-self-n : goal.returns-then-self-n
returns-then-self-n c =
    let f = c.args.self.now in
    c.task_rungs-rungs.ensures ∙ rungs_of_tasks f.units f.requirements.now f.periods.now f.counts.now f.t c.if-self-n.true

pub overflow_sub-given : goal.overflow_sub-given
overflow_sub-given c =
    let f = c.args.self.now in
    let others = c.sum_of-others in
    let most = f.sound.most in
    let least = f.sound.least in
    rw (c.from.ensures, c.from-2.ensures)
    (spare_within f.units f.requirements.now f.periods.now f.counts.now f.t others.result others.ensures (c.requires.each_fair (length f.counts.now) (omega arith)))

pub rung-requires : goal.rung-requires
rung-requires c =
    let f = c.args.self.now in
    let others = c.sum_of-others in
    let most = f.sound.most in
    let least = f.sound.least in
    let within = c.requires.each_fair (length f.counts.now) (omega arith) in
    let spare = laid_spare f.units f.requirements.now f.periods.now f.counts.now f.t others.result others.ensures
    (spare_within f.units f.requirements.now f.periods.now f.counts.now f.t others.result others.ensures within) in
    rw (c.task.ensures.time, c.task.ensures.entry, c.from.ensures, c.from-2.ensures) (ap (λ x. fair f.t x) (sym spare) ∙ within)

pub returns : goal.returns
returns c =
    let f = c.args.self.now in
    let others = c.sum_of-others in
    let most = f.sound.most in
    let least = f.sound.least in
    let within = c.requires.each_fair (length f.counts.now) (omega arith) in
    let spare = laid_spare f.units f.requirements.now f.periods.now f.counts.now f.t others.result others.ensures
    (spare_within f.units f.requirements.now f.periods.now f.counts.now f.t others.result others.ensures within) in
    let rung_is = rw (c.task.ensures.time, c.task.ensures.entry, c.from.ensures, c.from-2.ensures) at c.rung.ensures in
    ap (λ xs. set xs (length f.counts.now) c.rung.result) c.task_rungs-rungs.ensures
    ∙ rungs_with_spare f.units f.requirements.now f.periods.now f.counts.now f.t c.rung.result (omega arith) (rung_is ∙ ap (λ x. rung f.t x) (sym spare))
