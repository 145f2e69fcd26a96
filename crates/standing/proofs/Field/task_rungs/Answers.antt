-- The array is Tnegru at each of its places before the first turn, and a turn writes the place of one task more.
use Prim.Native.Nat.{ℕ}
use Rattle.rule.specs.Sets.{task_at}
use Rattle.standing.specs.declared.Rung.{Rung}
use Rattle.standing.specs.declared.Rung.TheVariants.{Tnegru}
use Rattle.standing.specs.Judged.{rung}
use Rattle.standing.proofs.Lists.{listed_more}
use Rattle.standing.proofs.Field.task_rungs.Goals as goal

pub loop-i-preserved : goal.loop-i-preserved
unfolding task_at
loop-i-preserved c =
    let f = c.args.self.now in
    let task : ℕ → Rung = λ j. rung f.t (task_at f.requirements.now f.periods.now f.counts.now j) in
    listed_more 65 c.loop-i.i task Tnegru c.loop-i.rungs c.rung.result c.loop-i.invariant (rw (c.task.ensures.time, c.task.ensures.entry, c.from.ensures) at c.rung.ensures)
