-- The loop's invariant: the rungs of the tasks before place i are written, and Tnegru stands past them.
use mathlib.Core.Bool.{cond}
use mathlib.Core.List.{map}
use mathlib.Core.Path.{◌≡◌}
use lib.Dec.{ltb}
use Rattle.std.specs.List.{range_with_len}
use Rattle.rule.specs.Sets.{task_at}
use Rattle.standing.specs.declared.Rung.TheVariants.{Tnegru}
use Rattle.standing.specs.Judged.{rung}
use Rattle.standing.proofs.Field.task_rungs.Given as goal

abbrev pub invariant-loop-i : goal.invariant-loop-i
invariant-loop-i l =
    l.rungs ≡ map (λ j. cond (ltb j l.i) (rung l.self.t (task_at l.self.requirements.now l.self.periods.now l.self.counts.now j)) Tnegru) (range_with_len 0 65)
