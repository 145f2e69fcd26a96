-- The loop's invariant is `Going`: the done slots have their part of the log, and the run of the rest is what is left of it. A slot on
-- the laid-out field is the set's own, so a turn keeps it. Assumes nothing.
use Rattle.run.proofs.Turns.{Going}
use Rattle.run.proofs.run_accepted.Given as goal

abbrev pub invariant-loop-done : goal.invariant-loop-done
invariant-loop-done l =
    Going l.requirements l.periods l.m l.slots l.t l.initial.counts l.initial.log l.counts l.log l.done
