-- The loop's invariant: the records so far are taken apart. Assumes nothing.
use lib.ListN.{take}
use Rattle.records.specs.Apart.{Apart}
use Rattle.records.proofs.Laws.{Whole}
use Rattle.records.proofs.take_apart.Given as goal

abbrev pub invariant-loop-i : goal.invariant-loop-i
invariant-loop-i l = record { whole : Whole l.lists; taken : Apart l.i (take l.i l.tasks) l.lists }
