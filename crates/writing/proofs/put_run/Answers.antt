-- `put_run` meets its contract: the line of the end is written where those of the slots end. Assumes nothing.
use borrow.Author.Rules.{rules}
use Rattle.writing.specs.AnswerLines.{run_text}
use Rattle.writing.proofs.Writes.{then}
use Rattle.writing.proofs.put_run.Goals as goal

pub returns-clause-out : goal.returns-clause-out
unfolding run_text
returns-clause-out c = let lines = then c.slots.ensures c.run_end.ensures in search rules
