-- `count_ran` meets its contract: the places of the tasks that ran are as many as the bytes that pass the test. Assumes nothing.
use Rattle.writing.proofs.Sizes.{length_places}
use borrow.Author.Rules.{rules}
use Rattle.writing.proofs.count_ran.Goals as goal

pub returns : goal.returns
returns c = rw length_places (search rules)
