use borrow.Author.Rules.{rules}
use Rattle.rule.specs.Places.{sum}
use Rattle.slot.proofs.Field.has_room.Goals as goal

pub loop-j-init : goal.loop-j-init
unfolding sum
loop-j-init c = search rules
