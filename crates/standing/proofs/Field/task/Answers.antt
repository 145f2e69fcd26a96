use Rattle.standing.proofs.Entries.{small_at}
use Rattle.standing.proofs.Field.task.Goals as goal

pub invariant_of-result : goal.invariant_of-result
invariant_of-result c = record { small = small_at c.args.self.now.sound c.args.place c.args.count c.requires.in_bounds c.requires.narrow }
