-- There is room at the start.
use Rattle.std.proofs.Common.{rules}
use Rattle.stream.proofs.Rooms.{room_is}
use Rattle.prettavorn.proofs.main.Goals as goal

pub invariant_of-server-clause-roomy : goal.invariant_of-server-clause-roomy
invariant_of-server-clause-roomy c = room_is _ _ _ ((search rules, search rules, search rules, search rules, search rules), (search rules, search rules))
