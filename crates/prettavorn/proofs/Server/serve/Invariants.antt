-- What is left of the piece falls.
use Rattle.std.proofs.Common.{length}
use Rattle.prettavorn.proofs.Server.serve.Given as goal

abbrev pub decreases-loop-rest : goal.decreases-loop-rest
decreases-loop-rest g l = length l.rest
