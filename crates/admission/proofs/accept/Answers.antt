-- Each line computes its part of the definition. M·L is from the load to less than L above it, so it fits and the room is no less than 0.
use native.Mathlib.Omega.{arith}
use Rattle.numbers.specs.Round.{round_up}
use Rattle.numbers.proofs.Quotient.{round_up_least}
use Rattle.admission.specs.Parts.{acceptance_of}
use Rattle.admission.proofs.accept.Goals as goal

pub returns : goal.returns
unfolding acceptance_of round_up
returns c = simp c.spare_of.ensures
