-- The parts of an acceptance by the load and L alone, as the code computes them; proofs/Laws.antt joins them to the set's own.
use Rattle.std.specs.Prelude.{cond, ℕ, ◌*◌, ◌-◌, ltb, None, Option, Some}
use Rattle.numbers.specs.Divide.{lowest_terms}
use Rattle.numbers.specs.Round.{round_up}
use Rattle.rule.specs.Sets.{weight}
use Rattle.rule.specs.declared.Weight.{Weight}
use Rattle.rule.specs.declared.Accepted.{Accepted}

-- The spare that takes this room of L.
unfoldable pub spare_of : (room multiple : ℕ) → Option Weight
spare_of room multiple =
    let f = lowest_terms room multiple in
    cond (ltb 0 room) (Some (weight f.above f.below)) None

-- M, L and the spare of a set with this load and this L.
unfoldable pub acceptance_of : (load multiple : ℕ) → Accepted
acceptance_of load multiple =
    let units = round_up load multiple in
    record { units = units; multiple = multiple; spare = spare_of (units * multiple - load) multiple }
