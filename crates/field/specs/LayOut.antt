-- A set's field laid out in two lists of 65: the tasks' numbers, and after the last task the spare's.
use Rattle.std.specs.Prelude.{List, ℕ, length, take, Option}
use Rattle.rule.specs.declared.Weight.{Weight}
use Rattle.rule.specs.Layout.{placed, requirement_of, period_of, places_of}
use Rattle.rule.specs.Places.{at, each}
use Rattle.field.specs.declared.Laid.{Laid}

unfoldable pub filled_with : List ℕ → ℕ → List ℕ
filled_with xs rest = each 65 (placed (length xs) (at xs) rest)

unfoldable pub lay_out : List ℕ → List ℕ → Option Weight → Laid
lay_out es ps s =
    record {
      requirements = filled_with es (requirement_of s);
      periods = filled_with ps (period_of s);
      size = places_of s (length es);
    }

-- The requirements and the periods that are laid out: as many as there are places.
abbrev pub requirements_in : Laid → List ℕ
requirements_in l = take l.size l.requirements

abbrev pub periods_in : Laid → List ℕ
periods_in l = take l.size l.periods
