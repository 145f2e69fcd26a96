-- Document 01, "Records, time, counts": L, the load, M, the spare, and the field of a set at a time.
use Rattle.std.specs.Prelude.{cond, List, ℕ, suc, ◌*◌, ◌/◌, ◌-◌, ltb, pos, ◌-ℤ◌, length, None, Option, Some}
use Rattle.numbers.specs.Divide.{lowest_terms}
use Rattle.numbers.specs.Multiple.{lcm_all}
use Rattle.numbers.specs.Round.{round_up}
use Rattle.rule.specs.declared.Weight.{Weight}
use Rattle.rule.specs.Places.{at, sum}
use Rattle.rule.specs.Task.{Entry}

-- "L is the least common multiple of all periods."
unfoldable pub multiple : List ℕ → ℕ
multiple ps = lcm_all ps

-- "The load is the sum of e·L/p."
unfoldable pub load : List ℕ → List ℕ → ℕ
load es ps = sum (length es) (λ i. at es i * multiple ps / at ps i)

-- "M is the load divided by L, rounded up: the units in use."
unfoldable pub units_in_use : List ℕ → List ℕ → ℕ
units_in_use es ps = round_up (load es ps) (multiple ps)

-- "(M·L - load)", what the units in use have over
unfoldable pub room : List ℕ → List ℕ → ℕ
room es ps = units_in_use es ps * multiple ps - load es ps

-- A weight of e slots in every p.
abbrev pub weight : ℕ → ℕ → Weight
weight e p = record { e = e; p = p }

-- "If M·L exceeds the load there is a spare, .. with weight (M·L - load)/L; its fraction is reduced to lowest terms by
-- Euclid's rule."
unfoldable pub spare : List ℕ → List ℕ → Option Weight
spare es ps =
    let f = lowest_terms (room es ps) (multiple ps) in
    cond (ltb 0 (room es ps)) (Some (weight f.above f.below)) None

-- A field: the tasks of a set at a time, by place, the spare last if there is one.
pub record Field : Type 0 where
  pub size : ℕ
  pub entry : ℕ → Entry

-- The task at a place of the three lent lists.
unfoldable pub task_at : List ℕ → List ℕ → List ℕ → ℕ → Entry
task_at es ps ks i = record { e = at es i; p = at ps i; k = pos (at ks i) }

-- The spare of e slots in p: "Its count is M·t less the sum of all other counts."
unfoldable pub spare_entry : ℕ → ℕ → (units : ℕ) → List ℕ → ℕ → Entry
spare_entry e p units ks t = record { e = e; p = p; k = pos (units * t) -ℤ pos (sum (length ks) (at ks)) }

-- The field of a set with so many units in use and this spare, "one more task at place n".
unfoldable pub field_with : (units : ℕ) → Option Weight → List ℕ → List ℕ → List ℕ → ℕ → Field
field_with units None es ps ks t = record { size = length es; entry = task_at es ps ks }
field_with units (Some w) es ps ks t =
    record {
      size = suc (length es);
      entry = λ i. cond (ltb i (length es)) (task_at es ps ks i) (spare_entry w.e w.p units ks t);
    }

-- The field of a set at a time.
unfoldable pub field : List ℕ → List ℕ → List ℕ → ℕ → Field
field es ps ks t = field_with (units_in_use es ps) (spare es ps) es ps ks t
