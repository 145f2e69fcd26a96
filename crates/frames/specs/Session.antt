-- What the program keeps between frames: the set in force with its units, its time and its counts, or that there is none.
use Rattle.std.specs.Prelude.{List, ℕ, length}
use Rattle.rule.specs.Places.{each}

pub data Session : Type 0 where
  no_set : Session
  in_force : (m : ℕ) (es ps ks : List ℕ) (t : ℕ) → Session

-- "admission, with time and counts set to 0"
abbrev pub fresh : ℕ → List ℕ → List ℕ → Session
fresh m es ps = in_force m es ps (each (length es) (λ i. 0)) 0
