-- The second door takes a set as a list of records. These are the three lists that it comes apart into, and the records
-- with other counts; what the entries answer and leave of the three lists is crates/rule/specs/Outcomes.antt.
use Rattle.std.specs.Prelude.{List, [], ◌∷◌, map, ℕ}
use Rattle.records.specs.declared.Task.{Task}

-- "a lent list of records, each with its requirement, period and count"
abbrev pub requirements_of : List Task → List ℕ
requirements_of ts = map (λ a. a.e) ts

abbrev pub periods_of : List Task → List ℕ
periods_of ts = map (λ a. a.p) ts

abbrev pub counts_of : List Task → List ℕ
counts_of ts = map (λ a. a.k) ts

-- A record with this count, its requirement and period as they were.
abbrev pub with_count : Task → ℕ → Task
with_count a k = record { e = a.e; p = a.p; k = k }

-- The records with these counts in place order; a record beyond them stays.
unfoldable pub with_counts : List Task → List ℕ → List Task
with_counts [] ks = []
with_counts (a ∷ ts) [] = a ∷ ts
with_counts (a ∷ ts) (k ∷ ks) = with_count a k ∷ with_counts ts ks
