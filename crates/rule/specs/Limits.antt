-- Document 01, "Limits", one line of its table each.
use Rattle.std.specs.Prelude.{Bool, ◌&&◌, ℕ, ◌-◌, leb}

-- "tasks n: 1 to 64"
abbrev pub tasks_most : ℕ
tasks_most = 64

-- "units m: 1 to 32"
abbrev pub units_most : ℕ
units_most = 32

-- "period p: 2 to 65,535"
abbrev pub period_most : ℕ
period_most = 65535

-- "L: 2 to 1,048,576"
abbrev pub multiple_most : ℕ
multiple_most = 1048576

-- "time t of a slot: 0 to 16,777,215"
abbrev pub time_most : ℕ
time_most = 16777215

-- "slots in one run: 0 to 1,024"
abbrev pub slots_most : ℕ
slots_most = 1024

-- Is x from `least` to `most`?
abbrev pub within : ℕ → ℕ → ℕ → Bool
within least most x = leb least x && leb x most

-- Is the period from 2 to `most`, and the requirement from 1 to p - 1?
unfoldable pub bounded_by : (most : ℕ) → ℕ → ℕ → Bool
bounded_by most e p = within 2 most p && within 1 (p - 1) e

-- A record within its limits: "period p: 2 to 65,535", "requirement e: 1 to p - 1".
abbrev pub valid : ℕ → ℕ → Bool
valid e p = bounded_by period_most e p
