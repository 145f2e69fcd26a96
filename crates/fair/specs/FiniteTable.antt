-- A table of slots of any length: for ever, as the tables of Table.antt, or of so many slots, as a night has them.
use Rattle.std.specs.Prelude.{◌≡◌, Bool, List, ℕ, suc, ◌+◌, ◌-◌, ◌*◌, ◌≤◌, ◌<◌, length, Err}
use Rattle.rule.specs.declared.Refusal.TheVariants.{Load}
use Rattle.rule.specs.Places.{at, count}
use Rattle.rule.specs.Sets.{multiple, load}
use Rattle.rule.specs.Outcomes.{admission}

-- How long a table is: so many slots, or for ever.
pub data HowLong : Type 0 where
  slots : ℕ → HowLong
  for_ever : HowLong

-- A table this long has n slots at least.
pub data Has : HowLong → ℕ → Type 0 where
  up_to : {s n : ℕ} → n ≤ s → Has (slots s) n
  always : {n : ℕ} → Has for_ever n

-- What a task of requirement e is due in each of its periods: just e slots, or more than its share allowed.
abbrev pub exactly : ℕ → ℕ → Type 0
exactly e had = had ≡ e

abbrev pub at_least : ℕ → ℕ → Type 0
at_least e had = e ≤ had

-- `runs i u`: task i runs in slot u. So none runs twice in one slot; at most m run in each slot of the table; and every task has what it is
-- due in every one of its periods that ends within the table, the j-th from slot p·j on.
pub record TableOf (long : HowLong) (due : ℕ → ℕ → Type 0) (es ps : List ℕ) (m : ℕ) (runs : ℕ → ℕ → Bool) : Type 0 where
  pub few : (u : ℕ) → Has long (suc u) → count (length es) (λ i. runs i u) ≤ m
  pub served : (i j : ℕ) → i < length es → Has long (at ps i * suc j) → due (at es i) (count (at ps i) (λ v. runs i (at ps i * j + v)))

-- A table of s slots that serves the set: in each slot u < s, and in each period with p·(j+1) ≤ s.
abbrev pub FiniteTable : ℕ → List ℕ → List ℕ → ℕ → (ℕ → ℕ → Bool) → Type 0
FiniteTable s = TableOf (slots s) exactly

-- One of s slots that may give a task more than its share.
abbrev pub FiniteAtLeast : ℕ → List ℕ → List ℕ → ℕ → (ℕ → ℕ → Bool) → Type 0
FiniteAtLeast s = TableOf (slots s) at_least

-- Admission gives refusal 6, with "load - m·L".
abbrev pub RefusedBySix : List ℕ → List ℕ → ℕ → Type 0
RefusedBySix es ps m = admission es ps m ≡ Err (Load (load es ps - m * multiple ps))
