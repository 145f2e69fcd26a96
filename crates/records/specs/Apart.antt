-- A list of records taken apart into three lists of 64 places.
use Rattle.std.specs.Prelude.{◌≡◌, List, ℕ, take}
use Rattle.records.specs.declared.Task.{Task}
use Rattle.records.specs.declared.Lists.{Lists}
use Rattle.records.specs.Door.{requirements_of, periods_of, counts_of}

-- What a list of records has past its end, where nothing looks.
abbrev pub none : Task
none = record { e = 0; p = 0; k = 0 }

-- The first n places of the lists have the numbers of these records.
pub record Apart (n : ℕ) (ts : List Task) (lists : Lists) : Type 0 where
  pub requirements : take n lists.requirements ≡ requirements_of ts
  pub periods : take n lists.periods ≡ periods_of ts
  pub counts : take n lists.counts ≡ counts_of ts
