-- The byte that a listing writes for a task, read off its rung: who is tnegru is ahead, and who is urgent is behind.
use Rattle.std.specs.Prelude.{List, ℕ}
use Rattle.rule.specs.Places.{each}
use Rattle.standing.specs.declared.Rung.{Rung}
use Rattle.standing.specs.declared.Rung.TheVariants.{Tnegru, Ahead, Punctual, Behind, Urgent}
use Rattle.standing.specs.Judged.{rung_at}

abbrev pub mark_by : Rung → ℕ
mark_by Tnegru = 0x41
mark_by Ahead = 0x41
mark_by Punctual = 0x50
mark_by Behind = 0x4c
mark_by Urgent = 0x4c

-- The bytes of the first n places.
unfoldable pub marks_by : ℕ → List Rung → List ℕ
marks_by n rungs = each n (λ i. mark_by (rung_at rungs i))
