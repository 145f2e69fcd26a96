-- What a line asks, as the code answers it: the frame without the set's lists, which stay in the line, and nothing of a malformed line.
use Rattle.std.specs.Prelude.{Option, Some, None, List, ℕ, ◌+◌, ◌*◌, length}
use Rattle.rule.specs.Places.{each}
use Rattle.digits.specs.Digits.{bytes_of}
use Rattle.digits.specs.Fields.{field_at}
use Rattle.reading.specs.declared.Asked.{Asked}
use Rattle.reading.specs.declared.Asked.TheVariants.{Admit, Run, List as Listing}
use Rattle.reading.specs.Kinds.{Frame, admit, run, list, malformed}

unfoldable pub asked_by : Frame → Option Asked
asked_by (admit m es ps) = Some (Admit m (length es))
asked_by (run slots) = Some (Run slots)
asked_by list = Some Listing
asked_by malformed = None

-- 64 fields of a line's bytes, of two bytes each and four bytes apart, from a byte on.
unfoldable pub column : List ℕ → ℕ → List ℕ
column line from = each 64 (λ i. field_at 2 (bytes_of line) (from + 4 * i))
