-- What the public functions write, by their guards: the lines where the input fits, and else nothing. Assumes nothing.
use mathlib.Core.Path.{◌≡◌}
use mathlib.Core.Bool.{false}
use mathlib.Core.List.{List, [], ◌++◌}
use Prim.Native.Nat.{ℕ, ◌+◌, ◌*◌, ◌<◌, ◌≤◌}
use borrow.Author.Tests.{le-leb, lt-leb}
use lib.ListN.{length}
use Rattle.std.specs.Prelude.{Result}
use Rattle.rule.specs.declared.Refusal.{Refusal}
use Rattle.rule.specs.Limits.{tasks_most, slots_most}
use Rattle.writing.specs.AnswerLines.{listing_line, slot_lines, end_line, listing_text, run_fits_in, run_text}

pub listing_fits : (t : ℕ) (bytes : List ℕ) → length bytes ≤ tasks_most → listing_text t bytes ≡ listing_line t bytes
unfolding listing_text
listing_fits t bytes few = rw (le-leb (length bytes) tasks_most few)

-- Of a listing of more bytes than a set has tasks nothing is written.
pub listing_none : (t : ℕ) (bytes : List ℕ) → tasks_most < length bytes → listing_text t bytes ≡ []
unfolding listing_text
listing_none t bytes many = rw (lt-leb (length bytes) tasks_most many)

-- Of a run that does not fit nothing is written.
pub run_none : (slots n t : ℕ) (log : List ℕ) (end : Result Unit Refusal)
    → run_fits_in slots n t (length log) ≡ false → run_text slots n t log end ≡ []
unfolding run_text
run_none slots n t log end fits = rw fits

pub run_fits : (slots n t : ℕ) (log : List ℕ) (end : Result Unit Refusal)
    → slots ≤ slots_most → n ≤ tasks_most → slots * n ≤ length log → t + slots ≤ 4294967295
    → run_text slots n t log end ≡ slot_lines slots n t log ++ end_line end
unfolding run_text run_fits_in
run_fits slots n t log end few tasks room times =
    rw (le-leb slots slots_most few, le-leb n tasks_most tasks, le-leb (slots * n) (length log) room, le-leb (t + slots) 4294967295 times)
