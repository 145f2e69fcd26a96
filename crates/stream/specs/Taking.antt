-- How the code goes through a piece of input, a line at a time.
use Rattle.std.specs.Prelude.{Bool, true, false, cond, List, [], ◌∷◌, ℕ, suc, eqb}
use Rattle.writing.specs.AnswerLines.{line_feed}
use Rattle.frames.specs.Session.{Session}
use Rattle.frames.specs.Transcript.{answer_to}
use Rattle.frames.specs.Stream.{with_byte}

-- The line at hand after more bytes of it.
unfoldable pub hold : List ℕ → List ℕ → List ℕ
hold line [] = line
hold line (b ∷ bs) = hold (with_byte line b) bs

-- The line at hand after the bytes up to a line feed or the piece's end, how many bytes that takes, and whether a line feed ended it.
pub record Scan : Type 0 where
  pub line : List ℕ
  pub used : ℕ
  pub ended : Bool

unfoldable pub scan : List ℕ → List ℕ → Scan
scan line [] = record { line = line; used = 0; ended = false }
scan line (b ∷ bs) =
    let ended : Scan = record { line = line; used = 1; ended = true } in
    let later = scan (with_byte line b) bs in
    let goesOn : Scan = record { line = later.line; used = suc later.used; ended = later.ended } in
    cond (eqb b line_feed) ended goesOn

-- The first line of a piece, answered if it ends there: the session and the line at hand afterwards, and what is written.
pub record Step : Type 0 where
  pub session : Session
  pub line : List ℕ
  pub text : List ℕ

unfoldable pub step_by : Session → Scan → Step
step_by was s =
    let answer = answer_to was s.line in
    let answered : Step = record { session = answer.session; line = []; text = answer.text } in
    let waiting : Step = record { session = was; line = s.line; text = [] } in
    cond s.ended answered waiting

abbrev pub step : Session → List ℕ → List ℕ → Step
step was line bs = step_by was (scan line bs)
