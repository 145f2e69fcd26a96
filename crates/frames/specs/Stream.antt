-- Input as it comes, a piece at a time: each line is answered at its line feed, before any more input is looked at. What is kept in
-- between is the session and the line at hand, of which no more than one byte past the longest line is of use.
use Rattle.std.specs.Prelude.{cond, List, [], ◌∷◌, ◌++◌, ℕ, leb, eqb, length}
use Rattle.writing.specs.AnswerLines.{line_feed}
use Rattle.reading.specs.Kinds.{digits_most}
use Rattle.frames.specs.Session.{Session}
use Rattle.frames.specs.Transcript.{answer_to}

pub record Reader : Type 0 where
  pub session : Session
  pub line : List ℕ

-- What is kept after a piece, and what is written for it.
pub record Fed : Type 0 where
  pub reader : Reader
  pub text : List ℕ

-- A byte more, unless the line is too long already.
unfoldable pub with_byte : List ℕ → ℕ → List ℕ
with_byte line b = cond (leb (length line) digits_most) (line ++ b ∷ []) line

unfoldable pub feed : Session → List ℕ → List ℕ → Fed
feed was line [] = record { reader = record { session = was; line = line }; text = [] }
feed was line (b ∷ bs) =
    let answer = answer_to was line in
    let after = feed answer.session [] bs in
    let ended : Fed = record { reader = after.reader; text = answer.text ++ after.text } in
    cond (eqb b line_feed) ended (feed was (with_byte line b) bs)

-- What is written where the input ends: the answer to a last line that lacks its line feed.
unfoldable pub finish : Session → List ℕ → List ℕ
finish was [] = []
finish was (c ∷ cs) = (answer_to was (c ∷ cs)).text
