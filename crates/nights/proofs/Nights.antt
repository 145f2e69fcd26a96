-- From a fair session on every session is fair: after lines, after bytes, and all along an input. By induction, a line at a time. Assumes
-- nothing.
use mathlib.Core.Bool.{Bool, true, false, cond}
use mathlib.Core.List.{List, [], ◌∷◌, ◌++◌}
use Prim.Native.Nat.{ℕ}
use lib.Dec.{eqb}
use Rattle.writing.specs.AnswerLines.{line_feed}
use Rattle.frames.specs.Session.{Session}
use Rattle.frames.specs.Transcript.{answer_to, answers}
use Rattle.frames.specs.Stream.{Fed, with_byte, feed}
use Rattle.nights.specs.Sessions.{FairSession, session_after}
use Rattle.nights.specs.Nights.{FairNight, over, next}
use Rattle.nights.proofs.Answers.{line_good}

pub fair_after : (was : Session) → FairSession was → (lines : List (List ℕ)) → FairSession (session_after was lines)
unfolding session_after
fair_after was F [] = F
fair_after was F (line ∷ lines) = fair_after (answer_to was line).session (line_good was F line).1 lines

pub fair_fed : (was : Session) → FairSession was → (line bytes : List ℕ) → FairSession (feed was line bytes).reader.session
unfolding feed
fair_fed was F line [] = F
fair_fed was F line (b ∷ bytes) =
    go (eqb b line_feed) (fair_fed (answer_to was line).session (line_good was F line).1 [] bytes) (fair_fed was F (with_byte line b) bytes)
  where
    after : Fed
    after = feed (answer_to was line).session [] bytes

    go : (t : Bool) → FairSession after.reader.session → FairSession (feed was (with_byte line b) bytes).reader.session
        → let ended : Fed = record { reader = after.reader; text = (answer_to was line).text ++ after.text } in
        FairSession (cond t ended (feed was (with_byte line b) bytes)).reader.session
    go true X Y = X
    go false X Y = Y

pub fair_answers : (was : Session) → FairSession was → (lines : List (List ℕ)) → FairNight was lines (answers was lines)
unfolding answers
fair_answers was F [] = over F
fair_answers was F (line ∷ lines) = let G = line_good was F line in next F G.0 (fair_answers (answer_to was line).session G.1 lines)
