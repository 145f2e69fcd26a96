-- Document 01, "Frames": "one frame a line, ended by a line feed (the last may lack it)". Nothing is trimmed; a final line feed starts
-- no new line.
use Rattle.std.specs.Prelude.{cond, List, [], ◌∷◌, ◌++◌, ℕ, eqb}
use Rattle.writing.specs.AnswerLines.{line_feed}

-- The lines of an input of which this much of a line is at hand already. An end without a line feed ends the line at hand, if there
-- is any of it.
unfoldable pub lines_after : List ℕ → List ℕ → List (List ℕ)
lines_after [] [] = []
lines_after (c ∷ cs) [] = (c ∷ cs) ∷ []
lines_after line (b ∷ bs) =
    let ended = line ∷ lines_after [] bs in
    let goesOn = lines_after (line ++ b ∷ []) bs in
    cond (eqb b line_feed) ended goesOn

abbrev pub lines_of : List ℕ → List (List ℕ)
lines_of input = lines_after [] input
