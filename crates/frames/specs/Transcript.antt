-- What is written for a whole input: the answers to its lines, one after the other.
use Rattle.std.specs.Prelude.{List, [], ◌∷◌, ◌++◌, ℕ}
use Rattle.frames.specs.Lines.{lines_of}
use Rattle.reading.specs.Kinds.{read}
use Rattle.frames.specs.Session.{Session, no_set}
use Rattle.frames.specs.Replies.{Reply, reply}

unfoldable pub answer_to : Session → List ℕ → Reply
answer_to was line = reply was (read line)

unfoldable pub answers : Session → List (List ℕ) → List ℕ
answers was [] = []
answers was (line ∷ lines) = let r = answer_to was line in r.text ++ answers r.session lines

-- "Empty input gives no output."
unfoldable pub transcript : List ℕ → List ℕ
transcript input = answers no_set (lines_of input)
