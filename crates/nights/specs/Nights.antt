-- A whole input, line by line: each is answered in one of the forms, from a fair session to a fair session.
use Rattle.std.specs.Prelude.{List, [], ◌∷◌, ◌++◌, ℕ}
use Rattle.reading.specs.Kinds.{read}
use Rattle.frames.specs.Session.{Session}
use Rattle.nights.specs.Sessions.{FairSession}
use Rattle.nights.specs.Answers.{Answered}

-- From a session on: the lines that come, and all that is written.
pub data FairNight : Session → List (List ℕ) → List ℕ → Type 0 where
  over : {was : Session} → FairSession was → FairNight was [] []
  next : {was after : Session} {line text rest : List ℕ} {lines : List (List ℕ)}
      → FairSession was → Answered was (read line) text after → FairNight after lines rest → FairNight was (line ∷ lines) (text ++ rest)
