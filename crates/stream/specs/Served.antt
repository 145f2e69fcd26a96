-- A whole input in calls: each takes as many bytes as it likes of what is left, and the end is told once. What all of them write together.
use Rattle.std.specs.Prelude.{List, [], ◌++◌, ℕ, take, drop}
use Rattle.frames.specs.Session.{Session}
use Rattle.frames.specs.Stream.{feed, finish}

pub data Served : Session → List ℕ → List ℕ → List ℕ → Type 0 where
  ends : (was : Session) (line : List ℕ) → Served was line [] (finish was line)
  takes : (was : Session) (line left : List ℕ) (n : ℕ) (later : List ℕ)
      → Served (feed was line (take n left)).reader.session (feed was line (take n left)).reader.line (drop n left) later
      → Served was line left ((feed was line (take n left)).text ++ later)
