-- What a call writes: text is stored from the place on where the writer stood, as far as there is room, and the writer stands after it.
use Rattle.std.specs.Prelude.{◌≡◌, List, ℕ, ◌+◌, length}
use Rattle.std.proofs.lemmas.List.Edits.{sets}
use Rattle.writing.specs.declared.Writer.{Writer}

pub record Writes (old new : Writer) (text : List ℕ) : Type 0 where
  pub same_reference : new.out.ghost_name ≡ old.out.ghost_name
  pub out : new.out.now ≡ sets old.out.now old.at text
  pub at : new.at ≡ old.at + length text
