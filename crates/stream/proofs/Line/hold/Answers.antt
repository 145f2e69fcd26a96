-- `hold` meets its contract: the bytes that are held stand after the others. Assumes nothing.
use mathlib.Core.Path.{ap, ◌∙◌}
use borrow.Author.Rules.{rules}
use lib.ListN.{take}
use mathlib.Core.List.{◌++◌}
use Rattle.std.proofs.lemmas.Slice.{take-put_mid}
use Rattle.stream.proofs.Taking.{held_none, held_part}
use Rattle.stream.proofs.Line.hold.Goals as goal

pub returns-then-is_empty-clause-line : goal.returns-then-is_empty-clause-line
returns-then-is_empty-clause-line c = held_none _ c.args.bytes.now (search rules)

pub returns-clause-line : goal.returns-clause-line
returns-clause-line c =
    let l = c.args.self.now in
    take-put_mid l.held _ l.bytes.now _ _ (search rules) (search rules)
    ∙ ap (λ bs. take l.held l.bytes.now ++ bs) c.copy_from_slice.ensures.after
    ∙ held_part l.bytes.now c.args.bytes.now l.held c.min-n.result c.requires.0 (search rules) c.min-n.ensures
