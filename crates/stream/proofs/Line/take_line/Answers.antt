-- `take_line` meets its contract: the scan ends at the first line feed, or takes all. Assumes nothing.
use mathlib.Core.Path.{refl, sym, ap, ◌∙◌}
use native.Mathlib.Numerals.{add-one}
use Rattle.stream.specs.Pieces.{held_of}
use Rattle.stream.proofs.Taking.{scan_found, scan_not_found}
use Rattle.stream.proofs.Line.take_line.Goals as goal

pub returns-in-Some-clause-line : goal.returns-in-Some-clause-line
returns-in-Some-clause-line c =
    c.hold.ensures.line ∙ sym (ap (λ s. s.line) (scan_found c.args.piece.now (held_of c.args.self.now) c.in-Some.end (sym c.line_end.ensures ∙ c.in-Some.is)))

pub returns-in-Some-clause-end : goal.returns-in-Some-clause-end
returns-in-Some-clause-end c =
    rw (scan_found c.args.piece.now (held_of c.args.self.now) c.in-Some.end (sym c.line_end.ensures ∙ c.in-Some.is), add-one) refl

pub returns-in-None-clause-line : goal.returns-in-None-clause-line
returns-in-None-clause-line c =
    c.hold-in-None.ensures.line ∙ sym (ap (λ s. s.line) (scan_not_found c.args.piece.now (held_of c.args.self.now) (sym c.line_end.ensures ∙ c.in-None.is)))

pub returns-in-None-clause-end : goal.returns-in-None-clause-end
returns-in-None-clause-end c =
    rw (scan_not_found c.args.piece.now (held_of c.args.self.now) (sym c.line_end.ensures ∙ c.in-None.is)) refl
