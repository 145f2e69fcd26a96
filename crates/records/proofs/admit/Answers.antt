-- `admit` meets its contract: more than 64 records are refusal 2. Assumes nothing.
use mathlib.Core.Path.{sym}
use Rattle.std.proofs.lemmas.Result.{err_from_is_err_and}
use Rattle.records.proofs.Laws.{admission_too_many}
use Rattle.records.proofs.admit.Goals as goal

pub returns-in_err-lists : goal.returns-in_err-lists
returns-in_err-lists c =
    let p = err_from_is_err_and c.from_residual.result c.from_residual.ensures.1 in
    let e = c.in_err-lists.ensures in
    rw (p.1, p.2, e.0) (sym (admission_too_many _ _ e.1))
