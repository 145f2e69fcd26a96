-- Each test is one check of the list, in its order; on each way out the checks passed so far do not hold.
use Rattle.std.specs.Prelude.{Err}
use mathlib.Core.Path.{sym, ap, ◌∙◌}
use mathlib.Core.Logic.{⊎_elim, inl, inr}
use native.Mathlib.Omega.{arith}
use borrow.Author.Tests.{lt-ltb, ltb-false}
use lib.ListN.{length}
use Rattle.rule.specs.declared.Refusal.TheVariants.{Record}
use Rattle.rule.specs.Limits.{tasks_most, units_most}
use Rattle.rule.specs.Refusals.{invalid_place, admission_checks, set_checks}
use Rattle.rule.proofs.Refusals.{this, next, admission_refusal}
use Rattle.rule.proofs.Sets.{valid_set}
use Rattle.admission.proofs.Laws.{inside, outside, same_lengths, other_lengths, invalid_some, invalid_never, admission_when_valid}
use Rattle.admission.proofs.admit.Goals as goal

pub returns-then-periods-n : goal.returns-then-periods-n
unfolding admission_checks set_checks
returns-then-periods-n c =
    let s = c.args in
    let es = s.requirements.now in
    let ps = s.periods.now in
    sym ((admission_refusal es ps s.m _).1 (this (other_lengths (length es) (length ps) c.if-periods-n.true)))

pub returns-then-n-eq0 : goal.returns-then-n-eq0
unfolding admission_checks set_checks
returns-then-n-eq0 c =
    let s = c.args in
    let es = s.requirements.now in
    let ps = s.periods.now in
    let beyond = outside 1 tasks_most (length es) (⊎_elim (λ w. inl (omega arith)) (λ w. inr (omega arith)) c.then-n-eq0.either) in
    sym ((admission_refusal es ps s.m _).1 (next (same_lengths (length es) (length ps) (omega arith)) (this beyond)))

pub returns-then-m-eq0 : goal.returns-then-m-eq0
unfolding admission_checks set_checks
returns-then-m-eq0 c =
    let s = c.args in
    let es = s.requirements.now in
    let ps = s.periods.now in
    let beyond = outside 1 units_most s.m (⊎_elim (λ w. inl (omega arith)) (λ w. inr (omega arith)) c.then-m-eq0.either) in
    sym
    ((admission_refusal es ps s.m _).1
    (next (same_lengths (length es) (length ps) (omega arith))
    (next (inside 1 tasks_most (length es) (omega arith) (omega (arith, ltb-false))) (this beyond))))

pub overflow_cast-result : goal.overflow_cast-result
overflow_cast-result c =
    let low = invalid_some _ _ (omega arith) c.in-Some.place (sym c.outside_place.ensures ∙ c.in-Some.is) in
    omega (arith, ltb-false)

pub returns-in-Some : goal.returns-in-Some
unfolding admission_checks set_checks
returns-in-Some c =
    let s = c.args in
    let es = s.requirements.now in
    let ps = s.periods.now in
    let low = invalid_some es ps (omega arith) c.in-Some.place (sym c.outside_place.ensures ∙ c.in-Some.is) in
    ap (λ place. Err (Record place)) low.1
    ∙ sym
    ((admission_refusal es ps s.m _).1
    (next (same_lengths (length es) (length ps) (omega arith))
    (next (inside 1 tasks_most (length es) (omega arith) (omega (arith, ltb-false)))
    (next (inside 1 units_most s.m (omega arith) (omega (arith, ltb-false))) (this (lt-ltb (invalid_place es ps) (length es) low.0))))))

pub admit_valid-requires : goal.admit_valid-requires
admit_valid-requires c =
    let s = c.args in
    let es = s.requirements.now in
    let ps = s.periods.now in
    let all = invalid_never es ps (omega arith) (sym c.outside_place.ensures ∙ c.in_default.is) in
    record {
      valid_set = valid_set es ps (omega arith) (omega arith) (omega (arith, ltb-false)) all;
      m_le_units_most = omega (arith, ltb-false);
    }

pub returns : goal.returns
returns c =
    let s = c.args in
    let es = s.requirements.now in
    let ps = s.periods.now in
    let all = invalid_never es ps (omega arith) (sym c.outside_place.ensures ∙ c.in_default.is) in
    c.admit_valid.ensures
    ∙ sym (admission_when_valid es ps s.m (omega arith) (omega arith) (omega (arith, ltb-false)) (omega arith) (omega (arith, ltb-false)) (omega arith))
