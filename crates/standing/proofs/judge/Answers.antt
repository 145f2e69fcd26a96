-- Each test is one check of the list, in its order; on each way out the checks passed so far do not hold.
use mathlib.Core.Path.{sym, ap, ◌∙◌}
use mathlib.Core.Logic.{⊎_elim, inl, inr}
use native.Mathlib.Omega.{arith}
use borrow.Author.Tests.{ltb-true, ltb-false}
use Rattle.std.specs.Prelude.{Ok}
use Rattle.standing.proofs.Answers.{laid_lengths, lengths_refused, tasks_refused, units_refused, wild_found, wild_never, record_refused, time_refused, lag_refused, all_judged, sound_lists, all_fair}
use Rattle.rule.proofs.Searches.{found_some, found_none}
use Rattle.standing.proofs.judge.Goals as goal

pub returns-then-not-laid_out : goal.returns-then-not-laid_out
returns-then-not-laid_out c =
    let s = c.args in
    lengths_refused s.units s.requirements.now s.periods.now s.counts.now s.t (sym c.laid_out.ensures ∙ c.if-not-laid_out.true)

pub returns-then-n-eq0 : goal.returns-then-n-eq0
returns-then-n-eq0 c =
    let s = c.args in
    let laid = sym c.laid_out.ensures ∙ c.if-not-laid_out.false in
    tasks_refused s.units s.requirements.now s.periods.now s.counts.now s.t laid
    (⊎_elim (λ w. inl (omega arith)) (λ w. inr (omega (arith, ltb-true))) c.then-n-eq0.either)

pub returns-then-units-gt-UNITS_MOST : goal.returns-then-units-gt-UNITS_MOST
returns-then-units-gt-UNITS_MOST c =
    let s = c.args in
    let laid = sym c.laid_out.ensures ∙ c.if-not-laid_out.false in
    units_refused s.units s.requirements.now s.periods.now s.counts.now s.t laid (omega arith) (omega (arith, ltb-false)) (omega arith)

pub overflow_cast-result : goal.overflow_cast-result
overflow_cast-result c =
    let s = c.args in
    let laid = sym c.laid_out.ensures ∙ c.if-not-laid_out.false in
    let l = laid_lengths s.requirements.now s.periods.now s.counts.now laid in
    let w = wild_found s.units s.requirements.now s.periods.now s.counts.now s.t laid (omega arith) (omega (arith, ltb-false)) (omega arith)
    c.in-Some.wild (sym c.in-Some.is ∙ c.outside_place.ensures) in
    omega (arith, ltb-false)

pub returns-in-Some : goal.returns-in-Some
returns-in-Some c =
    let s = c.args in
    let laid = sym c.laid_out.ensures ∙ c.if-not-laid_out.false in
    record_refused s.units s.requirements.now s.periods.now s.counts.now s.t laid (omega arith) (omega (arith, ltb-false)) (omega arith)
    c.in-Some.wild (sym c.in-Some.is ∙ c.outside_place.ensures)

pub returns-then-t-gt-TIME_MOST : goal.returns-then-t-gt-TIME_MOST
returns-then-t-gt-TIME_MOST c =
    let s = c.args in
    let laid = sym c.laid_out.ensures ∙ c.if-not-laid_out.false in
    let tame = wild_never s.units s.requirements.now s.periods.now s.counts.now s.t laid (omega arith) (omega (arith, ltb-false)) (omega arith)
    (sym c.in_default.is ∙ c.outside_place.ensures) in
    time_refused s.units s.requirements.now s.periods.now s.counts.now s.t laid (omega arith) (omega (arith, ltb-false)) (omega arith) tame (omega arith)

pub invariant_of-field : goal.invariant_of-field
invariant_of-field c =
    let s = c.args in
    let laid = sym c.laid_out.ensures ∙ c.if-not-laid_out.false in
    let tame = wild_never s.units s.requirements.now s.periods.now s.counts.now s.t laid (omega arith) (omega (arith, ltb-false)) (omega arith)
    (sym c.in_default.is ∙ c.outside_place.ensures) in
    record {
      few_units = omega arith;
      sound = sound_lists s.units s.requirements.now s.periods.now s.counts.now s.t laid (omega (arith, ltb-false)) tame (omega arith);
    }

pub overflow_cast-result-in-Some-unfair_place : goal.overflow_cast-result-in-Some-unfair_place
overflow_cast-result-in-Some-unfair_place c =
    let u = found_some _ _ c.in-Some-unfair_place.unfair (sym c.in-Some-unfair_place.is ∙ c.unfair_place.ensures) in
    omega (arith, ltb-false)

pub returns-in-Some-unfair_place : goal.returns-in-Some-unfair_place
returns-in-Some-unfair_place c =
    let s = c.args in
    let laid = sym c.laid_out.ensures ∙ c.if-not-laid_out.false in
    let tame = wild_never s.units s.requirements.now s.periods.now s.counts.now s.t laid (omega arith) (omega (arith, ltb-false)) (omega arith)
    (sym c.in_default.is ∙ c.outside_place.ensures) in
    lag_refused s.units s.requirements.now s.periods.now s.counts.now s.t laid (omega arith) (omega (arith, ltb-false)) (omega arith) tame (omega arith)
    c.in-Some-unfair_place.unfair (sym c.in-Some-unfair_place.is ∙ c.unfair_place.ensures)

pub rungs-requires : goal.rungs-requires
rungs-requires c =
    let s = c.args in
    let l = laid_lengths s.requirements.now s.periods.now s.counts.now (sym c.laid_out.ensures ∙ c.if-not-laid_out.false) in
    let late = found_none _ _ (sym c.in_default-unfair_place.is ∙ c.unfair_place.ensures) in
    record { each_fair = all_fair s.units s.requirements.now s.periods.now s.counts.now s.t l.2 (omega arith) }

pub returns : goal.returns
returns c =
    let s = c.args in
    let laid = sym c.laid_out.ensures ∙ c.if-not-laid_out.false in
    let tame = wild_never s.units s.requirements.now s.periods.now s.counts.now s.t laid (omega arith) (omega (arith, ltb-false)) (omega arith)
    (sym c.in_default.is ∙ c.outside_place.ensures) in
    ap (λ xs. Ok xs) c.rungs.ensures
    ∙ all_judged s.units s.requirements.now s.periods.now s.counts.now s.t laid (omega arith) (omega (arith, ltb-false)) (omega arith) tame (omega arith)
    (sym c.in_default-unfair_place.is ∙ c.unfair_place.ensures)
