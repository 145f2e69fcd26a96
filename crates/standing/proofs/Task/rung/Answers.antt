-- Each test is one of the rung's, on words that are the integers they stand for: the next lag against 0 and p, then the lag's sign.
use mathlib.Core.Path.{◌≡◌, sym, ap, ◌∙◌}
use native.Mathlib.Numerals.{add-one}
use mir.Syntax.{w64}
use mir.Val.{to_z, of_z}
use Rattle.rule.specs.Task.{standing}
use Rattle.rule.proofs.Lags.{counted}
use Rattle.standing.specs.Judged.{between, rung}
use Rattle.standing.proofs.Integers.{lag_fits, due_fits, next_due_fits, done_fits, word_is, period_is}
use Rattle.standing.proofs.Rungs.{lag_ahead, lag_punctual, lag_behind, rung_tnegru, rung_urgent, rung_between}
use Rattle.standing.proofs.Task.rung.Goals.{Else-next-self}
use Rattle.standing.proofs.Task.rung.Goals as goal

pub returns-then-next-le0 : goal.returns-then-next-le0
returns-then-next-le0 c =
    let x = c.args.self.now in
    let small = x.small in
    let next = word_is (lag_fits x.e x.p x.k _ (next_due_fits small) (done_fits small)) (rw add-one at c.lag-next.ensures) in
    sym (rung_tnegru x.e x.p x.k x.t small c.requires (rw next at c.if-next-le0.true))

pub returns-then-next-self : goal.returns-then-next-self
returns-then-next-self c =
    let x = c.args.self.now in
    let small = x.small in
    let next = word_is (lag_fits x.e x.p x.k _ (next_due_fits small) (done_fits small)) (rw add-one at c.lag-next.ensures) in
    sym
    (rung_urgent x.e x.p x.k x.t small c.requires (rw next at c.if-next-le0.false)
    (rw (period_is x.p small.limit, next) at c.if-next-self.true))

-- Past the tests of the next lag the rung is that of the standing.
contends : (c : Else-next-self) → let x = c.args.self.now in rung x.t (counted x.e x.p x.k) ≡ between (standing x.t (counted x.e x.p x.k))
contends c =
    let x = c.args.self.now in
    let small = x.small in
    let next = word_is (lag_fits x.e x.p x.k _ (next_due_fits small) (done_fits small)) (rw add-one at c.lag-next.ensures) in
    rung_between x.e x.p x.k x.t small c.requires (rw next at c.if-next-le0.false)
    (rw (period_is x.p small.limit, next) at c.if-next-self.false)

pub returns-then-lag-lt0 : goal.returns-then-lag-lt0
returns-then-lag-lt0 c =
    let x = c.args.self.now in
    let small = x.small in
    let lag = word_is (lag_fits x.e x.p x.k x.t (due_fits small) (done_fits small)) c.lag-lag.ensures in
    sym (contends c.before.before ∙ ap between (lag_ahead x.t (counted x.e x.p x.k) (rw lag at c.if-lag-lt0.true)))

pub returns-then-lag-eq0 : goal.returns-then-lag-eq0
returns-then-lag-eq0 c =
    let x = c.args.self.now in
    let small = x.small in
    let lag = word_is (lag_fits x.e x.p x.k x.t (due_fits small) (done_fits small)) c.lag-lag.ensures in
    sym
    (contends c.before.before.before
    ∙ ap between (lag_punctual x.t (counted x.e x.p x.k) (sym lag ∙ ap (λ w. to_z w64 w) c.if-lag-eq0.true)))

pub returns-else-lag-eq0 : goal.returns-else-lag-eq0
returns-else-lag-eq0 c =
    let x = c.args.self.now in
    let small = x.small in
    let is = c.lag-lag.ensures in
    let lag = word_is (lag_fits x.e x.p x.k x.t (due_fits small) (done_fits small)) is in
    sym
    (contends c.before.before.before
    ∙ ap between
    (lag_behind x.t (counted x.e x.p x.k) (rw lag at c.if-lag-lt0.false) (λ z. c.if-lag-eq0.false (ap (λ y. of_z w64 y) (is ∙ z)))))
