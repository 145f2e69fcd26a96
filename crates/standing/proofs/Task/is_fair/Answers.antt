-- The two tests are those of the definition, on words that are the integers they stand for, since all of them fit.
use Rattle.rule.specs.Task.{fair}
use Rattle.standing.proofs.Integers.{lag_fits, due_fits, done_fits, word_is, period_is, minus_period_is}
use Rattle.standing.proofs.Task.is_fair.Goals as goal

pub returns-then-period-lag : goal.returns-then-period-lag
unfolding fair
returns-then-period-lag c =
    let x = c.args.self.now in
    let lag = word_is (lag_fits x.e x.p x.k x.t (due_fits x.small) (done_fits x.small)) c.lag-lag.ensures in
    let above = rw (minus_period_is x.p x.small.limit, lag) at c.if-period-lag.true in
    rw (lag, period_is x.p x.small.limit, above)

pub returns-else-period-lag : goal.returns-else-period-lag
unfolding fair
returns-else-period-lag c =
    let x = c.args.self.now in
    let lag = word_is (lag_fits x.e x.p x.k x.t (due_fits x.small) (done_fits x.small)) c.lag-lag.ensures in
    let below = rw (minus_period_is x.p x.small.limit, lag) at c.if-period-lag.false in
    rw (minus_period_is x.p x.small.limit, lag, below)
