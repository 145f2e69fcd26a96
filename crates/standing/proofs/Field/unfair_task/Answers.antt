-- `unfair_task` meets its contract: the library's search of the places is the lowest place of the rule. Assumes nothing.
use mathlib.Core.Bool.{not}
use mathlib.Core.Path.{◌∙◌}
use lib.ListN.{length}
use Rattle.std.proofs.Common.{rules}
use Rattle.std.proofs.lemmas.Iterator.{YieldsList-from_range}
use Rattle.std.proofs.lemmas.Iterator.Search.{position_from_yields_List}
use Rattle.rule.specs.Sets.{task_at}
use Rattle.rule.specs.Task.{fair}
use Rattle.standing.proofs.Lists.{lowest_range}
use Rattle.standing.proofs.Field.unfair_task.Goals as goal

pub returns : goal.returns
unfolding task_at
returns c =
    let f = c.args.self.now in
    let n = length f.counts.now in
    position_from_yields_List (λ i. not (fair f.t (task_at f.requirements.now f.periods.now f.counts.now i))) _ _ _ c.position.ensures.ran
    (YieldsList-from_range 0 n n (search rules) (search rules)) (λ x b q k. search rules)
    ∙ lowest_range n _
