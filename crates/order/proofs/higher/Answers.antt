-- `order::higher` meets its contract: the derived order of symbols is "- below 0 below +". Assumes nothing.
use mathlib.Core.Path.{◌≡◌, refl, ap, sym, ◌∙◌}
use Rattle.std.specs.declared.cmp.Ordering.{Ordering}
use Rattle.std.specs.declared.cmp.Ordering.TheVariants.{Less, Equal, Greater}
use denote.Enum.Compared.{by}
use Rattle.rule.specs.contracts.Symbol.{enum, as_values}
use Rattle.rule.specs.declared.Symbol.{Symbol}
use Rattle.rule.specs.declared.Symbol.TheVariants.{Minus, Zero, Plus}
use Rattle.rule.specs.declared.Order.{Order}
use Rattle.rule.specs.declared.Order.TheVariants.{First, Second, Tie}
use Rattle.rule.specs.Task.{higher}
use Rattle.order.proofs.higher.Goals as goal

derived : Symbol → Symbol → Ordering
derived a b = by Less Greater enum.parts (λ a b. Equal, (λ a b. Equal, (λ a b. Equal, tt))) (as_values a) (as_values b)

order_of : Ordering → Order
order_of Less = Second
order_of Equal = Tie
order_of Greater = First

derived_order : (a b : Symbol) → order_of (derived a b) ≡ higher a b
unfolding derived order_of higher
derived_order Minus Minus = refl
derived_order Minus Zero = refl
derived_order Minus Plus = refl
derived_order Zero Minus = refl
derived_order Zero Zero = refl
derived_order Zero Plus = refl
derived_order Plus Minus = refl
derived_order Plus Zero = refl
derived_order Plus Plus = refl

pub returns-in-Less : goal.returns-in-Less
unfolding derived order_of
returns-in-Less c = ap order_of (sym c.in-Less.is ∙ c.cmp.ensures) ∙ derived_order c.args.first c.args.second

pub returns-in-Equal : goal.returns-in-Equal
unfolding derived order_of
returns-in-Equal c = ap order_of (sym c.in-Equal.is ∙ c.cmp.ensures) ∙ derived_order c.args.first c.args.second

pub returns-in-Greater : goal.returns-in-Greater
unfolding derived order_of
returns-in-Greater c = ap order_of (sym c.in-Greater.is ∙ c.cmp.ensures) ∙ derived_order c.args.first c.args.second
