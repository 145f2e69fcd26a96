use Rattle.std.proofs.Common.{rules, tests}
use Rattle.std.proofs.lemmas.Iterator.{YieldsList-from_slice}
use Rattle.std.proofs.lemmas.Iterator.Search.{all_from_yields_List}
use Rattle.digits.specs.Digits.{is_digit, all_digits}
use Rattle.digits.proofs.Digits.{from_first}
use Rattle.digits.proofs.all_digits.Goals as goal

pub returns : goal.returns
unfolding all_digits
returns c = all_from_yields_List is_digit _ _ _ c.all.ensures.ran (YieldsList-from_slice c.args.line.now (search (rules, from_first))) (λ x b q k. search (rules, tests))
