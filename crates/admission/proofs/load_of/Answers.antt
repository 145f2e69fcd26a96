use native.Mathlib.Numerals.{add-one}
use native.Mathlib.Omega.{arith}
use borrow.Author.Rules.{rules}
use lib.ListN.{length}
use mathlib.Core.Path.{◌≡◌}
use Rattle.std.proofs.lemmas.List.{length_push}
use Rattle.std.proofs.lemmas.Slice.Zip.{zip_end}
use Rattle.rule.specs.Places.{sum}
use Rattle.rule.specs.Sets.{load as load_of}
use Rattle.admission.proofs.Laws.{share_of_turn}
use Rattle.admission.proofs.load_of.Goals as goal

pub loop-e-init : goal.loop-e-init
unfolding sum
loop-e-init c = (omega arith, cc)

pub nonzero_div-load : goal.nonzero_div-load
nonzero_div-load c =
    let turn = share_of_turn _ _ c.requires.valid_set c.loop-e.yielded c.into_iter-e-iterator.result c.loop-e.e-iterator c.next.new.self (search rules) (search rules) c.loop-e.yielded_by c.in-Some.is c.next.ensures.steps in
    turn.period

pub overflow_cast-load-in-loop-e-3 : goal.overflow_cast-load-in-loop-e-3
overflow_cast-load-in-loop-e-3 c =
    let turn = share_of_turn _ _ c.requires.valid_set c.loop-e.yielded c.into_iter-e-iterator.result c.loop-e.e-iterator c.next.new.self (search rules) (search rules) c.loop-e.yielded_by c.in-Some.is c.next.ensures.steps in
    rw c.requires.multiple_value (omega (arith, turn.small))

pub overflow_add-load : goal.overflow_add-load
overflow_add-load c =
    let turn = share_of_turn _ _ c.requires.valid_set c.loop-e.yielded c.into_iter-e-iterator.result c.loop-e.e-iterator c.next.new.self (search rules) (search rules) c.loop-e.yielded_by c.in-Some.is c.next.ensures.steps in
    rw c.requires.multiple_value (omega (arith, turn.small, turn.here, c.requires.valid_set.tasks_le))

pub loop-e-preserved : goal.loop-e-preserved
unfolding sum
loop-e-preserved c =
    let l = c.loop-e in
    let turn = share_of_turn _ _ c.requires.valid_set l.yielded c.into_iter-e-iterator.result c.loop-e.e-iterator c.next.new.self (search rules) (search rules) l.yielded_by c.in-Some.is c.next.ensures.steps in
    rw (length_push, add-one, c.requires.multiple_value) (omega (arith, turn.small), cc (l.invariant.1, turn.placed))

pub returns : goal.returns
unfolding load_of
returns c =
    let all = zip_end c.args.requirements.now c.args.periods.now c.loop-e.yielded c.into_iter-e-iterator.result c.loop-e.e-iterator c.next.new.self _ (search rules) (search rules) c.loop-e.yielded_by c.in-None.is c.next.ensures.steps in
    let e : length c.loop-e.yielded ≡ length c.args.requirements.now = omega (arith, all, c.requires.valid_set.same_length) in
    rw e at c.loop-e.invariant.1
