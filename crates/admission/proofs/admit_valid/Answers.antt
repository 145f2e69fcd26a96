-- L comes from `least_multiple` within its limit, or refusal 5 is given; the load is compared with m·L, which fits a u32 since m is at most 32.
use mathlib.Core.Path.{◌≡◌, ◌∙◌}
use native.Mathlib.Omega.{arith}
use borrow.Author.Rules.{rules}
use Rattle.std.specs.Prelude.{Err}
use Rattle.rule.specs.declared.Refusal.TheVariants.{Multiple}
use Rattle.rule.proofs.Sets.{multiple_pos}
use Rattle.admission.proofs.Laws.{multiple_told, none_told, multiple_refused, load_refused, set_accepted}
use Rattle.admission.proofs.admit_valid.Goals as goal

pub returns-in_err-multiple : goal.returns-in_err-multiple
returns-in_err-multiple c =
    let s = c.args in
    let l = c.least_multiple in
    let ps = s.periods.now in
    let refused : c.from_residual.result ≡ Err Multiple = search rules in
    refused ∙ multiple_refused s.requirements.now ps s.m (none_told ps l.result l.ensures c.in_err-multiple.ensures.ok_part)

pub load_of-load-requires-clause-multiple_value : goal.load_of-load-requires-clause-multiple_value
load_of-load-requires-clause-multiple_value c =
    let l = c.least_multiple in
    (multiple_told c.args.periods.now l.result l.ensures c.in_ok-multiple.multiple c.in_ok-multiple.ensures.ok_part).0

pub returns-then-load-given : goal.returns-then-load-given
returns-then-load-given c =
    let s = c.args in
    let l = c.least_multiple in
    let k = c.load_of-load in
    let told = multiple_told s.periods.now l.result l.ensures c.in_ok-multiple.multiple c.in_ok-multiple.ensures.ok_part in
    load_refused s.requirements.now s.periods.now s.m c.in_ok-multiple.multiple k.result told.0 k.ensures told.1 (omega arith)

pub accept-requires-clause-multiple_nonzero : goal.accept-requires-clause-multiple_nonzero
accept-requires-clause-multiple_nonzero c =
    let l = c.least_multiple in
    let told = multiple_told c.args.periods.now l.result l.ensures c.in_ok-multiple.multiple c.in_ok-multiple.ensures.ok_part in
    let positive = multiple_pos c.args.requirements.now c.args.periods.now c.requires.valid_set in
    omega arith

pub returns : goal.returns
returns c =
    let s = c.args in
    let l = c.least_multiple in
    let k = c.load_of-load in
    let told = multiple_told s.periods.now l.result l.ensures c.in_ok-multiple.multiple c.in_ok-multiple.ensures.ok_part in
    rw c.accept.ensures (set_accepted s.requirements.now s.periods.now s.m c.in_ok-multiple.multiple k.result told.0 k.ensures told.1 (omega arith))
