use mathlib.Core.Path.{◌≡◌, ap, refl, ◌∙◌}
use native.Mathlib.Omega.{arith}
use lib.ListN.{length}
use Rattle.rule.specs.Places.{bit}
use Rattle.rule.proofs.Written.{written_none}
use Rattle.slot.proofs.Laws.{as_byte, next_is, turn_written, turn_kept, all_written}
use Rattle.slot.proofs.Field.choose.Invariants.{picked, raised}
use Rattle.slot.proofs.Field.choose.Goals as goal
use Rattle.slot.proofs.Field.choose.Goals.{then-runs, else-runs}

pub loop-i-init : goal.loop-i-init
loop-i-init c =
    record {
      counts = written_none _ _;
      bytes = written_none _ _;
      cut = record { has_room = λ i q. cc; no_room = λ i q. cc };
    }

pub overflow_add-counts : goal.overflow_add-counts
overflow_add-counts c =
    let f = c.args.self.now in
    let raise = raised f.requirements.now f.periods.now f.rungs.now f.t c.args.room c.args.counts.now in
    let old = next_is c.loop-i.i raise c.args.counts.now c.loop-i.counts c.loop-i.invariant.counts in
    let low = c.requires.countable c.loop-i.i (omega arith) in
    omega arith

pub loop-i-preserved : goal.loop-i-preserved
loop-i-preserved c =
    let f = c.args.self.now in
    let i = c.loop-i.i in
    let before = c.args.counts.now in
    let raise = raised f.requirements.now f.periods.now f.rungs.now f.t c.args.room before in
    let pick = picked f.requirements.now f.periods.now f.rungs.now f.t c.args.room in
    let old = next_is i raise before c.loop-i.counts c.loop-i.invariant.counts in
    let runs : bit c.runs-runs.result ≡ pick i = ap bit c.runs-runs.ensures.chosen in
    record {
      counts = elim c.if-runs.branch [
        | then-runs w ↦
            w.counts-is
            ∙ turn_written i raise before c.loop-i.counts c.loop-i.invariant.counts _ (let one : bit c.runs-runs.result ≡ 1 = ap bit w.if-runs.true in omega arith)
        | else-runs w ↦
            w.counts-is
            ∙ turn_kept i raise before c.loop-i.counts c.loop-i.invariant.counts (let none : bit c.runs-runs.result ≡ 0 = ap bit w.if-runs.false in omega arith)
      ];
      bytes = turn_written i pick c.args.bytes.now c.loop-i.bytes c.loop-i.invariant.bytes c.from.result (c.from.ensures ∙ as_byte c.runs-runs.result ∙ runs);
      cut = c.runs-runs.ensures.cut;
    }

pub returns : goal.returns
returns c =
    let f = c.args.self.now in
    let raise = raised f.requirements.now f.periods.now f.rungs.now f.t c.args.room c.args.counts.now in
    let pick = picked f.requirements.now f.periods.now f.rungs.now f.t c.args.room in
    record {
      counts = all_written c.loop-i.i raise c.args.counts.now c.loop-i.counts c.loop-i.invariant.counts (length c.args.counts.now) (omega arith) refl;
      bytes = all_written c.loop-i.i pick c.args.bytes.now c.loop-i.bytes c.loop-i.invariant.bytes (length c.args.counts.now) (omega arith) (omega arith);
    }
