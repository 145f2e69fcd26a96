use mathlib.Core.Path.{◌≡◌, ◌∙◌}
use lib.ListN.{length, take}
use Rattle.std.specs.Prelude.{count_by}
use Rattle.std.proofs.Common.{rules}
use Rattle.standing.specs.declared.Rung.{Rung}
use Rattle.slot.proofs.Laws.{count_places}
use Rattle.slot.proofs.Field.count_rungs.Goals as goal

pub returns : goal.returns
returns g c =
    λ passes told.
    let f = c.args.self.now in
    let counted : c.count.result ≡ count_by {X = Rung} passes (take {A = Rung} (length f.requirements.now) f.rungs.now) = search (rules, told) in
    counted ∙ count_places passes (length f.requirements.now) f.rungs.now f.choosing.rung_each
