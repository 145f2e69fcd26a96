-- Both products are below 2^63, so the casts keep them and their difference fits.
use mir.Syntax.{w64}
use mir.ValLaws.{to_z_pos, to_z-of_z}
use Rattle.rule.specs.Task.{lag as lag_of}
use Rattle.standing.proofs.Integers.{difference_fits}
use Rattle.standing.proofs.Task.lag.Goals as goal

pub returns : goal.returns
unfolding lag_of
returns c =
    rw (c.from.ensures, c.from-2.ensures, c.from-3.ensures)
    (simp (to_z_pos w64 _ c.requires.t_bound, to_z_pos w64 _ c.requires.k_bound) (to_z-of_z w64 _ (difference_fits _ _ c.requires.t_bound c.requires.k_bound)))
