use Rattle.std.proofs.Common.{◌^◌}
use Rattle.number.specs.Modulo.{times_mod}
use Rattle.run_back.specs.Inverse.{newton}
use Rattle.backwards.proofs.newton_step.Goals as goal

pub returns : goal.returns
unfolding newton
returns c = times_mod c.args.x _ (2 ^ 32)
