-- The code's `&` is the definition's `&&`.
use Rattle.summary.specs.Decide.{levels_fit}
use Rattle.judge.proofs.levels_fit.Goals as goal

pub returns : goal.returns
unfolding levels_fit
returns c = simp (c.read_u16-start.ensures, c.read_u16-peak.ensures, c.read_u16-end.ensures)
