-- The code's `&` is the definition's `&&`.
use Rattle.summary.specs.Decide.{layout_fits}
use Rattle.judge.proofs.layout_fits.Goals as goal

pub returns : goal.returns
unfolding layout_fits
returns c = simp (c.read_u16.ensures, c.read_u16-2.ensures, c.read_u16-3.ensures, c.in_use.ensures)
