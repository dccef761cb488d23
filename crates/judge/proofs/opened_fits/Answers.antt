-- The code's `&` is the definition's `&&`.
use Rattle.summary.specs.Decide.{opened_fits}
use Rattle.judge.proofs.opened_fits.Goals as goal

pub returns : goal.returns
unfolding opened_fits
returns c = simp (c.read_u16-start.ensures, c.read_u16-peak.ensures, c.read_u16-end.ensures, c.read_u32-opened.ensures)
