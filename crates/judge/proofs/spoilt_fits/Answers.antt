-- The code's `&` is the definition's `&&`.
use Rattle.summary.specs.Decide.{spoilt_fits}
use Rattle.judge.proofs.spoilt_fits.Goals as goal

pub returns : goal.returns
unfolding spoilt_fits
returns c = simp (c.read_u16-fault.ensures, c.read_u32-opened.ensures, c.read_u16.ensures, c.read_u16-2.ensures)
