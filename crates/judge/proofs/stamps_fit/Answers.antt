-- The left values and the middle one are read in one run, what the records hold in another.
use Rattle.judge.proofs.Values.{stamps-fit}
use Rattle.judge.proofs.stamps_fit.Goals as goal

pub returns : goal.returns
returns c = stamps-fit _ _ _ _ _ _ c.rise-left.ensures c.fall-right.ensures c.read_u32.ensures c.all_figures.ensures c.all_figures-2.ensures
