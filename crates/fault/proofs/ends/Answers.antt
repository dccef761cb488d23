-- `lower` answers the lower of the two verdicts, and `ground` answers each of them.
use mathlib.Core.Path.{◌∙◌, ap₂}
use Rattle.hill.specs.Verdict.{low, ends}
use Rattle.fault.proofs.ends.Goals as goal

pub returns : goal.returns
unfolding ends
returns c = c.lower.ensures ∙ ap₂ low c.ground.ensures c.ground-2.ensures
