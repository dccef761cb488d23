-- Its cases are those of the definition.
use Rattle.std.proofs.Common.{arith}
use Rattle.std.proofs.lemmas.Grind.{common_steps}
use Rattle.row.specs.Row.{first_length}
use Rattle.row.proofs.first_length.Goals as goal

pub returns-then-rest-lt2 : goal.returns-then-rest-lt2
unfolding first_length
returns-then-rest-lt2 c = grind (arith, common_steps)

pub returns-then-field-lt6 : goal.returns-then-field-lt6
unfolding first_length
returns-then-field-lt6 c = grind (arith, common_steps)

pub returns : goal.returns
unfolding first_length
returns c = grind (arith, common_steps)
