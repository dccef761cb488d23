-- The sum of the two numbers, which fits.
use Rattle.std.proofs.Common.{pos, ◌∙◌, w64, rules}
use Rattle.number.specs.Word.{back}
use Rattle.figure.specs.Mode.{mode_of}
use Rattle.figure.specs.Stored.{run_after}
use Rattle.figure.proofs.Rooms.{Back, fields_back, net-room}
use Rattle.figure.proofs.runs.compose_net.Goals as goal

pub sum-c-requires : goal.sum-c-requires
sum-c-requires c =
    let f : Back c.args.outer = fields_back c.args.outer (search rules) (search rules) (search rules) (search rules) in
    let g : Back c.args.inner = fields_back c.args.inner (search rules) (search rules) (search rules) (search rules) in
    simp (f.first_back, g.first_back) (net-room c.args.outer c.args.inner c.requires)

pub returns : goal.returns
unfolding run_after mode_of
returns c =
    let f : Back c.args.outer = fields_back c.args.outer (search rules) (search rules) (search rules) (search rules) in
    let g : Back c.args.inner = fields_back c.args.inner (search rules) (search rules) (search rules) (search rules) in
    let a = back w64 c.sum-c.result c.sum-c.type_inv ∙ (simp (f.first_back, g.first_back) at c.sum-c.ensures) in
    λ i. record { first = a i; second = pos 0; third = pos 0; fourth = pos 0 }
