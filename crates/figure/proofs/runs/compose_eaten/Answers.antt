-- What the inner run gives, adds and ends at, put through the outer one; each sum fits.
use Rattle.std.proofs.Common.{◌∙◌, w64, rules}
use Rattle.number.specs.Word.{back}
use Rattle.figure.specs.Mode.{mode_of}
use Rattle.figure.specs.Stored.{run_after}
use Rattle.figure.proofs.Rooms.{Back, fields_back, eaten-room}
use Rattle.figure.proofs.runs.compose_eaten.Goals as goal

pub clamped_sum-first-requires : goal.clamped_sum-first-requires
clamped_sum-first-requires c =
    let f : Back c.args.outer = fields_back c.args.outer (search rules) (search rules) (search rules) (search rules) in
    let g : Back c.args.inner = fields_back c.args.inner (search rules) (search rules) (search rules) (search rules) in
    simp (f.second_back, g.first_back) (eaten-room c.args.outer c.args.inner c.requires).empty

pub sum-second-requires : goal.sum-second-requires
sum-second-requires c =
    let f : Back c.args.outer = fields_back c.args.outer (search rules) (search rules) (search rules) (search rules) in
    let g : Back c.args.inner = fields_back c.args.inner (search rules) (search rules) (search rules) (search rules) in
    simp (f.second_back, g.second_back) (eaten-room c.args.outer c.args.inner c.requires).add

pub clamped_sum-third-requires : goal.clamped_sum-third-requires
clamped_sum-third-requires c =
    let f : Back c.args.outer = fields_back c.args.outer (search rules) (search rules) (search rules) (search rules) in
    let g : Back c.args.inner = fields_back c.args.inner (search rules) (search rules) (search rules) (search rules) in
    simp (f.second_back, g.third_back) (eaten-room c.args.outer c.args.inner c.requires).low

pub clamped_sum-fourth-requires : goal.clamped_sum-fourth-requires
clamped_sum-fourth-requires c =
    let f : Back c.args.outer = fields_back c.args.outer (search rules) (search rules) (search rules) (search rules) in
    let g : Back c.args.inner = fields_back c.args.inner (search rules) (search rules) (search rules) (search rules) in
    simp (f.second_back, g.fourth-back) (eaten-room c.args.outer c.args.inner c.requires).high

pub returns : goal.returns
unfolding run_after mode_of
returns c =
    let f : Back c.args.outer = fields_back c.args.outer (search rules) (search rules) (search rules) (search rules) in
    let g : Back c.args.inner = fields_back c.args.inner (search rules) (search rules) (search rules) (search rules) in
    let first = back w64 c.clamped_sum-first.result c.clamped_sum-first.type_inv
    ∙ (simp (f.second_back, f.third_back, f.fourth-back, g.first_back) at c.clamped_sum-first.ensures) in
    let second = back w64 c.sum-second.result c.sum-second.type_inv ∙ (simp (f.second_back, g.second_back) at c.sum-second.ensures) in
    let third = back w64 c.clamped_sum-third.result c.clamped_sum-third.type_inv
    ∙ (simp (f.second_back, f.third_back, f.fourth-back, g.third_back) at c.clamped_sum-third.ensures) in
    let fourth = back w64 c.clamped_sum-fourth.result c.clamped_sum-fourth.type_inv
    ∙ (simp (f.second_back, f.third_back, f.fourth-back, g.fourth-back) at c.clamped_sum-fourth.ensures) in
    λ i. record { first = first i; second = second i; third = third i; fourth = fourth i }
