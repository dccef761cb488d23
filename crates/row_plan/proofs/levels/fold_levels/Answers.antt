-- `row_plan::levels::fold_levels` meets its contract: one line more at each turn.
use Rattle.std.proofs.Common.{◌≡◌, ◌∙◌, rules, sum_by}
use Rattle.row_plan.specs.LevelsLaws.{levels_held, sum-folded}
use Rattle.row_plan.proofs.levels.fold_levels.Goals as goal

pub returns : goal.returns
returns c =
    let e : c.sum.result ≡ sum_by levels_held c.args.lines.now = search rules in
    e ∙ sum-folded c.args.lines.now
