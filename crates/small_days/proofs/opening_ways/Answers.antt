-- The table has what is asked.
use Rattle.std.proofs.Common.{◌≡◌, List, [], ℕ, refl, ap, ◌∙◌, get_or}
use Rattle.day_list.specs.Days.{ways}
use Rattle.small_days.specs.declared.TheConstants.{OPENING_WAYS}
use Rattle.small_days.specs.WaysTable.{entry, ways_table, ways-at}
use Rattle.small_days.proofs.opening_ways.Goals as goal

table-is : OPENING_WAYS ≡ ways_table
unfolding ways entry ways_table
table-is = refl

pub returns : goal.returns
returns c =
    let a = c.args in
    ap (λ (t : List (List ℕ)). get_or (get_or t a.left []) a.level 0) table-is ∙ ways-at a.left a.level c.requires
