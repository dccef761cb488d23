-- What writing the log comes to, question by question. Assumes nothing.
use Rattle.std.specs.Prelude.{◌≡◌, true, List, ℕ, ◌%◌, ◌≤◌, length}
use Rattle.day_table.specs.Table.{nested}
use Rattle.day_table.specs.Outcomes.{table_lines, all_could_hold}

-- A table that is taken: 2, 3, 13 and 10 get a "yes".
pub record Taken (table : List ℕ) : Type 0 where
  pub short : length table ≤ 38_220
  pub whole : length table % 14 ≡ 0
  pub readable : all_could_hold (table_lines table) ≡ true
  pub in_order : nested (table_lines table) ≡ true
  pub some : 1 ≤ length (table_lines table)
