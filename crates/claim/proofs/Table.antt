-- The table of proved cases, "(P)": each row holds, by computation. Assumes nothing.
use Rattle.std.specs.Prelude.{refl}
use mathlib.Core.List.{flat_map}
use Rattle.algebra.specs.Run.{run_on}
use Rattle.number.specs.Bytes.{le_at, bytes_of}
use Rattle.number.specs.Integer.{min_z, max_z, clamp, wrap}
use Rattle.row.specs.Row.{first_length, pieces_in, row_pieces}
use Rattle.record.specs.Record.{within, in_range, accepted, whole, by_shape, read_of, records_in, records_of}
use Rattle.modes.specs.FourModes.{lift, line_of, eaten_of, store_held, read_held, is_stamp}
use Rattle.modes.specs.Run.{at_least, eaten_along}
use Rattle.modes.specs.Runs.{moved}
use Rattle.figure.specs.Mode.{mode_of, mode_in_use}
use Rattle.hill.specs.Verdict.{joint, count, cut, ends}
use Rattle.summary.specs.Layout.{encode}
use Rattle.summary.specs.Judge.{sum_to, nothing_in, counted}
use Rattle.summary.specs.Decode.{decode}
use Rattle.summary.specs.Decide.{all_to, layout_fits, spoilt_fits, levels_fit, opened_fits, middle_fits, records_fit, values_fit, hill_fits, is_summary}
use Rattle.summary.specs.Outcomes.{summary_bytes, summarise_outcome, finish_outcome}
use Rattle.join_plan.specs.Plan.{left_open, up_to, down_from, select, depths_joined, line_for, plan_of}
use Rattle.plan_work.specs.Runs.{levels_down, run_levels, runs_along}
use Rattle.text.specs.Decimal.{digits_in, digits_of, decimal_of}
use Rattle.chunk.specs.Chunk.{figure_in, whole_log}
use Rattle.outcome.specs.Day.{figures_of, day_outcome}
use Rattle.outcome.specs.Line.{ascii, line_text, day_line}
use Rattle.outcome.specs.Outcomes.{two_to64, ask_row, ask_log, line_bytes, plan_bytes, run_length, run_bytes, runs_bytes, plan_outcome, runs_outcome}
use Rattle.run_back.specs.Decide.{stamp_fits, numbers_fit, is_run_bytes}
use Rattle.run_back.specs.Inverse.{newton, inverse}
use Rattle.run_back.specs.Backwards.{inner_of, outer_fits, backwards_outcome}
use Rattle.claim.specs.Table.{AllHold, table}

pub proved-cases : AllHold table
unfolding le_at bytes_of min_z max_z clamp wrap lift line_of eaten_of store_held read_held at_least eaten_along moved run_on first_length pieces_in row_pieces within in_range accepted whole by_shape read_of records_in records_of mode_in_use mode_of joint count cut ends encode decode sum_to nothing_in counted is_stamp all_to layout_fits spoilt_fits levels_fit opened_fits middle_fits records_fit values_fit hill_fits is_summary summary_bytes summarise_outcome finish_outcome left_open up_to down_from select depths_joined line_for plan_of flat_map levels_down run_levels runs_along two_to64 ask_row ask_log line_bytes plan_bytes run_length run_bytes runs_bytes plan_outcome runs_outcome stamp_fits numbers_fit is_run_bytes newton inverse inner_of outer_fits backwards_outcome digits_in digits_of decimal_of ascii line_text day_line whole_log figure_in figures_of day_outcome
proved-cases = (refl, (refl, (refl, (refl, (refl, (refl, (refl, (refl, (refl, (refl, (refl, (refl, (refl, (refl, tt))))))))))))))
