-- The row is opened, then comes the work along its plan: specs/CallLaws.antt.
use mir.Syntax.{w64}
use Rattle.number.specs.Word.{back}
use Rattle.row_plan.specs.RowLaws.{plan-room}
use Rattle.run_level.specs.AlongLaws.{along}
use Rattle.work.specs.CallLaws.{work-refused, work-answered}
use Rattle.work.proofs.work.Goals as goal

pub returns-in-Err : goal.returns-in-Err
returns-in-Err c = record { answer = work-refused c.args.row.now _ c.in-Err.ensures.found }

pub scan-n-requires-clause-count_len_bound : goal.scan-n-requires-clause-count_len_bound
scan-n-requires-clause-count_len_bound c = plan-room c.in-Ok.ensures.found

pub work_lines-figure-requires : goal.work_lines-figure-requires
work_lines-figure-requires c = along c.in-Ok.ensures.found c.scan-n.ensures c.begin_pieces.ensures

pub returns : goal.returns
returns c = record { answer = work-answered c.in-Ok.ensures.found c.scan-n.ensures _ _ _ (back w64 _ c.work_lines-figure.type_inv) c.work_lines-figure.ensures c.fold_levels.ensures }
