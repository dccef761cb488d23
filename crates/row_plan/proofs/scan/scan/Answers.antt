-- `row_plan::scan::scan` meets its contract: the lines of the chunks passed are kept, and the depths that they leave open are noted.
use Rattle.std.proofs.Common.{◌∙◌, ap, sym, rules, arith}
use Rattle.row_plan.specs.Arrays.{levels_at, open_depths}
use Rattle.row_plan.specs.ScanLaws.{depths-start, depths-more, scan-start, scan-room, scan-next, scan-end}
use Rattle.row_plan.proofs.scan.scan.Goals as goal

pub loop-j-init : goal.loop-j-init
loop-j-init c = (scan-start (levels_at c.args.notes.now) c.args.lines.now, depths-start c.args.notes.now _ (search rules))

pub lines_to-n-requires-clause-noted : goal.lines_to-n-requires-clause-noted
lines_to-n-requires-clause-noted c = c.loop-j.invariant.1

pub lines_to-n-requires-clause-n_bound : goal.lines_to-n-requires-clause-n_bound
lines_to-n-requires-clause-n_bound c =
    let a = c.args in
    let l = c.loop-j in
    scan-room (levels_at a.notes.now) a.count l.lines l.n l.j l.invariant.0 (omega arith) c.requires.count_len_bound

pub loop-j-preserved : goal.loop-j-preserved
loop-j-preserved c =
    let a = c.args in
    let l = c.loop-j in (
      scan-next (levels_at a.notes.now) a.count l.lines l.n l.j l.invariant.0 c.lines_to-n.result c.lines_to-n.new.lines c.lines_to-n.ensures,
      depths-more a.notes.now l.depths l.j _ l.invariant.1 (omega arith) (c.open_depths.ensures ∙ ap open_depths (sym c.hill_at.ensures)),
    )

pub returns : goal.returns
returns c =
    let a = c.args in
    let l = c.loop-j in
    scan-end (levels_at a.notes.now) a.count l.lines l.n l.j l.invariant.0 a.lines.now (omega arith)
