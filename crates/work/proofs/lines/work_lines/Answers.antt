-- `work::lines::work_lines` meets its contract: the last outcome, or the one middle value.
use Rattle.std.proofs.Common.{◌-◌, ◌^◌, ◌<◌, length, get_or, pos, rules}
use lib.Signed.{mag}
use mir.Syntax.{w64}
use Rattle.number.specs.Word.{back}
use Rattle.work.specs.LinesLaws.{no-lines, some-lines, figure-none, figure-last}
use Rattle.work.proofs.lines.work_lines.Goals as goal

pub returns-then-is_empty : goal.returns-then-is_empty
returns-then-is_empty c = figure-none c.requires _ _ (back w64 _ c.one_middle.type_inv) (no-lines c.args.lines.now c.if-is_empty.ensures) c.one_middle.ensures

pub returns : goal.returns
returns c =
    let outs = c.work_each.new.outs in
    let h : mag (get_or outs (length c.args.lines.now - 1) (pos 0)) < 2 ^ 63 = search rules in
    figure-last c.requires outs _ (back w64 _ h) (some-lines c.args.lines.now c.if-is_empty.ensures) c.work_each.ensures
