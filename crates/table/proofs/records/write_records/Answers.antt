-- Each turn writes the closes down to a line's depth, and its open.
use mathlib.Core.Path.{◌∙◌}
use native.Mathlib.Omega.{arith}
use mir.Syntax.{w32}
use Rattle.number.specs.Word.{back}
use Rattle.table.specs.LoopLaws.{cut, low, closes-fit, open-fits, line-written, last_fit, log-written}
use Rattle.table.proofs.records.write_records.Goals as goal

pub write_closes-at-requires : goal.write_closes-at-requires
write_closes-at-requires c = let i = c.loop-line.invariant in let e = c.in-Some.ensures.steps in closes-fit i.log (cut e.1.0 e.1.1 i.size) c.read_u16-depth.ensures

pub write_open-requires : goal.write_open-requires
write_open-requires c = let i = c.loop-line.invariant in let e = c.in-Some.ensures.steps in open-fits i.log (cut e.1.0 e.1.1 i.size) c.read_u16-depth.ensures c.write_closes-at.ensures

pub overflow_add-at : goal.overflow_add-at
overflow_add-at c = let i = c.loop-line.invariant in let e = c.in-Some.ensures.steps in record { fits = omega (arith, open-fits i.log (cut e.1.0 e.1.1 i.size) c.read_u16-depth.ensures c.write_closes-at.ensures) }

pub overflow_add-level : goal.overflow_add-level
overflow_add-level c = let i = c.loop-line.invariant in let e = c.in-Some.ensures.steps in record { fits = omega (arith, low i.log (cut e.1.0 e.1.1 i.size), c.read_u16-depth.ensures) }

pub loop-line-preserved : goal.loop-line-preserved
loop-line-preserved c =
    let i = c.loop-line.invariant in
    let e = c.in-Some.ensures.steps in
    record {
      log = line-written i.log (cut e.1.0 e.1.1 i.size) c.read_u16-depth.ensures c.write_closes-at.ensures
          (back w32 _ c.read_i32.type_inv ∙ c.read_i32.ensures) (back w32 _ c.read_i32-in-loop-line.type_inv ∙ c.read_i32-in-loop-line.ensures) (back w32 _ c.read_i32-in-loop-line-2.type_inv ∙ c.read_i32-in-loop-line-2.ensures)
          c.write_open.ensures;
      size = e.0 ∙ i.size;
    }

pub write_closes-requires : goal.write_closes-requires
write_closes-requires c = let i = c.loop-line.invariant in let e = c.in-None.ensures.steps in last_fit i.log (omega (arith, e.1.0, i.size))

pub returns : goal.returns
returns c = let i = c.loop-line.invariant in let e = c.in-None.ensures.steps in (log-written i.log (omega (arith, e.1.0, i.size)) c.write_closes.ensures).buffer
