-- `runs::bytes::write_front` meets its contract: three numbers of two bytes and three of eight.
use native.Mathlib.Omega.{arith}
use mir.Syntax.{w64}
use Rattle.number.specs.Word.{back}
use Rattle.outcome.proofs.RunLaws.{length_most}
use Rattle.runs.specs.BytesLaws.{front-written}
use borrow.Author.Rules.{rules}
use Rattle.runs.proofs.bytes.write_front.Goals as goal

pub overflow_cast-bytes : goal.overflow_cast-bytes
overflow_cast-bytes c = record { fits = omega (arith, c.run_length-bytes.ensures, length_most c.args.mode) }

pub returns : goal.returns
returns c =
    let a = c.args in
    front-written a.out.now _ _ _ _ _ _ a.at _ a.mode a.run _ _ _ c.run_length-bytes.ensures c.write_u16.ensures c.write_u16-2.ensures c.write_u16-3.ensures c.write_i64.ensures c.write_i64-2.ensures c.write_i64-3.ensures (back w64 a.run.first (search rules)) (back w64 a.run.second (search rules)) (back w64 a.run.third (search rules))
