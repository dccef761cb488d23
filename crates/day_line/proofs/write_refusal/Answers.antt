-- The word is copied to the start, and the number is one item more.
use Rattle.std.proofs.Common.{◌≡◌, ℕ, ◌≤◌, List, length, refl, ap, ◌∙◌, arith, pos, w64, to_z}
use Rattle.std.proofs.lemmas.Int.{to_z_pos}
use borrow.Rule.Slice.PartMut.{put_mid}
use Rattle.number.specs.Laws.{sets-part}
use Rattle.gate.specs.Answers.{number_of}
use Rattle.outcome.specs.Line.{ascii}
use Rattle.day_line.proofs.Wrote.{Wrote, next, word, short}
use Rattle.day_line.proofs.write_refusal.Goals as goal

copied : (out is : List ℕ) → 8 ≤ length out → is ≡ ascii "refused " → Wrote out (ascii "refused ") (put_mid 0 8 out is) 8
unfolding ascii
copied out is h e = record { is = rw e (sets-part 0 8 out (ascii "refused ") refl h); end = refl }

pub returns : goal.returns
unfolding ascii
returns c =
    let o = c.args.out.now in
    let r = number_of c.args.no in
    let w = copied o c.copy_from_slice.new.self (omega arith) c.copy_from_slice.ensures.after in
    let n : to_z w64 c.number.result ≡ pos r = to_z_pos w64 c.number.result (omega arith) ∙ ap pos c.number.ensures in
    let x = next 10 w n c.write_item.ensures.answer c.write_item.ensures.buffer in
    record { answer = rw (← word r) x.end; buffer = rw (← word r) x.is; fits = omega (arith, short) }
