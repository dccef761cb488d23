-- So far the first j records are on top.
use Rattle.std.proofs.Common.{◌≡◌, ◌∙◌, ℕ, ◌+◌, ◌*◌, arith, w32, w64}
use Rattle.std.proofs.Math.Path.{ap}
use Rattle.number.specs.Bytes.{i32_at, i64_at}
use Rattle.number.specs.Word.{back}
use Rattle.summary.specs.Judge.{rise_at}
use Rattle.slopes.specs.Kept.{arrays_of}
use Rattle.codec.specs.LoadLaws.{next-stacked}
use Rattle.codec.proofs.push_all.Goals as goal

pub loop-j-preserved : goal.loop-j-preserved
loop-j-preserved c =
    let l = c.loop-j in
    let a = c.args in
    let b = a.b.now in
    let j = l.j in
    let e : a.first ≡ 24 + 8 * rise_at b = c.requires.0 in
    next-stacked b a.k j a.n (arrays_of a.slopes.now) l.slopes _ _ _ _ _ (omega arith) (omega arith)
    (back w32 _ c.read_i32-value.type_inv ∙ c.read_i32-value.ensures ∙ ap (λ (f : ℕ). i32_at b (f + 20 * j)) e)
    (back w32 _ c.read_i32-floor.type_inv ∙ c.read_i32-floor.ensures ∙ ap (λ (f : ℕ). i32_at b (f + 20 * j + 4)) e)
    (back w32 _ c.read_i32-ceiling.type_inv ∙ c.read_i32-ceiling.ensures ∙ ap (λ (f : ℕ). i32_at b (f + 20 * j + 8)) e)
    (back w64 _ c.read_i64-h.type_inv ∙ c.read_i64-h.ensures ∙ ap (λ (f : ℕ). i64_at b (f + 20 * j + 12)) e)
    c.push.ensures l.invariant

pub returns : goal.returns
returns c =
    let e : c.loop-j.j ≡ c.args.k = omega arith in
    λ m nl mid p. rw e at (c.loop-j.invariant m nl mid p)
