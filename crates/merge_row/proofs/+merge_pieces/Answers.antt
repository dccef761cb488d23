-- One piece is taken as it stands; else the right half, put aside unless it is one piece, is added to the left one.
use mathlib.Core.Path.{◌≡◌, refl, sym, ap, subst, ◌∙◌}
use Prim.Native.Nat.{◌≤◌}
use native.Mathlib.Omega.{arith}
use borrow.Author.Rules.{rules}
use lib.ListN.{length, length-take}
use Rattle.hill.specs.Summary.{blank}
use Rattle.summary.specs.Decode.{decode}
use Rattle.summary.specs.Accepted.{IsSummaryIn}
use Rattle.merging.specs.Asks.{Kept}
use Rattle.merge_row.specs.FrontLaws.{front-stays, part_length}
use Rattle.merge_row.specs.RowLaws.{one_piece, summary-is, summary-fits, summary-says, inside, left-row, rest-row, halves-added, fewer-wait, others-wait}
use Rattle.merge_row.proofs.+merge_pieces.Goals as goal

pub add_piece-requires-clause-summary_in : goal.add_piece-requires-clause-summary_in
add_piece-requires-clause-summary_in t c = (one_piece c.requires.row c.if-count-lt2.true).is

pub returns-then-count-lt2 : goal.returns-then-count-lt2
returns-then-count-lt2 t c =
    subst (Kept c.args.mode c.add_piece.new.self) (sym (one_piece c.requires.row c.if-count-lt2.true).says)
    (c.add_piece.ensures blank c.clear.ensures)

pub slice_bounds-front-end : goal.slice_bounds-front-end
slice_bounds-front-end t c = simp length-take (omega (arith, inside c.requires.row c.if-count-lt2.false refl c.end_of-at.ensures))

pub slice_bounds-back-count : goal.slice_bounds-back-count
slice_bounds-back-count t c = inside c.requires.row c.if-count-lt2.false refl c.end_of-at.ensures

pub slice_bounds-back-start : goal.slice_bounds-back-start
slice_bounds-back-start t c = inside c.requires.row c.if-count-lt2.false refl c.end_of-at.ensures

pub merge_pieces-requires : goal.merge_pieces-requires
merge_pieces-requires t c = (
  omega (arith, c.decreases),
  (left-row c.requires.row c.if-count-lt2.false refl c.end_of-at.ensures, (fewer-wait c.requires.room (omega arith), c.requires.arrays64)),
)

pub add_piece-requires-then-rest-lt2-clause-summary_in : goal.add_piece-requires-then-rest-lt2-clause-summary_in
add_piece-requires-then-rest-lt2-clause-summary_in t c = (one_piece (rest-row c.requires.row c.if-count-lt2.false refl c.end_of-at.ensures) c.if-rest-lt2.true).is

pub returns-then-rest-lt2 : goal.returns-then-rest-lt2
returns-then-rest-lt2 t c =
    let m = c.args.mode in
    let one = one_piece (rest-row c.requires.row c.if-count-lt2.false refl c.end_of-at.ensures) c.if-rest-lt2.true in
    subst (Kept m c.add_piece-then-rest-lt2.new.self) (halves-added c.requires.row c.if-count-lt2.false refl c.end_of-at.ensures _ (sym one.says))
    (c.add_piece-then-rest-lt2.ensures _ c.merge_pieces.ensures)

pub merge_pieces-requires-2 : goal.merge_pieces-requires-2
merge_pieces-requires-2 t c = (
  omega (arith, c.decreases),
  (rest-row c.requires.row c.if-count-lt2.false refl c.end_of-at.ensures, (fewer-wait c.requires.room (omega arith), c.requires.arrays64)),
)

pub merge_pieces-requires-3 : goal.merge_pieces-requires-3
merge_pieces-requires-3 t c =
    let n = c.put_aside-n.result in
    let r = rest-row c.requires.row c.if-count-lt2.false refl c.end_of-at.ensures in
    let f = c.put_aside-n.ensures _ c.merge_pieces-2.ensures in
    let l : n ≤ 1788 = omega (arith, f.count, ap length f.is, summary-fits r) in
    let e : length c.put_aside-n.new.aside ≡ length c.args.aside.now = search rules in (
      omega (arith, c.decreases),
      (
        left-row c.requires.row c.if-count-lt2.false refl c.end_of-at.ensures,
        (rw (part_length n c.put_aside-n.new.aside, e) (others-wait c.requires.room (omega arith) l), c.merge_pieces-2.ensures.whole),
      ),
    )

pub add_piece-requires-2-clause-summary_in : goal.add_piece-requires-2-clause-summary_in
add_piece-requires-2-clause-summary_in t c =
    let f = c.put_aside-n.ensures _ c.merge_pieces-2.ensures in
    subst (IsSummaryIn c.args.mode) (sym (front-stays f _).is) (summary-is (rest-row c.requires.row c.if-count-lt2.false refl c.end_of-at.ensures))

pub returns : goal.returns
returns t c =
    let m = c.args.mode in
    let f = c.put_aside-n.ensures _ c.merge_pieces-2.ensures in
    let r = rest-row c.requires.row c.if-count-lt2.false refl c.end_of-at.ensures in
    subst (Kept m c.add_piece-2.new.self) (halves-added c.requires.row c.if-count-lt2.false refl c.end_of-at.ensures _ (ap (decode m) (front-stays f _).is ∙ summary-says r))
    (c.add_piece-2.ensures _ c.merge_pieces-3.ensures)
