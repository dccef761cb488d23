-- A record's range by fewer tests, and by its parts. Assumes nothing.
use Rattle.std.specs.Prelude.{◌≡◌, refl, Bool, true, false, ◌&&◌, ℕ, ◌≤◌, T, leb, ℤ, pos}
use Rattle.std.proofs.Math.Bool.{and-false}
use Rattle.std.specs.Int.Signed.{le_z}
use Rattle.std.proofs.Common.{le-leb, leb-true}
use Rattle.number.specs.IntegerLaws.{≤_trans}
use Rattle.record.specs.Record.{least, most, within, amounts_fit, in_range}
use Rattle.record.proofs.Laws.{and_left, and_right}

-- a depth that is known to fit
pub depth-fits : (d : ℕ) (v l h : ℤ) → d ≤ 63 → in_range d v l h ≡ amounts_fit v l h
unfolding in_range
depth-fits d v l h k = rw (le-leb d 63 k)

-- a test that others imply
implied : (v a b c d e : Bool) → (T a → T b → T e) → (T b → T c → T d) → v && a && b && c ≡ v && (a && d) && (e && c) && b
implied v a false c d e p q = simp and-false
implied v a true false d e p q = simp and-false
implied v false true true d e p q = simp and-false
implied v true true true true true p q = refl
implied v true true true false e p q = absurd (q tt tt)
implied v true true true true false p q = absurd (p tt tt)

-- in order, the floor needs the lower limit only, and the ceiling the upper one
pub ordered-fits : (v l h : ℤ) → within v && le_z least l && le_z l h && le_z h most ≡ amounts_fit v l h
unfolding within
ordered-fits v l h =
    implied (within v) (le_z least l) (le_z l h) (le_z h most) (le_z l most) (le_z least h)
    (λ x y. (≤_trans {a = least} {b = l} {c = h} (record { le = x }) (record { le = y })).le)
    (λ x y. (≤_trans {a = l} {b = h} {c = most} (record { le = x }) (record { le = y })).le)

-- what is known of numbers in range
pub record RangeParts (d : ℕ) (v l h : ℤ) : Type 0 where
  pub depth : d ≤ 63
  pub value : within v ≡ true
  pub floor : within l ≡ true
  pub ceiling : within h ≡ true

pub range-parts : (d : ℕ) (v l h : ℤ) → in_range d v l h ≡ true → RangeParts d v l h
unfolding in_range
range-parts d v l h e =
    let amounts = and_right (leb d 63) (amounts_fit v l h) e in
    let three = and_left (within v && within l && within h) (le_z l h) amounts in
    let two = and_left (within v && within l) (within h) three in
    record {
      depth = leb-true d 63 (and_left (leb d 63) (amounts_fit v l h) e);
      value = and_left (within v) (within l) two;
      floor = and_right (within v) (within l) two;
      ceiling = and_right (within v && within l) (within h) three;
    }

-- a close has no other number than its depth
pub close-in-range : (d : ℕ) → d ≤ 63 → in_range d (pos 0) (pos 0) (pos 0) ≡ true
unfolding in_range within
close-in-range d h = rw (le-leb d 63 h)
