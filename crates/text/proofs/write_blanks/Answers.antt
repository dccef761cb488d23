-- The part is filled with blanks.
use Rattle.std.proofs.Common.{◌≡◌, ℕ, zero, suc, ◌-◌, ◌≤◌, List, ◌∷◌, length, replicate, refl, ap, arith, length-take, length-drop}
use Rattle.std.proofs.lemmas.List.Edits.{sets}
use borrow.Rule.Slice.PartMut.{put_mid}
use Rattle.number.specs.Laws.{sets-part}
use Rattle.text.specs.Columns.{blanks}
use Rattle.text.proofs.ColumnLaws.{length-blanks}
use Rattle.text.proofs.write_blanks.Goals as goal

all-blank : (n : ℕ) → replicate n 32 ≡ blanks n
all-blank zero = refl
all-blank (suc n) = ap (λ (l : List ℕ). 32 ∷ l) (all-blank n)

blanked : (at end n : ℕ) (out new : List ℕ) → at ≤ end → end ≤ length out → n ≡ end - at → new ≡ replicate n 32 → put_mid at (end - at) out new ≡ sets out at (blanks (end - at))
blanked at end n out new a e k h =
    rw (h, k, all-blank) (sets-part at (end - at) out (blanks (end - at)) (length-blanks (end - at)) (omega arith))

pub returns : goal.returns
returns c =
    blanked c.args.at c.args.end _ c.args.out.now _ c.requires.0 c.requires.1 (simp (length-take, length-drop) (omega arith)) (c.fill.ensures.after (λ y h. h))
