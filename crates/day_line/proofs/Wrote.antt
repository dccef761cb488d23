-- A text that is written from the start of a buffer, item by item. Assumes nothing.
use mathlib.Core.Path.{◌≡◌, ap, ◌∙◌}
use mathlib.Core.Logic.{dite}
use mathlib.Core.List.{List, [], ◌∷◌, ◌++◌, append_assoc}
use Prim.Native.Nat.{ℕ, suc, ◌+◌, ◌-◌, ◌^◌, ◌≤◌}
use native.Mathlib.Decide.{dec_lt}
use native.Mathlib.Nat.{zero-add}
use native.Mathlib.Omega.{arith}
use lib.ListN.{length, length-append}
use lib.Seq.{sets}
use borrow.Author.Tests.{lt-ltb, le-ltb}
use lib.IntN.{ℤ, pos, negsuc}
use mir.Syntax.{w64}
use mir.Val.{to_z}
use Rattle.gate.specs.Outcome.{refused, granted}
use Rattle.number.specs.Laws.{sets-append}
use Rattle.text.specs.Decimal.{decimal_of}
use Rattle.text.proofs.DecimalLaws.{decimal-length}
use Rattle.outcome.specs.Line.{ascii, line_text, day_line}
use Rattle.outcome.specs.declared.Figures.{Figures}

-- the text so far, what the buffer holds with it, and where it ends
pub record Wrote (before text now : List ℕ) (at : ℕ) : Type 0 where
  pub is : now ≡ sets before 0 text
  pub end : at ≡ length text

-- the number that any 64 bits stand for
pub short : (b : ℕ) → length (decimal_of (to_z w64 b)) ≤ 20
short b =
    dite (dec_lt b (2 ^ 63))
    (λ h. rw (lt-ltb b (2 ^ 63) h) (decimal-length (pos b) (record { sfits = h })))
    (λ h. rw (le-ltb b (2 ^ 63) (omega arith)) (decimal-length (negsuc (2 ^ 64 - suc b)) (record { sfits = omega arith })))

-- a number and the byte after it
abbrev pub item : ℤ → ℕ → List ℕ
item z after = decimal_of z ++ (after ∷ [])

-- what `write_item` ensures of a number as a local holds it, y, is one item more of the number itself, z
pub next : {before text now now' : List ℕ} {at at' : ℕ} {y z : ℤ} (after : ℕ) → Wrote before text now at → y ≡ z
    → at' ≡ at + (length (decimal_of y) + 1) → now' ≡ sets now at (item y after)
    → Wrote before (text ++ item z after) now' at'
next {before} {text} {now} {now'} {at} {at'} {y} {z} after w e p q =
    let whole : length (text ++ item z after) ≡ length text + (length (decimal_of z) + 1) = length-append text (item z after) ∙ ap (λ (k : ℕ). length text + k) (length-append (decimal_of z) (after ∷ [])) in
    let same : length (decimal_of y) ≡ length (decimal_of z) = ap (λ (x : ℤ). length (decimal_of x)) e in
    record {
      is = q ∙ ap (λ (x : ℤ). sets now at (item x after)) e ∙ rw (w.is, w.end, sets-append before 0 text (item z after), zero-add);
      end = omega arith;
    }

-- the four items are the line, and so are a refusal's word and number
pub four : (f : Figures) → item f.net 32 ++ item f.heaviest 32 ++ item f.eaten 32 ++ item f.stamp 10 ≡ day_line (granted f)
unfolding day_line line_text ascii
four f = simp append_assoc

pub word : (n : ℕ) → ascii "refused " ++ item (pos n) 10 ≡ day_line (refused n)
unfolding day_line line_text ascii decimal_of
word n = simp append_assoc
