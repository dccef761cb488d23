-- Writing bytes piece by piece into a buffer: what a loop keeps from turn to turn, and what it comes to. Assumes nothing.
use Rattle.std.specs.Prelude.{◌≡◌, refl, List, [], ◌++◌, ℕ, ◌+◌, ◌≤◌, length}
use Rattle.std.proofs.Common.{sym, ap, ◌∙◌, arith, length-append}
use Rattle.std.proofs.lemmas.List.Edits.{sets}
use Rattle.std.proofs.Math.Seq.{length-sets}
use Rattle.number.specs.Laws.{sets-append}

-- The bytes w are stored from `start` on, and `end` is where they end.
pub record StoredAt (w : List ℕ) (start : ℕ) (before after : List ℕ) (end : ℕ) : Type 0 where
  pub ends : end ≡ start + length w
  pub buffer : after ≡ sets before start w

-- Of the bytes w, which go into the buffer from `start` on, `left` are still to be stored, from `at` on.
pub record Writing (w : List ℕ) (start : ℕ) (before left : List ℕ) (at : ℕ) (out : List ℕ) : Type 0 where
  pub same : sets out at left ≡ sets before start w
  pub ends : at + length left ≡ start + length w
  pub size : length out ≡ length before
  pub room : at + length left ≤ length before

pub begin : (w : List ℕ) (start : ℕ) (before : List ℕ) → start + length w ≤ length before → Writing w start before w start before
begin w start before h = record { same = refl; ends = refl; size = refl; room = h }

module _ {w : List ℕ} {start : ℕ} {before left : List ℕ} {at : ℕ} {out : List ℕ} (i : Writing w start before left at out) where
  -- a piece fits, ..
  pub fits : (x left' : List ℕ) → left ≡ x ++ left' → at + length x ≤ length out
  fits x left' e = omega (arith, i.size, i.room, ap length e, length-append x left')

  -- .. and once it is stored, what is left is the rest
  pub next : (x : List ℕ) {left' out' : List ℕ} {at' : ℕ} → left ≡ x ++ left' → out' ≡ sets out at x → at' ≡ at + length x → Writing w start before left' at' out'
  next x {left'} {out'} {at'} e s p =
      let n : length out' ≡ length out = ap length s ∙ length-sets out at x in
      let l : length left ≡ length x + length left' = ap length e ∙ length-append x left' in
      record {
        same = rw (s, p) (sym (sets-append out at x left') ∙ ap (sets out at) (sym e) ∙ i.same);
        ends = omega (arith, i.ends);
        size = n ∙ i.size;
        room = omega (arith, i.room);
      }

  pub done : left ≡ [] → StoredAt w start before out at
  done e = record { ends = omega (arith, i.ends, ap length e); buffer = rw e at i.same }
