-- The lines of a plan written one after the other. Assumes nothing.
use Rattle.std.specs.Prelude.{◌≡◌, refl, List, [], ◌∷◌, ◌++◌, ℕ, ◌+◌, ◌*◌, ◌<◌, length, take, get_or}
use Rattle.std.proofs.Common.{sym, ap, ap₂, ◌∙◌, append_assoc, append-nil, arith}
use Rattle.std.proofs.lemmas.List.{map-append, take_more}
use Rattle.std.proofs.lemmas.List.Edits.{sets}
use Rattle.number.specs.Bytes.{bytes_of, put_at}
use Rattle.number.specs.Laws.{sets-append}
use Rattle.join_plan.specs.Plan.{Line}
use Rattle.outcome.specs.Outcomes.{line_bytes, lines_bytes}
use Rattle.outcome.proofs.Through.{lines-length}
use Rattle.row_plan.specs.declared.Line.{Line as HeldLine}
use Rattle.row_plan.specs.Arrays.{line_in, lines_in}
use Rattle.row_plan.specs.ScanLaws.{length-lines}
use Rattle.row_plan.specs.WroteLaws.{put_next}

-- the six stores of a line
line-stored : (b : List ℕ) (at : ℕ) (l : HeldLine) →
    put_at 2 (put_at 2 (put_at 2 (put_at 2 (put_at 2 (put_at 2 b at 12) (at + 2) 19) (at + 4) l.i) (at + 6) l.j) (at + 8) l.low) (at + 10) l.high ≡ sets b at (line_bytes (line_in l))
unfolding line_bytes
line-stored b at l =
    rw (
      put_next 2 b at (at + 2) 12 (bytes_of 2 19 ++ (bytes_of 2 l.i ++ (bytes_of 2 l.j ++ (bytes_of 2 l.low ++ bytes_of 2 l.high)))) (omega arith),
      put_next 2 (put_at 2 b at 12) (at + 2) (at + 4) 19 (bytes_of 2 l.i ++ (bytes_of 2 l.j ++ (bytes_of 2 l.low ++ bytes_of 2 l.high))) (omega arith),
      put_next 2 (put_at 2 (put_at 2 b at 12) (at + 2) 19) (at + 4) (at + 6) l.i (bytes_of 2 l.j ++ (bytes_of 2 l.low ++ bytes_of 2 l.high)) (omega arith),
      put_next 2 (put_at 2 (put_at 2 (put_at 2 b at 12) (at + 2) 19) (at + 4) l.i) (at + 6) (at + 8) l.j (bytes_of 2 l.low ++ bytes_of 2 l.high) (omega arith),
      put_next 2 (put_at 2 (put_at 2 (put_at 2 (put_at 2 b at 12) (at + 2) 19) (at + 4) l.i) (at + 6) l.j) (at + 8) (at + 10) l.low (bytes_of 2 l.high) (omega arith),
    )

-- the same, store by store
pub line-written : (o a b c d e f : List ℕ) (at : ℕ) (l : HeldLine) → a ≡ put_at 2 o at 12 → b ≡ put_at 2 a (at + 2) 19 → c ≡ put_at 2 b (at + 4) l.i → d ≡ put_at 2 c (at + 6) l.j → e ≡ put_at 2 d (at + 8) l.low →
    f ≡ put_at 2 e (at + 10) l.high → f ≡ sets o at (line_bytes (line_in l))
line-written o a b c d e f at l p q r s t u = rw (u, t, s, r, q, p) (line-stored o at l)

lines-append : (a b : List Line) → lines_bytes (a ++ b) ≡ lines_bytes a ++ lines_bytes b
lines-append [] b = refl
lines-append (l ∷ a) b = ap (λ (t : List ℕ). line_bytes l ++ t) (lines-append a b) ∙ sym (append_assoc (line_bytes l) (lines_bytes a) (lines_bytes b))

module _ (held : List HeldLine) (k : ℕ) (h : k < length held) (l : HeldLine) where
  so_far : List Line
  so_far = lines_in (take k held)

  more : lines_bytes (lines_in (take (k + 1) held)) ≡ lines_bytes (lines_in (take k held)) ++ line_bytes (line_in (get_or held k l))
  more =
      let x = get_or held k l in
      ap (λ t. lines_bytes (lines_in t)) (take_more held k l h) ∙ ap lines_bytes (map-append line_in (take k held) (x ∷ [])) ∙ lines-append (lines_in (take k held)) (line_in x ∷ []) ∙
      ap (λ t. lines_bytes (lines_in (take k held)) ++ t) (append-nil _)

  -- one line more is written
  pub lines_next : (b out out' : List ℕ) → out ≡ sets b 0 (lines_bytes (lines_in (take k held))) → out' ≡ sets out (12 * k) (line_bytes (line_in (get_or held k l))) → out' ≡ sets b 0 (lines_bytes (lines_in (take (k + 1) held)))
  lines_next b out out' e f =
      let w : List ℕ = lines_bytes (lines_in (take k held)) in
      let n : 12 * k ≡ 0 + length w = omega (arith, lines-length (lines_in (take k held)), length-lines held k (omega arith)) in
      f ∙ ap₂ (λ (o : List ℕ) (a : ℕ). sets o a (line_bytes (line_in (get_or held k l)))) e n ∙ sym (sets-append b 0 w (line_bytes (line_in (get_or held k l)))) ∙ ap (sets b 0) (sym more)
