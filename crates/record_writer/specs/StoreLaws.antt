-- The stores of a record, field by field. Assumes nothing.
use Rattle.std.specs.Prelude.{◌≡◌, List, ◌++◌, ℕ, ◌+◌, ℤ}
use Rattle.std.proofs.Common.{ap, ◌∙◌, append_assoc, arith, length-append, of_z}
use Rattle.std.proofs.lemmas.List.Edits.{sets}
use Rattle.std.specs.Int.{w32}
use Rattle.number.specs.Bytes.{bytes_of, put_at}
use Rattle.number.specs.Laws.{stores-next, length-bytes_of}
use Rattle.record.specs.Record.{short_bytes, close_bytes}

-- two numbers of 16 bits, and then the rest
pub head-stores : (o o₁ o₂ o₃ : List ℕ) (i n k : ℕ) (r : List ℕ) → o₁ ≡ put_at 2 o i n → o₂ ≡ put_at 2 o₁ (i + 2) k → o₃ ≡ sets o₂ (i + 4) r → o₃ ≡ sets o i (bytes_of 2 n ++ (bytes_of 2 k ++ r))
head-stores o o₁ o₂ o₃ i n k r e₁ e₂ e₃ =
    e₃ ∙ simp (e₂, e₁)
    (ap (λ (l : List ℕ). sets l (i + 4) r) (stores-next o i (i + 2) (bytes_of 2 n) (bytes_of 2 k) (simp length-bytes_of))
    ∙ stores-next o i (i + 4) (bytes_of 2 n ++ bytes_of 2 k) r (simp (length-append, length-bytes_of))
    ∙ simp append_assoc)

pub short-stores : (o o₁ o₂ o₃ o₄ : List ℕ) (i d : ℕ) (v v' : ℤ) → v' ≡ v
    → o₁ ≡ put_at 2 o i 10 → o₂ ≡ put_at 2 o₁ (i + 2) 1 → o₃ ≡ put_at 2 o₂ (i + 4) d → o₄ ≡ put_at 4 o₃ (i + 6) (of_z w32 v') → o₄ ≡ sets o i (short_bytes d v)
short-stores o o₁ o₂ o₃ o₄ i d v v' ev e₁ e₂ e₃ e₄ =
    head-stores o o₁ o₂ o₄ i 10 1 (bytes_of 2 d ++ bytes_of 4 (of_z w32 v)) e₁ e₂
    (e₄ ∙ simp (e₃, ev) (stores-next o₂ (i + 4) (i + 6) (bytes_of 2 d) (bytes_of 4 (of_z w32 v)) (simp length-bytes_of (omega arith))))

pub close-stores : (o o₁ o₂ o₃ : List ℕ) (i d : ℕ) → o₁ ≡ put_at 2 o i 6 → o₂ ≡ put_at 2 o₁ (i + 2) 2 → o₃ ≡ put_at 2 o₂ (i + 4) d → o₃ ≡ sets o i (close_bytes d)
close-stores o o₁ o₂ o₃ i d e₁ e₂ e₃ = head-stores o o₁ o₂ o₃ i 6 2 (bytes_of 2 d) e₁ e₂ e₃
