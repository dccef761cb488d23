-- The stores of a line and of an open. Assumes nothing.
use Rattle.std.specs.Prelude.{◌≡◌, List, ◌++◌, ℕ, ◌+◌, ℤ}
use Rattle.std.proofs.Common.{ap, ◌∙◌, append_assoc, length-append, of_z}
use Rattle.std.proofs.lemmas.List.Edits.{sets}
use Rattle.std.specs.Int.{w32}
use Rattle.number.specs.Bytes.{bytes_of, put_at}
use Rattle.number.specs.Laws.{stores-next, length-bytes_of}
use Rattle.record.specs.Record.{open_bytes}
use Rattle.record_writer.specs.StoreLaws.{head-stores}
use Rattle.figure.specs.Stored.{amounts}
use Rattle.day_table.specs.Table.{table_line}
use Rattle.day_table.specs.Outcomes.{table_line_bytes}

pub line-stores : (o o₁ o₂ o₃ o₄ : List ℕ) (i d : ℕ) (v f c v' f' c' : ℤ) → v' ≡ v → f' ≡ f → c' ≡ c
    → o₁ ≡ put_at 2 o i d → o₂ ≡ put_at 4 o₁ (i + 2) (of_z w32 v') → o₃ ≡ put_at 4 o₂ (i + 6) (of_z w32 f') → o₄ ≡ put_at 4 o₃ (i + 10) (of_z w32 c')
    → o₄ ≡ sets o i (table_line_bytes (table_line d (amounts v f c)))
line-stores o o₁ o₂ o₃ o₄ i d v f c v' f' c' ev ef ec e₁ e₂ e₃ e₄ =
    let D : List ℕ = bytes_of 2 d in
    let W : List ℕ = bytes_of 4 (of_z w32 v) in
    let F : List ℕ = bytes_of 4 (of_z w32 f) in
    let C : List ℕ = bytes_of 4 (of_z w32 c) in
    e₄ ∙ simp (e₃, e₂, e₁, ev, ef, ec)
    (ap (λ (l : List ℕ). sets (sets l (i + 6) F) (i + 10) C) (stores-next o i (i + 2) D W (simp length-bytes_of))
    ∙ ap (λ (l : List ℕ). sets l (i + 10) C) (stores-next o i (i + 6) (D ++ W) F (simp (length-append, length-bytes_of)))
    ∙ stores-next o i (i + 10) ((D ++ W) ++ F) C (simp (length-append, length-bytes_of))
    ∙ simp append_assoc)

pub open-stores : (o o₁ o₂ o₃ : List ℕ) (i d : ℕ) (v f c v' f' c' : ℤ) → v' ≡ v → f' ≡ f → c' ≡ c
    → o₁ ≡ put_at 2 o i 18 → o₂ ≡ put_at 2 o₁ (i + 2) 1 → o₃ ≡ sets o₂ (i + 4) (table_line_bytes (table_line d (amounts v' f' c'))) → o₃ ≡ sets o i (open_bytes d v f c)
open-stores o o₁ o₂ o₃ i d v f c v' f' c' ev ef ec e₁ e₂ e₃ = head-stores o o₁ o₂ o₃ i 18 1 (table_line_bytes (table_line d (amounts v f c))) e₁ e₂ (e₃ ∙ rw (ev, ef, ec))
