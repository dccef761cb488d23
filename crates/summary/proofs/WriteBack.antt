-- Bytes that are a summary are the bytes of what they say, which is accepted. Assumes nothing.
use Rattle.std.specs.Prelude.{◌≡◌, refl, List, [], ◌++◌, ℕ, zero, suc, ◌+◌, ◌*◌, ◌≤◌, ◌<◌, length}
use Rattle.std.proofs.Common.{sym, subst, ◌∙◌, append_assoc, append-nil, le_refl, le_of_eq, arith, drop_of_length-le}
use Rattle.std.proofs.Math.Path.{ap}
use Rattle.std.proofs.Math.ListN.{drop}
use mir.Syntax.{w64}
use mir.Val.{Fits}
use Rattle.std.proofs.Math.Facts.{of_z-to_z}
use Rattle.number.specs.Bytes.{AllBytes, le_at, bytes_of, i32_at, i64_at}
use Rattle.number.specs.Laws.{le_at-lt}
use Rattle.number.specs.FieldLaws.{split-field, split-signed}
use Rattle.figure.specs.Mode.{Mode}
use Rattle.figure.specs.Stored.{IsStored}
use Rattle.hill.specs.Valid.{ValidSummary}
use Rattle.summary.specs.Layout.{i32_bytes, i64_bytes, left_bytes, record_bytes, right_bytes, hill_bytes, layout}
use Rattle.summary.specs.Judge.{length_at, kind_at, mode_at, fault_at, spoilt_start_at, start_at, peak_at, end_at, opened_at, rise_at, fall_at, left_at, middle_at, record_at, held_at, IsSummary, is_blank, is_spoilt, is_hill}
use Rattle.summary.specs.Decode.{amounts_at, lefts_in, rights_in, hill_in, reading}
use Rattle.summary.proofs.ModeValues.{Numbered}
use Rattle.summary.proofs.Values.{lefts-length, rights-length, reading-blank, reading-spoilt, reading-hill}
use Rattle.summary.proofs.Hills.{AllStored, hill-valid, hill-stored}

module _ (M : Mode) (b : List ℕ) (all : AllBytes b) where
  -- ---- one number, that ends at e

  grams-again : (k e : ℕ) → k + 4 ≡ e → e ≤ length b → i32_bytes (i32_at b k) ++ drop e b ≡ drop k b
  grams-again k e q l = rw (← q) (split-signed k b all (omega arith))

  figure-again : (k e : ℕ) → k + 8 ≡ e → e ≤ length b → IsStored M (i64_at b k) → i64_bytes (M.store (M.read (i64_at b k))) ++ drop e b ≡ drop k b
  unfolding IsStored
  figure-again k e q l s =
      let f : Fits w64 (le_at 8 b k) = record { fits = le_at-lt 8 b k all } in
      ap (λ z. i64_bytes z ++ drop e b) s ∙ rw (of_z-to_z f, ← q) (split-field 8 k b all (omega arith))

  -- ---- the slopes

  lefts-again : (n : ℕ) → 16 + 8 * n ≤ length b → ((i : ℕ) → i < n → IsStored M (left_at b i)) → left_bytes M.store (lefts_in M.read b n) ++ drop (16 + 8 * n) b ≡ drop 16 b
  lefts-again zero l s = refl
  lefts-again (suc n) l s =
      append_assoc (left_bytes M.store (lefts_in M.read b n)) (i64_bytes (M.store (M.read (left_at b n)))) (drop (16 + 8 * suc n) b) ∙
      ap (λ (t : List ℕ). left_bytes M.store (lefts_in M.read b n) ++ t) (figure-again (16 + 8 * n) (16 + 8 * suc n) (omega arith) l (s n (le_refl _))) ∙
      lefts-again n (omega arith) (λ i k. s i (omega arith))

  record-again : (j e : ℕ) → record_at b j + 20 ≡ e → e ≤ length b → IsStored M (held_at b j) → record_bytes M.store (amounts_at b j, M.read (held_at b j)) ++ drop e b ≡ drop (record_at b j) b
  record-again j e q l s =
      let k : ℕ = record_at b j in
      simp append_assoc
      (ap (λ (t : List ℕ). i32_bytes (i32_at b k) ++ (i32_bytes (i32_at b (k + 4)) ++ (i32_bytes (i32_at b (k + 8)) ++ t))) (figure-again (k + 12) e (omega arith) l s) ∙
      ap (λ (t : List ℕ). i32_bytes (i32_at b k) ++ (i32_bytes (i32_at b (k + 4)) ++ t)) (grams-again (k + 8) (k + 12) (omega arith) (omega arith)) ∙
      ap (λ (t : List ℕ). i32_bytes (i32_at b k) ++ t) (grams-again (k + 4) (k + 8) (omega arith) (omega arith)) ∙
      grams-again k (k + 4) refl (omega arith))

  rights-again : (n : ℕ) → record_at b n ≤ length b → ((j : ℕ) → j < n → IsStored M (held_at b j)) → right_bytes M.store (rights_in M.read b n) ++ drop (record_at b n) b ≡ drop (record_at b 0) b
  rights-again zero l s = refl
  rights-again (suc n) l s =
      append_assoc (right_bytes M.store (rights_in M.read b n)) (record_bytes M.store (amounts_at b n, M.read (held_at b n))) (drop (record_at b (suc n)) b) ∙
      ap (λ (t : List ℕ). right_bytes M.store (rights_in M.read b n) ++ t) (record-again n (record_at b (suc n)) (omega arith) l (s n (le_refl _))) ∙
      rights-again n (omega arith) (λ j k. s j (omega arith))

  hill-again : length b ≡ 24 + 8 * rise_at b + 20 * fall_at b → AllStored M b → hill_bytes M.store (hill_in M.read b) ≡ drop 16 b
  hill-again l s =
      let x : right_bytes M.store (rights_in M.read b (fall_at b)) ≡ drop (record_at b 0) b =
      sym (append-nil _) ∙ ap (λ (t : List ℕ). right_bytes M.store (rights_in M.read b (fall_at b)) ++ t) (sym (drop_of_length-le b {i = record_at b (fall_at b)} (le_of_eq l))) ∙ rights-again (fall_at b) (omega arith) s.helds in
      ap (λ (t : List ℕ). left_bytes M.store (lefts_in M.read b (rise_at b)) ++ (i64_bytes (M.store (M.read (middle_at b))) ++ t)) x ∙
      ap (λ (t : List ℕ). left_bytes M.store (lefts_in M.read b (rise_at b)) ++ t) (figure-again (16 + 8 * rise_at b) (record_at b 0) (omega arith) (omega arith) s.middle) ∙
      lefts-again (rise_at b) (omega arith) s.lefts

  -- ---- the head

  head-again : 16 ≤ length b → bytes_of 2 (le_at 2 b 0) ++ (bytes_of 2 (le_at 2 b 2) ++ (bytes_of 2 (le_at 2 b 4) ++ (bytes_of 2 (le_at 2 b 6) ++ (bytes_of 2 (le_at 2 b 8) ++ (bytes_of 2 (le_at 2 b 10) ++ (bytes_of 4 (le_at 4 b 12) ++ drop 16 b)))))) ≡ b
  head-again l =
      rw (
        split-field 4 12 b all l,
        split-field 2 10 b all (omega arith),
        split-field 2 8 b all (omega arith),
        split-field 2 6 b all (omega arith),
        split-field 2 4 b all (omega arith),
        split-field 2 2 b all (omega arith),
      )
      (split-field 2 0 b all (omega arith))

  pub layout-reading : Numbered (mode_at b) M → IsSummary b → layout M.store (mode_at b) (reading M.read b) ≡ b
  layout-reading N (is_blank f) =
      let n : 6 ≡ length_at b = sym (f.length-said ∙ f.length-fits) in
      let k : 16 ≡ kind_at b = sym f.kind_fits in
      let t : [] ≡ drop 6 b = sym (drop_of_length-le b {i = 6} (le_of_eq f.length-fits)) in
      ap (layout M.store (mode_at b)) (reading-blank M.read b f.kind_fits) ∙
      (λ i. bytes_of 2 (n i) ++ (bytes_of 2 (k i) ++ (bytes_of 2 (mode_at b) ++ t i))) ∙
      rw (split-field 2 4 b all (omega (arith, f.length-fits)), split-field 2 2 b all (omega (arith, f.length-fits))) (split-field 2 0 b all (omega (arith, f.length-fits)))
  layout-reading N (is_spoilt v) =
      let n : 16 ≡ length_at b = sym (v.layout.length-said ∙ v.layout.length-fits) in
      let k : 17 ≡ kind_at b = sym v.layout.kind_fits in
      let t : bytes_of 4 (opened_at b) ≡ bytes_of 4 (opened_at b) ++ drop 16 b =
      sym (append-nil _) ∙ ap (λ (x : List ℕ). bytes_of 4 (opened_at b) ++ x) (sym (drop_of_length-le b {i = 16} (le_of_eq v.layout.length-fits))) in
      ap (layout M.store (mode_at b)) (reading-spoilt M.read b v.layout.kind_fits) ∙
      (λ i. bytes_of 2 (n i) ++ (bytes_of 2 (k i) ++ (bytes_of 2 (mode_at b) ++ (bytes_of 2 (fault_at b) ++ (bytes_of 2 (spoilt_start_at b) ++ (bytes_of 2 (end_at b) ++ t i)))))) ∙
      head-again (omega (arith, v.layout.length-fits))
  layout-reading N (is_hill v) =
      let l = lefts-length M.read b (rise_at b) in
      let r = rights-length M.read b (fall_at b) in
      let n : 24 + 8 * length (lefts_in M.read b (rise_at b)) + 20 * length (rights_in M.read b (fall_at b)) ≡ length_at b = omega (arith, v.layout.length-said, v.layout.length-fits) in
      let k : 18 ≡ kind_at b = sym v.layout.kind_fits in
      let s : peak_at b + length (lefts_in M.read b (rise_at b)) ≡ start_at b = omega (arith, v.peak-start) in
      let e : peak_at b + length (rights_in M.read b (fall_at b)) ≡ end_at b = omega (arith, v.peak-end) in
      let t : hill_bytes M.store (hill_in M.read b) ≡ drop 16 b = hill-again v.layout.length-fits (hill-stored M b N v) in
      ap (layout M.store (mode_at b)) (reading-hill M.read b v.layout.kind_fits) ∙
      (λ i. bytes_of 2 (n i) ++ (bytes_of 2 (k i) ++ (bytes_of 2 (mode_at b) ++ (bytes_of 2 (s i) ++ (bytes_of 2 (peak_at b) ++ (bytes_of 2 (e i) ++ (bytes_of 4 (opened_at b) ++ t i))))))) ∙
      head-again (omega (arith, v.layout.length-fits))

-- What accepted bytes say is accepted.
pub reading-valid : (M : Mode) (b : List ℕ) → Numbered (mode_at b) M → IsSummary b → ValidSummary M.algebra M.sizes (reading M.read b)
reading-valid M b N (is_blank f) = subst (ValidSummary M.algebra M.sizes) (sym (reading-blank M.read b f.kind_fits)) tt
reading-valid M b N (is_spoilt v) =
    subst (ValidSummary M.algebra M.sizes) (sym (reading-spoilt M.read b v.layout.kind_fits))
    (record { low-fault = v.fault-low; high-fault = v.fault-high; start-high = v.start-high; end-high = v.end-high; few = v.opened-few; many = v.opened-more })
reading-valid M b N (is_hill v) = subst (ValidSummary M.algebra M.sizes) (sym (reading-hill M.read b v.layout.kind_fits)) (hill-valid M b N v)
