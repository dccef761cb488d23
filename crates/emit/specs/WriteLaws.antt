-- Fields written one after the other are the bytes of a summary. Assumes nothing.
use Rattle.std.specs.Prelude.{◌≡◌, ℤ}
use Rattle.std.proofs.Math.Path.{refl, sym, ap, ap₂}
use Rattle.std.proofs.Common.{◌∙◌, arith, add-one, of_z}
use mathlib.Core.List.{List, ◌++◌, append_assoc, append-nil}
use Prim.Native.Nat.{ℕ, zero, suc, ◌+◌, ◌*◌, ◌≤◌, ◌<◌}
use Rattle.std.proofs.Math.ListN.{length, length-append}
use Rattle.std.proofs.Math.Seq.{sets}
use mir.Syntax.{w32, w64}
use Rattle.gate.proofs.Promises.{stored-first}
use Rattle.gate.specs.Answers.{number_of}
use Rattle.number.specs.Bytes.{bytes_of, put_at}
use Rattle.number.specs.Laws.{sets-append, stores-next, length-bytes_of}
use Rattle.figure.specs.Mode.{Mode, mode_of}
use Rattle.figure.specs.Stored.{IsStored}
use Rattle.hill.specs.Summary.{blank, part, spoilt, whole}
use Rattle.summary.specs.Layout.{i32_bytes, i64_bytes, left_bytes, right_bytes, hill_bytes, SummaryIn, encode}
use Rattle.summary.proofs.Accepted.{encode-length}
use Rattle.slopes.specs.declared.Counts.{Counts}
use Rattle.slopes.specs.Arrays.{Arrays, at, ups, downs, slopes_of, Stored}
use Rattle.slopes.specs.Laws.{rise-slopes, fall-slopes}
use Rattle.judge.specs.declared.SpoiltHead.{SpoiltHead}
use Rattle.emit.specs.Emitted.{spoilt_said}
use Rattle.emit.specs.Promised.{Wrote, front_bytes, level_bytes, numbers_bytes, stored_record, records_bytes, hill_length, Writes}

-- ---- runs of stores

-- a run from 0 on
pub wrote : (w o o' : List ℕ) (n : ℕ) → n ≡ length w → length w ≤ length o → o' ≡ sets o 0 w → Wrote w o o' n
wrote w o o' n e h s = record { answered = e; buffer = stored-first w o o' h s }

pub front-stores : (o o₁ o₂ o₃ : List ℕ) (n kind m : ℕ) → o₁ ≡ put_at 2 o 0 n → o₂ ≡ put_at 2 o₁ 2 kind → o₃ ≡ put_at 2 o₂ 4 m → o₃ ≡ sets o 0 (front_bytes n kind m)
front-stores o o₁ o₂ o₃ n kind m e₁ e₂ e₃ = e₃ ∙ simp (e₂, e₁, sets-append, length-bytes_of)

pub level-stores : (o o₁ o₂ o₃ o₄ : List ℕ) (x y z n : ℕ) → o₁ ≡ put_at 2 o 6 x → o₂ ≡ put_at 2 o₁ 8 y → o₃ ≡ put_at 2 o₂ 10 z → o₄ ≡ put_at 4 o₃ 12 n
    → o₄ ≡ sets o 6 (level_bytes x y z n)
level-stores o o₁ o₂ o₃ o₄ x y z n e₁ e₂ e₃ e₄ = e₄ ∙ simp (e₃, e₂, e₁, sets-append, length-bytes_of)

pub record-stores : (o o₁ o₂ o₃ o₄ : List ℕ) (i : ℕ) (v f c h v' f' c' h' : ℤ) → v' ≡ v → f' ≡ f → c' ≡ c → h' ≡ h
    → o₁ ≡ put_at 4 o i (of_z w32 v') → o₂ ≡ put_at 4 o₁ (i + 4) (of_z w32 f') → o₃ ≡ put_at 4 o₂ (i + 8) (of_z w32 c') → o₄ ≡ put_at 8 o₃ (i + 12) (of_z w64 h')
    → o₄ ≡ sets o i (stored_record v f c h)
record-stores o o₁ o₂ o₃ o₄ i v f c h v' f' c' h' ev ef ec eh e₁ e₂ e₃ e₄ =
    e₄ ∙ simp (e₃, e₂, e₁, ev, ef, ec, eh)
    (ap (λ (l : List ℕ). sets (sets l (i + 8) (i32_bytes c)) (i + 12) (i64_bytes h)) (stores-next o i (i + 4) (i32_bytes v) (i32_bytes f) (simp length-bytes_of))
    ∙ ap (λ (l : List ℕ). sets l (i + 12) (i64_bytes h)) (stores-next o i (i + 8) (i32_bytes v ++ i32_bytes f) (i32_bytes c) (simp (length-append, length-bytes_of)))
    ∙ stores-next o i (i + 12) ((i32_bytes v ++ i32_bytes f) ++ i32_bytes c) (i64_bytes h) (simp (length-append, length-bytes_of))
    ∙ simp append_assoc)

-- ---- the two loops

length-numbers : (xs : List ℤ) (n : ℕ) → length (numbers_bytes xs n) ≡ 8 * n
length-numbers xs zero = refl
length-numbers xs (suc n) = simp (length-append, length-numbers xs n, length-bytes_of) (omega arith)

length-records : (vs fs cs hs : List ℤ) (n : ℕ) → length (records_bytes vs fs cs hs n) ≡ 20 * n
length-records vs fs cs hs zero = refl
length-records vs fs cs hs (suc n) = simp (length-append, length-records vs fs cs hs n, length-bytes_of) (omega arith)

pub numbers-turn : (o₀ o o' : List ℕ) (k i : ℕ) (xs : List ℤ) (x : ℤ) → x ≡ at xs i → o ≡ sets o₀ k (numbers_bytes xs i) → o' ≡ put_at 8 o (k + 8 * i) (of_z w64 x)
    → o' ≡ sets o₀ k (numbers_bytes xs (i + 1))
numbers-turn o₀ o o' k i xs x ex e e' =
    e' ∙ rw (e, ex, add-one) (stores-next o₀ k (k + 8 * i) (numbers_bytes xs i) (i64_bytes (at xs i)) (ap (λ (n : ℕ). k + n) (length-numbers xs i)))

pub records-turn : (o₀ o o' : List ℕ) (k i : ℕ) (vs fs cs hs : List ℤ) (v f c h : ℤ) → v ≡ at vs i → f ≡ at fs i → c ≡ at cs i → h ≡ at hs i
    → o ≡ sets o₀ k (records_bytes vs fs cs hs i) → o' ≡ sets o (k + 20 * i) (stored_record v f c h) → o' ≡ sets o₀ k (records_bytes vs fs cs hs (i + 1))
records-turn o₀ o o' k i vs fs cs hs v f c h ev ef ec eh e e' =
    e' ∙ rw (e, ev, ef, ec, eh, add-one)
    (stores-next o₀ k (k + 20 * i) (records_bytes vs fs cs hs i) (stored_record (at vs i) (at fs i) (at cs i) (at hs i)) (ap (λ (n : ℕ). k + n) (length-records vs fs cs hs i)))

-- ---- stored numbers are written as they are

module _ (M : Mode) where
  left_is : (ls : List ℤ) (n : ℕ) → ((i : ℕ) → i < n → IsStored M (at ls i)) → left_bytes M.store (ups M ls n) ≡ numbers_bytes ls n
  unfolding IsStored
  left_is ls zero s = refl
  left_is ls (suc n) s = ap₂ ◌++◌ (left_is ls n (λ i l. s i (omega arith))) (ap i64_bytes (s n (omega arith)))

  right_is : (vs fs cs hs : List ℤ) (n : ℕ) → ((i : ℕ) → i < n → IsStored M (at hs i)) → right_bytes M.store (downs M vs fs cs hs n) ≡ records_bytes vs fs cs hs n
  unfolding IsStored
  right_is vs fs cs hs zero s = refl
  right_is vs fs cs hs (suc n) s =
      ap₂ ◌++◌ (right_is vs fs cs hs n (λ i l. s i (omega arith))) (ap (λ (h : ℤ). stored_record (at vs n) (at fs n) (at cs n) h) (s n (omega arith)))

  hill-is : (A : Arrays) (c : Counts) → Stored M A c
      → hill_bytes M.store (slopes_of M A c) ≡ numbers_bytes A.left c.nl ++ (i64_bytes c.mid ++ records_bytes A.values A.floors A.ceilings A.held c.n)
  unfolding IsStored
  hill-is A c s =
      ap₂ ◌++◌ (left_is A.left c.nl s.left) (ap₂ ◌++◌ (ap i64_bytes s.mid) (right_is A.values A.floors A.ceilings A.held c.n s.held))

-- ---- whole summaries

-- the front, and a body behind it
summary-stores : (o o₁ o₂ w : List ℕ) (n kind m : ℕ) → o₁ ≡ sets o 0 (front_bytes n kind m) → o₂ ≡ sets o₁ 6 w
    → o₂ ≡ sets o 0 (bytes_of 2 n ++ (bytes_of 2 kind ++ (bytes_of 2 m ++ w)))
summary-stores o o₁ o₂ w n kind m e₁ e₂ =
    e₂ ∙ ap (λ (l : List ℕ). sets l 6 w) e₁ ∙ stores-next o 0 6 (front_bytes n kind m) w (simp (length-append, length-bytes_of)) ∙ simp append_assoc

blank-is : (m : ℕ) → front_bytes 6 16 m ≡ encode m blank
unfolding encode
blank-is m = rw (append-nil (bytes_of 2 m))

spoilt-is : (m f s e n : ℕ) → bytes_of 2 16 ++ (bytes_of 2 17 ++ (bytes_of 2 m ++ level_bytes f s e n)) ≡ encode m (part (spoilt f s e n))
unfolding encode
spoilt-is m f s e n = refl

pub blank-written : (m : ℕ) (o o' : List ℕ) → 6 ≤ length o → o' ≡ sets o 0 (front_bytes 6 16 m) → Wrote (encode m blank) o o' 6
blank-written m o o' h e = wrote (encode m blank) o o' 6 (sym (encode-length m blank)) (omega (arith, encode-length m blank)) (e ∙ ap (sets o 0) (blank-is m))

pub spoilt-written : (m f s e n : ℕ) (o o₁ o₂ : List ℕ) → 16 ≤ length o → o₁ ≡ sets o 0 (front_bytes 16 17 m) → o₂ ≡ sets o₁ 6 (level_bytes f s e n)
    → Wrote (encode m (part (spoilt f s e n))) o o₂ 16
spoilt-written m f s e n o o₁ o₂ h e₁ e₂ =
    let w : SummaryIn m = part (spoilt f s e n) in
    wrote (encode m w) o o₂ 16 (sym (encode-length m w)) (omega (arith, encode-length m w)) (summary-stores o o₁ o₂ (level_bytes f s e n) 16 17 m e₁ e₂ ∙ ap (sets o 0) (spoilt-is m f s e n))

-- of a head that names its fault
pub head-written : (m : ℕ) (s : SpoiltHead) (o o₁ o₂ : List ℕ) (f : ℕ) → f ≡ number_of s.fault → 16 ≤ length o
    → o₁ ≡ sets o 0 (front_bytes 16 17 m) → o₂ ≡ sets o₁ 6 (level_bytes f s.start s.end s.opened) → Wrote (encode m (spoilt_said m s)) o o₂ 16
head-written m s o o₁ o₂ f ef h e₁ e₂ = spoilt-written m (number_of s.fault) s.start s.end s.opened o o₁ o₂ h e₁ (rw ef at e₂)

-- a hill: front, levels, left values, middle, records
module _ (m p n : ℕ) (A : Arrays) (c : Counts) (o : List ℕ) (ok : Writes (mode_of m) A c p (length o)) where
  said : SummaryIn m
  said = part (whole p n (slopes_of (mode_of m) A c))

  said-length : length (encode m said) ≡ hill_length c
  unfolding said
  said-length = encode-length m said ∙ ap₂ (λ (x y : ℕ). 24 + 8 * x + 20 * y) (rise-slopes (mode_of m) A c) (fall-slopes (mode_of m) A c)

  numbers : List ℕ
  numbers = numbers_bytes A.left c.nl

  records : List ℕ
  records = records_bytes A.values A.floors A.ceilings A.held c.n

  said-is : bytes_of 2 (hill_length c) ++ (bytes_of 2 18 ++ (bytes_of 2 m ++ (level_bytes (p + c.nl) p (p + c.n) n ++ (numbers ++ (i64_bytes c.mid ++ records))))) ≡ encode m said
  unfolding said encode numbers records
  said-is = rw (hill-is (mode_of m) A c ok.stored, rise-slopes (mode_of m) A c, fall-slopes (mode_of m) A c) (simp append_assoc)

  pub hill-written : (o₁ o₂ o₃ o₄ o₅ : List ℕ) (k x z r : ℕ) (mid : ℤ) → k ≡ hill_length c → x ≡ p + c.nl → z ≡ p + c.n → r ≡ hill_length c → mid ≡ c.mid
      → o₁ ≡ sets o 0 (front_bytes k 18 m) → o₂ ≡ sets o₁ 6 (level_bytes x p z n) → o₃ ≡ sets o₂ 16 (numbers_bytes A.left c.nl)
      → o₄ ≡ put_at 8 o₃ (16 + 8 * c.nl) (of_z w64 mid) → o₅ ≡ sets o₄ (24 + 8 * c.nl) (records_bytes A.values A.floors A.ceilings A.held c.n)
      → Wrote (encode m (part (whole p n (slopes_of (mode_of m) A c)))) o o₅ r
  unfolding said numbers records
  hill-written o₁ o₂ o₃ o₄ o₅ k x z r mid ek ex ez er em e₁ e₂ e₃ e₄ e₅ =
      let l = level_bytes (p + c.nl) p (p + c.n) n in
      let ll : length l ≡ 10 = simp (length-append, length-bytes_of) in
      let ln : length numbers ≡ 8 * c.nl = length-numbers A.left c.nl in
      let b₃ : o₃ ≡ sets o₁ 6 (l ++ numbers) = e₃ ∙ rw (e₂, ex, ez) (stores-next o₁ 6 16 l numbers (omega arith)) in
      let b₄ : o₄ ≡ sets o₁ 6 ((l ++ numbers) ++ i64_bytes c.mid) =
      e₄ ∙ rw (b₃, em) (stores-next o₁ 6 (16 + 8 * c.nl) (l ++ numbers) (i64_bytes c.mid) (omega (arith, length-append l numbers))) in
      let b₅ : o₅ ≡ sets o₁ 6 (((l ++ numbers) ++ i64_bytes c.mid) ++ records) =
      e₅ ∙ rw b₄ (stores-next o₁ 6 (24 + 8 * c.nl) ((l ++ numbers) ++ i64_bytes c.mid) records (omega (arith, length-append l numbers, length-append (l ++ numbers) (i64_bytes c.mid), length-bytes_of 8 (of_z w64 c.mid)))) in
      let b : o₅ ≡ sets o₁ 6 (l ++ (numbers ++ (i64_bytes c.mid ++ records))) = b₅ ∙ simp append_assoc in
      wrote (encode m said) o o₅ r (er ∙ sym said-length) (omega (arith, said-length, ok.fits))
      (summary-stores o o₁ o₅ (l ++ (numbers ++ (i64_bytes c.mid ++ records))) (hill_length c) 18 m (rw ek at e₁) b ∙ ap (sets o 0) said-is)
