-- Merging accepted summaries gives an accepted one, and the summary of readable records is accepted. Assumes nothing.
use Rattle.std.specs.Prelude.{◌≡◌, refl, Bool, true, false, List, [], ◌∷◌, ◌++◌, ℕ, zero, suc, ◌+◌, ◌-◌, ◌*◌, ◌≤◌, ◌<◌, min, leb, ltb, eqb, length}
use Rattle.std.proofs.Common.{sym, subst, ◌∙◌, mul-le-mul_left, arith, leb-false}
use Rattle.algebra.specs.Algebra.{Algebra, Laws}
use Rattle.hill.specs.Verdict.{Verdict, pass, refuse, low, ask, joint, count, cut}
use Rattle.hill.proofs.VerdictLaws.{low-fst, low-snd, joint-pass, joint-high, count-pass, refuse-pass}
use Rattle.hill.specs.Log.{Record, opening, closing}
use Rattle.hill.specs.Summary.{Hill, hill, Part, spoilt, whole, Summary, blank, part, rise, fall, middle, start, end, opened, verdict, judged, summary_of, peak, slopes}
use Rattle.hill.specs.Merge.{merge_hills, merge_verdict, merge_part, merge_summary}
use Rattle.algebra.specs.Sizes.{Sizes}
use Rattle.hill.specs.Valid.{ValidSpoilt, weight_up, weight_down, weight, AllFine, FineHill, ValidHill, ValidPart, ValidSummary, Readable, AllReadable}
use Rattle.hill.specs.Building.{push, join, close, closes, merge}
use Rattle.hill.proofs.Slopes.{fall-join, fall-closes, fall-merge, rise-merge}
use Rattle.hill.proofs.MergeLaws.{merge_hills-merge}
use Rattle.hill.proofs.SummaryLaws.{single, summary_of-cons}

-- A fault of a stretch with t opened records: 7, 8 or 9, and 9 only where there are too many.
abbrev Range : ℕ → Verdict → Type 0
Range t pass = Unit {0}
Range t (refuse f) = (7 ≤ f) × (f ≤ 9) × (f ≡ 9 → 100000 < t)

range-low : (t : ℕ) (v w : Verdict) → Range t v → Range t w → Range t (low v w)
range-low t pass w a b = b
range-low t (refuse m) pass a b = a
range-low t (refuse m) (refuse n) a b = (omega arith, omega arith, λ e. a.2 (omega arith))

range-between : (t a b : ℕ) → Range t (joint a b)
unfolding joint
range-between t a b = go (eqb a b) (ltb 0 a)
  where
    go : (x y : Bool) → Range t (low (ask 7 x) (ask 8 y))
    go true true = tt
    go true false = omega arith
    go false true = omega arith
    go false false = omega arith

range-count : (t : ℕ) → Range t (count t)
unfolding count
range-count t = go (leb t 100000) refl
  where
    go : (x : Bool) → leb t 100000 ≡ x → Range t (ask 9 x)
    go true e = tt
    go false e = (omega arith, omega arith, λ _. leb-false t 100000 e)

valid-spoilt : (f s e t : ℕ) → Range t (refuse f) → s ≤ 64 → e ≤ 64 → ValidSpoilt f s e (cut t)
unfolding cut
valid-spoilt f s e t r k l = record { low-fault = r.0; high-fault = r.1; start-high = k; end-high = l; few = omega arith; many = λ x. let y = r.2 x in omega arith }

module _ {R : Type 0} (𝒜 : Algebra R) {Fine : R → Type 0} (𝒮 : Sizes 𝒜 Fine) where
  open 𝒜 use {Fig, ι, ◌⊗◌, node}

  infixl 70 ◌⊗◌
  open 𝒮 use {unit, size, unit-pos, size-ι, size-⊗, size-node}

  pub weight-join : (w : Fig) (a : Hill Fig R) → weight 𝒜 𝒮 (join 𝒜 w a) ≤ weight 𝒜 𝒮 a + size w
  weight-join w (hill u m []) = omega (arith, size-⊗ m w)
  weight-join w (hill u m (e ∷ d)) = omega (arith, size-⊗ e.1 w)

  pub fine-join : (w : Fig) (a : Hill Fig R) → FineHill 𝒜 𝒮 a → FineHill 𝒜 𝒮 (join 𝒜 w a)
  fine-join w (hill u m []) f = tt
  fine-join w (hill u m (e ∷ d)) f = f

  pub weight-close : (a : Hill Fig R) → FineHill 𝒜 𝒮 a → weight 𝒜 𝒮 (close 𝒜 a) ≤ weight 𝒜 𝒮 a
  weight-close (hill u m []) f = omega (arith, size-ι)
  weight-close (hill u m (e ∷ d)) f = omega (arith, weight-join (node e.0 e.1) (hill u m d), size-node e.0 e.1 f.0)

  pub fine-close : (a : Hill Fig R) → FineHill 𝒜 𝒮 a → FineHill 𝒜 𝒮 (close 𝒜 a)
  fine-close (hill u m []) f = tt
  fine-close (hill u m (e ∷ d)) f = fine-join (node e.0 e.1) (hill u m d) f.1

  pub fine-closes : (a : Hill Fig R) (u : List Fig) → FineHill 𝒜 𝒮 a → FineHill 𝒜 𝒮 (closes 𝒜 a u)
  fine-closes a [] f = f
  fine-closes a (l ∷ u) f = fine-close (join 𝒜 l (closes 𝒜 a u)) (fine-join l (closes 𝒜 a u) (fine-closes a u f))

  pub weight-closes : (a : Hill Fig R) (u : List Fig) → FineHill 𝒜 𝒮 a → weight 𝒜 𝒮 (closes 𝒜 a u) ≤ weight 𝒜 𝒮 a + weight_up 𝒜 𝒮 u
  weight-closes a [] f = omega arith
  weight-closes a (l ∷ u) f =
      omega (arith, weight-close (join 𝒜 l (closes 𝒜 a u)) (fine-join l (closes 𝒜 a u) (fine-closes a u f)), weight-join l (closes 𝒜 a u), weight-closes a u f)

  weight_down-append : (d e : List (R × Fig)) → weight_down 𝒜 𝒮 (d ++ e) ≡ weight_down 𝒜 𝒮 d + weight_down 𝒜 𝒮 e
  weight_down-append [] e = omega arith
  weight_down-append (x ∷ d) e = omega (arith, weight_down-append d e)

  fine-append : (d e : List (R × Fig)) → AllFine 𝒜 𝒮 d → AllFine 𝒜 𝒮 e → AllFine 𝒜 𝒮 (d ++ e)
  fine-append [] e f g = g
  fine-append (x ∷ d) e f g = (f.0, fine-append d e f.1 g)

  pub weight-push : (e : List (R × Fig)) (a : Hill Fig R) → weight 𝒜 𝒮 (push e a) ≡ weight_down 𝒜 𝒮 e + weight 𝒜 𝒮 a
  weight-push e (hill u m d) = omega (arith, weight_down-append e d)

  pub fine-push : (e : List (R × Fig)) (a : Hill Fig R) → AllFine 𝒜 𝒮 e → FineHill 𝒜 𝒮 a → FineHill 𝒜 𝒮 (push e a)
  fine-push e (hill u m d) f g = fine-append e d f g

  -- Merging raises no weight 𝒜 𝒮.
  pub weight-merge : (a b : Hill Fig R) → FineHill 𝒜 𝒮 a → weight 𝒜 𝒮 (merge 𝒜 a b) ≤ weight 𝒜 𝒮 a + weight 𝒜 𝒮 b
  weight-merge a (hill u m d) f = omega (arith, weight-push d (join 𝒜 m (closes 𝒜 a u)), weight-join m (closes 𝒜 a u), weight-closes a u f)

  pub fine-merge : (a b : Hill Fig R) → FineHill 𝒜 𝒮 a → FineHill 𝒜 𝒮 b → FineHill 𝒜 𝒮 (merge 𝒜 a b)
  fine-merge a (hill u m d) f g = fine-push d (join 𝒜 m (closes 𝒜 a u)) g (fine-join m (closes 𝒜 a u) (fine-closes a u f))

  -- The unclosed records weigh at least 1 each.
  fall-weight_down : (d : List (R × Fig)) → length d ≤ weight_down 𝒜 𝒮 d
  fall-weight_down [] = omega arith
  fall-weight_down (e ∷ d) = omega (arith, fall-weight_down d, unit-pos)

  fall-weight : (a : Hill Fig R) → fall a ≤ weight 𝒜 𝒮 a
  fall-weight (hill u m d) = omega (arith, fall-weight_down d)

  -- Where the right side does not close all that the left has open, the left's middle value stays; where it closes more, the right's is the middle.
  middle-join : (w : Fig) (a : Hill Fig R) → 0 < fall a → middle (join 𝒜 w a) ≡ middle a
  middle-join w (hill u m []) l = absurd (omega arith)
  middle-join w (hill u m (e ∷ d)) l = refl

  middle-close : (a : Hill Fig R) → 1 < fall a → middle (close 𝒜 a) ≡ middle a
  middle-close (hill u m []) l = absurd (omega arith)
  middle-close (hill u m (e ∷ d)) l = middle-join (node e.0 e.1) (hill u m d) (omega arith)

  middle-fallen : (a : Hill Fig R) → fall a ≡ 0 → middle (close 𝒜 a) ≡ ι
  middle-fallen (hill u m []) l = refl
  middle-fallen (hill u m (e ∷ d)) l = absurd (omega arith)

  middle-closes : (a : Hill Fig R) (u : List Fig) → length u < fall a → middle (closes 𝒜 a u) ≡ middle a
  middle-closes a [] l = refl
  middle-closes a (x ∷ u) l =
      middle-close (join 𝒜 x (closes 𝒜 a u)) (rw (fall-join 𝒜 x (closes 𝒜 a u), fall-closes 𝒜 a u) (omega arith)) ∙
      middle-join x (closes 𝒜 a u) (rw (fall-closes 𝒜 a u) (omega arith)) ∙ middle-closes a u (omega arith)

  middle-push : (e : List (R × Fig)) (a : Hill Fig R) → middle (push e a) ≡ middle a
  middle-push e (hill u m d) = refl

  middle-left : (a b : Hill Fig R) → rise b < fall a → middle (merge 𝒜 a b) ≡ middle a
  middle-left a (hill u m d) l =
      middle-push d (join 𝒜 m (closes 𝒜 a u)) ∙ middle-join m (closes 𝒜 a u) (rw (fall-closes 𝒜 a u) (omega arith)) ∙ middle-closes a u l

  module _ (ℒ : Laws 𝒜) where
    open ℒ use {unit-l}

    middle-flat : (w : Fig) (a : Hill Fig R) → fall a ≡ 0 → middle (join 𝒜 w a) ≡ middle a ⊗ w
    middle-flat w (hill u m []) l = refl
    middle-flat w (hill u m (e ∷ d)) l = absurd (omega arith)

    middle-right : (a b : Hill Fig R) → fall a < rise b → middle (merge 𝒜 a b) ≡ middle b
    middle-right a (hill [] m d) l = absurd (omega arith)
    middle-right a (hill (x ∷ u) m d) l =
        middle-push d (join 𝒜 m (closes 𝒜 a (x ∷ u))) ∙ middle-flat m (closes 𝒜 a (x ∷ u)) (rw (fall-closes 𝒜 a (x ∷ u)) (omega arith)) ∙
        rw (middle-fallen (join 𝒜 x (closes 𝒜 a u)) (rw (fall-join 𝒜 x (closes 𝒜 a u), fall-closes 𝒜 a u) (omega arith))) (unit-l m)

  -- The length of an accepted hill's bytes.
  pub hill-length : (p o : ℕ) (h : Hill Fig R) → ValidHill 𝒜 𝒮 p o h → 24 + 8 * rise h + 20 * fall h ≤ 1788
  hill-length zero o h v = let g = v.ground refl in omega (arith, v.start-high, v.end-high)
  hill-length (suc p) o h v = omega (arith, v.start-high, v.end-high)

  -- No accepted hill outweighs 100,000 records.
  pub hill-weight : (p o : ℕ) (h : Hill Fig R) → ValidHill 𝒜 𝒮 p o h → weight 𝒜 𝒮 h ≤ unit * 100000
  hill-weight p o h v = omega (arith, v.light, mul-le-mul_left unit v.few)

  module _ (ℒ : Laws 𝒜) (p q o n : ℕ) (g h : Hill Fig R) (a : ValidHill 𝒜 𝒮 p o g) (b : ValidHill 𝒜 𝒮 q n h) (meet : p + fall g ≡ q + rise h) (high : 0 < p + fall g) (sum : o + n ≤ 100000) where
    ground-merge : (p q : ℕ) → p + fall g ≡ q + rise h → 0 < p + fall g → (p ≡ 0 → min (rise g) (fall g) ≡ 0) → (q ≡ 0 → min (rise h) (fall h) ≡ 0) → min p q ≡ 0 →
        min (rise g + (rise h - fall g)) (fall h + (fall g - rise h)) ≡ 0
    ground-merge zero q meet high ga gb m = let x = ga refl in omega arith
    ground-merge (suc p) zero meet high ga gb m = let x = gb refl in omega arith
    ground-merge (suc p) (suc q) meet high ga gb m = absurd (omega arith)

    nothing-merge : (p q : ℕ) → ValidHill 𝒜 𝒮 p o g → ValidHill 𝒜 𝒮 q n h → p + fall g ≡ q + rise h → 0 < p + fall g → min p q ≡ 0 → 0 < rise (merge 𝒜 g h) + fall (merge 𝒜 g h) → middle (merge 𝒜 g h) ≡ ι
    nothing-merge zero zero a b meet high m l =
        let x = a.ground refl in
        let y = b.ground refl in
        absurd (omega (arith, rise-merge 𝒜 g h, fall-merge 𝒜 g h))
    nothing-merge zero (suc q) a b meet high m l = middle-left g h (omega arith) ∙ a.nothing refl (omega arith)
    nothing-merge (suc p) zero a b meet high m l = middle-right ℒ g h (omega arith) ∙ b.nothing refl (omega arith)
    nothing-merge (suc p) (suc q) a b meet high m l = absurd (omega arith)

    some-merge : (o n : ℕ) → 0 < rise g + fall g + o → 0 < rise h + fall h + n → weight 𝒜 𝒮 g ≤ unit * o → weight 𝒜 𝒮 h ≤ unit * n → 0 < rise g + (rise h - fall g) + (fall h + (fall g - rise h)) + (o + n)
    some-merge zero zero x y v w = omega (arith, fall-weight g, fall-weight h)
    some-merge zero (suc n) x y v w = omega arith
    some-merge (suc o) n x y v w = omega arith

    pub valid-hill : ValidHill 𝒜 𝒮 (min p q) (o + n) (merge 𝒜 g h)
    valid-hill = record {
      start-high = rw (rise-merge 𝒜 g h) (omega (arith, a.start-high));
      end-high = rw (fall-merge 𝒜 g h) (omega (arith, b.end-high));
      ground = λ m. rw (rise-merge 𝒜 g h, fall-merge 𝒜 g h) (ground-merge p q meet high a.ground b.ground m);
      few = sum;
      some = rw (rise-merge 𝒜 g h, fall-merge 𝒜 g h) (some-merge o n a.some b.some a.light b.light);
      nothing = λ m l. nothing-merge p q a b meet high m l;
      fine = fine-merge g h a.fine b.fine;
      light = omega (arith, weight-merge g h a.fine, a.light, b.light);
    }

  start-64 : (a : Part Fig R) → ValidPart 𝒜 𝒮 a → start a ≤ 64
  start-64 (spoilt f s e o) v = v.start-high
  start-64 (whole p o h) v = v.start-high

  end-64 : (a : Part Fig R) → ValidPart 𝒜 𝒮 a → end a ≤ 64
  end-64 (spoilt f s e o) v = v.end-high
  end-64 (whole p o h) v = v.end-high

  range-verdict : (a : Part Fig R) (t : ℕ) → ValidPart 𝒜 𝒮 a → opened a ≤ t → Range t (verdict a)
  range-verdict (spoilt f s e o) t v l = (v.low-fault, v.high-fault, λ x. let y = v.many x in omega arith)
  range-verdict (whole p o h) t v l = tt

  range-merge : (a b : Part Fig R) → ValidPart 𝒜 𝒮 a → ValidPart 𝒜 𝒮 b → Range (opened a + opened b) (merge_verdict 𝒜 a b)
  range-merge a b v w =
      let t = opened a + opened b in
      range-low t (verdict a) (low (verdict b) (low (joint (end a) (start b)) (count t))) (range-verdict a t v (omega arith))
      (range-low t (verdict b) (low (joint (end a) (start b)) (count t)) (range-verdict b t w (omega arith))
      (range-low t (joint (end a) (start b)) (count t) (range-between t (end a) (start b)) (range-count t)))

  valid-judged : (v : Verdict) (s e t p : ℕ) (h : Hill Fig R) → Range t v → s ≤ 64 → e ≤ 64 → (v ≡ pass → ValidHill 𝒜 𝒮 p t h) → ValidPart 𝒜 𝒮 (judged v s e t p h)
  valid-judged pass s e t p h r k l f = f refl
  valid-judged (refuse n) s e t p h r k l f = valid-spoilt n s e t r k l

  pub readable-append : (xs ys : List (Record R)) → AllReadable 𝒜 𝒮 xs → AllReadable 𝒜 𝒮 ys → AllReadable 𝒜 𝒮 (xs ++ ys)
  readable-append [] ys a b = b
  readable-append (x ∷ xs) ys a b = (a.0, readable-append xs ys a.1 b)

  valid-single : (x : Record R) → Readable 𝒜 𝒮 x → ValidPart 𝒜 𝒮 (single 𝒜 x)
  valid-single (opening d r) c = record {
    start-high = omega arith;
    end-high = omega arith;
    ground = λ _. refl;
    few = omega arith;
    some = omega arith;
    nothing = λ _ _. refl;
    fine = (c.1, tt);
    light = omega (arith, size-ι);
  }
  valid-single (closing d) c = record {
    start-high = omega arith;
    end-high = omega arith;
    ground = λ _. refl;
    few = omega arith;
    some = omega arith;
    nothing = λ _ _. refl;
    fine = tt;
    light = omega (arith, size-ι);
  }

  module _ (ℒ : Laws 𝒜) where
    valid-pass : (a b : Part Fig R) → ValidPart 𝒜 𝒮 a → ValidPart 𝒜 𝒮 b → merge_verdict 𝒜 a b ≡ pass → ValidHill 𝒜 𝒮 (min (peak 𝒜 a) (peak 𝒜 b)) (opened a + opened b) (merge_hills 𝒜 (slopes 𝒜 a) (slopes 𝒜 b))
    valid-pass (spoilt f s e o) b v w m = absurd (refuse-pass m)
    valid-pass (whole p o g) (spoilt f s e n) v w m = absurd (refuse-pass m)
    valid-pass (whole p o g) (whole q n h) v w m =
        let j = low-fst (joint (p + fall g) (q + rise h)) (count (o + n)) m in
        let c = count-pass (o + n) (low-snd (joint (p + fall g) (q + rise h)) (count (o + n)) m) in
        rw (merge_hills-merge 𝒜 ℒ g h) (valid-hill ℒ p q o n g h v w (joint-pass (p + fall g) (q + rise h) j) (joint-high (p + fall g) (q + rise h) j) c)

    pub valid-merge : (a b : Part Fig R) → ValidPart 𝒜 𝒮 a → ValidPart 𝒜 𝒮 b → ValidPart 𝒜 𝒮 (merge_part 𝒜 a b)
    valid-merge a b v w =
        valid-judged (merge_verdict 𝒜 a b) (start a) (end b) (opened a + opened b) (min (peak 𝒜 a) (peak 𝒜 b)) (merge_hills 𝒜 (slopes 𝒜 a) (slopes 𝒜 b))
        (range-merge a b v w) (start-64 a v) (end-64 b w) (valid-pass a b v w)

    -- MERGING accepted summaries gives an accepted one.
    pub valid-merge_summary : (a b : Summary Fig R) → ValidSummary 𝒜 𝒮 a → ValidSummary 𝒜 𝒮 b → ValidSummary 𝒜 𝒮 (merge_summary 𝒜 a b)
    valid-merge_summary blank b v w = w
    valid-merge_summary (part a) blank v w = v
    valid-merge_summary (part a) (part b) v w = valid-merge a b v w

    -- A READABLE CHUNK's summary is accepted.
    pub valid-summary : (xs : List (Record R)) → AllReadable 𝒜 𝒮 xs → ValidSummary 𝒜 𝒮 (summary_of 𝒜 xs)
    valid-summary [] r = tt
    valid-summary (x ∷ xs) r =
        subst (λ (s : Summary Fig R). ValidSummary 𝒜 𝒮 s) (sym (summary_of-cons 𝒜 ℒ x xs)) (valid-merge_summary (part (single 𝒜 x)) (summary_of 𝒜 xs) (valid-single x r.0) (valid-summary xs r.1))
