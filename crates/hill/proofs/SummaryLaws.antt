-- Merging summaries is a homomorphism for every cut, and associative on all summaries with blank as unit. Assumes nothing.
use Rattle.std.specs.Prelude.{◌≡◌, List, [], ◌∷◌, ◌++◌, ℕ, ◌+◌, ◌-◌, ◌≤◌, min}
use Rattle.std.proofs.Math.Path.{refl}
use Rattle.std.proofs.Common.{ap, sym, ◌∙◌, add_assoc}
use native.Mathlib.Omega.{arith}
use Rattle.algebra.specs.Algebra.{Algebra, Laws}
use Rattle.hill.specs.Verdict.{Verdict, pass, refuse, low, joint, count, cut}
use Rattle.hill.proofs.VerdictLaws.{low-assoc, low-left, low-fst, low-snd, joint-pass, count-pass, count-cut-l, count-cut-r, count-absorb, cut-few}
use Rattle.hill.specs.Log.{Record, opening, closing, depth, start_level, end_level, end_of, peak_of, opens, opened_of, joints, fault_of}
use Rattle.hill.specs.Summary.{Hill, Part, spoilt, whole, Summary, blank, part, rise, fall, start, end, opened, verdict, judged, values_of, part_of, summary_of, peak, slopes}
use Rattle.hill.specs.Merge.{merge_hills, merge_verdict, merge_part, merge_summary}
use Rattle.hill.specs.Building.{merge, hill_of}
use Rattle.hill.proofs.Building.{hill_of-append, merge-assoc}
use Rattle.hill.proofs.Slopes.{fall-merge, rise-merge}
use Rattle.hill.proofs.MergeLaws.{merge_hills-merge}
use Rattle.hill.proofs.Values.{hill_of-values}

module _ {Fig R : Type 0} where
  verdict-judged : (v : Verdict) (s e o p : ℕ) (h : Hill Fig R) → verdict (judged v s e o p h) ≡ v
  verdict-judged pass s e o p h = refl
  verdict-judged (refuse f) s e o p h = refl

  opened-judged : (v : Verdict) (s e o p : ℕ) (h : Hill Fig R) → (v ≡ pass → o ≤ 100000) → opened (judged v s e o p h) ≡ cut o
  opened-judged pass s e o p h k = sym (cut-few o (k refl))
  opened-judged (refuse f) s e o p h k = refl

  start-judged : (v : Verdict) (s e o p : ℕ) (h : Hill Fig R) → (v ≡ pass → p + rise h ≡ s) → start (judged v s e o p h) ≡ s
  start-judged pass s e o p h k = k refl
  start-judged (refuse f) s e o p h k = refl

  end-judged : (v : Verdict) (s e o p : ℕ) (h : Hill Fig R) → (v ≡ pass → p + fall h ≡ e) → end (judged v s e o p h) ≡ e
  end-judged pass s e o p h k = k refl
  end-judged (refuse f) s e o p h k = refl

  -- Where something is at fault the values may differ, and the count beyond the cut.
  judged-same : (v : Verdict) (s e o n p q : ℕ) (g h : Hill Fig R) → cut o ≡ cut n → (v ≡ pass → o ≡ n) → (v ≡ pass → p ≡ q) → (v ≡ pass → g ≡ h) → judged v s e o p g ≡ judged v s e n q h
  judged-same pass s e o n p q g h c t k l = rw (t refl, k refl, l refl)
  judged-same (refuse f) s e o n p q g h c t k l = rw c

module _ {R : Type 0} (𝒜 : Algebra R) where
  open 𝒜 use {Fig}

  pub verdict-merge : (a b : Part Fig R) → verdict (merge_part 𝒜 a b) ≡ merge_verdict 𝒜 a b
  verdict-merge a b = verdict-judged (merge_verdict 𝒜 a b) (start a) (end b) (opened a + opened b) (min (peak 𝒜 a) (peak 𝒜 b)) (merge_hills 𝒜 (slopes 𝒜 a) (slopes 𝒜 b))

  -- What passes has parts that pass, and few opened records.
  pass-l : (a b : Part Fig R) → merge_verdict 𝒜 a b ≡ pass → verdict a ≡ pass
  pass-l a b v = low-fst (verdict a) (low (verdict b) (low (joint (end a) (start b)) (count (opened a + opened b)))) v

  pass-r : (a b : Part Fig R) → merge_verdict 𝒜 a b ≡ pass → verdict b ≡ pass
  pass-r a b v =
      low-fst (verdict b) (low (joint (end a) (start b)) (count (opened a + opened b)))
      (low-snd (verdict a) (low (verdict b) (low (joint (end a) (start b)) (count (opened a + opened b)))) v)

  pass-join : (a b : Part Fig R) → merge_verdict 𝒜 a b ≡ pass → low (joint (end a) (start b)) (count (opened a + opened b)) ≡ pass
  pass-join a b v =
      low-snd (verdict b) (low (joint (end a) (start b)) (count (opened a + opened b)))
      (low-snd (verdict a) (low (verdict b) (low (joint (end a) (start b)) (count (opened a + opened b)))) v)

  few : (a b : Part Fig R) → merge_verdict 𝒜 a b ≡ pass → opened a + opened b ≤ 100000
  few a b v = count-pass (opened a + opened b) (low-snd (joint (end a) (start b)) (count (opened a + opened b)) (pass-join a b v))

  meet : (a b : Part Fig R) → merge_verdict 𝒜 a b ≡ pass → end a ≡ start b
  meet a b v = joint-pass (end a) (start b) (low-fst (joint (end a) (start b)) (count (opened a + opened b)) (pass-join a b v))

  pub opened-merge : (a b : Part Fig R) → opened (merge_part 𝒜 a b) ≡ cut (opened a + opened b)
  opened-merge a b = opened-judged (merge_verdict 𝒜 a b) (start a) (end b) (opened a + opened b) (min (peak 𝒜 a) (peak 𝒜 b)) (merge_hills 𝒜 (slopes 𝒜 a) (slopes 𝒜 b)) (few a b)

  peak-merge : (a b : Part Fig R) → merge_verdict 𝒜 a b ≡ pass → peak 𝒜 (merge_part 𝒜 a b) ≡ min (peak 𝒜 a) (peak 𝒜 b)
  peak-merge a b v = rw v

  -- The faults of three parts, grouped either way: a count that is too high stays so.
  regroup : (a b c j k m n t : Verdict) → low m t ≡ t → low n t ≡ t →
      low (low a (low b (low j m))) (low c (low k t)) ≡ low a (low (low b (low c (low k n))) (low j t))
  regroup a b c j k m n t p q = simp low-assoc (rw (low-left m c (low k t), low-left m k t, p, low-left n j t, q, low-left j c (low k t), low-left j k t))

  cut-cut : (l m n : ℕ) → cut (cut (l + m) + n) ≡ cut (l + cut (m + n))
  unfolding cut
  cut-cut l m n = omega arith

  cut_right : (m n : ℕ) → cut (m + n) ≡ cut (m + cut n)
  unfolding cut
  cut_right m n = omega arith

  pub verdict-part_of : (x : Record R) (xs : List (Record R)) → verdict (part_of 𝒜 x xs) ≡ fault_of x xs
  verdict-part_of x xs =
      verdict-judged (fault_of x xs) (start_level x) (end_of x xs) (opened_of (x ∷ xs)) (peak_of x xs)
      (values_of 𝒜 (peak_of x xs) (start_level x - peak_of x xs) (end_of x xs - peak_of x xs) (x ∷ xs))

  opened-part_of : (x : Record R) (xs : List (Record R)) → opened (part_of 𝒜 x xs) ≡ cut (opened_of (x ∷ xs))
  opened-part_of x xs =
      opened-judged (fault_of x xs) (start_level x) (end_of x xs) (opened_of (x ∷ xs)) (peak_of x xs)
      (values_of 𝒜 (peak_of x xs) (start_level x - peak_of x xs) (end_of x xs - peak_of x xs) (x ∷ xs))
      (λ v. count-pass (opened_of (x ∷ xs)) (low-snd (joints x xs) (count (opened_of (x ∷ xs))) v))

  swap : (b j c t : Verdict) → low c t ≡ t → low (low b j) t ≡ low (low j c) (low b t)
  swap b j c t p = simp low-assoc (rw (low-left c b t, p, low-left j b t))

  -- A chunk's summary with the hill built record by record.
  abbrev pub built : Record R → List (Record R) → Part Fig R
  built x xs = judged (fault_of x xs) (start_level x) (end_of x xs) (opened_of (x ∷ xs)) (peak_of x xs) (hill_of 𝒜 (x ∷ xs))

  -- A chunk of one record.
  abbrev pub single : Record R → Part Fig R
  single x = whole (depth x) (opens x) (hill_of 𝒜 (x ∷ []))

  built-nil : (x : Record R) → built x [] ≡ single x
  unfolding count
  built-nil (opening d r) = refl
  built-nil (closing d) = refl

  single-levels : (x : Record R) → (start (single x) ≡ start_level x) × (end (single x) ≡ end_level x)
  single-levels (opening d r) = omega arith
  single-levels (closing d) = omega arith

  -- A part's levels are those of its chunk.
  abbrev pub Levels : Record R → List (Record R) → Type 0
  Levels x xs = (start (part_of 𝒜 x xs) ≡ start_level x) × (end (part_of 𝒜 x xs) ≡ end_of x xs)

  pub merge-blank : (a : Summary Fig R) → merge_summary 𝒜 a blank ≡ a
  merge-blank blank = refl
  merge-blank (part a) = refl

  module _ (ℒ : Laws 𝒜) where
    pub slopes-merge : (a b : Part Fig R) → merge_verdict 𝒜 a b ≡ pass → slopes 𝒜 (merge_part 𝒜 a b) ≡ merge 𝒜 (slopes 𝒜 a) (slopes 𝒜 b)
    slopes-merge a b v = rw v (merge_hills-merge 𝒜 ℒ (slopes 𝒜 a) (slopes 𝒜 b))

    -- Where nothing is at fault the merged hill goes from the left's start to the right's end.
    merge-starts : (a b : Part Fig R) → merge_verdict 𝒜 a b ≡ pass → min (peak 𝒜 a) (peak 𝒜 b) + rise (merge_hills 𝒜 (slopes 𝒜 a) (slopes 𝒜 b)) ≡ start a
    merge-starts (spoilt f s e o) b v = cc
    merge-starts (whole p o g) (spoilt f s e n) v = cc
    merge-starts (whole p o g) (whole q n h) v = rw (merge_hills-merge 𝒜 ℒ g h, rise-merge 𝒜 g h) (omega (arith, meet (whole p o g) (whole q n h) v))

    merge-ends : (a b : Part Fig R) → merge_verdict 𝒜 a b ≡ pass → min (peak 𝒜 a) (peak 𝒜 b) + fall (merge_hills 𝒜 (slopes 𝒜 a) (slopes 𝒜 b)) ≡ end b
    merge-ends (spoilt f s e o) b v = cc
    merge-ends (whole p o g) (spoilt f s e n) v = cc
    merge-ends (whole p o g) (whole q n h) v = rw (merge_hills-merge 𝒜 ℒ g h, fall-merge 𝒜 g h) (omega (arith, meet (whole p o g) (whole q n h) v))

    pub start-merge : (a b : Part Fig R) → start (merge_part 𝒜 a b) ≡ start a
    start-merge a b = start-judged (merge_verdict 𝒜 a b) (start a) (end b) (opened a + opened b) (min (peak 𝒜 a) (peak 𝒜 b)) (merge_hills 𝒜 (slopes 𝒜 a) (slopes 𝒜 b)) (merge-starts a b)

    pub end-merge : (a b : Part Fig R) → end (merge_part 𝒜 a b) ≡ end b
    end-merge a b = end-judged (merge_verdict 𝒜 a b) (start a) (end b) (opened a + opened b) (min (peak 𝒜 a) (peak 𝒜 b)) (merge_hills 𝒜 (slopes 𝒜 a) (slopes 𝒜 b)) (merge-ends a b)

    verdict-assoc : (a b c : Part Fig R) → merge_verdict 𝒜 (merge_part 𝒜 a b) c ≡ merge_verdict 𝒜 a (merge_part 𝒜 b c)
    verdict-assoc a b c =
        rw (verdict-merge a b, verdict-merge b c, end-merge a b, start-merge b c, opened-merge a b, opened-merge b c, count-cut-l (opened a + opened b) (opened c), count-cut-r (opened a) (opened b + opened c))
        (rw (add_assoc (opened a) (opened b) (opened c))
        (regroup (verdict a) (verdict b) (verdict c) (joint (end a) (start b)) (joint (end b) (start c)) (count (opened a + opened b)) (count (opened b + opened c)) (count (opened a + (opened b + opened c)))
        (count-absorb (opened a + opened b) (opened a + (opened b + opened c)) (omega arith))
        (count-absorb (opened b + opened c) (opened a + (opened b + opened c)) (omega arith))))

    merge_part-assoc : (a b c : Part Fig R) → merge_part 𝒜 (merge_part 𝒜 a b) c ≡ merge_part 𝒜 a (merge_part 𝒜 b c)
    merge_part-assoc a b c =
        rw (verdict-assoc a b c, start-merge a b, end-merge b c)
        (judged-same (merge_verdict 𝒜 a (merge_part 𝒜 b c)) (start a) (end c) (opened (merge_part 𝒜 a b) + opened c) (opened a + opened (merge_part 𝒜 b c))
        (min (peak 𝒜 (merge_part 𝒜 a b)) (peak 𝒜 c)) (min (peak 𝒜 a) (peak 𝒜 (merge_part 𝒜 b c)))
        (merge_hills 𝒜 (slopes 𝒜 (merge_part 𝒜 a b)) (slopes 𝒜 c)) (merge_hills 𝒜 (slopes 𝒜 a) (slopes 𝒜 (merge_part 𝒜 b c)))
        (rw (opened-merge a b, opened-merge b c) (cut-cut (opened a) (opened b) (opened c)))
        (λ v. rw (opened-merge a b, opened-merge b c, cut-few (opened a + opened b) (few a b (left v)), cut-few (opened b + opened c) (few b c (right v))) (omega arith))
        (λ v. rw (peak-merge a b (left v), peak-merge b c (right v)) (omega arith))
        (λ v. rw (merge_hills-merge 𝒜 ℒ (slopes 𝒜 (merge_part 𝒜 a b)) (slopes 𝒜 c), merge_hills-merge 𝒜 ℒ (slopes 𝒜 a) (slopes 𝒜 (merge_part 𝒜 b c)), slopes-merge a b (left v), slopes-merge b c (right v))
        (merge-assoc 𝒜 ℒ (slopes 𝒜 a) (slopes 𝒜 b) (slopes 𝒜 c))))
      where
        left : merge_verdict 𝒜 a (merge_part 𝒜 b c) ≡ pass → merge_verdict 𝒜 a b ≡ pass
        left v = sym (verdict-merge a b) ∙ pass-l (merge_part 𝒜 a b) c (verdict-assoc a b c ∙ v)

        right : merge_verdict 𝒜 a (merge_part 𝒜 b c) ≡ pass → merge_verdict 𝒜 b c ≡ pass
        right v = sym (verdict-merge b c) ∙ pass-r a (merge_part 𝒜 b c) v

    -- Merging is associative on all summaries, also on those that no chunk makes; a blank adds nothing.
    pub merge_summary-assoc : (a b c : Summary Fig R) → merge_summary 𝒜 (merge_summary 𝒜 a b) c ≡ merge_summary 𝒜 a (merge_summary 𝒜 b c)
    merge_summary-assoc blank b c = refl
    merge_summary-assoc (part a) blank c = refl
    merge_summary-assoc (part a) (part b) blank = refl
    merge_summary-assoc (part a) (part b) (part c) = ap part (merge_part-assoc a b c)

    pub part_of-built : (x : Record R) (xs : List (Record R)) → part_of 𝒜 x xs ≡ built x xs
    part_of-built x xs =
        judged-same (fault_of x xs) (start_level x) (end_of x xs) (opened_of (x ∷ xs)) (opened_of (x ∷ xs)) (peak_of x xs) (peak_of x xs)
        (values_of 𝒜 (peak_of x xs) (start_level x - peak_of x xs) (end_of x xs - peak_of x xs) (x ∷ xs)) (hill_of 𝒜 (x ∷ xs)) refl (λ v. refl) (λ v. refl)
        (λ v. sym (hill_of-values 𝒜 ℒ x xs (low-fst (joints x xs) (count (opened_of (x ∷ xs))) v)))

    part_of-nil : (x : Record R) → part_of 𝒜 x [] ≡ single x
    part_of-nil x = part_of-built x [] ∙ built-nil x

    module _ (x y : Record R) (ys : List (Record R)) (l : Levels y ys) where
      cons-verdict : merge_verdict 𝒜 (single x) (part_of 𝒜 y ys) ≡ fault_of x (y ∷ ys)
      cons-verdict =
          rw (verdict-part_of y ys, (single-levels x).1, l.0, opened-part_of y ys, count-cut-r (opens x) (opened_of (y ∷ ys)))
          (sym (swap (joint (end_level x) (start_level y)) (joints y ys) (count (opened_of (y ∷ ys))) (count (opens x + opened_of (y ∷ ys)))
          (count-absorb (opened_of (y ∷ ys)) (opens x + opened_of (y ∷ ys)) (omega arith))))

      tail-passes : fault_of x (y ∷ ys) ≡ pass → fault_of y ys ≡ pass
      tail-passes v = sym (verdict-part_of y ys) ∙ pass-r (single x) (part_of 𝒜 y ys) (cons-verdict ∙ v)

      tail-built : fault_of x (y ∷ ys) ≡ pass → part_of 𝒜 y ys ≡ whole (peak_of y ys) (opened_of (y ∷ ys)) (hill_of 𝒜 (y ∷ ys))
      tail-built v = part_of-built y ys ∙ rw (tail-passes v)

      part_of-cons : part_of 𝒜 x (y ∷ ys) ≡ merge_part 𝒜 (single x) (part_of 𝒜 y ys)
      part_of-cons =
          part_of-built x (y ∷ ys) ∙
          rw (cons-verdict, (single-levels x).0, l.1)
          (judged-same (fault_of x (y ∷ ys)) (start_level x) (end_of y ys) (opened_of (x ∷ (y ∷ ys))) (opens x + opened (part_of 𝒜 y ys))
          (peak_of x (y ∷ ys)) (min (depth x) (peak 𝒜 (part_of 𝒜 y ys))) (hill_of 𝒜 (x ∷ (y ∷ ys))) (merge_hills 𝒜 (hill_of 𝒜 (x ∷ [])) (slopes 𝒜 (part_of 𝒜 y ys)))
          (rw (opened-part_of y ys) (cut_right (opens x) (opened_of (y ∷ ys))))
          (λ v. rw (tail-built v))
          (λ v. rw (tail-built v))
          (λ v. rw (tail-built v, merge_hills-merge 𝒜 ℒ (hill_of 𝒜 (x ∷ [])) (hill_of 𝒜 (y ∷ ys))) (hill_of-append 𝒜 ℒ (x ∷ []) (y ∷ ys))))

    pub levels : (x : Record R) (xs : List (Record R)) → Levels x xs
    levels x [] = rw (part_of-nil x) (single-levels x)
    levels x (y ∷ ys) =
        rw (part_of-cons x y ys (levels y ys))
        ((start-merge (single x) (part_of 𝒜 y ys) ∙ (single-levels x).0), (end-merge (single x) (part_of 𝒜 y ys) ∙ (levels y ys).1))

    pub summary_of-cons : (x : Record R) (xs : List (Record R)) → summary_of 𝒜 (x ∷ xs) ≡ merge_summary 𝒜 (part (single x)) (summary_of 𝒜 xs)
    summary_of-cons x [] = ap part (part_of-nil x)
    summary_of-cons x (y ∷ ys) = ap part (part_of-cons x y ys (levels y ys))

    -- Merging the summaries of two chunks gives the summary of the joined chunks.
    pub summary_of-append : (xs ys : List (Record R)) → summary_of 𝒜 (xs ++ ys) ≡ merge_summary 𝒜 (summary_of 𝒜 xs) (summary_of 𝒜 ys)
    summary_of-append [] ys = refl
    summary_of-append (x ∷ xs) ys =
        summary_of-cons x (xs ++ ys) ∙
        rw (summary_of-append xs ys, summary_of-cons x xs) (sym (merge_summary-assoc (part (single x)) (summary_of 𝒜 xs) (summary_of 𝒜 ys)))
