-- The fault that the gate finds in a row is the one that finishing the merged row answers; and what a row that passes is like. Assumes nothing.
use Rattle.std.specs.Prelude.{◌≡◌, List, [], ◌∷◌, ℕ, ◌+◌, ◌≤◌, ◌<◌, Bool, leb}
use Rattle.std.proofs.Math.Path.{refl, ap}
use Rattle.std.proofs.Common.{sym, ◌∙◌, add_assoc, add-zero, arith}
use Rattle.std.proofs.Math.Bool.{true, false}
use Rattle.algebra.specs.Algebra.{Algebra, Laws}
use Rattle.hill.specs.Verdict.{Verdict, pass, refuse, lower, low, ask, joint, count, ends}
use Rattle.hill.proofs.VerdictLaws.{low-pass, low-assoc, low-left, low-fst, low-snd, joint-pass, joint-high, ends-pass, refuse-pass, count-cut-r, count-absorb, count-few}
use Rattle.hill.specs.Summary.{Part, spoilt, whole, Summary, blank, part, rise, fall, middle, verdict, start, end, opened}
use Rattle.hill.specs.Merge.{merge_part, merge_summary}
use Rattle.hill.specs.Finish.{outcome, finish_of}
use Rattle.hill.proofs.SummaryLaws.{start-merge, end-merge, verdict-merge, opened-merge}
use Rattle.algebra.specs.Sizes.{Sizes}
use Rattle.hill.proofs.RowLaws.{in_order}
use Rattle.join_plan.specs.Gate.{summary_fault}
use Rattle.plan_work.specs.Runs.{slopes_of}
use Rattle.plan_work.specs.Gate.{parts_of, spoilt_fault, join_fault, total_opened, last_end, row_fault}
use Rattle.plan_work.specs.Fair.{ValidRow, FairPart, FairRow}

-- A part's own count tells nothing new.
counted : (v : Verdict) (n : ℕ) → n ≤ 100000 → low v (count n) ≡ v
counted v n h = rw (count-few n h, low-pass v)

module _ {R : Type 0} (𝒜 : Algebra R) where
  open 𝒜 use {Fig}

  own-count : (a : Part Fig R) → FairPart 𝒜 a → low (verdict a) (count (opened a)) ≡ verdict a
  unfolding count
  own-count (spoilt f s e o) h = go (leb o 100000)
    where
      go : (t : Bool) → refuse (lower f (ask 9 t)) ≡ refuse f
      go true = refl
      go false = ap refuse (omega arith)
  own-count (whole p o g) h = counted pass o h.few

  -- The row merged in order, and its parts.
  abbrev pub merge_all : List (Summary Fig R) → Summary Fig R
  merge_all row = in_order (merge_summary 𝒜) blank row

  abbrev merge_parts : Part Fig R → List (Part Fig R) → Part Fig R
  merge_parts a [] = a
  merge_parts a (b ∷ bs) = merge_part 𝒜 a (merge_parts b bs)

  merge_all-parts : (a : Part Fig R) (row : List (Summary Fig R)) → merge_all (part a ∷ row) ≡ part (merge_parts a (parts_of row))
  merge_all-parts a [] = refl
  merge_all-parts a (blank ∷ row) = merge_all-parts a row
  merge_all-parts a (part b ∷ row) = rw (merge_all-parts b row)

  module _ (ℒ : Laws 𝒜) where
    start-parts : (a : Part Fig R) (bs : List (Part Fig R)) → start (merge_parts a bs) ≡ start a
    start-parts a [] = refl
    start-parts a (b ∷ bs) = start-merge 𝒜 ℒ a (merge_parts b bs)

    end-parts : (a : Part Fig R) (bs : List (Part Fig R)) → end (merge_parts a bs) ≡ last_end a bs
    end-parts a [] = refl
    end-parts a (b ∷ bs) = end-merge 𝒜 ℒ a (merge_parts b bs) ∙ end-parts b bs

    count-parts : (x : ℕ) (a : Part Fig R) (bs : List (Part Fig R)) → count (x + opened (merge_parts a bs)) ≡ count (x + total_opened (a ∷ bs))
    count-parts x a [] = rw (add-zero (opened a))
    count-parts x a (b ∷ bs) =
        rw (opened-merge 𝒜 a (merge_parts b bs), count-cut-r x (opened a + opened (merge_parts b bs)), ← add_assoc x (opened a) (opened (merge_parts b bs)), count-parts (x + opened a) b bs, add_assoc x (opened a) (total_opened (b ∷ bs)))

    -- The lowest of the spoilt ones' faults, the joins' and 9 for the total.
    abbrev parts_verdict : Part Fig R → List (Part Fig R) → Verdict
    parts_verdict a bs = low (spoilt_fault (a ∷ bs)) (low (join_fault a bs) (count (total_opened (a ∷ bs))))

    gather : (v s j c b t : Verdict) → low c t ≡ t → low v (low (low s (low j c)) (low b t)) ≡ low (low v s) (low (low b j) t)
    gather v s j c b t p = simp low-assoc (rw (low-left c b t, p, low-left j b t))

    verdict-parts : (a : Part Fig R) (row : List (Summary Fig R)) → FairPart 𝒜 a → FairRow 𝒜 row → verdict (merge_parts a (parts_of row)) ≡ parts_verdict a (parts_of row)
    verdict-parts a [] f g = rw (low-pass (verdict a), add-zero (opened a)) (sym (own-count a f))
    verdict-parts a (blank ∷ row) f g = verdict-parts a row f g
    verdict-parts a (part b ∷ row) f g =
        let bs : List (Part Fig R) = parts_of row in
        rw (verdict-merge 𝒜 a (merge_parts b bs), verdict-parts b row g.0 g.1, start-parts b bs, count-parts (opened a) b bs)
        (gather (verdict a) (spoilt_fault (b ∷ bs)) (join_fault b bs) (count (total_opened (b ∷ bs))) (joint (end a) (start b)) (count (total_opened (a ∷ (b ∷ bs))))
        (count-absorb (total_opened (b ∷ bs)) (total_opened (a ∷ (b ∷ bs))) (omega arith)))

    -- THE GATE OF A ROW: finishing the merged row answers the row's fault, or the middle value.
    pub finish-row : (row : List (Summary Fig R)) → FairRow 𝒜 row → finish_of 𝒜 (merge_all row) ≡ outcome (row_fault row) (middle (slopes_of 𝒜 (merge_all row)))
    finish-row [] f = refl
    finish-row (blank ∷ row) f = finish-row row f
    finish-row (part a ∷ row) f =
        rw (merge_all-parts a row, verdict-parts a row f.0 f.1, start-parts a (parts_of row), end-parts a (parts_of row))

    -- Where nothing is at fault, the merged row is not spoilt.
    pub row-unspoilt : (row : List (Summary Fig R)) → FairRow 𝒜 row → row_fault row ≡ pass → summary_fault 𝒜 (merge_all row) ≡ pass
    row-unspoilt [] f v = absurd (refuse-pass v)
    row-unspoilt (blank ∷ row) f v = row-unspoilt row f v
    row-unspoilt (part a ∷ row) f v =
        rw (merge_all-parts a row) (verdict-parts a row f.0 f.1 ∙ low-fst (parts_verdict a (parts_of row)) (ends (start a) (last_end a (parts_of row))) v)

-- Accepted summaries are all that is needed.
pub fair-row : {R : Type 0} (𝒜 : Algebra R) {Fine : R → Type 0} (𝒮 : Sizes 𝒜 Fine) (row : List (Summary 𝒜.Fig R)) → ValidRow 𝒜 𝒮 row → FairRow 𝒜 row
fair-row 𝒜 𝒮 [] v = tt
fair-row 𝒜 𝒮 (blank ∷ row) v = fair-row 𝒜 𝒮 row v.1
fair-row 𝒜 𝒮 (part (spoilt f s e o) ∷ row) v = (v.0.high-fault, fair-row 𝒜 𝒮 row v.1)
fair-row 𝒜 𝒮 (part (whole p o h) ∷ row) v = (record { few = v.0.few; ground = v.0.ground; nothing = v.0.nothing }, fair-row 𝒜 𝒮 row v.1)

module _ {Fig R : Type 0} where
  -- A row after a hill that ends at level l: its hills meet above level 0, and the last ends at level 0.
  abbrev pub Chain : ℕ → List (Summary Fig R) → Type 0
  Chain l [] = l ≡ 0
  Chain l (blank ∷ row) = Chain l row
  Chain l (part (spoilt f s e o) ∷ row) = ⊥
  Chain l (part (whole p o h) ∷ row) = (0 < l) × (p + rise h ≡ l) × Chain (p + fall h) row

  -- A row that passes: there is a hill, and the first starts at level 0.
  abbrev pub Begins : List (Summary Fig R) → Type 0
  Begins [] = ⊥
  Begins (blank ∷ row) = Begins row
  Begins (part (spoilt f s e o) ∷ row) = ⊥
  Begins (part (whole p o h) ∷ row) = (p + rise h ≡ 0) × Chain (p + fall h) row

  chain : (a : Part Fig R) (row : List (Summary Fig R)) → spoilt_fault (parts_of row) ≡ pass → join_fault a (parts_of row) ≡ pass → last_end a (parts_of row) ≡ 0 → Chain (end a) row
  chain a [] s j e = e
  chain a (blank ∷ row) s j e = chain a row s j e
  chain a (part (spoilt f b c o) ∷ row) s j e = absurd (refuse-pass s)
  chain a (part (whole p o h) ∷ row) s j e =
      let q : joint (end a) (p + rise h) ≡ pass = low-fst (joint (end a) (p + rise h)) (join_fault (whole p o h) (parts_of row)) j in (
        joint-high (end a) (p + rise h) q,
        sym (joint-pass (end a) (p + rise h) q),
        chain (whole p o h) row s (low-snd (joint (end a) (p + rise h)) (join_fault (whole p o h) (parts_of row)) j) e,
      )

  pub row-begins : (row : List (Summary Fig R)) → row_fault row ≡ pass → Begins row
  row-begins [] v = absurd (refuse-pass v)
  row-begins (blank ∷ row) v = row-begins row v
  row-begins (part (spoilt f s e o) ∷ row) v = absurd (refuse-pass v)
  row-begins (part (whole p o h) ∷ row) v =
      let bs : List (Part Fig R) = parts_of row in
      let w : low (spoilt_fault bs) (low (join_fault (whole p o h) bs) (count (o + total_opened bs))) ≡ pass = low-fst _ (ends (p + rise h) (last_end (whole p o h) bs)) v in
      let e : (p + rise h ≡ 0) × (last_end (whole p o h) bs ≡ 0) = ends-pass (p + rise h) (last_end (whole p o h) bs) (low-snd (low (spoilt_fault bs) (low (join_fault (whole p o h) bs) (count (o + total_opened bs)))) (ends (p + rise h) (last_end (whole p o h) bs)) v) in
      (e.0, chain (whole p o h) row (low-fst (spoilt_fault bs) _ w) (low-fst (join_fault (whole p o h) bs) (count (o + total_opened bs)) (low-snd (spoilt_fault bs) _ w)) e.1)
