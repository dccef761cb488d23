-- The plan holds the lines that it should, in order. Assumes nothing.
use Prim.Native.Nat.{ℕ, zero, suc, ◌≤◌, ◌<◌, min, max}
use Rattle.std.specs.Prelude.{◌≡◌, refl, ◌↔◌, length}
use Rattle.std.proofs.Common.{sym, ◌∙◌}
use Rattle.std.proofs.Math.Path.{subst}
use Rattle.std.proofs.Math.Logic.{inl, inr, ⊎_elim, dite}
use mathlib.Core.List.Memᴰ
use mathlib.Core.List.{List, Memᴰ}
use Rattle.std.proofs.Math.Decide.{dec_lt}
use native.Mathlib.Omega.{arith}
use Rattle.std.proofs.Math.ListN.{get_or-eq_default}
use Rattle.hill.specs.Sorted.{Sorted}
use Rattle.hill.proofs.SortedLaws.{sorted-append, sorted-unique}
use Rattle.join_plan.specs.Plan.{Levels, blank, hill, Line, row_of, Before}
use Rattle.join_plan.specs.Scan.{line_if, line_of, passed, walk, lines_to, plan, scan_of}
use Rattle.join_plan.specs.Joins.{Opens, Closes, Above, LeftOpen, Joins, For, IsLine}

for-iff : (D E : ℕ → Type 0) (l : Line) → ((d : ℕ) → D d ↔ E d) → For D l → For E l
for-iff D E l e f = record { some = f.some; depths = λ d. (λ x. (f.depths d).0 ((e d).1 x), λ x. (e d).0 ((f.depths d).1 x)) }

-- the depths from p to below m
abbrev pub Within : (p m d : ℕ) → Type 0
Within p m d = (p ≤ d) × (d < m)

line_of-sound : (c : Levels) (i j p m : ℕ) (l : Line) → Memᴰ l (line_of c i j p m) → (l.i ≡ i) × (l.j ≡ j) × For (λ d. Opens c d × Within p m d) l
unfolding line_of line_if
line_of-sound blank i j p m l h = absurd (Memᴰ.not-nil h)
line_of-sound (hill s q e) i j p m l h = go (dec_lt (max q p) (min e m)) h
  where
    Says : Line → Type 0
    Says l = (l.i ≡ i) × (l.j ≡ j) × For (λ d. Opens (hill s q e) d × Within p m d) l

    go : (t : Dec (max q p < min e m)) → Memᴰ l (line_if i j (max q p) (min e m) t) → Says l
    go (no n) h = absurd (Memᴰ.not-nil h)
    go (yes y) h = subst Says (sym (Memᴰ.eq_of_singleton h)) (refl, refl, record { some = omega arith; depths = λ d. (λ k. omega arith, λ k. omega arith) })

line_of-complete : (c : Levels) (i j p m d : ℕ) → Opens c d → Within p m d → (l : Line) × Memᴰ l (line_of c i j p m)
unfolding line_of line_if
line_of-complete blank i j p m d o w = absurd o
line_of-complete (hill s q e) i j p m d o w = go (dec_lt (max q p) (min e m))
  where
    go : (t : Dec (max q p < min e m)) → (l : Line) × Memᴰ l (line_if i j (max q p) (min e m) t)
    go (no n) = absurd (n (omega arith))
    go (yes y) = (_, Memᴰ.head refl)

-- below the bound once c is passed: below the bound, and c closes no record so deep
pub passed-iff : (c : Levels) (m d : ℕ) → (d < passed c m) ↔ ((d < m) × Above c d)
unfolding passed
passed-iff blank m d = (λ h. (h, tt), λ h. h.0)
passed-iff (hill s p e) m d = (λ h. omega arith, λ h. omega arith)

module _ (row : ℕ → Levels) where
  -- what is open before chunk n + 1: what chunk n opens, and what was open before it and is below its peak
  pub open-here : (n d : ℕ) → LeftOpen row n (suc n) d ↔ Opens (row n) d
  open-here n d = (λ h. h.opens, λ o. record { before = omega arith; opens = o; between = λ k x y. absurd (omega arith) })

  pub open-earlier : (i n d : ℕ) → i < n → LeftOpen row i (suc n) d ↔ (LeftOpen row i n d × Above (row n) d)
  open-earlier i n d b = (
    λ h. (record { before = b; opens = h.opens; between = λ k x y. h.between k x (omega arith) }, h.between n b (omega arith)),
    λ h. record { before = omega arith; opens = h.0.opens; between = λ k x y. dite (dec_lt k n) (h.0.between k x) (λ z. let e : n ≡ k = omega arith in subst (λ v. Above (row v) d) e h.1) },
  )

  walk-sound : (j p m n : ℕ) (l : Line) → Memᴰ l (walk row j p m n) → (l.i < n) × (l.j ≡ j) × For (λ d. LeftOpen row l.i n d × Within p m d) l
  unfolding walk
  walk-sound j p m zero l h = absurd (Memᴰ.not-nil h)
  walk-sound j p m (suc n) l h = ⊎_elim first (λ k. later (walk-sound j p (passed (row n) m) n l k)) (Memᴰ.append_cases (line_of (row n) n j p m) h)
    where
      Says : Type 0
      Says = (l.i < suc n) × (l.j ≡ j) × For (λ d. LeftOpen row l.i (suc n) d × Within p m d) l

      first : Memᴰ l (line_of (row n) n j p m) → Says
      first h =
          let (e, f, g) = line_of-sound (row n) n j p m l h in (
            omega arith,
            f,
            subst (λ v. For (λ d. LeftOpen row v (suc n) d × Within p m d) l) (sym e)
                (for-iff (λ d. Opens (row n) d × Within p m d) (λ d. LeftOpen row n (suc n) d × Within p m d) l (λ d. (λ x. ((open-here n d).1 x.0, x.1), λ x. ((open-here n d).0 x.0, x.1))) g),
          )

      later : (l.i < n) × (l.j ≡ j) × For (λ d. LeftOpen row l.i n d × Within p (passed (row n) m) d) l → Says
      later (b, f, g) = (
        omega arith,
        f,
        for-iff (λ d. LeftOpen row l.i n d × Within p (passed (row n) m) d) (λ d. LeftOpen row l.i (suc n) d × Within p m d) l
            (λ d. let o = open-earlier l.i n d b in let s = passed-iff (row n) m d in (
              λ x. let y = s.0 x.1.1 in (o.1 (x.0, y.1), (x.1.0, y.0)),
              λ x. let y = o.0 x.0 in (y.0, (x.1.0, s.1 (x.1.1, y.1))),
            ))
            g,
      )

  walk-complete : (j p m n i d : ℕ) → LeftOpen row i n d → Within p m d → (l : Line) × Memᴰ l (walk row j p m n) × (l.i ≡ i)
  unfolding walk
  walk-complete j p m zero i d o w = absurd (omega (arith, o.before))
  walk-complete j p m (suc n) i d o w = go (walk-complete j p (passed (row n) m) n i d) (dec_lt i n)
    where
      Found : ℕ → ℕ → Type 0
      Found m n = (l : Line) × Memᴰ l (walk row j p m n) × (l.i ≡ i)

      here : i ≡ n → Found m (suc n)
      here e =
          let (l, h) = line_of-complete (row n) n j p m d (subst (λ v. Opens (row v) d) e o.opens) w in
          (l, Memᴰ.append_left (walk row j p (passed (row n) m) n) h, (line_of-sound (row n) n j p m l h).0 ∙ sym e)

      go : (LeftOpen row i n d → Within p (passed (row n) m) d → Found (passed (row n) m) n) → Dec (i < n) → Found m (suc n)
      go ih (yes b) =
          let x = (open-earlier i n d b).0 o in
          let (l, h, e) = ih x.0 (w.0, (passed-iff (row n) m d).1 (w.1, x.1)) in
          (l, Memᴰ.append_right (line_of (row n) n j p m) h, e)
      go ih (no b) = here (omega (arith, o.before))

  lines_to-sound : (c : Levels) (j : ℕ) (l : Line) → Memᴰ l (lines_to row c j) → (l.i < j) × (l.j ≡ j) × For (λ d. LeftOpen row l.i j d × Closes c d) l
  unfolding lines_to
  lines_to-sound blank j l h = absurd (Memᴰ.not-nil h)
  lines_to-sound (hill s p e) j l h = walk-sound j p s j l h

  lines_to-complete : (c : Levels) (i j d : ℕ) → LeftOpen row i j d → Closes c d → (l : Line) × Memᴰ l (lines_to row c j) × (l.i ≡ i)
  unfolding lines_to
  lines_to-complete blank i j d o c = absurd c
  lines_to-complete (hill s p e) i j d o c = walk-complete j p s j i d o c

  plan-sound : (n : ℕ) (l : Line) → Memᴰ l (plan row n) → (l.j < n) × IsLine row l
  unfolding plan
  plan-sound zero l h = absurd (Memᴰ.not-nil h)
  plan-sound (suc n) l h = ⊎_elim (λ k. let a = plan-sound n l k in (omega arith, a.1)) last (Memᴰ.append_cases (plan row n) h)
    where
      last : Memᴰ l (lines_to row (row n) n) → (l.j < suc n) × IsLine row l
      last h = let (b, e, f) = lines_to-sound (row n) n l h in (omega arith, subst (λ v. For (Joins row l.i v) l) (sym e) f)

  plan-complete : (n i j d : ℕ) → j < n → Joins row i j d → (l : Line) × Memᴰ l (plan row n) × (l.i ≡ i) × (l.j ≡ j)
  unfolding plan
  plan-complete zero i j d b r = absurd (omega arith)
  plan-complete (suc n) i j d b r = go (λ b. plan-complete n i j d b r) (dec_lt j n)
    where
      Found : ℕ → Type 0
      Found n = (l : Line) × Memᴰ l (plan row n) × (l.i ≡ i) × (l.j ≡ j)

      here : j ≡ n → Found (suc n)
      here e =
          let x : Joins row i n d = subst (λ v. Joins row i v d) e r in
          let (l, h, f) = lines_to-complete (row n) i n d x.0 x.1 in
          (l, Memᴰ.append_right (plan row n) h, f, (lines_to-sound (row n) n l h).1 ∙ sym e)

      go : (j < n → Found n) → Dec (j < n) → Found (suc n)
      go ih (yes b) = let (l, h, e, f) = ih b in (l, Memᴰ.append_left (lines_to row (row n) n) h, e, f)
      go ih (no c) = here (omega arith)

  -- two lines of one pair of chunks are one
  pub line-unique : (l m : Line) → IsLine row l → IsLine row m → l.i ≡ m.i → l.j ≡ m.j → l ≡ m
  line-unique l m a b p q =
      let lo = (b.depths l.lowest).0 (to l.lowest ((a.depths l.lowest).1 (omega (arith, a.some)))) in
      let hi = (b.depths l.highest).0 (to l.highest ((a.depths l.highest).1 (omega (arith, a.some)))) in
      let lo' = (a.depths m.lowest).0 (from m.lowest ((b.depths m.lowest).1 (omega (arith, b.some)))) in
      let hi' = (a.depths m.highest).0 (from m.highest ((b.depths m.highest).1 (omega (arith, b.some)))) in
      let low : l.lowest ≡ m.lowest = omega arith in
      let high : l.highest ≡ m.highest = omega arith in
      λ k. record { i = p k; j = q k; lowest = low k; highest = high k }
    where
      to : (d : ℕ) → Joins row l.i l.j d → Joins row m.i m.j d
      to d r = rw (← p, ← q) r

      from : (d : ℕ) → Joins row m.i m.j d → Joins row l.i l.j d
      from d r = rw (p, q) r

  -- a line is in the plan of the first n chunks exactly if some depth joins its chunks, and its depths are just those that do
  pub plan-exact : (n : ℕ) (l : Line) → Memᴰ l (plan row n) ↔ ((l.j < n) × IsLine row l)
  plan-exact n l = (plan-sound n l, back)
    where
      back : (l.j < n) × IsLine row l → Memᴰ l (plan row n)
      back h =
          let a = plan-complete n l.i l.j l.lowest h.0 ((h.1.depths l.lowest).1 (omega (arith, h.1.some))) in
          Memᴰ.cast (line-unique l a.0 h.1 (plan-sound n a.0 a.1).1 (sym a.2) (sym a.3)) a.1

line_of-sorted : (c : Levels) (i j p m : ℕ) → Sorted Before (line_of c i j p m)
unfolding line_of line_if
line_of-sorted blank i j p m = tt
line_of-sorted (hill s q e) i j p m = go (dec_lt (max q p) (min e m))
  where
    go : (t : Dec (max q p < min e m)) → Sorted Before (line_if i j (max q p) (min e m) t)
    go (no n) = tt
    go (yes y) = (λ y k. absurd (Memᴰ.not-nil k), tt)

module _ (row : ℕ → Levels) where
  walk-sorted : (j p m n : ℕ) → Sorted Before (walk row j p m n)
  unfolding walk
  walk-sorted j p m zero = tt
  walk-sorted j p m (suc n) = sorted-append Before (line_of (row n) n j p m) (walk row j p (passed (row n) m) n) (line_of-sorted (row n) n j p m) (walk-sorted j p (passed (row n) m) n)
      (λ x y h k. let a = line_of-sound (row n) n j p m x h in let b = walk-sound row j p (passed (row n) m) n y k in inr (omega (arith, a.1, b.1), omega (arith, a.0, b.0)))

  lines_to-sorted : (c : Levels) (j : ℕ) → Sorted Before (lines_to row c j)
  unfolding lines_to
  lines_to-sorted blank j = tt
  lines_to-sorted (hill s p e) j = walk-sorted j p s j

  -- the plan goes by rising j, then falling i
  pub plan-sorted : (n : ℕ) → Sorted Before (plan row n)
  unfolding plan
  plan-sorted zero = tt
  plan-sorted (suc n) = sorted-append Before (plan row n) (lines_to row (row n) n) (plan-sorted n) (lines_to-sorted (row n) n)
      (λ x y h k. let a = plan-sound row n x h in let b = lines_to-sound row (row n) n y k in inl (omega (arith, a.0, b.1)))

-- Before has no loop of one or two
pub before-asym : (x y : Line) → Before x y → Before y x → ⊥
before-asym x y (inl a) (inl b) = omega arith
before-asym x y (inl a) (inr b) = omega arith
before-asym x y (inr a) (inl b) = omega arith
before-asym x y (inr a) (inr b) = omega arith

module _ (row : List Levels) where
  pub closes-inside : (j d : ℕ) → Closes (row_of row j) d → j < length row
  closes-inside j d c = dite (dec_lt j (length row)) (λ h. h) (λ h. absurd (subst (λ c. Closes c d) (get_or-eq_default row blank (omega arith)) c))

  -- a line is in the plan exactly if its chunks are joined, in just its depths
  pub scan_of-exact : (l : Line) → Memᴰ l (scan_of row) ↔ IsLine (row_of row) l
  unfolding scan_of
  scan_of-exact l = (
    λ h. ((plan-exact (row_of row) (length row) l).0 h).1,
    λ h. (plan-exact (row_of row) (length row) l).1 (closes-inside l.j l.lowest ((h.depths l.lowest).1 (omega (arith, h.some))).1, h),
  )

  -- each join has a line
  pub scan_of-some : (i j d : ℕ) → Joins (row_of row) i j d → (l : Line) × Memᴰ l (scan_of row) × (l.i ≡ i) × (l.j ≡ j)
  unfolding scan_of
  scan_of-some i j d h = plan-complete (row_of row) (length row) i j d (closes-inside j d h.1) h

  pub scan_of-sorted : Sorted Before (scan_of row)
  unfolding scan_of
  scan_of-sorted = plan-sorted (row_of row) (length row)

  -- and no other list is so
  pub scan_of-only : (ls : List Line) → Sorted Before ls → ((l : Line) → Memᴰ l ls ↔ IsLine (row_of row) l) → ls ≡ scan_of row
  scan_of-only ls s h = sorted-unique Before before-asym ls (scan_of row) s scan_of-sorted (λ l. (λ m. (scan_of-exact l).1 ((h l).0 m), λ m. (h l).1 ((scan_of-exact l).0 m)))
