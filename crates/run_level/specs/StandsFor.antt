-- A level in the bytes of two hills, and the level of a run that it stands for. Assumes nothing.
use Rattle.std.specs.Prelude.{◌≡◌, ℤ, get_or, drop}
use Rattle.std.proofs.Math.Path.{ap, ap₂, subst}
use Rattle.std.proofs.Common.{◌∙◌, arith}
use Rattle.std.proofs.Math.Logic.{dite}
use mathlib.Core.List.{List, [], ◌∷◌, map, Memᴰ}
use Prim.Native.Nat.{ℕ, zero, suc, ◌+◌, ◌-◌, ◌≤◌, ◌<◌}
use Rattle.std.proofs.Math.Decide.{dec_lt}
use Rattle.std.proofs.Math.ListN.{length, get_or-map}
use Rattle.std.proofs.lemmas.List.{length-map}
use Rattle.algebra.specs.Algebra.{Algebra}
use Rattle.modes.specs.FourModes.{Amounts, InRange}
use Rattle.figure.specs.Mode.{mode_of}
use Rattle.figure.specs.Stored.{IsStored, amounts}
use Rattle.hill.specs.Summary.{blank}
use Rattle.summary.specs.Layout.{SummaryIn}
use Rattle.summary.specs.Judge.{mode_at, start_at, peak_at, rise_at, fall_at, left_at, held_at, IsHill, IsSummary, is_blank, is_spoilt, is_hill}
use Rattle.summary.specs.Decode.{decode, amounts_at, lefts_in, rights_in}
use Rattle.summary.proofs.Values.{lefts-length, rights-length, tells-range, reading-blank, reading-spoilt, reading-hill}
use Rattle.summary.proofs.ModeValues.{numbered}
use Rattle.summary.proofs.Hills.{AllStored, hill-stored}
use Rattle.join_plan.specs.Plan.{Levels, Line, levels_of_summary, plan_of_row, row_of}
use Rattle.join_plan.specs.Joins.{Opens, Closes as ClosesDepth}
use Rattle.join_plan.proofs.PlanExact.{plan_of-exact, plan_of-range}
use Rattle.plan_work.specs.Runs.{peak_of_summary, slopes_of, open_from, left_value_at, level_of}
use Rattle.outcome.specs.Laws.{AllIn}
use Rattle.row_gate.specs.RowLaws.{each_in, decoded-at}
use Rattle.run_level.specs.declared.RunLevel.{RunLevel}
use Rattle.run_level.specs.Levels.{LeavesOpen, Closes, level_at, level_for}

-- ---- a place on a slope

module _ {Fig : Type 0} (read : ℤ → Fig) (b : List ℕ) where
  -- The unclosed records from the k-th down.
  rights-from : (n k : ℕ) → k < n → drop (n - suc k) (rights_in read b n) ≡ (amounts_at b k, read (held_at b k)) ∷ rights_in read b k
  rights-from zero k h = absurd (omega arith)
  rights-from (suc n) k h = dite (dec_lt k n)
      (λ l. let e : suc n - suc k ≡ suc (n - suc k) = omega arith in rw e (rights-from n k l))
      (λ l. let e : k ≡ n = omega arith in let z : suc n - suc n ≡ 0 = omega arith in rw (e, z))

  -- The left value number i from below.
  lefts-at : (n i : ℕ) (z : Fig) → i < n → get_or (lefts_in read b n) i z ≡ read (left_at b (n - suc i))
  lefts-at zero i z h = absurd (omega arith)
  lefts-at (suc n) zero z h = let e : suc n - 1 ≡ n = omega arith in rw e
  lefts-at (suc n) (suc i) z h = let e : suc n - suc (suc i) ≡ n - suc i = omega arith in rw e (lefts-at n i z (omega arith))

-- ---- one level

module _ (m : ℕ) where
  abbrev 𝒜 : Algebra Amounts
  𝒜 = (mode_of m).algebra

  opens-from : (p : List ℕ) (d : ℕ) → LeavesOpen p d → open_from 𝒜 (peak_of_summary 𝒜 (decode m p)) (slopes_of 𝒜 (decode m p)) (suc d)
      ≡ (amounts_at p (d - peak_at p), (mode_of m).read (held_at p (d - peak_at p))) ∷ rights_in (mode_of m).read p (d - peak_at p)
  unfolding decode
  opens-from p d o =
      let k : d - peak_at p < fall_at p = omega (arith, o.low, o.high) in
      let e : peak_at p + length (rights_in (mode_of m).read p (fall_at p)) - suc d ≡ fall_at p - suc (d - peak_at p) = omega (arith, rights-length (mode_of m).read p (fall_at p), o.low, o.high) in
      rw (reading-hill (mode_of m).read p o.is.layout.kind_fits, e) (rights-from (mode_of m).read p (fall_at p) (d - peak_at p) k)

  left-of : (q : List ℕ) (d : ℕ) → Closes q d → left_value_at 𝒜 (peak_of_summary 𝒜 (decode m q)) (slopes_of 𝒜 (decode m q)) (suc d) ≡ (mode_of m).read (left_at q (start_at q - suc d))
  unfolding decode
  left-of q d c =
      let k : suc d - suc (peak_at q) < rise_at q = omega (arith, c.low, c.high) in
      let e : rise_at q - suc (suc d - suc (peak_at q)) ≡ start_at q - suc d = omega (arith, c.low, c.high) in
      rw (reading-hill (mode_of m).read q c.is.layout.kind_fits)
      (lefts-at (mode_of m).read q (rise_at q) (suc d - suc (peak_at q)) 𝒜.ι k ∙ ap (λ (i : ℕ). (mode_of m).read (left_at q i)) e)

  -- THE LEVEL of depth d that a run goes through is the one in the bytes.
  pub level-is : (p q : List ℕ) (d : ℕ) → LeavesOpen p d → Closes q d →
      level_of 𝒜 (open_from 𝒜 (peak_of_summary 𝒜 (decode m p)) (slopes_of 𝒜 (decode m p)) (suc d)) (left_value_at 𝒜 (peak_of_summary 𝒜 (decode m q)) (slopes_of 𝒜 (decode m q)) (suc d)) ≡ level_for m (level_at p q d) ∷ []
  unfolding level_at
  level-is p q d o c = ap₂ (level_of 𝒜) (opens-from p d o) (left-of q d c)

  -- Its numbers stand for figures, and its record is in range.
  pub record IsLevel (l : RunLevel) : Type 0 where
    pub held-stored : IsStored (mode_of m) l.held
    pub left-stored : IsStored (mode_of m) l.left
    pub in-range : InRange (amounts l.value l.floor l.ceiling)

  pub all-stored : (b : List ℕ) → IsHill b → mode_at b ≡ m → AllStored (mode_of m) b
  all-stored b v e = subst (λ (k : ℕ). AllStored (mode_of k) b) e (hill-stored (mode_of (mode_at b)) b (numbered (mode_at b) v.layout.mode-fits) v)

  pub level-stored : (p q : List ℕ) (d : ℕ) → LeavesOpen p d → Closes q d → mode_at p ≡ m → mode_at q ≡ m → IsLevel (level_at p q d)
  unfolding level_at
  level-stored p q d o c mp mq =
      let k : d - peak_at p < fall_at p = omega (arith, o.low, o.high) in
      let n : start_at q - suc d < rise_at q = omega (arith, c.low, c.high) in
      record {
        held-stored = (all-stored p o.is mp).helds (d - peak_at p) k;
        left-stored = (all-stored q c.is mq).lefts (start_at q - suc d) n;
        in-range = ((tells-range (peak_at p + (d - peak_at p)) (amounts_at p (d - peak_at p))).from (o.is.records (d - peak_at p) k)).1;
      }

  -- ---- the levels of a line

  opens-hill : (b : List ℕ) (d : ℕ) → IsSummary b → Opens (levels_of_summary (decode m b)) d → LeavesOpen b d
  unfolding decode
  opens-hill b d (is_blank f) o = absurd (subst (λ (s : SummaryIn m). Opens (levels_of_summary s) d) (reading-blank (mode_of m).read b f.kind_fits) o)
  opens-hill b d (is_spoilt v) o = absurd (subst (λ (s : SummaryIn m). Opens (levels_of_summary s) d) (reading-spoilt (mode_of m).read b v.layout.kind_fits) o)
  opens-hill b d (is_hill v) o =
      let x = subst (λ (s : SummaryIn m). Opens (levels_of_summary s) d) (reading-hill (mode_of m).read b v.layout.kind_fits) o in
      record { is = v; low = x.0; high = omega (arith, x.1, rights-length (mode_of m).read b (fall_at b), v.peak-end) }

  closes-hill : (b : List ℕ) (d : ℕ) → IsSummary b → ClosesDepth (levels_of_summary (decode m b)) d → Closes b d
  unfolding decode
  closes-hill b d (is_blank f) o = absurd (subst (λ (s : SummaryIn m). ClosesDepth (levels_of_summary s) d) (reading-blank (mode_of m).read b f.kind_fits) o)
  closes-hill b d (is_spoilt v) o = absurd (subst (λ (s : SummaryIn m). ClosesDepth (levels_of_summary s) d) (reading-spoilt (mode_of m).read b v.layout.kind_fits) o)
  closes-hill b d (is_hill v) o =
      let x = subst (λ (s : SummaryIn m). ClosesDepth (levels_of_summary s) d) (reading-hill (mode_of m).read b v.layout.kind_fits) o in
      record { is = v; low = x.0; high = omega (arith, x.1, lefts-length (mode_of m).read b (rise_at b), v.peak-start) }

  pub mode-at : (ps : List (List ℕ)) → AllIn m ps → (i : ℕ) → i < length ps → mode_at (get_or ps i []) ≡ m
  mode-at [] a i h = absurd (omega arith)
  mode-at (p ∷ ps) a zero h = a.0.mode-is
  mode-at (p ∷ ps) a (suc i) h = mode-at ps a.1 i (omega arith)

  levels-at : (ps : List (List ℕ)) (i : ℕ) → i < length ps → row_of (map levels_of_summary (map (decode m) ps)) i ≡ levels_of_summary (decode m (get_or ps i []))
  levels-at ps i h = get_or-map levels_of_summary (map (decode m) ps) i blank ∙ ap levels_of_summary (decoded-at m ps i h)

  -- What a line of the plan says of its two pieces.
  pub record LineLevels (ps : List (List ℕ)) (e : Line) : Type 0 where
    pub order : e.i < e.j
    pub within : e.j < length ps
    pub some : e.lowest ≤ e.highest
    pub opens : (d : ℕ) → e.lowest ≤ d → d ≤ e.highest → LeavesOpen (get_or ps e.i []) d
    pub closes : (d : ℕ) → e.lowest ≤ d → d ≤ e.highest → Closes (get_or ps e.j []) d
    pub opener-mode : mode_at (get_or ps e.i []) ≡ m
    pub closer-mode : mode_at (get_or ps e.j []) ≡ m

  pub line-levels : (ps : List (List ℕ)) → AllIn m ps → (e : Line) → Memᴰ e (plan_of_row (map (decode m) ps)) → LineLevels ps e
  line-levels ps a e x =
      let row = map levels_of_summary (map (decode m) ps) in
      let r = plan_of-range row e x in
      let f = (plan_of-exact row e).0 x in
      let n : length row ≡ length ps = length-map (map (decode m) ps) levels_of_summary ∙ length-map ps (decode m) in
      let j : e.j < length ps = omega (arith, r.1) in
      let i : e.i < length ps = omega (arith, r.0) in
      record {
        order = r.0;
        within = j;
        some = f.some;
        opens = λ d l h. opens-hill (get_or ps e.i []) d (each_in m ps a e.i i) (subst (λ (c : Levels). Opens c d) (levels-at ps e.i i) ((f.depths d).1 (l, h)).0.opens);
        closes = λ d l h. closes-hill (get_or ps e.j []) d (each_in m ps a e.j j) (subst (λ (c : Levels). ClosesDepth c d) (levels-at ps e.j j) ((f.depths d).1 (l, h)).1);
        opener-mode = mode-at ps a e.i i;
        closer-mode = mode-at ps a e.j j;
      }
