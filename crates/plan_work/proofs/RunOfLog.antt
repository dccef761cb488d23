-- THE RUN of a line, on a cut log: the figure of its lowest-depth record as a function of x. Assumes nothing.
use Rattle.std.specs.Prelude.{◌≡◌, refl, length, get_or, drop}
use Rattle.std.proofs.Math.Path.{ap, sym}
use Rattle.std.proofs.Common.{subst, ◌∙◌, le_refl, add-zero, add-suc}
use Rattle.std.proofs.Math.Logic.{dite}
use mathlib.Core.List.Memᴰ
use mathlib.Core.List.{List, [], ◌∷◌, ◌++◌, map, Memᴰ}
use Prim.Native.Nat.{ℕ, zero, suc, ◌+◌, ◌-◌, ◌≤◌, ◌<◌}
use Rattle.std.proofs.Math.Decide.{dec_lt}
use native.Mathlib.Omega.{arith}
use Rattle.std.proofs.Math.ListN.{get_or-map}
use Rattle.algebra.specs.Algebra.{Algebra, Laws, Commutative}
use Rattle.algebra.specs.Run.{Level, through, step, Context}
use Rattle.hill.specs.Verdict.{pass, count}
use Rattle.hill.proofs.VerdictLaws.{low-fst}
use Rattle.hill.specs.Log.{Record, start_level, end_of, peak_of, opened_of, joints, log_fault}
use Rattle.hill.specs.Closing.{at, Places}
use Rattle.hill.specs.Figure.{figure_at, combined}
use Rattle.hill.specs.Summary.{Hill, Summary, blank, summary_of, done, pending, lefts_of, rights_of, values_of}
use Rattle.hill.specs.Merge.{merge_summary}
use Rattle.hill.specs.Row.{joined}
use Rattle.hill.proofs.RowLaws.{in_order, merge_row-in_order, merge_row-summaries}
use Rattle.hill.proofs.HeldPlaces.{closed-once}
use Rattle.hill.proofs.ChunkPlaces.{unclosed-exists, unclosed-places, so-far-listed}
use Rattle.join_plan.specs.Plan.{Levels, Line, plan_of_row, levels_of_summary, row_of}
use Rattle.join_plan.specs.Joins.{Opens, Closes, Joins, IsLine}
use Rattle.join_plan.specs.Gate.{summary_fault}
use Rattle.join_plan.proofs.Gate.{fault-parts}
use Rattle.join_plan.proofs.PlanExact.{plan_of-exact}
use Rattle.join_plan.specs.ByRecords.{place}
use Rattle.hill.proofs.LogPlaces.{WellFormedLog, log-well-formed}
use Rattle.join_plan.proofs.LogLevels.{levels_of, row_of_chunks, chunk_fault, log-quiet, fault-summary, levels-of-log}
use Rattle.join_plan.proofs.LogJoins.{place-le, closed-high, joins-exact}
use Rattle.plan_work.specs.Runs.{peak_of_summary, slopes_of, left_value_at, open_from, level_of, levels_down, summary_at, run_levels}
use Rattle.plan_work.proofs.RunsExact.{RunOf}
use Rattle.plan_work.specs.RunsByRecords.{Links, Apart}
use Rattle.plan_work.proofs.CutFigure.{Quiet, held-closes, held-late, linked-figure, apart_some}

quiet_of : {R : Type 0} (c : List (Record R)) → chunk_fault c ≡ pass → Quiet c
quiet_of [] v = tt
quiet_of (x ∷ xs) v = low-fst (joints x xs) (count (opened_of (x ∷ xs))) v

module _ {R : Type 0} (cs : List (List (Record R))) (w : WellFormedLog (joined cs)) where
  -- A record of depth d that links i and j is the only one.
  link-level : (p d k : ℕ) → (i j : ℕ) → i < j → Links cs i j p d → p < k → k < place cs (suc i) → d < start_level (at (joined cs) k)
  link-level p d k i j f l a b =
      omega (arith, closed-high (joined cs) w.meets p l.0 d l.3 k a (omega (arith, place-le cs (suc i) j f, l.2.0)), w.meets k (omega (arith, place-le cs (suc i) j f, l.2.0, l.3.inside)))

  link-one : (i j p q d : ℕ) → i < j → Links cs i j p d → Links cs i j q d → p ≡ q
  link-one i j p q d f l m =
      dite (dec_lt p q) (λ a. absurd (omega (arith, link-level p d q i j f l a m.1.1, ap start_level m.3.opened.1)))
      (λ a. dite (dec_lt q p) (λ b. absurd (omega (arith, link-level q d p i j f m b l.1.1, ap start_level l.3.opened.1))) (λ b. omega arith))

  -- Of what it holds, the record one deeper that links i and j is all that lies apart.
  next-apart : (i j p q d : ℕ) → i < j → Links cs i j p d → Links cs i j q (suc d) → Places (Apart cs i j p d) (q ∷ [])
  next-apart i j p q d f l m = record { rising = (λ k n. absurd (Memᴰ.not-nil n), tt); all = λ k h. Memᴰ.head (same k h); only = λ k n. rw (Memᴰ.eq_of_singleton n) is }
    where
      mid : place cs (suc i) ≤ place cs j
      mid = place-le cs (suc i) j f

      is : Apart cs i j p d q
      is = record {
        held = record {
          holder = l.3.opened;
          held = m.3.opened;
          after = dite (dec_lt p q) (λ a. a) (λ a. dite (dec_lt q p) (λ b. absurd (omega (arith, link-level q (suc d) p i j f m b l.1.1, ap start_level l.3.opened.1)))
              (λ b. let e : p ≡ q = omega arith in absurd (omega (arith, ap start_level (sym l.3.opened.1 ∙ ap (at (joined cs)) e ∙ m.3.opened.1)))));
          before = λ g x. omega (arith, closed-once (joined cs) p l.0 g d l.3 x, l.2.0, m.1.1, mid);
        };
        not-i = λ u. omega (arith, closed-once (joined cs) q m.0 u.0 (suc d) m.3 u.3, u.2.1, m.2.0, mid);
        not-j = λ u. omega (arith, u.1.0, m.1.1, mid);
      }

      same : (k : ℕ) → Apart cs i j p d k → k ≡ q
      same k h = dite (dec_lt k q) (λ a. absurd (early a)) (λ a. dite (dec_lt q k) (λ b. absurd (late b)) (λ b. omega arith))
        where
          start : start_level (at (joined cs) k) ≡ suc d
          start = ap start_level h.held.held.1

          early : k < q → ⊥
          early a =
              let (e, b, x) = held-closes cs w p k l.0 d h.held l.3 in
              dite (dec_lt e q)
              (λ c. h.not-i (e, (omega (arith, l.1.0, h.held.after), omega (arith, m.1.1)), (omega (arith, l.1.0, h.held.after, x.order), omega (arith, m.1.1)), x))
              (λ c. omega (arith, closed-high (joined cs) w.meets k e (suc d) x q a (omega arith), w.meets q (omega (arith, x.inside)), ap start_level m.3.opened.1))

          late : q < k → ⊥
          late a =
              dite (dec_lt m.0 k)
              (λ b. h.not-j (held-late cs w i j p d f l k h.held (omega (arith, m.2.0))))
              (λ b. omega (arith, closed-high (joined cs) w.meets q m.0 (suc d) m.3 k a (omega arith), w.meets k (omega (arith, m.3.inside)), start))

module _ {R : Type 0} (𝒜 : Algebra R) where
  open 𝒜 use {Fig, ι, ◌⊗◌, node}

  infixl 70 ◌⊗◌
  -- A summary's lists, by level.
  lefts-at : (xs : List (Record R)) (p m l : ℕ) → p < l → l ≤ p + m → get_or (lefts_of 𝒜 p m xs) (l - suc p) ι ≡ done 𝒜 l xs
  lefts-at xs p zero l a b = absurd (omega arith)
  lefts-at xs p (suc m) l a b = dite (dec_lt (suc p) l)
      (λ c. let e : l - suc p ≡ suc (l - suc (suc p)) = omega arith in rw e (lefts-at xs (suc p) m l c (omega arith)))
      (λ c. let e : l ≡ suc p = omega arith in let z : suc p - suc p ≡ 0 = omega arith in rw (e, z))

  module _ (xs : List (Record R)) (p : ℕ) where
    abbrev Singles : ℕ → Type 0
    Singles n = (c : ℕ) → p ≤ c → c < p + n → (e : R × Fig) × (pending 𝒜 c xs ≡ e ∷ [])

    rights-length : (n : ℕ) → Singles n → length (rights_of 𝒜 p n xs) ≡ n
    rights-length zero f = refl
    rights-length (suc n) f = rw (f (p + n) (omega arith) (omega arith)).1 (ap suc (rights-length n (λ c a b. f c a (omega arith))))

    rights-drop : (k m : ℕ) → Singles (k + m) → drop m (rights_of 𝒜 p (k + m) xs) ≡ rights_of 𝒜 p k xs
    rights-drop k zero f = rw (add-zero k)
    rights-drop k (suc m) f =
        let g : Singles (suc (k + m)) = rw (add-suc k m) at f in
        rw (add-suc k m, (g (p + (k + m)) (omega arith) (omega arith)).1) (rights-drop k m (λ c a b. g c a (omega arith)))

  -- One level of a run, where the record of depth d is pending in a chunk that the next one closes.
  level-read : (d m n : ℕ) (q : ℕ) (h : Hill Fig R) (xs : List (Record R)) (p : ℕ) (r : R) (s v : Fig) → p ≤ d → d < p + n → Singles xs p n → pending 𝒜 d xs ≡ (r, s) ∷ [] → left_value_at 𝒜 q h (suc d) ≡ v →
      level_of 𝒜 (open_from 𝒜 p (values_of 𝒜 p m n xs) (suc d)) (left_value_at 𝒜 q h (suc d)) ≡ record { carried = r; before = s; after = v } ∷ []
  level-read d m n q h xs p r s v a b f e g =
      let k : ℕ = d - p in
      let i : suc k + (n - suc k) ≡ n = omega arith in
      let j : p + n - suc d ≡ n - suc k = omega arith in
      let o : p + k ≡ d = omega arith in
      let z : drop (n - suc k) (rights_of 𝒜 p n xs) ≡ rights_of 𝒜 p (suc k) xs =
      ap (λ (y : ℕ). drop (n - suc k) (rights_of 𝒜 p y xs)) (sym i) ∙ rights-drop xs p (suc k) (n - suc k) (subst (λ (y : ℕ). Singles xs p y) (sym i) f) in
      rw (rights-length xs p n f, j, z, o, e, g)

  singles : (x : Record R) (xs : List (Record R)) → joints x xs ≡ pass → Singles (x ∷ xs) (peak_of x xs) (end_of x xs - peak_of x xs)
  singles x xs v c a b =
      let (p, o, u) = unclosed-exists x xs v c a (omega arith) in
      (_, unclosed-places 𝒜 x xs v p c o.0 o.1 u _ (so-far-listed (x ∷ xs) p c o))

  -- The level at depth d of a line's run, from the summaries of its chunks.
  run-level : (xs ys : List (Record R)) (d : ℕ) (r : R) (s : Fig) → chunk_fault xs ≡ pass → chunk_fault ys ≡ pass → Opens (levels_of xs) d → Closes (levels_of ys) d → pending 𝒜 d xs ≡ (r, s) ∷ [] →
      level_of 𝒜 (open_from 𝒜 (peak_of_summary 𝒜 (summary_of 𝒜 xs)) (slopes_of 𝒜 (summary_of 𝒜 xs)) (suc d)) (left_value_at 𝒜 (peak_of_summary 𝒜 (summary_of 𝒜 ys)) (slopes_of 𝒜 (summary_of 𝒜 ys)) (suc d)) ≡
      record { carried = r; before = s; after = done 𝒜 (suc d) ys } ∷ []
  run-level [] ys d r s f g a b e = absurd a
  run-level (x ∷ xs) [] d r s f g a b e = absurd b
  run-level (x ∷ xs) (y ∷ ys) d r s f g a b e =
      rw (f, g)
      (level-read d (start_level x - peak_of x xs) (end_of x xs - peak_of x xs) (peak_of y ys) (values_of 𝒜 (peak_of y ys) (start_level y - peak_of y ys) (end_of y ys - peak_of y ys) (y ∷ ys)) (x ∷ xs) (peak_of x xs) r s
      (done 𝒜 (suc d) (y ∷ ys)) a.0 (omega arith) (singles x xs (low-fst (joints x xs) (count (opened_of (x ∷ xs))) f)) e (lefts-at (y ∷ ys) (peak_of y ys) (start_level y - peak_of y ys) (suc d) (omega arith) (omega arith)))

  -- In a log with no fault no chunk has one.
  chunks_pass : (cs : List (List (Record R))) → summary_fault 𝒜 (in_order (merge_summary 𝒜) blank (map (summary_of 𝒜) cs)) ≡ pass → (k : ℕ) → chunk_fault (get_or cs k []) ≡ pass
  chunks_pass [] v k = refl
  chunks_pass (c ∷ cs) v zero = sym (fault-summary 𝒜 c) ∙ (fault-parts 𝒜 (summary_of 𝒜 c) (in_order (merge_summary 𝒜) blank (map (summary_of 𝒜) cs)) v).0
  chunks_pass (c ∷ cs) v (suc k) = chunks_pass cs (fault-parts 𝒜 (summary_of 𝒜 c) (in_order (merge_summary 𝒜) blank (map (summary_of 𝒜) cs)) v).1 k

module _ {R : Type 0} (𝒜 : Algebra R) (ℒ : Laws 𝒜) (comm : Commutative 𝒜) (cs : List (List (Record R))) (v : log_fault (joined cs) ≡ pass) where
  open 𝒜 use {Fig, ι, ◌⊗◌, node}

  infixl 70 ◌⊗◌
  abbrev row : List (Summary Fig R)
  row = map (summary_of 𝒜) cs

  well : WellFormedLog (joined cs)
  well = log-well-formed (joined cs) v

  clean : (k : ℕ) → chunk_fault (get_or cs k []) ≡ pass
  clean =
      chunks_pass 𝒜 cs
      (ap (summary_fault 𝒜) (sym (merge_row-in_order 𝒜 ℒ row) ∙ merge_row-summaries 𝒜 ℒ cs) ∙ fault-summary 𝒜 (joined cs) ∙ log-quiet (joined cs) v)

  abbrev sum : List ℕ → Fig
  sum qs = combined 𝒜 (map (figure_at 𝒜 (joined cs)) qs)

  -- The levels of a line, and the joins that they are.
  line_joins : (e : Line) → Memᴰ e (plan_of_row row) → (e.lowest ≤ e.highest) × ((d : ℕ) → e.lowest ≤ d → d ≤ e.highest → Joins (row_of_chunks cs) e.i e.j d)
  line_joins e m =
      let f : IsLine (row_of (map levels_of_summary row)) e = (plan_of-exact (map levels_of_summary row) e).0 m in
      let g : row_of (map levels_of_summary row) ≡ row_of_chunks cs = ap row_of (levels-of-log 𝒜 ℒ cs v) ∙ (λ k. λ (n : ℕ). get_or-map levels_of cs n [] k) in
      (f.some, λ d a b. subst (λ (s : ℕ → Levels). Joins s e.i e.j d) g ((f.depths d).1 (a, b)))

  module _ (i j : ℕ) (far : i < j) where
    abbrev level_at : ℕ → List (Level 𝒜)
    level_at d =
        level_of 𝒜 (open_from 𝒜 (peak_of_summary 𝒜 (summary_at 𝒜 row i)) (slopes_of 𝒜 (summary_at 𝒜 row i)) (suc d))
        (left_value_at 𝒜 (peak_of_summary 𝒜 (summary_at 𝒜 row j)) (slopes_of 𝒜 (summary_at 𝒜 row j)) (suc d))

    abbrev levels : (lowest n : ℕ) → List (Level 𝒜)
    levels lowest n =
        levels_down 𝒜 (peak_of_summary 𝒜 (summary_at 𝒜 row i)) (slopes_of 𝒜 (summary_at 𝒜 row i)) (peak_of_summary 𝒜 (summary_at 𝒜 row j)) (slopes_of 𝒜 (summary_at 𝒜 row j)) lowest n

    -- One level: from the records apart to the record's figure.
    one-level : (d p : ℕ) (ls : List (Level 𝒜)) → Joins (row_of_chunks cs) i j d → Links cs i j p d → (qs : List ℕ) → Places (Apart cs i j p d) qs →
        through 𝒜 (level_at d ++ ls) (sum qs) ≡ through 𝒜 ls (figure_at 𝒜 (joined cs) p)
    unfolding through step
    one-level d p ls o l qs k =
        let (r, h, e, f) = linked-figure 𝒜 ℒ comm cs well (λ n. quiet_of (get_or cs n []) (clean n)) i j p d far l qs k in
        rw (get_or-map (summary_of 𝒜) cs i [], get_or-map (summary_of 𝒜) cs j [], run-level 𝒜 (get_or cs i []) (get_or cs j []) d r h (clean i) (clean j) o.0.opens o.1 e, f)

    -- From a record that links the chunks down to the lowest of them.
    to-lowest : (lowest highest q : ℕ) → ((d : ℕ) → lowest ≤ d → d ≤ highest → Joins (row_of_chunks cs) i j d) → Links cs i j q lowest →
        (n p : ℕ) → lowest + n ≤ highest → Links cs i j p (lowest + n) → through 𝒜 (levels lowest n) (figure_at 𝒜 (joined cs) p) ≡ figure_at 𝒜 (joined cs) q
    unfolding through levels_down
    to-lowest lowest highest q f m zero p a l = ap (figure_at 𝒜 (joined cs)) (link-one cs well i j p q lowest far (rw (add-zero lowest) at l) m)
    to-lowest lowest highest q f m (suc n) p a l =
        let o : Joins (row_of_chunks cs) i j (lowest + n) = f (lowest + n) (omega arith) (omega arith) in
        let (s, c, x, y, z) = ((joins-exact cs well i j (lowest + n)).0 o).1 in
        let k : Links cs i j s (lowest + n) = (c, x, y, z) in
        let b : Links cs i j p (suc (lowest + n)) = rw (add-suc lowest n) at l in
        ap (through 𝒜 (levels lowest (suc n))) (sym (ℒ.unit-r (figure_at 𝒜 (joined cs) p)))
        ∙ one-level (lowest + n) s (levels lowest n) o k (p ∷ []) (next-apart cs well i j s p (lowest + n) far k b)
        ∙ to-lowest lowest highest q f m n s (omega arith) k

  -- THE RUN OF A JOIN is the figure of its lowest-depth record, opened at q, as a function of x, the combined figures, in log order, of those records held
  -- directly by its highest-depth record, opened at p, that lie neither wholly in i nor wholly in j.
  pub run-figure : (e : Line) → Memᴰ e (plan_of_row row) → (q : ℕ) → Links cs e.i e.j q e.lowest → (p : ℕ) → Links cs e.i e.j p e.highest →
      (qs : List ℕ) → Places (Apart cs e.i e.j p e.highest) qs →
      figure_at 𝒜 (joined cs) q ≡ through 𝒜 (run_levels 𝒜 row e) (combined 𝒜 (map (figure_at 𝒜 (joined cs)) qs))
  unfolding run_levels levels_down
  run-figure e m q lo p hi qs k =
      let (some, f) = line_joins e m in
      let far : e.i < e.j = (f e.lowest (le_refl e.lowest) some).0.before in
      let n : ℕ = e.highest - e.lowest in
      let a : suc e.highest - e.lowest ≡ suc n = omega arith in
      let b : e.lowest + n ≡ e.highest = omega arith in
      sym
      (ap (λ (s : ℕ). through 𝒜 (levels e.i e.j far e.lowest s) (sum qs)) a
      ∙ ap (λ (s : ℕ). through 𝒜 (level_at e.i e.j far s ++ levels e.i e.j far e.lowest n) (sum qs)) b
      ∙ one-level e.i e.j far e.highest p (levels e.i e.j far e.lowest n) (f e.highest some (le_refl e.highest)) hi qs k
      ∙ to-lowest e.i e.j far e.lowest e.highest q f lo n p (omega arith) (subst (λ (d : ℕ). Links cs e.i e.j p d) (sym b) hi))

  -- There are such records: one that links the chunks at each depth of the line, and the list of those that lie apart.
  pub line-links : (e : Line) → Memᴰ e (plan_of_row row) → (d : ℕ) → e.lowest ≤ d → d ≤ e.highest → (p : ℕ) × Links cs e.i e.j p d × ((qs : List ℕ) × Places (Apart cs e.i e.j p d) qs)
  line-links e m d a b =
      let o : Joins (row_of_chunks cs) e.i e.j d = (line_joins e m).1 d a b in
      let (p, c, x, y, z) = ((joins-exact cs well e.i e.j d).0 o).1 in
      (p, (c, x, y, z), apart_some 𝒜 ℒ comm cs well (λ n. quiet_of (get_or cs n []) (clean n)) e.i e.j p d o.0.before (c, x, y, z))

  -- In a mode's numbers.
  pub run-applied : {Sound : R → Type 0} (C : Context 𝒜 Sound) (e : Line) (k : C.K) → RunOf C (run_levels 𝒜 row e) k → Memᴰ e (plan_of_row row) →
      (q : ℕ) → Links cs e.i e.j q e.lowest → (p : ℕ) → Links cs e.i e.j p e.highest → (qs : List ℕ) → Places (Apart cs e.i e.j p e.highest) qs →
      C.apply k (combined 𝒜 (map (figure_at 𝒜 (joined cs)) qs)) ≡ figure_at 𝒜 (joined cs) q
  run-applied C e k r m q lo p hi qs l = r.does (combined 𝒜 (map (figure_at 𝒜 (joined cs)) qs)) ∙ sym (run-figure e m q lo p hi qs l)
