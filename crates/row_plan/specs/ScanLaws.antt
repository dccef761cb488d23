-- One turn of the scan keeps one line more, or none. Assumes nothing.
use Rattle.std.specs.Prelude.{◌≡◌, List, [], ◌∷◌, ◌++◌, ℕ, zero, suc, ◌+◌, ◌-◌, ◌≤◌, ◌<◌, min, max, length, take, set, Option, Some}
use Rattle.std.proofs.Math.Path.{refl, sym, ap}
use Rattle.std.proofs.Common.{◌∙◌, le_refl, suc-add, zero-add, add-one, arith, append_assoc, append-nil, length-append, length-set, get_or-set_same, get_or-set_other}
use Rattle.std.proofs.lemmas.List.{map-append, length-map, length-take-le, take_more_set}
use Rattle.std.proofs.Math.Logic.{dite}
use Rattle.std.proofs.Math.Decide.{dec_lt}
use Rattle.join_plan.specs.Plan.{Levels, blank, hill, Line}
use Rattle.join_plan.specs.Scan.{line_if, line_of, passed, walk, lines_to, plan}
use Rattle.join_plan.proofs.PlanFacts.{walk-stop}
use Rattle.judge.specs.declared.Numbers.{Numbers}
use Rattle.row_gate.specs.Notes.{no_peak}
use Rattle.row_plan.specs.declared.Line.{Line as HeldLine}
use Rattle.row_plan.specs.declared.scan.OpenDepths.{OpenDepths}
use Rattle.row_plan.specs.Arrays.{hill_levels, levels_at, open_depths, depths_at, DepthsNoted, line_in, lines_in, Kept, line_within, lines_to_at}

-- ---- the lines held

pub length-lines : (held : List HeldLine) (n : ℕ) → n ≤ length held → length (lines_in (take n held)) ≡ n
length-lines held n h = length-map (take n held) line_in ∙ length-take-le n held h

pub kept-count : {these : List Line} {held held' : List HeldLine} {n : ℕ} → Kept these 0 held n held' → n ≡ length these
kept-count {these} {held} {held'} {n} k = sym (length-lines held' n k.within) ∙ ap length k.lines

module _ (held : List HeldLine) (n i j low top : ℕ) where
  pub keep_one : low < top → n < length held → Kept (line_within i j low top) n held (n + 1) (set held n (record { i = i; j = j; low = low; high = top - 1 }))
  unfolding line_if
  keep_one h b =
      let l : HeldLine = record { i = i; j = j; low = low; high = top - 1 } in
      record {
        within = omega (arith, length-set held n l);
        lines = ap lines_in (take_more_set held n l b) ∙ map-append line_in (take n held) (l ∷ []) ∙ ap (λ x. lines_in (take n held) ++ x) (one (dec_lt low top));
      }
    where
      one : (t : Dec (low < top)) → record { i = i; j = j; lowest = low; highest = top - 1 } ∷ [] ≡ line_if i j low top t
      one (yes y) = refl
      one (no y) = absurd (y h)

  pub keep-none : n ≤ length held → top ≤ low → Kept (line_within i j low top) n held n held
  unfolding line_if
  keep-none b h = record { within = b; lines = none (dec_lt low top) }
    where
      none : (t : Dec (low < top)) → lines_in (take n held) ≡ lines_in (take n held) ++ line_if i j low top t
      none (yes y) = absurd (omega arith)
      none (no y) = sym (append-nil _)

-- there is room for a line that is to be kept
pub room-one : (n i j low top : ℕ) → n + length (line_within i j low top) ≤ 128 → low < top → n < 128
unfolding line_if
room-one n i j low top b h = go (dec_lt low top) b
  where
    go : (t : Dec (low < top)) → n + length (line_if i j low top t) ≤ 128 → n < 128
    go (yes y) b = omega arith
    go (no y) b = absurd (y h)

-- ---- the depths that chunks leave open

module _ (notes : List (Option Numbers)) where
  pub depths-start : (depths : List OpenDepths) → length depths ≡ 64 → DepthsNoted notes depths 0
  depths-start depths l = record { long = l; each = λ i h. absurd (omega arith) }

  pub depths-more : (depths : List OpenDepths) (j : ℕ) (d : OpenDepths) → DepthsNoted notes depths j → j < 64 → d ≡ open_depths (levels_at notes j) → DepthsNoted notes (set depths j d) (j + 1)
  depths-more depths j d v h e = record { long = length-set depths j d ∙ v.long; each = each }
    where
      each : (i : ℕ) → i < j + 1 → depths_at (set depths j d) i ≡ open_depths (levels_at notes i)
      each i l = dite (dec_lt i j)
          (λ q. get_or-set_other depths j i d _ (omega arith) ∙ v.each i q)
          (λ q. let f : i ≡ j = omega arith in
          ap (λ (k : ℕ). depths_at (set depths j d) k) f ∙ get_or-set_same depths j d _ (omega (arith, v.long)) ∙ e ∙ ap (λ (k : ℕ). open_depths (levels_at notes k)) (sym f))

-- a chunk that is no hill has no line
line-depths : (c : Levels) (i j p m : ℕ) → line_of c i j p m ≡ line_within i j (max (open_depths c).peak p) (min (open_depths c).end m)
unfolding line_of line_if
line-depths blank i j p m = none (dec_lt (max no_peak p) (min 0 m))
  where
    none : (t : Dec (max no_peak p < min 0 m)) → [] ≡ line_if i j (max no_peak p) (min 0 m) t
    none (yes y) = absurd (omega arith)
    none (no y) = refl
line-depths (hill start peak end) i j p m = refl

-- and lowers no minimum
passed-depths : (c : Levels) (m : ℕ) → m ≤ no_peak → passed c m ≡ min (open_depths c).peak m
unfolding passed
passed-depths blank m h = omega arith
passed-depths (hill start peak end) m h = refl

-- ---- one chunk: what is kept, with the lines still to come, is the lines to chunk j behind those before

-- the lines so far, the bound m and chunk i
pub record Walking (notes : List (Option Numbers)) (j : ℕ) (before : List Line) (held : List HeldLine) (p m i n : ℕ) : Type 0 where
  pub within : n ≤ length held
  pub all : lines_in (take n held) ++ walk (levels_at notes) j p m i ≡ before

module _ (notes : List (Option Numbers)) (j : ℕ) where
  abbrev chunks : ℕ → Levels
  chunks = levels_at notes

  pub lines-none : (held : List HeldLine) (n : ℕ) → levels_at notes j ≡ blank → n ≤ length held → Kept (lines_to_at notes j) n held n held
  unfolding lines_to
  lines-none held n e b = record { within = b; lines = rw e (sym (append-nil _)) }

  pub walk_start : (held : List HeldLine) (n : ℕ) (p : Numbers) → levels_at notes j ≡ hill_levels (Some p) → n ≤ length held →
      Walking notes j (lines_in (take n held) ++ lines_to_at notes j) held p.peak p.start j n
  unfolding lines_to
  walk_start held n p e b = record { within = b; all = rw e refl }

  module _ (before : List Line) (held : List HeldLine) (p m k i n : ℕ) (v : Walking notes j before held p m k n) (ek : k ≡ suc i) where
    here : lines_in (take n held) ++ (line_of (levels_at notes i) i j p m ++ walk chunks j p (passed (levels_at notes i) m) i) ≡ before
    unfolding walk
    here = rw ek at v.all

    -- a chunk that is no hill
    pub walk-past : levels_at notes i ≡ blank → Walking notes j before held p m i n
    unfolding line_of passed
    walk-past e = record { within = v.within; all = rw e at here }

    -- a chunk by the depths that it leaves open
    module _ (q : OpenDepths) (e : q ≡ open_depths (levels_at notes i)) where
      split-depths : (lines_in (take n held) ++ line_within i j (max q.peak p) (min q.end m)) ++ walk chunks j p (passed (levels_at notes i) m) i ≡ before
      split-depths = append_assoc (lines_in (take n held)) _ _ ∙ (rw (line-depths (levels_at notes i) i j p m, sym e) at here)

      pub walk-depths-room : length before ≤ 128 → n + length (line_within i j (max q.peak p) (min q.end m)) ≤ 128
      walk-depths-room b =
          let x : List Line = lines_in (take n held) ++ line_within i j (max q.peak p) (min q.end m) in
          omega (arith, ap length split-depths, length-append x (walk chunks j p (passed (levels_at notes i) m) i), length-append (lines_in (take n held)) (line_within i j (max q.peak p) (min q.end m)), length-lines held n v.within)

      pub walk-depths : m ≤ no_peak → (r : ℕ) (held' : List HeldLine) → Kept (line_within i j (max q.peak p) (min q.end m)) n held r held' → Walking notes j before held' p (min q.peak m) i r
      walk-depths h r held' k =
          let w : passed (levels_at notes i) m ≡ min q.peak m = passed-depths (levels_at notes i) m h ∙ ap (λ (d : OpenDepths). min d.peak m) (sym e) in
          record { within = k.within; all = ap (λ l. l ++ walk chunks j p (min q.peak m) i) k.lines ∙ (rw w at split-depths) }

      -- one whose peak is above the minimum
      pub walk-above : m ≤ no_peak → m < q.peak → Walking notes j before held p m i n
      walk-above h a =
          let w : min q.peak m ≡ m = omega arith in
          rw w at (walk-depths h n held (keep-none held n i j (max q.peak p) (min q.end m) v.within (omega arith)))

    -- a chunk that is a hill
    module _ (q : Numbers) (e : levels_at notes i ≡ hill_levels (Some q)) where
      split : (lines_in (take n held) ++ line_within i j (max q.peak p) (min q.end m)) ++ walk chunks j p (min q.peak m) i ≡ before
      unfolding line_of passed
      split = append_assoc (lines_in (take n held)) _ _ ∙ (rw e at here)

      pub walk-room : length before ≤ 128 → n + length (line_within i j (max q.peak p) (min q.end m)) ≤ 128
      walk-room b =
          let x : List Line = lines_in (take n held) ++ line_within i j (max q.peak p) (min q.end m) in
          omega (arith, ap length split, length-append x (walk chunks j p (min q.peak m) i), length-append (lines_in (take n held)) (line_within i j (max q.peak p) (min q.end m)), length-lines held n v.within)

      pub walk-next : (r : ℕ) (held' : List HeldLine) → Kept (line_within i j (max q.peak p) (min q.end m)) n held r held' → Walking notes j before held' p (min q.peak m) i r
      walk-next r held' k = record { within = k.within; all = ap (λ l. l ++ walk chunks j p (min q.peak m) i) k.lines ∙ split }

  pub walk_end : (n₀ : ℕ) (held₀ held : List HeldLine) (p m i n : ℕ) → Walking notes j (lines_in (take n₀ held₀) ++ lines_to_at notes j) held p m i n → i ≤ 0 → Kept (lines_to_at notes j) n₀ held₀ n held
  unfolding walk
  walk_end n₀ held₀ held p m zero n v h = record { within = v.within; lines = sym (append-nil _) ∙ v.all }
  walk_end n₀ held₀ held p m (suc i) n v h = absurd (omega arith)

  -- below the peak of chunk j no line is to come
  pub walk-done : (n₀ : ℕ) (held₀ held : List HeldLine) (p m i n : ℕ) → Walking notes j (lines_in (take n₀ held₀) ++ lines_to_at notes j) held p m i n → m ≤ p → Kept (lines_to_at notes j) n₀ held₀ n held
  walk-done n₀ held₀ held p m i n v h = record { within = v.within; lines = sym (append-nil _) ∙ ap (λ l. lines_in (take n held) ++ l) (sym (walk-stop chunks j p m i h)) ∙ v.all }

  pub whole-room : (held : List HeldLine) (n : ℕ) → n ≤ length held → n + length (lines_to_at notes j) ≤ 128 → length (lines_in (take n held) ++ lines_to_at notes j) ≤ 128
  whole-room held n h b = omega (arith, length-append (lines_in (take n held)) (lines_to_at notes j), length-lines held n h)

-- ---- the chunks one after the other

plan-suc : (row : ℕ → Levels) (n : ℕ) → plan row (suc n) ≡ plan row n ++ lines_to row (row n) n
unfolding plan
plan-suc row n = refl

plan-more : (row : ℕ → Levels) (n k : ℕ) → length (plan row n) ≤ length (plan row (k + n))
plan-more row n zero = rw zero-add (le_refl _)
plan-more row n (suc k) = rw suc-add (omega (arith, ap length (plan-suc row (k + n)), length-append (plan row (k + n)) (lines_to row (row (k + n)) (k + n)), plan-more row n k))

-- the lines of the first j chunks are kept
pub record Scanning (row : ℕ → Levels) (held : List HeldLine) (n j : ℕ) : Type 0 where
  pub within : n ≤ length held
  pub all : lines_in (take n held) ≡ plan row j

pub scan-start : (row : ℕ → Levels) (held : List HeldLine) → Scanning row held 0 0
unfolding plan
scan-start row held = record { within = omega arith; all = refl }

module _ (row : ℕ → Levels) (count : ℕ) (held : List HeldLine) (n j : ℕ) (v : Scanning row held n j) where
  -- there is room for the lines of a chunk, since the whole plan has room
  pub scan-room : j < count → length (plan row count) ≤ 128 → n + length (lines_to row (row j) j) ≤ 128
  scan-room h b =
      let f : (count - suc j) + suc j ≡ count = omega arith in
      let m : length (plan row (suc j)) ≤ length (plan row count) = rw f at (plan-more row (suc j) (count - suc j)) in
      omega (arith, ap length (plan-suc row j), length-append (plan row j) (lines_to row (row j) j), ap length v.all, length-lines held n v.within)

  pub scan-next : (r : ℕ) (held' : List HeldLine) → Kept (lines_to row (row j) j) n held r held' → Scanning row held' r (j + 1)
  scan-next r held' k = record { within = k.within; all = k.lines ∙ ap (λ l. l ++ lines_to row (row j) j) v.all ∙ sym (plan-suc row j) ∙ ap (plan row) (sym (add-one j)) }

  pub scan-end : (held₀ : List HeldLine) → j ≡ count → Kept (plan row count) 0 held₀ n held
  scan-end held₀ e = record { within = v.within; lines = v.all ∙ ap (plan row) e }
