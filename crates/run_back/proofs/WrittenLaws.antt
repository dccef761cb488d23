-- The runs that the call `runs` writes are accepted, each one: never 15, in modes 1 and 4 answered with the inner figure from which the levels lead to y,
-- in modes 2 and 5 refused 16. Assumes nothing.
use Rattle.std.specs.Prelude.{◌≡◌, refl, ◌⊎◌, Bool, cond, ℕ, zero, suc, ◌+◌, ◌-◌, ◌*◌, ◌/◌, ◌%◌, ◌^◌, ◌≤◌, ◌<◌, leb, take, drop, get_or, ℤ}
use Rattle.std.proofs.Math.Path.{sym, ap, subst}
use Rattle.std.proofs.Common.{◌∙◌, inl, inr, mul-zero, mul-suc, add_comm, arith, lit≤, lit<, take_at}
use Rattle.std.proofs.Math.Bool.{true, false}
use mathlib.Core.List.{List, [], ◌∷◌, ◌++◌, append_assoc, append-nil, Memᴰ}
use Rattle.std.proofs.Math.Nat.{div-add-mod}
use Rattle.std.proofs.Math.ListN.{length}
use Rattle.std.proofs.Math.Seq.{drop-append-add}
use Rattle.std.proofs.Math.IntN.{pos}
use mir.Syntax.{w64}
use mir.Val.{to_z}
use Rattle.gate.specs.Outcome.{Outcome, granted, refused, onward, written}
use Rattle.gate.proofs.Laws.{not-result, result-same, yes}
use Rattle.number.specs.Bytes.{le_at, bytes_of, i64_at}
use Rattle.number.specs.Laws.{field-here, field_past}
use Rattle.number.specs.Modulo.{mod-unique}
use Rattle.row.specs.Row.{row_pieces}
use Rattle.algebra.specs.Run.{Level, AllSound, run, run_on}
use Rattle.algebra.proofs.Run.{run_is, run-fine}
use Rattle.algebra.specs.Sizes.{cost, costs}
use Rattle.algebra.proofs.Sizes.{run-within}
use Rattle.modes.specs.FourModes.{InRange, stamp, store_held, nothing}
use Rattle.modes.specs.Run.{Affine, HeaviestNumbers, heaviest_run}
use Rattle.modes.specs.Runs.{affine_level, affine_after}
use Rattle.modes.proofs.Runs.{stamp_context}
use Rattle.modes.specs.Bound.{size_held}
use Rattle.modes.specs.StoreLaws.{RunFits}
use Rattle.modes.proofs.StoreLaws.{stored_is}
use Rattle.figure.specs.Mode.{mode_of, mode_in_use}
use Rattle.figure.specs.Stored.{mode_small, by_mode}
use Rattle.modes.specs.declared.Held.{Held}
use Rattle.modes.specs.declared.Held.TheVariants.{Nothing, Figure}
use Rattle.modes.specs.declared.Run.{Run}
use Rattle.summary.specs.Layout.{i64_bytes, SummaryIn}
use Rattle.summary.specs.Judge.{length_at, kind_at, mode_at}
use Rattle.summary.proofs.ReadBack.{number-back}
use Rattle.summary.proofs.Tests.{false-true}
use Rattle.hill.specs.Verdict.{pass}
use Rattle.join_plan.specs.Plan.{Line, plan_of_row}
use Rattle.plan_work.specs.Gate.{row_fault}
use Rattle.plan_work.specs.Fair.{ValidRow}
use Rattle.plan_work.specs.Runs.{run_levels, run_of, runs_along, runs_of}
use Rattle.plan_work.proofs.RunsExact.{run_length_lem, run_sound, line-spans, runs-count}
use Rattle.plan_work.proofs.WorkSizes.{levels-light, load_fits}
use Rattle.outcome.specs.Outcomes.{has_fourth, run_length, run_bytes, each_run, Summaries, ask_row, ask_log, runs_bytes, runs_outcome}
use Rattle.outcome.proofs.Through.{LetThrough, log-found, let_through}
use Rattle.outcome.proofs.RunLaws.{length_most, length_run, length-each}
use Rattle.run_back.specs.Judge.{run_at, Near, RunNumbers, IsRunBytes}
use Rattle.run_back.proofs.DecideLaws.{net-numbers, heaviest-numbers, stamp-numbers, eaten-numbers}
use Rattle.run_back.specs.Backwards.{forwards, inner_of, backwards_outcome}
use Rattle.run_back.specs.Claims.{TheOnly, Taken, run_in, outer_of, AcceptedRun, AcceptedRuns}
use Rattle.run_back.proofs.CallLaws.{answer-is, only-inner, turns-away}

-- ---- a run is read back from its bytes

module _ (m : ℕ) (k : Run) where
  abbrev end : List ℕ
  end = cond (has_fourth m) (i64_bytes k.fourth) []

  in_a_row : run_bytes m k ≡ bytes_of 2 (run_length m) ++ (bytes_of 2 20 ++ (bytes_of 2 m ++ (i64_bytes k.first ++ (i64_bytes k.second ++ (i64_bytes k.third ++ end)))))
  unfolding run_bytes
  in_a_row = simp append_assoc

  length-read : length_at (run_bytes m k) ≡ run_length m
  length-read = ap (λ (b : List ℕ). le_at 2 b 0) in_a_row ∙ field-here 2 (run_length m) _ (omega (arith, length_most m))

  kind-read : kind_at (run_bytes m k) ≡ 20
  kind-read = ap (λ (b : List ℕ). le_at 2 b 2) in_a_row ∙ field_past 2 2 (run_length m) _ 2 (lit≤ tt) ∙ field-here 2 20 _ (lit< tt)

  mode-read : mode_in_use m ≡ true → mode_at (run_bytes m k) ≡ m
  mode-read u = ap (λ (b : List ℕ). le_at 2 b 4) in_a_row ∙ field_past 2 2 (run_length m) _ 4 (lit≤ tt) ∙ field_past 2 2 20 _ 2 (lit≤ tt) ∙ field-here 2 m _ (omega (arith, mode_small m u))

  -- behind length, kind and mode
  behind-mode : (i : ℕ) → 6 ≤ i → le_at 8 (run_bytes m k) i ≡ le_at 8 (i64_bytes k.first ++ (i64_bytes k.second ++ (i64_bytes k.third ++ end))) (i - 2 - 2 - 2)
  behind-mode i h =
      ap (λ (b : List ℕ). le_at 8 b i) in_a_row ∙ field_past 2 8 (run_length m) _ i (omega arith) ∙ field_past 2 8 20 _ (i - 2) (omega arith) ∙ field_past 2 8 m _ (i - 2 - 2) (omega arith)

  module _ (fits : RunFits k) (none : has_fourth m ≡ false → k.fourth ≡ pos 0) where
    first_read : i64_at (run_bytes m k) 6 ≡ k.first
    first_read = ap (to_z w64) (behind-mode 6 (lit≤ tt)) ∙ number-back k.first _ fits.first_fits

    second-read : i64_at (run_bytes m k) 14 ≡ k.second
    second-read = ap (to_z w64) (behind-mode 14 (lit≤ tt) ∙ field_past 8 8 _ _ 8 (lit≤ tt)) ∙ number-back k.second _ fits.second_fits

    third-read : i64_at (run_bytes m k) 22 ≡ k.third
    third-read = ap (to_z w64) (behind-mode 22 (lit≤ tt) ∙ field_past 8 8 _ _ 16 (lit≤ tt) ∙ field_past 8 8 _ _ 8 (lit≤ tt)) ∙ number-back k.third _ fits.third-fits

    fourth-read : i64_at (run_bytes m k) 30 ≡ k.fourth
    unfolding le_at
    fourth-read =
        ap (to_z w64) (behind-mode 30 (lit≤ tt) ∙ field_past 8 8 _ _ 24 (lit≤ tt) ∙ field_past 8 8 _ _ 16 (lit≤ tt) ∙ field_past 8 8 _ _ 8 (lit≤ tt)) ∙ go (has_fourth m) none
      where
        go : (t : Bool) → (t ≡ false → k.fourth ≡ pos 0) → to_z w64 (le_at 8 (cond t (i64_bytes k.fourth) []) 0) ≡ k.fourth
        go true n = ap (λ (b : List ℕ). to_z w64 (le_at 8 b 0)) (sym (append-nil (i64_bytes k.fourth))) ∙ number-back k.fourth [] fits.fourth-fits
        go false n = sym (n refl)

    run-read : run_at (run_bytes m k) ≡ k
    run-read = λ i. record { first = first_read i; second = second-read i; third = third-read i; fourth = fourth-read i }

    is-run : mode_in_use m ≡ true → RunNumbers m k → IsRunBytes (run_bytes m k)
    is-run u r = record {
      layout = record {
        kind_fits = kind-read;
        length-fits = length_run m k ∙ ap run_length (sym (mode-read u));
        length-said = length-read ∙ sym (length_run m k);
        mode-fits = ap mode_in_use (mode-read u) ∙ u;
      };
      numbers = rw (mode-read u, run-read) r;
    }

-- ---- the numbers of a run that is written

-- 31 is odd, and so is a product of such
odd-after : (k : Affine) (ls : List (Level stamp)) → k.times.num % 2 ≡ 1 → (run_on stamp_context k ls).times.num % 2 ≡ 1
unfolding run_on
odd-after k [] o = o
odd-after k (l ∷ ls) o = odd-after (affine_after (affine_level l) k) ls (odd-31 k.times.num o)
  where
    odd-31 : (n : ℕ) → n % 2 ≡ 1 → ((31 * n) % 2 ^ 32) % 2 ≡ 1
    odd-31 n o =
        sym (mod-unique 1 ((31 * n) % 2 ^ 32) (31 * (n / 2) + 15) (2 ^ 31 * (31 * n / 2 ^ 32)) 2 (lit< tt) (omega (arith, div-add-mod n 2, div-add-mod (31 * n) (2 ^ 32))))

held-near : (h : Held) → size_held h ≤ 100_000_000_000_000 → Near (store_held h) ⊎ (store_held h ≡ nothing)
unfolding size_held store_held
held-near Nothing s = inr refl
held-near (Figure z) s = inl s

module _ (m : ℕ) where
  abbrev Light : List (Level (mode_of m).algebra) → Type 0
  Light ls = costs (mode_of m).sizes ls ≤ 100_000_000_000_000

  within : (l : Level (mode_of m).algebra) (ls : List (Level (mode_of m).algebra)) → AllSound InRange (l ∷ ls) →
      (mode_of m).run_sizes.Within (run (mode_of m).context l ls) (costs (mode_of m).sizes ls + cost (mode_of m).sizes l)
  within l ls s = run-within (mode_of m).run_sizes ((mode_of m).context.level l) ls (cost (mode_of m).sizes l) s.1 ((mode_of m).run_sizes.within_level l s.0)

-- "Its numbers are within the bounds", and the multiplier is odd.
abbrev NumbersFit : ℕ → Type 0
NumbersFit m = (l : Level (mode_of m).algebra) (ls : List (Level (mode_of m).algebra)) → AllSound InRange (l ∷ ls) → Light m (l ∷ ls) → RunNumbers m ((mode_of m).store_run (run (mode_of m).context l ls))

net-written : NumbersFit 1
unfolding mode_of
net-written l ls s h = net-numbers _ (omega (arith, within 1 l ls s)) refl refl

heaviest-written : NumbersFit 2
unfolding mode_of
heaviest-written l ls s h =
    let w = within 2 l ls s in
    let k : HeaviestNumbers = run (mode_of 2).context l ls in
    heaviest-numbers (heaviest_run k) (omega (arith, w.empty-in)) (held-near k.other (omega (arith, w.other-in))) (omega (arith, w.add-in))

stamp-written : NumbersFit 4
unfolding mode_of
stamp-written l ls s h =
    let k : Affine = run (mode_of 4).context l ls in
    stamp-numbers _ (stored_is k.times) (stored_is k.plus) refl (odd-after (affine_level l) ls refl)

eaten-written : NumbersFit 5
unfolding mode_of
eaten-written l ls s h =
    let w = within 5 l ls s in
    eaten-numbers _ (omega (arith, w.empty-in)) (omega (arith, w.some_in.add-in)) (omega (arith, w.some_in.low-in)) (omega (arith, w.some_in.high-in))
    (run-fine (mode_of 5).context ((mode_of 5).context.level l) ls ((mode_of 5).context.level-fine l s.0) s.1)

numbers-written : (m : ℕ) → mode_in_use m ≡ true → NumbersFit m
numbers-written m u = by_mode NumbersFit net-written heaviest-written stamp-written eaten-written m u

fourth-0 : (m : ℕ) → mode_in_use m ≡ true → (k : (mode_of m).context.K) → has_fourth m ≡ false → ((mode_of m).store_run k).fourth ≡ pos 0
unfolding mode_of
fourth-0 m u = by_mode (λ (m : ℕ). (k : (mode_of m).context.K) → has_fourth m ≡ false → ((mode_of m).store_run k).fourth ≡ pos 0) (λ _ _. refl) (λ _ _. refl) (λ _ _. refl) (λ _ e. false-true (sym e)) m u

-- ---- the run of nested levels is accepted

only_same : {m : ℕ} {f g : ℤ → ℤ} {y x : ℤ} → ((z : ℤ) → f z ≡ g z) → TheOnly m f y x → TheOnly m g y x
only_same {m} {f} {g} {y} {x} e t = record { inner = t.inner; leads = sym (e x) ∙ t.leads; only = λ z i h. t.only z i (e z ∙ h) }

module _ (m : ℕ) (u : mode_in_use m ≡ true) (l : Level (mode_of m).algebra) (ls : List (Level (mode_of m).algebra)) (s : AllSound InRange (l ∷ ls)) (h : Light m (l ∷ ls)) where
  abbrev k : (mode_of m).context.K
  k = run (mode_of m).context l ls

  abbrev b : List ℕ
  b = run_bytes m ((mode_of m).store_run k)

  few : costs (mode_of m).sizes ls + cost (mode_of m).sizes l < 2 ^ 63
  few = omega (arith, h)

  fits : RunFits ((mode_of m).store_run k)
  fits = (mode_of m).run_fits k (costs (mode_of m).sizes ls + cost (mode_of m).sizes l) (within m l ls s) few

  mode-is : mode_at b ≡ m
  mode-is = mode-read m ((mode_of m).store_run k) u

  is : IsRunBytes b
  is = is-run m ((mode_of m).store_run k) fits (fourth-0 m u k) u (numbers-written m u l ls s h)

  as-levels : (x : ℤ) → forwards m (run_at b) x ≡ outer_of m (l ∷ ls) x
  unfolding forwards
  as-levels x =
      ap (λ (r : Run). (mode_of m).store ((mode_of m).context.apply ((mode_of m).read_run r) ((mode_of m).read x))) (run-read m ((mode_of m).store_run k) fits (fourth-0 m u k))
      ∙ ap (λ (j : (mode_of m).context.K). (mode_of m).store ((mode_of m).context.apply j ((mode_of m).read x))) ((mode_of m).run-back k (costs (mode_of m).sizes ls + cost (mode_of m).sizes l) (within m l ls s) few)
      ∙ ap (mode_of m).store (run_is (mode_of m).context l ls s ((mode_of m).read x))

  accepted-run : AcceptedRun m (l ∷ ls) b
  accepted-run = record {
    is = is;
    mode-is = mode-is;
    as-levels = as-levels;
    back = λ y t.
        let e : backwards_outcome b y ≡ granted (inner_of (mode_at b) (run_at b) y) = answer-is b y is (subst (λ (n : ℕ). Taken n y) (sym mode-is) t) in
        (inner_of (mode_at b) (run_at b) y, e, only_same as-levels (subst (λ (n : ℕ). TheOnly n (forwards n (run_at b)) y (inner_of (mode_at b) (run_at b) y)) mode-is (only-inner b y (inner_of (mode_at b) (run_at b) y) e)));
    no_way = λ w y. (turns-away b y).by-16.1 (is, subst (λ (n : ℕ). (n ≡ 2) ⊎ (n ≡ 5)) (sym mode-is) w);
  }

-- ---- one run for each line

-- of bytes that begin with L of them: these, and then the rest
first-in : (L : ℕ) (x y : List ℕ) → length x ≡ L → take L (drop (L * 0) (x ++ y)) ≡ x
first-in L x y e = ap (λ (n : ℕ). take L (drop n (x ++ y))) (mul-zero L) ∙ take_at x y L e

next-in : (L c : ℕ) (x y : List ℕ) → length x ≡ L → take L (drop (L * suc c) (x ++ y)) ≡ take L (drop (L * c) y)
next-in L c x y e =
    ap (λ (n : ℕ). take L (drop n (x ++ y))) (mul-suc L c ∙ add_comm (L * c) L ∙ ap (λ (n : ℕ). n + L * c) (sym e)) ∙ ap (take L) (drop-append-add x y (L * c))

module _ (m : ℕ) (u : mode_in_use m ≡ true) (row : List (SummaryIn m)) (v : ValidRow (mode_of m).algebra (mode_of m).sizes row) (passes : row_fault row ≡ pass) where
  -- The run of these levels, and that it is accepted.
  abbrev Accepts : List (Level (mode_of m).algebra) → Type 0
  Accepts ls = (k : (mode_of m).context.K) × (run_of (mode_of m).context ls ≡ k ∷ []) × AcceptedRun m ls (run_bytes m ((mode_of m).store_run k))

  accepts-levels : (ls : List (Level (mode_of m).algebra)) → 0 < length ls → AllSound InRange ls → Light m ls → Accepts ls
  accepts-levels [] p s h = absurd (omega arith)
  accepts-levels (l ∷ ls) p s h = (run (mode_of m).context l ls, refl, accepted-run m u l ls s h)

  accepts-line : (e : Line) → Memᴰ e (plan_of_row row) → Accepts (run_levels (mode_of m).algebra row e)
  accepts-line e i =
      let 𝒜 = (mode_of m).algebra in
      let 𝒮 = (mode_of m).sizes in
      let n : (e.lowest ≤ e.highest) × (length (run_levels 𝒜 row e) ≡ suc e.highest - e.lowest) = run_length_lem 𝒜 row e i in
      accepts-levels (run_levels 𝒜 row e) (omega arith) (run_sound 𝒜 𝒮 InRange (λ r s. s) row e v)
      (omega (arith, levels-light 𝒜 𝒮 row v e (line-spans 𝒜 row e i), load_fits 𝒜 𝒮 row v (mode_of m).laws (mode_of m).commutative passes (mode_of m).unit-small))

  each-accepted : (es : List Line) → ((e : Line) → Memᴰ e es → Memᴰ e (plan_of_row row)) → (c : ℕ) (d : Line) → c < length es →
      AcceptedRun m (run_levels (mode_of m).algebra row (get_or es c d)) (run_in m c (each_run m (runs_along (mode_of m).context row es)))
  unfolding runs_along
  each-accepted [] f c d l = absurd (omega arith)
  each-accepted (e ∷ es) f c d l = rw t.1 (go c l (λ n. each-accepted es (λ a i. f a (Memᴰ.tail i)) n d))
    where
      t : Accepts (run_levels (mode_of m).algebra row e)
      t = accepts-line e (f e (Memᴰ.head refl))

      first : List ℕ
      first = run_bytes m ((mode_of m).store_run t.0)

      rest : List ℕ
      rest = each_run m (runs_along (mode_of m).context row es)

      Here : (c : ℕ) → List ℕ → Type 0
      Here c b = AcceptedRun m (run_levels (mode_of m).algebra row (get_or (e ∷ es) c d)) b

      go : (c : ℕ) → c < length (e ∷ es) → ((n : ℕ) → n < length es → Here (suc n) (run_in m n rest)) → Here c (run_in m c (first ++ rest))
      go zero l later = subst (Here 0) (sym (first-in (run_length m) first rest (length_run m ((mode_of m).store_run t.0)))) t.2
      go (suc c) l later = subst (Here (suc c)) (sym (next-in (run_length m) c first rest (length_run m ((mode_of m).store_run t.0)))) (later c (omega arith))

-- ---- what the call writes

module _ (row w : List ℕ) (s : Summaries) (asked : ask_row (row_pieces row) ≡ granted s) (logged : ask_log s ≡ granted s) (is : runs_bytes s ≡ w) where
  through-all : LetThrough s
  through-all = let_through (row_pieces row) s s asked logged

  all-accepted : AcceptedRuns row w
  unfolding runs_bytes
  all-accepted = record {
    summaries = s;
    asked = (asked, logged);
    bytes = ap length (sym is) ∙ length-each s.mode (runs_of (mode_of s.mode).context s.row)
        ∙ ap (λ (n : ℕ). run_length s.mode * n) (runs-count (mode_of s.mode).context (mode_of s.mode).sizes (λ r f. f) s.row through-all.valid);
    each = λ c d l. subst (λ (b : List ℕ). AcceptedRun s.mode (run_levels (mode_of s.mode).algebra s.row (get_or (plan_of_row s.row) c d)) (run_in s.mode c b)) is
        (each-accepted s.mode through-all.used s.row through-all.valid through-all.passes (plan_of_row s.row) (λ a i. i) c d l);
  }

-- EACH RUN THAT IS WRITTEN IS ACCEPTED, of every row.
pub runs-accepted : (row : List ℕ) (cap : ℕ) (w : List ℕ) → runs_outcome row cap ≡ granted w → AcceptedRuns row w
unfolding runs_outcome
runs-accepted row cap w h = asks (ask_row (row_pieces row)) refl h
  where
    logs : (s : Summaries) → ask_row (row_pieces row) ≡ granted s → (o : Outcome Summaries) → ask_log s ≡ o → onward o (λ t. written cap (runs_bytes t)) ≡ granted w → AcceptedRuns row w
    logs s e (refused n) f h = absurd (not-result n w h)
    logs s e (granted t) f h =
        let same : s ≡ t = (log-found s t f).1 in
        let bytes : runs_bytes t ≡ w = result-same (yes 12 (leb (length (runs_bytes t)) cap) (granted (runs_bytes t)) h).1 in
        all-accepted row w s e (f ∙ ap granted (sym same)) (ap runs_bytes same ∙ bytes)

    asks : (o : Outcome Summaries) → ask_row (row_pieces row) ≡ o → onward o (λ s. onward (ask_log s) (λ t. written cap (runs_bytes t))) ≡ granted w → AcceptedRuns row w
    asks (refused n) e h = absurd (not-result n w h)
    asks (granted s) e h = logs s e (ask_log s) refl h
