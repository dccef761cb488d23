-- A log's records so far in the arrays, in one mode: what an open and a close leave. Assumes nothing.
use Rattle.std.specs.Prelude.{◌≡◌, refl, List, [], ◌∷◌, ◌++◌, ℕ, suc, ◌*◌, ◌≤◌, ◌<◌, ℤ, length}
use Rattle.std.proofs.Common.{sym, arith}
use Rattle.hill.specs.Log.{Record, opening, closing, opened_of}
use Rattle.hill.specs.Summary.{Hill}
use Rattle.hill.specs.Building.{empty, close, step, hill_of}
use Rattle.hill.proofs.Building.{run-append}
use Rattle.hill.proofs.Growth.{opened-append}
use Rattle.modes.specs.FourModes.{Amounts, limit, InRange}
use Rattle.figure.specs.Mode.{Mode, mode_of}
use Rattle.figure.specs.Stored.{none}
use Rattle.slopes.specs.Arrays.{Arrays, arrays, Fig, Able, StandsFor}
use Rattle.slopes.specs.Actions.{Pushed, ClosedTop}
use Rattle.slopes.specs.Laws.{counts, able, restate, opened, after, after_more, close-top, emptied}

-- A log starts at level 0, so there are no left values: any list can stand in their place. The record of depth d is at index d.
abbrev pub rising : (vs fs cs hs : List ℤ) → Arrays
rising vs fs cs hs = arrays vs vs fs cs hs

-- In mode m the arrays stand for the hill of the records xs, whose last one ended at this level.
abbrev pub Stands : List (Record Amounts) → (level : ℕ) (vs fs cs : List ℤ) (m : ℕ) (hs : List ℤ) (mid : ℤ) → Type 0
Stands xs level vs fs cs m hs mid = StandsFor (mode_of m) (rising vs fs cs hs) (counts 0 level mid) (hill_of (mode_of m).algebra xs) (limit * opened_of xs)

-- with no left values, the place for them is free
free-left : {M : Mode} {ls ls' vs fs cs hs : List ℤ} {n : ℕ} {mid : ℤ} {h : Hill (Fig M) Amounts} {b : ℕ} → length ls' ≡ 64
    → StandsFor M (arrays ls vs fs cs hs) (counts 0 n mid) h b → StandsFor M (arrays ls' vs fs cs hs) (counts 0 n mid) h b
free-left e s = record {
  sound = record { whole = record { left = e; values = s.sound.whole.values; floors = s.sound.whole.floors; ceilings = s.sound.whole.ceilings; held = s.sound.whole.held }; nl≤ = s.sound.nl≤; n≤ = s.sound.n≤ };
  stored = record { left = λ i l. absurd (omega arith); mid = s.stored.mid; held = s.stored.held };
  is = s.is;
  fine = s.fine;
  light = s.light;
}

module _ (m : ℕ) (xs : List (Record Amounts)) where
  pub stands-able : {level : ℕ} {vs fs cs hs : List ℤ} {mid : ℤ} → opened_of xs ≤ 100_000 → Stands xs level vs fs cs m hs mid → Able (mode_of m) (rising vs fs cs hs) (counts 0 level mid)
  stands-able few s = able s (omega arith)

  pub hill-more : (y : Record Amounts) → step (mode_of m).algebra (hill_of (mode_of m).algebra xs) y ≡ hill_of (mode_of m).algebra (xs ++ (y ∷ []))
  hill-more y = sym (run-append (mode_of m).algebra (empty (mode_of m).algebra) xs (y ∷ []))

  pub stands-open : (d : ℕ) (r : Amounts) {vs fs cs hs : List ℤ} {mid : ℤ} {vs' fs' cs' hs' : List ℤ} → d < 64 → InRange r → Able (mode_of m) (rising vs fs cs hs) (counts 0 d mid)
      → Pushed d r.value r.floor r.ceiling (none (mode_of m)) vs fs cs hs vs' fs' cs' hs'
      → Stands xs d vs fs cs m hs mid → Stands (xs ++ (opening d r ∷ [])) (suc d) vs' fs' cs' m hs' mid
  stands-open d r {vs} {fs} {cs} {hs} lt g a p s =
      let y = opening d r in
      let t = opened {M = mode_of m} {A = rising vs fs cs hs} a d r lt g refl refl refl p in
      free-left t.sound.whole.values
      (restate (after_more s (λ h. step (mode_of m).algebra h y) (mode_of m).sizes.unit t) (limit * opened_of (xs ++ (y ∷ []))) (hill-more y) (omega (arith, opened-append xs (y ∷ []), (mode_of m).unit-small)))

  pub stands-close : (d : ℕ) {vs fs cs hs : List ℤ} {mid : ℤ} {hs' : List ℤ} {mid' : ℤ} → Able (mode_of m) (rising vs fs cs hs) (counts 0 (suc d) mid) → ClosedTop (mode_of m) vs fs cs hs d mid hs' mid'
      → Stands xs (suc d) vs fs cs m hs mid → Stands (xs ++ (closing d ∷ [])) d vs fs cs m hs' mid'
  stands-close d {vs} {fs} {cs} {hs} a t s =
      restate (after s (close (mode_of m).algebra) (close-top {A = rising vs fs cs hs} a d refl t)) (limit * opened_of (xs ++ (closing d ∷ []))) (hill-more (closing d)) (omega (arith, opened-append xs (closing d ∷ [])))

-- ---- no record yet

pub stands-none : (m : ℕ) {vs fs cs hs : List ℤ} {mid : ℤ} → length vs ≡ 64 → length fs ≡ 64 → length cs ≡ 64 → length hs ≡ 64 → mid ≡ none (mode_of m) → Stands [] 0 vs fs cs m hs mid
stands-none m {vs} {fs} {cs} {hs} {mid} ev ef ec eh e =
    emptied (mode_of m) (rising vs fs cs hs) mid (record { left = ev; values = ev; floors = ef; ceilings = ec; held = eh }) e
