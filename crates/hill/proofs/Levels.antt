-- A log by its levels: one that opens at most 100,000 records is well formed where its records meet above level 0, from level 0 to level 0. Assumes
-- nothing.
use Rattle.std.specs.Prelude.{◌≡◌, refl, List, [], ◌∷◌, ℕ, zero, suc, ◌+◌, ◌*◌, ◌≤◌, ◌<◌, length}
use Rattle.std.proofs.Math.Path.{sym}
use Rattle.std.proofs.Common.{subst, ◌∙◌, arith}
use Rattle.hill.specs.Verdict.{pass, joint, ends}
use Rattle.hill.proofs.VerdictLaws.{low-fst, low-snd, joint-pass, joint-high, joint-same, count-few, ends-pass}
use Rattle.hill.specs.Log.{Record, opening, closing, start_level, end_level, end_of, opened_of, joints, fault_of, log_fault}
use Rattle.hill.proofs.Spell.{end_from, end-from}
use Rattle.hill.proofs.WellFormed.{log-joints}

joint-meets : (a b : ℕ) → a ≡ b → 0 < a → joint a b ≡ pass
joint-meets zero b e h = absurd (omega arith)
joint-meets (suc a) b e h = subst (λ c. joint (suc a) c ≡ pass) e (joint-same a)

module _ {R : Type 0} where
  -- Records that meet from level l on, no level between them 0.
  abbrev pub MeetsAbove : ℕ → List (Record R) → Type 0
  MeetsAbove l [] = Unit {0}
  MeetsAbove l (x ∷ xs) = (l ≡ start_level x) × (0 < l) × MeetsAbove (end_level x) xs

  joints-above : (x : Record R) (xs : List (Record R)) → joints x xs ≡ pass → MeetsAbove (end_level x) xs
  joints-above x [] v = tt
  joints-above x (y ∷ ys) v =
      let j = low-fst (joint (end_level x) (start_level y)) (joints y ys) v in
      (joint-pass (end_level x) (start_level y) j, joint-high (end_level x) (start_level y) j, joints-above y ys (low-snd (joint (end_level x) (start_level y)) (joints y ys) v))

  above-joints : (x : Record R) (xs : List (Record R)) → MeetsAbove (end_level x) xs → joints x xs ≡ pass
  above-joints x [] s = refl
  above-joints x (y ∷ ys) s = rw (joint-meets (end_level x) (start_level y) s.0 s.1) (above-joints y ys s.2)

  -- What a well-formed log keeps to: its first record opens at depth 0, and the others go on from level 1 and end at level 0.
  pub record FromRoot (x : Record R) (xs : List (Record R)) : Type 0 where
    pub start : start_level x ≡ 0
    pub above : MeetsAbove (end_level x) xs
    pub end : end_from (end_level x) xs ≡ 0

  pub well-levels : (x : Record R) (xs : List (Record R)) → log_fault (x ∷ xs) ≡ pass → FromRoot x xs
  well-levels x xs v =
      let e = ends-pass (start_level x) (end_of x xs) (low-snd (fault_of x xs) (ends (start_level x) (end_of x xs)) v) in
      record {
        start = e.0;
        above = joints-above x xs (log-joints x xs v);
        end = end-from x xs ∙ e.1;
      }

  -- and that is enough, unless it opens too many records
  pub levels-well : (x : Record R) (xs : List (Record R)) → FromRoot x xs → opened_of (x ∷ xs) ≤ 100_000 → log_fault (x ∷ xs) ≡ pass
  unfolding ends
  levels-well x xs h few =
      let z : end_of x xs ≡ 0 = sym (end-from x xs) ∙ h.end in
      rw (above-joints x xs h.above, count-few (opened_of (x ∷ xs)) few, z, h.start)

  above-count : (l : ℕ) (xs : List (Record R)) → MeetsAbove l xs → l + 2 * opened_of xs ≡ end_from l xs + length xs
  above-count l [] s = omega arith
  above-count l (opening d r ∷ xs) s = omega (arith, s.0, above-count (suc d) xs s.2)
  above-count l (closing d ∷ xs) s = omega (arith, s.0, above-count d xs s.2)

  -- Each record that it opens it closes.
  pub log-pairs : (xs : List (Record R)) → log_fault xs ≡ pass → length xs ≡ 2 * opened_of xs
  log-pairs [] v = refl
  log-pairs (opening d r ∷ xs) v =
      let p = well-levels (opening d r) xs v in
      omega (arith, p.start, above-count (suc d) xs p.above, p.end)
  log-pairs (closing d ∷ xs) v = absurd (omega (arith, (well-levels (closing d) xs v).start))
