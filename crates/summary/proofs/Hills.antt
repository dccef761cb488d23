-- Question 5 of a hill's bytes: its clauses hold exactly where the hill that they say is accepted, and each value stands for a figure. Assumes nothing.
use Rattle.std.specs.Prelude.{◌≡◌, refl, ◌≢◌, ◌⊎◌, Bool, true, false, List, eqb, ltb, length}
use Rattle.std.proofs.Math.Path.{sym, ap, ap₂, fun_ext}
use Rattle.std.proofs.Common.{◌∙◌, inl, inr}
use Prim.Native.Nat.{ℕ, zero, suc, ◌+◌, ◌-◌, ◌*◌, ◌≤◌, ◌<◌, min}
use native.Mathlib.Omega.{arith}
use Rattle.modes.specs.FourModes.{limit}
use Rattle.figure.specs.Mode.{Mode}
use Rattle.figure.specs.Stored.{IsStored, size_of, none, none_read}
use Rattle.hill.specs.Valid.{ValidHill, weight}
use Rattle.summary.specs.Judge.{mode_at, start_at, peak_at, end_at, opened_at, rise_at, fall_at, left_at, middle_at, held_at, sum_to, counted, HasLayout, IsHill}
use Rattle.summary.specs.Decode.{amounts_at, lefts_in, rights_in, hill_in}
use Rattle.summary.proofs.Tests.{Tells, tells-lt, tells-eq, false-true}
use Rattle.summary.proofs.ModeValues.{Numbered}
use Rattle.summary.proofs.Values.{tells-range, lefts-length, rights-length, lefts-weight, rights-weight, rights-fine, fine-rights}

sum_same : (n : ℕ) (f g : ℕ → ℕ) → ((i : ℕ) → f i ≡ g i) → sum_to n f ≡ sum_to n g
sum_same n f g h = ap (sum_to n) (fun_ext h)

sum-none : (n : ℕ) (f : ℕ → ℕ) → ((i : ℕ) → f i ≡ 0) → sum_to n f ≡ 0
unfolding sum_to
sum-none zero f h = refl
sum-none (suc n) f h = omega (arith, sum-none n f h, h n)

min-zero : (a b : ℕ) → min a b ≡ 0 → (a ≡ 0) ⊎ (b ≡ 0)
min-zero zero b e = inl refl
min-zero (suc a) zero e = inr refl
min-zero (suc a) (suc b) e = absurd (omega arith)

grounded : (s e p : ℕ) → p ≡ 0 → (s - p ≡ 0) ⊎ (e - p ≡ 0) → (s ≡ 0) ⊎ (e ≡ 0)
grounded s e p z (inl x) = inl (omega arith)
grounded s e p z (inr x) = inr (omega arith)

sloped : (s e : ℕ) → ¬ ((s ≡ 0) × (e ≡ 0)) → 0 < s + e
sloped zero zero n = absurd (n (refl, refl))
sloped zero (suc e) n = omega arith
sloped (suc s) e n = omega arith

-- Every 64-bit value of the bytes stands for a figure.
pub record AllStored (M : Mode) (b : List ℕ) : Type 0 where
  pub lefts : (i : ℕ) → i < rise_at b → IsStored M (left_at b i)
  pub middle : IsStored M (middle_at b)
  pub helds : (j : ℕ) → j < fall_at b → IsStored M (held_at b j)

module _ (M : Mode) (b : List ℕ) (N : Numbered (mode_at b) M) where
  weigh : ℕ
  weigh = sum_to (rise_at b) (λ i. size_of M (left_at b i)) + size_of M (middle_at b) + sum_to (fall_at b) (λ j. size_of M (held_at b j))

  weight_is : weight M.algebra M.sizes (hill_in M.read b) ≡ M.sizes.unit * fall_at b + weigh
  unfolding weigh size_of
  weight_is = omega (arith, lefts-weight M b (rise_at b), rights-weight M b (fall_at b))

  -- "10^9 × unclosed records + the absolute 64-bit values"; in mode 4, the unclosed records
  weight-grams : mode_at b ≢ 4 → weight M.algebra M.sizes (hill_in M.read b) ≡ limit * fall_at b + (sum_to (rise_at b) (λ i. counted (mode_at b) (left_at b i)) + counted (mode_at b) (middle_at b) + sum_to (fall_at b) (λ j. counted (mode_at b) (held_at b j)))
  unfolding weigh
  weight-grams n =
      weight_is ∙
      ap₂ (λ (u w : ℕ). u * fall_at b + w) (N.unit-is n)
      (ap₂ ◌+◌ (ap₂ ◌+◌ (sum_same (rise_at b) _ _ (λ i. N.size_is n (left_at b i))) (N.size_is n (middle_at b))) (sum_same (fall_at b) _ _ (λ j. N.size_is n (held_at b j))))

  weight-4 : mode_at b ≡ 4 → weight M.algebra M.sizes (hill_in M.read b) ≡ fall_at b
  unfolding weigh
  weight-4 e =
      weight_is ∙
      ap₂ (λ (u w : ℕ). u * fall_at b + w) (N.unit-one e)
      (ap₂ ◌+◌ (ap₂ ◌+◌ (sum-none (rise_at b) _ (λ i. N.size_none e (left_at b i))) (N.size_none e (middle_at b))) (sum-none (fall_at b) _ (λ j. N.size_none e (held_at b j)))) ∙
      omega arith

  unit-opened : (k : ℕ) → M.sizes.unit ≡ k → M.sizes.unit * opened_at b ≡ k * opened_at b
  unit-opened k e = ap (λ (u : ℕ). u * opened_at b) e

  module _ (v : IsHill b) where
    mode-4? : (mode_at b ≡ 4) ⊎ (mode_at b ≢ 4)
    mode-4? = go (eqb (mode_at b) 4) (tells-eq (mode_at b) 4)
      where
        go : (t : Bool) → Tells (mode_at b ≡ 4) t → (mode_at b ≡ 4) ⊎ (mode_at b ≢ 4)
        go true s = inl (s.from refl)
        go false s = inr (λ e. false-true (s.to e))

    light : weight M.algebra M.sizes (hill_in M.read b) ≤ M.sizes.unit * opened_at b
    light = go mode-4?
      where
        go : (mode_at b ≡ 4) ⊎ (mode_at b ≢ 4) → weight M.algebra M.sizes (hill_in M.read b) ≤ M.sizes.unit * opened_at b
        go (inl e) = omega (arith, weight-4 e, unit-opened 1 (N.unit-one e), v.opened-unclosed e)
        go (inr n) = omega (arith, weight-grams n, unit-opened limit (N.unit-is n), v.values-light n)

    ground : peak_at b ≡ 0 → min (length (lefts_in M.read b (rise_at b))) (length (rights_in M.read b (fall_at b))) ≡ 0
    ground z = rw (lefts-length M.read b (rise_at b), rights-length M.read b (fall_at b)) (go (v.ground z))
      where
        go : (start_at b ≡ 0) ⊎ (end_at b ≡ 0) → min (rise_at b) (fall_at b) ≡ 0
        go (inl e) = omega arith
        go (inr e) = omega arith

    some : 0 < rise_at b + fall_at b + opened_at b
    some = go (ltb 0 (rise_at b + fall_at b + opened_at b)) (tells-lt 0 (rise_at b + fall_at b + opened_at b))
      where
        go : (t : Bool) → Tells (0 < rise_at b + fall_at b + opened_at b) t → 0 < rise_at b + fall_at b + opened_at b
        go true s = s.from refl
        go false s =
            let k : ¬ (0 < rise_at b + fall_at b + opened_at b) = λ x. false-true (s.to x) in
            absurd (v.opened_some (omega (arith, v.peak-start)) (omega (arith, v.peak-end)) (omega arith))

    pub hill-valid : ValidHill M.algebra M.sizes (peak_at b) (opened_at b) (hill_in M.read b)
    hill-valid =
        let l = lefts-length M.read b (rise_at b) in
        let r = rights-length M.read b (fall_at b) in
        record {
          start-high = omega (arith, v.start-high, v.peak-start);
          end-high = omega (arith, v.end-high, v.peak-end);
          ground = ground;
          few = v.opened-few;
          some = omega (arith, some);
          nothing = λ z k. ap M.read (v.middle-nothing z (λ p. let x = p.0 in let y = p.1 in omega (arith, v.peak-start)) ∙ sym N.nothing_is) ∙ none_read M;
          fine = rights-fine M b (fall_at b) (λ j k. ((tells-range (peak_at b + j) (amounts_at b j)).from (v.records j k)).1);
          light = light;
        }

    pub hill-stored : AllStored M b
    hill-stored = go mode-4?
      where
        go : (mode_at b ≡ 4) ⊎ (mode_at b ≢ 4) → AllStored M b
        go (inl e) = record {
          lefts = λ i k. N.stamp-stored e (left_at b i) ((v.values-stamps e).lefts i k);
          middle = N.stamp-stored e (middle_at b) (v.values-stamps e).middle;
          helds = λ j k. N.stamp-stored e (held_at b j) ((v.values-stamps e).helds j k);
        }
        go (inr n) = record {
          lefts = λ i k. N.any-stored n (left_at b i);
          middle = N.any-stored n (middle_at b);
          helds = λ j k. N.any-stored n (held_at b j);
        }

  pub valid-hill : HasLayout b 18 (24 + 8 * rise_at b + 20 * fall_at b) → peak_at b ≤ start_at b → peak_at b ≤ end_at b → AllStored M b →
      ValidHill M.algebra M.sizes (peak_at b) (opened_at b) (hill_in M.read b) → IsHill b
  unfolding IsStored none
  valid-hill f ps pe st v =
      let l = lefts-length M.read b (rise_at b) in
      let r = rights-length M.read b (fall_at b) in
      record {
        layout = f;
        start-high = omega (arith, v.start-high);
        end-high = omega (arith, v.end-high);
        peak-start = ps;
        peak-end = pe;
        ground = λ z. grounded (start_at b) (end_at b) (peak_at b) z (min-zero (rise_at b) (fall_at b) (omega (arith, v.ground z)));
        records = λ j k. (tells-range (peak_at b + j) (amounts_at b j)).to (omega (arith, v.end-high), fine-rights M b (fall_at b) v.fine j k);
        opened-few = v.few;
        opened_some = λ x y z. omega (arith, v.some);
        middle-nothing = λ z n. sym st.middle ∙ ap M.store (v.nothing z (omega (arith, sloped (start_at b) (end_at b) n))) ∙ N.nothing_is;
        values-light = λ n. omega (arith, weight-grams n, unit-opened limit (N.unit-is n), v.light);
        values-stamps = λ e. record {
          lefts = λ i k. N.stored-stamp e (left_at b i) (st.lefts i k);
          middle = N.stored-stamp e (middle_at b) st.middle;
          helds = λ j k. N.stored-stamp e (held_at b j) (st.helds j k);
        };
        opened-unclosed = λ e. omega (arith, weight-4 e, unit-opened 1 (N.unit-one e), v.light);
      }
