-- Records closed one after the other, what came from deeper carried along. Assumes nothing.
use Rattle.std.specs.Prelude.{◌≡◌, List, ℕ, zero, suc, ◌+◌, ◌-◌, ◌^◌, ◌≤◌, ◌<◌, min, ℤ}
use Rattle.std.proofs.Common.{sym, ◌∙◌, zero-add, suc-add, arith}
use Rattle.std.proofs.Math.Path.{ap, subst}
use Rattle.std.proofs.Math.Numerals.{add-one}
use Rattle.modes.specs.FourModes.{Amounts, limit}
use Rattle.figure.specs.Mode.{Mode}
use Rattle.figure.specs.Stored.{size_of, none, combined, passed, amounts, Combines, Passes, none_read, none-size, none-stored, combined-read, combined-size, combined-stored, passed-read, passed-size, passed-stored, passes}
use Rattle.hill.specs.Summary.{Hill, hill}
use Rattle.hill.specs.Valid.{weight_up, weight_down, AllFine}
use Rattle.hill.specs.Building.{join, close, closes}
use Rattle.hill.proofs.Building.{join-unit}
use Rattle.summary.specs.Judge.{left_at}
use Rattle.summary.specs.Decode.{lefts_in}
use Rattle.slopes.specs.declared.Counts.{Counts}
use Rattle.slopes.specs.Arrays.{Arrays, at, Fig, ups, downs, slopes_of, weight_of}
use Rattle.slopes.specs.Actions.{Adds, Added, Joins}
use Rattle.slopes.specs.Laws.{counts, with_held, adds, joined, restate}
use Rattle.codec.specs.Promised.{Sinks, Sunk, Falls, Carried}
use Rattle.codec.specs.LoadLaws.{lefts-first}

-- ---- fewer records

module _ (M : Mode) (vs fs cs hs : List ℤ) where
  abbrev records : ℕ → List (Amounts × Fig M)
  records n = downs M vs fs cs hs n

  abbrev weighs : ℕ → ℕ
  weighs n = weight_down M.algebra M.sizes (records n)

  fine_more : (t d : ℕ) → AllFine M.algebra M.sizes (records (d + t)) → AllFine M.algebra M.sizes (records t)
  fine_more t zero f = subst (λ (n : ℕ). AllFine M.algebra M.sizes (records n)) (zero-add t) f
  fine_more t (suc d) f = fine_more t d (subst (λ (n : ℕ). AllFine M.algebra M.sizes (records n)) (suc-add d t) f).1

  weight-more : (t d : ℕ) → weighs t ≤ weighs (d + t)
  weight-more t zero = rw (zero-add t) (omega arith)
  weight-more t (suc d) = rw (suc-add d t) (omega (arith, weight-more t d))

  fine-first : (t n : ℕ) → t ≤ n → AllFine M.algebra M.sizes (records n) → AllFine M.algebra M.sizes (records t)
  fine-first t n h f = let e : n ≡ n - t + t = omega arith in fine_more t (n - t) (subst (λ (k : ℕ). AllFine M.algebra M.sizes (records k)) e f)

  weight-first : (t n : ℕ) → t ≤ n → weighs t ≤ weighs n
  weight-first t n h = let e : n - t + t ≡ n = omega arith in subst (λ (k : ℕ). weighs t ≤ weighs k) e (weight-more t (n - t))

-- ---- the loop

module _ {M : Mode} {b : List ℕ} {k n : ℕ} {vs fs cs hs : List ℤ} (p : Falls M b k vs fs cs hs n) where
  pub none-carried : {z : ℤ} → z ≡ none M → Carried M b 0 vs fs cs hs n z
  none-carried e =
      let z : n - 0 ≡ n = omega arith in
      rw e record {
        is = λ u m. rw (z, none_read M) (join-unit M.algebra M.laws (hill u m (downs M vs fs cs hs n)));
        stored = none-stored M;
        light = rw z (omega (arith, none-size M));
      }

  module _ {i t : ℕ} {x : ℤ} (lt : i < k) (et : t ≡ n - 1 - i) (c : Carried M b i vs fs cs hs n x) where
    abbrev amount : Amounts
    amount = amounts (at vs t) (at fs t) (at cs t)

    next-is : n - i ≡ suc t
    next-is = omega (arith, p.there)

    top_fine : AllFine M.algebra M.sizes (downs M vs fs cs hs (suc t))
    top_fine = fine-first M vs fs cs hs (suc t) n (omega (arith, p.there)) p.fine

    -- what stands at the level, and with the value from deeper
    all-light : M.sizes.unit + size_of M (at hs t) + size_of M (left_at b i) + size_of M x + weight_down M.algebra M.sizes (downs M vs fs cs hs t)
        ≤ weight_down M.algebra M.sizes (downs M vs fs cs hs n) + weight_up M.algebra M.sizes (lefts_in M.read b (suc i))
    unfolding size_of
    all-light = omega (arith, subst (λ (j : ℕ). size_of M x + weight_down M.algebra M.sizes (downs M vs fs cs hs j) ≤ weight_down M.algebra M.sizes (downs M vs fs cs hs n) + weight_up M.algebra M.sizes (lefts_in M.read b i)) next-is c.light)

    all_small : M.sizes.unit + size_of M (at hs t) + size_of M (left_at b i) + size_of M x < 2 ^ 62
    all_small = omega (arith, all-light, lefts-first M b (suc i) k (omega arith), p.light)

    pub held-combines : {y : ℤ} → y ≡ left_at b i → Combines M (at hs t) y
    held-combines e = rw e record { first = p.stored t (omega (arith, p.there)); second = p.lefts i lt; room = omega (arith, all_small) }

    module _ {h : ℤ} (eh : h ≡ combined M (at hs t) (left_at b i)) where
      here-room : size_of M (at hs t) + size_of M (left_at b i) < 2 ^ 63
      here-room = omega (arith, all_small)

      here-size : size_of M h ≤ size_of M (at hs t) + size_of M (left_at b i)
      here-size = rw eh (combined-size M (at hs t) (left_at b i) here-room)

      pub here-combines : Combines M h x
      here-combines = record { first = rw eh (combined-stored M (at hs t) (left_at b i) here-room); second = c.stored; room = omega (arith, all_small, here-size) }

      module _ {a : ℤ} (ea : a ≡ combined M h x) where
        room : size_of M h + size_of M x < 2 ^ 63
        room = here-combines.room

        a-size : size_of M a ≤ size_of M h + size_of M x
        a-size = rw ea (combined-size M h x room)

        a-room : limit + size_of M a < 2 ^ 63
        a-room = omega (arith, a-size, all_small, here-size)

        pub all-passes : Passes M (at vs t) a
        all-passes = passes M amount a top_fine.0 a-room (rw ea (combined-stored M h x room))

        -- "its held figures so far, what came from deeper and the right's value at that level are combined"
        a_read : M.read a ≡ M.algebra.◌⊗◌ (M.algebra.◌⊗◌ (M.read (at hs t)) (M.read x)) (M.read (left_at b i))
        a_read =
            ap M.read ea ∙ combined-read M h x room ∙ ap (λ (y : Fig M). M.algebra.◌⊗◌ y (M.read x)) (ap M.read eh ∙ combined-read M (at hs t) (left_at b i) here-room)
            ∙ M.laws.assoc (M.read (at hs t)) (M.read (left_at b i)) (M.read x) ∙ ap (M.algebra.◌⊗◌ (M.read (at hs t))) (M.commutative (M.read (left_at b i)) (M.read x))
            ∙ sym (M.laws.assoc (M.read (at hs t)) (M.read x) (M.read (left_at b i)))

        pub next-carried : {y : ℤ} → y ≡ passed M amount a → Carried M b (i + 1) vs fs cs hs n y
        unfolding size_of
        next-carried ey =
            let en : n - (i + 1) ≡ t = omega (arith, p.there) in
            rw ey record {
              is = λ u m.
                  rw (en, add-one i)
                  (ap (λ (f : Fig M). join M.algebra f (hill u m (downs M vs fs cs hs t))) (passed-read M amount a top_fine.0 a-room ∙ ap (M.algebra.node amount) a_read)
                  ∙ ap (λ (g : Hill (Fig M) Amounts). close M.algebra (join M.algebra (M.read (left_at b i)) g))
                  (subst (λ (j : ℕ). join M.algebra (M.read x) (hill u m (downs M vs fs cs hs j)) ≡ closes M.algebra (hill u m (downs M vs fs cs hs n)) (lefts_in M.read b i)) next-is (c.is u m)));
              stored = passed-stored M amount a top_fine.0 a-room;
              light = rw (en, add-one i) (omega (arith, passed-size M amount a top_fine.0 a-room, a-size, here-size, all-light));
            }

-- ---- before and after it

module _ {M : Mode} {b : List ℕ} {k : ℕ} {A : Arrays} {c : Counts} (p : Sinks M b k A c) {d : ℕ} (ed : d ≡ min k c.n) where
  pub falls : Falls M b d A.values A.floors A.ceilings A.held c.n
  falls = record {
    values = p.able.sound.whole.values;
    floors = p.able.sound.whole.floors;
    ceilings = p.able.sound.whole.ceilings;
    held = p.able.sound.whole.held;
    few = p.able.sound.n≤;
    there = omega arith;
    bytes = omega (arith, p.bytes);
    lefts = λ i l. p.stored i (omega arith);
    stored = p.able.stored.held;
    fine = p.able.fine;
    light = omega (arith, p.light, lefts-first M b d k (omega arith));
  }

  module _ {x : ℤ} (f : Carried M b d A.values A.floors A.ceilings A.held c.n x) where
    below-joins : Joins M A (counts c.nl (c.n - d) c.mid) x
    unfolding size_of
    below-joins = record {
      able = record {
        sound = record {
          whole = p.able.sound.whole;
          nl≤ = p.able.sound.nl≤;
          n≤ = omega (arith, p.able.sound.n≤);
        };
        stored = record { left = p.able.stored.left; mid = p.able.stored.mid; held = λ i l. p.able.stored.held i (omega arith) };
        fine = fine-first M A.values A.floors A.ceilings A.held (c.n - d) c.n (omega arith) p.able.fine;
        light = omega (arith, p.able.light, weight-first M A.values A.floors A.ceilings A.held (c.n - d) c.n (omega arith));
      };
      stored = f.stored;
      light = omega (arith, f.light, p.light, lefts-first M b d k (omega arith));
    }

    pub below-adds : Adds M A.held (c.n - d) c.mid x
    below-adds = adds below-joins

    pub sunk-down : {hs' : List ℤ} {mid' : ℤ} → Added M A.held (c.n - d) c.mid x hs' mid' → Sunk M b d A c (with_held A hs') (counts c.nl (c.n - d) mid')
    unfolding size_of
    sunk-down a =
        restate (joined below-joins a) (weight_of M (slopes_of M A c) + weight_up M.algebra M.sizes (lefts_in M.read b d))
        (f.is (ups M A.left c.nl) (M.read c.mid)) (omega (arith, f.light))
