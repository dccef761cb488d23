-- Laws of the lowest fault, and what a passed question says. Assumes nothing.
use Rattle.std.specs.Prelude.{◌≡◌, refl, Bool, true, false, ℕ, suc, ◌+◌, ◌≤◌, ◌<◌, leb, ltb, eqb}
use Rattle.std.proofs.Common.{ap, sym, ◌∙◌, arith, le-leb, leb-true, eqb-true, eq-eqb, lt-ltb, ltb-true}
use Rattle.hill.specs.Verdict.{Verdict, pass, refuse, low, ask, joint, count, cut, ends}

pub low-pass : (v : Verdict) → low v pass ≡ v
low-pass pass = refl
low-pass (refuse m) = refl

pub low-comm : (v w : Verdict) → low v w ≡ low w v
low-comm pass w = sym (low-pass w)
low-comm (refuse m) pass = refl
low-comm (refuse m) (refuse n) = ap refuse (omega arith)

pub low-assoc : (u v w : Verdict) → low (low u v) w ≡ low u (low v w)
low-assoc pass v w = refl
low-assoc (refuse l) pass w = refl
low-assoc (refuse l) (refuse m) pass = refl
low-assoc (refuse l) (refuse m) (refuse n) = ap refuse (omega arith)

pub low-left : (u v w : Verdict) → low u (low v w) ≡ low v (low u w)
low-left u v w = sym (low-assoc u v w) ∙ rw (low-comm u v) (low-assoc v u w)

pub refuse-pass : {n : ℕ} → refuse n ≡ pass → ⊥
refuse-pass e = let z : ◌≡◌ {A = ℕ} 0 1 = cc in omega arith

-- A verdict passes where both parts do.
pub low-fst : (v w : Verdict) → low v w ≡ pass → v ≡ pass
low-fst pass w e = refl
low-fst (refuse m) w e = cc

pub low-snd : (v w : Verdict) → low v w ≡ pass → w ≡ pass
low-snd pass w e = e
low-snd (refuse m) w e = cc

ask-pass : (n : ℕ) (b : Bool) → ask n b ≡ pass → b ≡ true
ask-pass n true e = refl
ask-pass n false e = cc

pub joint-pass : (a b : ℕ) → joint a b ≡ pass → a ≡ b
unfolding joint
joint-pass a b e = eqb-true a b (ask-pass 7 (eqb a b) (low-fst (ask 7 (eqb a b)) (ask 8 (ltb 0 a)) e))

pub joint-high : (a b : ℕ) → joint a b ≡ pass → 0 < a
unfolding joint
joint-high a b e = ltb-true 0 a (ask-pass 8 (ltb 0 a) (low-snd (ask 7 (eqb a b)) (ask 8 (ltb 0 a)) e))

pub count-pass : (n : ℕ) → count n ≡ pass → n ≤ 100000
unfolding count
count-pass n e = leb-true n 100000 (ask-pass 9 (leb n 100000) e)

pub count-few : (n : ℕ) → n ≤ 100000 → count n ≡ pass
unfolding count
count-few n l = rw (le-leb n 100000 l)

pub cut-few : (n : ℕ) → n ≤ 100000 → cut n ≡ n
unfolding cut
cut-few n l = omega arith

pub joint-same : (n : ℕ) → joint (suc n) (suc n) ≡ pass
unfolding joint
joint-same n = rw (eq-eqb (suc n) (suc n) refl, lt-ltb 0 (suc n) (omega arith))

pub ends-pass : (a b : ℕ) → ends a b ≡ pass → (a ≡ 0) × (b ≡ 0)
unfolding ends
ends-pass a b e = (
  eqb-true a 0 (ask-pass 11 (eqb a 0) (low-fst (ask 11 (eqb a 0)) (ask 11 (eqb b 0)) e)),
  eqb-true b 0 (ask-pass 11 (eqb b 0) (low-snd (ask 11 (eqb a 0)) (ask 11 (eqb b 0)) e)),
)

-- Two tests against one bound agree if each bounds the other.
leb-same : (a b k : ℕ) → (a ≤ k → b ≤ k) → (b ≤ k → a ≤ k) → leb a k ≡ leb b k
leb-same a b k f g = go (leb a k) refl (leb b k) refl
  where
    go : (s : Bool) → leb a k ≡ s → (t : Bool) → leb b k ≡ t → leb a k ≡ leb b k
    go true p true q = cc
    go true p false q = cc (le-leb b k (f (leb-true a k p)))
    go false p true q = cc (le-leb a k (g (leb-true b k q)))
    go false p false q = cc

pub count-cut-l : (m n : ℕ) → count (cut m + n) ≡ count (m + n)
unfolding count cut
count-cut-l m n = rw (leb-same (cut m + n) (m + n) 100000 (omega arith) (omega arith))

pub count-cut-r : (m n : ℕ) → count (m + cut n) ≡ count (m + n)
unfolding count cut
count-cut-r m n = rw (leb-same (m + cut n) (m + n) 100000 (omega arith) (omega arith))

-- A count that is too high stays so.
pub count-absorb : (m n : ℕ) → m ≤ n → low (count m) (count n) ≡ count n
unfolding count
count-absorb m n h = go (leb m 100000) refl (leb n 100000) refl
  where
    go : (s : Bool) → leb m 100000 ≡ s → (t : Bool) → leb n 100000 ≡ t → low (count m) (count n) ≡ count n
    go true p t q = rw p
    go false p true q = cc (le-leb m 100000 (omega (arith, leb-true n 100000 q)))
    go false p false q = rw (p, q)
