-- The bytes of a run, store by store, and of runs one after the other. Assumes nothing.
use Rattle.std.specs.Prelude.{◌≡◌, refl, Bool, true, false, cond, List, [], ◌∷◌, ◌++◌, map, ℕ, suc, ◌+◌, ◌*◌, ◌≤◌, ◌<◌, ℤ}
use Rattle.std.proofs.Common.{sym, ap, ap₂, ◌∙◌, append_assoc, append-nil, mul-le-mul, arith, of_z}
use Rattle.std.proofs.lemmas.List.Edits.{sets}
use Rattle.std.specs.Int.{w64}
use Rattle.number.specs.Bytes.{bytes_of, put_at}
use Rattle.number.specs.Laws.{sets-append}
use Rattle.figure.specs.Mode.{mode_of}
use Rattle.modes.specs.declared.Run.{Run}
use Rattle.summary.specs.Layout.{i64_bytes}
use Rattle.outcome.specs.Outcomes.{has_fourth, run_length, run_front, run_bytes, each_run}
use Rattle.outcome.proofs.RunLaws.{length_most, length_front}
use Rattle.row_plan.specs.WroteLaws.{put_next}

-- the six stores of a run
run-stored : (l : List ℕ) (at w m x y z : ℕ) →
    put_at 8 (put_at 8 (put_at 8 (put_at 2 (put_at 2 (put_at 2 l at w) (at + 2) 20) (at + 4) m) (at + 6) x) (at + 14) y) (at + 22) z
    ≡ sets l at (bytes_of 2 w ++ (bytes_of 2 20 ++ (bytes_of 2 m ++ (bytes_of 8 x ++ (bytes_of 8 y ++ bytes_of 8 z)))))
run-stored l at w m x y z =
    rw (
      put_next 2 l at (at + 2) w (bytes_of 2 20 ++ (bytes_of 2 m ++ (bytes_of 8 x ++ (bytes_of 8 y ++ bytes_of 8 z)))) (omega arith),
      put_next 2 (put_at 2 l at w) (at + 2) (at + 4) 20 (bytes_of 2 m ++ (bytes_of 8 x ++ (bytes_of 8 y ++ bytes_of 8 z))) (omega arith),
      put_next 2 (put_at 2 (put_at 2 l at w) (at + 2) 20) (at + 4) (at + 6) m (bytes_of 8 x ++ (bytes_of 8 y ++ bytes_of 8 z)) (omega arith),
      put_next 8 (put_at 2 (put_at 2 (put_at 2 l at w) (at + 2) 20) (at + 4) m) (at + 6) (at + 14) x (bytes_of 8 y ++ bytes_of 8 z) (omega arith),
      put_next 8 (put_at 8 (put_at 2 (put_at 2 (put_at 2 l at w) (at + 2) 20) (at + 4) m) (at + 6) x) (at + 14) (at + 22) y (bytes_of 8 z) (omega arith),
    )

-- the same, store by store: x, y and z are the run's first three numbers
pub front-written : (o a b c d e f : List ℕ) (at w m : ℕ) (k : Run) (x y z : ℤ) → w ≡ run_length m → a ≡ put_at 2 o at w → b ≡ put_at 2 a (at + 2) 20 → c ≡ put_at 2 b (at + 4) m →
    d ≡ put_at 8 c (at + 6) (of_z w64 x) → e ≡ put_at 8 d (at + 14) (of_z w64 y) → f ≡ put_at 8 e (at + 22) (of_z w64 z) → x ≡ k.first → y ≡ k.second → z ≡ k.third → f ≡ sets o at (run_front m k)
front-written o a b c d e f at w m k x y z j p q r s t u g h i = rw (u, t, s, r, q, p, g, h, i, j) (run-stored o at (run_length m) m (of_z w64 k.first) (of_z w64 k.second) (of_z w64 k.third))

-- with a fourth number, or without
pub fourth-written : (o a b : List ℕ) (at m : ℕ) (k : Run) (x : ℤ) → has_fourth m ≡ true → a ≡ sets o at (run_front m k) → b ≡ put_at 8 a (at + 30) (of_z w64 x) → x ≡ k.fourth → b ≡ sets o at (run_bytes m k)
unfolding run_bytes
fourth-written o a b at m k x e p q h =
    q ∙ ap₂ (λ (l : List ℕ) (z : ℤ). put_at 8 l (at + 30) (of_z w64 z)) p h
    ∙ ap (λ (n : ℕ). sets (sets o at (run_front m k)) (at + n) (i64_bytes k.fourth)) (sym (length_front m k))
    ∙ sym (sets-append o at (run_front m k) (i64_bytes k.fourth))
    ∙ ap (λ (t : Bool). sets o at (run_front m k ++ cond t (i64_bytes k.fourth) [])) (sym e)

pub no-fourth : (o a : List ℕ) (at m : ℕ) (k : Run) → has_fourth m ≡ false → a ≡ sets o at (run_front m k) → a ≡ sets o at (run_bytes m k)
unfolding run_bytes
no-fourth o a at m k n p =
    p ∙ ap (sets o at) (sym (append-nil (run_front m k)))
    ∙ ap (λ (t : Bool). sets o at (run_front m k ++ cond t (i64_bytes k.fourth) [])) (sym n)

-- one run more of as many bytes
pub one_more : (s k n : ℕ) → k < n → s * k + s ≤ s * n
one_more s k n h = omega (arith, mul-le-mul {n₁ = s} {m₁ = suc k} {n₂ = s} {m₂ = n} (omega arith) (omega arith))

-- the same where the code has both as numbers
pub room_for : (s k n l m : ℕ) → s ≡ run_length m → k < n → run_length m * n ≤ l → s * k + run_length m ≤ l
room_for s k n l m e h r = rw e (omega (arith, one_more (run_length m) k n h))

pub few_bytes : (s n m : ℕ) → s ≡ run_length m → n ≤ 128 → s * n ≤ 4864
few_bytes s n m e h = rw e (mul-le-mul {n₁ = run_length m} {m₁ = n} {n₂ = 38} {m₂ = 128} (length_most m) h)

pub each_append : (m : ℕ) (a b : List (mode_of m).context.K) → each_run m (a ++ b) ≡ each_run m a ++ each_run m b
each_append m [] b = refl
each_append m (k ∷ a) b = ap (λ (t : List ℕ). run_bytes m ((mode_of m).store_run k) ++ t) (each_append m a b) ∙ sym (append_assoc (run_bytes m ((mode_of m).store_run k)) (each_run m a) (each_run m b))

-- the bytes of runs by their numbers
abbrev numbers_bytes : ℕ → List Run → List ℕ
numbers_bytes m [] = []
numbers_bytes m (r ∷ rs) = run_bytes m r ++ numbers_bytes m rs

each-numbers : (m : ℕ) (ks : List (mode_of m).context.K) → each_run m ks ≡ numbers_bytes m (map (mode_of m).store_run ks)
each-numbers m [] = refl
each-numbers m (k ∷ ks) = ap (λ (t : List ℕ). run_bytes m ((mode_of m).store_run k) ++ t) (each-numbers m ks)

pub each-one : (m : ℕ) (ks : List (mode_of m).context.K) (r : Run) → map (mode_of m).store_run ks ≡ r ∷ [] → each_run m ks ≡ run_bytes m r
each-one m ks r e = each-numbers m ks ∙ ap (numbers_bytes m) e ∙ append-nil (run_bytes m r)
