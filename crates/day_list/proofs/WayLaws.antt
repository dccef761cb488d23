-- The list of small days by their records: just those that are wanted, in order. Assumes nothing.
use Rattle.std.specs.Prelude.{◌≡◌, refl, ◌⊎◌, ℕ, zero, suc, ◌+◌, ◌≤◌, ◌<◌}
use Rattle.std.proofs.Common.{sym, ap, subst, ◌∙◌, inl, inr, arith}
use mathlib.Core.List.Memᴰ
use mathlib.Core.List.{List, [], ◌∷◌, ◌++◌, map, Memᴰ}
use Rattle.record.specs.Record.{close_fields}
use Rattle.record.specs.declared.Fields.{Fields}
use Rattle.hill.specs.Verdict.{pass}
use Rattle.hill.proofs.VerdictLaws.{refuse-pass}
use Rattle.hill.specs.Log.{opened_of, log_fault}
use Rattle.hill.proofs.Spell.{end_from}
use Rattle.hill.specs.Sorted.{Sorted}
use Rattle.hill.proofs.SortedLaws.{sorted-append, sorted-map}
use Rattle.hill.proofs.Levels.{MeetsAbove, FromRoot, well-levels, levels-well}
use Rattle.chunk.specs.Chunk.{record_of, chunk_of}
use Rattle.day_list.specs.Days.{open_one, ways, days}
use Rattle.day_list.specs.Claims.{Lexicographic}
use Rattle.day_list.specs.WayLaws.{opening_ways}

-- A record of a small day: a short open of value 1, or a close.
pub data Plain : Fields → Type 0 where
  opens : (d : ℕ) → Plain (open_one d)
  closes : (d : ℕ) → Plain (close_fields d)

abbrev pub AllPlain : List Fields → Type 0
AllPlain [] = Unit {0}
AllPlain (f ∷ fs) = Plain f × AllPlain fs

-- ---- how a log can go on: from a level to level 0, and with so many records to open

pub record IsWay (left level : ℕ) (fs : List Fields) : Type 0 where
  pub above : MeetsAbove level (chunk_of fs)
  pub ends : end_from level (chunk_of fs) ≡ 0
  pub opened : opened_of (chunk_of fs) ≡ left
  pub plain : AllPlain fs

abbrev pub closing_ways : (left level : ℕ) → List (List Fields)
closing_ways left level = map (λ fs. close_fields level ∷ fs) (ways left level)

pub ways-over : ways zero zero ≡ [] ∷ []
unfolding ways
ways-over = refl

pub ways-none : (left : ℕ) → ways (suc left) zero ≡ []
unfolding ways
ways-none left = refl

pub ways_on : (left level : ℕ) → ways left (suc level) ≡ opening_ways left (suc level) ++ closing_ways left level
unfolding ways
ways_on zero level = refl
ways_on (suc left) level = refl

pub days-are : (n : ℕ) → days n ≡ opening_ways n 0
unfolding days
days-are zero = refl
days-are (suc n) = refl

-- ---- what is in the list is wanted

way-opens : (n l : ℕ) (fs : List Fields) → 0 < l → IsWay n (suc l) fs → IsWay (suc n) l (open_one l ∷ fs)
way-opens n l fs h r = record { above = (refl, h, r.above); ends = r.ends; opened = omega (arith, r.opened); plain = (opens l, r.plain) }

way-closes : (n l : ℕ) (fs : List Fields) → IsWay n l fs → IsWay n (suc l) (close_fields l ∷ fs)
way-closes n l fs r = record { above = (refl, omega arith, r.above); ends = r.ends; opened = omega (arith, r.opened); plain = (closes l, r.plain) }

closing-sound : (n l : ℕ) (fs : List Fields) → ((gs : List Fields) → Memᴰ gs (ways n l) → IsWay n l gs) → Memᴰ fs (closing_ways n l) → IsWay n (suc l) fs
closing-sound n l fs ih m = let (gs, k, e) = Memᴰ.of_map (λ gs. close_fields l ∷ gs) (ways n l) m in subst (IsWay n (suc l)) e (way-closes n l gs (ih gs k))

opening-sound : (n l : ℕ) (fs : List Fields) → ((gs : List Fields) → Memᴰ gs (ways n (suc (suc l))) → IsWay n (suc (suc l)) gs) → Memᴰ fs (opening_ways (suc n) (suc l)) → IsWay (suc n) (suc l) fs
opening-sound n l fs ih m = let (gs, k, e) = Memᴰ.of_map (λ gs. open_one (suc l) ∷ gs) (ways n (suc (suc l))) m in subst (IsWay (suc n) (suc l)) e (way-opens n (suc l) gs (omega arith) (ih gs k))

pub way-sound : (n l : ℕ) (fs : List Fields) → Memᴰ fs (ways n l) → IsWay n l fs
way-sound zero zero fs m = only (Memᴰ.cases_cons (subst (Memᴰ fs) ways-over m))
  where
    only : (fs ≡ []) ⊎ Memᴰ fs [] → IsWay 0 0 fs
    only (inl e) = rw e record { above = tt; ends = refl; opened = refl; plain = tt }
    only (inr q) = absurd (Memᴰ.not-nil q)
way-sound (suc n) zero fs m = absurd (Memᴰ.not-nil (subst (Memᴰ fs) (ways-none n) m))
way-sound zero (suc l) fs m = closing-sound zero l fs (way-sound zero l) (subst (Memᴰ fs) (ways_on zero l) m)
way-sound (suc n) (suc l) fs m = go (Memᴰ.append_cases (opening_ways (suc n) (suc l)) (subst (Memᴰ fs) (ways_on (suc n) l) m)) (way-sound n (suc (suc l))) (way-sound (suc n) l)
  where
    go : Memᴰ fs (opening_ways (suc n) (suc l)) ⊎ Memᴰ fs (closing_ways (suc n) l) →
        ((gs : List Fields) → Memᴰ gs (ways n (suc (suc l))) → IsWay n (suc (suc l)) gs) → ((gs : List Fields) → Memᴰ gs (ways (suc n) l) → IsWay (suc n) l gs) → IsWay (suc n) (suc l) fs
    go (inl q) f g = opening-sound n l fs f q
    go (inr q) f g = closing-sound (suc n) l fs g q

-- ---- and none is missing

opening-there : (n l : ℕ) (fs : List Fields) → Memᴰ fs (ways n (suc (suc l))) → Memᴰ (open_one (suc l) ∷ fs) (ways (suc n) (suc l))
opening-there n l fs m = subst (Memᴰ (open_one (suc l) ∷ fs)) (sym (ways_on (suc n) l)) (Memᴰ.append_left (closing_ways (suc n) l) (Memᴰ.map (λ gs. open_one (suc l) ∷ gs) m))

closing-there : (n l : ℕ) (fs : List Fields) → Memᴰ fs (ways n l) → Memᴰ (close_fields l ∷ fs) (ways n (suc l))
closing-there n l fs m = subst (Memᴰ (close_fields l ∷ fs)) (sym (ways_on n l)) (Memᴰ.append_right (opening_ways n (suc l)) (Memᴰ.map (λ gs. close_fields l ∷ gs) m))

way-complete : (fs : List Fields) (n l : ℕ) → MeetsAbove l (chunk_of fs) → end_from l (chunk_of fs) ≡ 0 → opened_of (chunk_of fs) ≡ n → AllPlain fs → Memᴰ fs (ways n l)
way-complete [] n l s e o p =
    let z : n ≡ 0 = omega arith in
    rw (z, e) (subst (Memᴰ []) (sym ways-over) (Memᴰ.head refl))
way-complete (f ∷ fs) n l s e o (opens d, p) = up n l s o (way-complete fs)
  where
    up : (n l : ℕ) → (l ≡ d) × (0 < l) × MeetsAbove (suc d) (chunk_of fs) → 1 + opened_of (chunk_of fs) ≡ n →
        ((m k : ℕ) → MeetsAbove k (chunk_of fs) → end_from k (chunk_of fs) ≡ 0 → opened_of (chunk_of fs) ≡ m → AllPlain fs → Memᴰ fs (ways m k)) → Memᴰ (open_one d ∷ fs) (ways n l)
    up zero l s o ih = absurd (omega arith)
    up (suc n) zero s o ih = absurd (omega (arith, s.1))
    up (suc n) (suc l) s o ih = subst (λ k. Memᴰ (open_one k ∷ fs) (ways (suc n) (suc l))) s.0 (opening-there n l fs (ih n (suc (suc l)) (subst (λ k. MeetsAbove (suc k) (chunk_of fs)) (sym s.0) s.2) (ap (λ k. end_from (suc k) (chunk_of fs)) s.0 ∙ e) (omega arith) p))
way-complete (f ∷ fs) n l s e o (closes d, p) = rw s.0 (closing-there n d fs (way-complete fs n d s.2 e (omega arith) p))

-- ---- in order

way-order : (n l : ℕ) → Sorted Lexicographic (ways n l)
way-order zero zero = subst (Sorted Lexicographic) (sym ways-over) ((λ gs m. absurd (Memᴰ.not-nil m)), tt)
way-order (suc n) zero = subst (Sorted Lexicographic) (sym (ways-none n)) tt
way-order zero (suc l) = subst (Sorted Lexicographic) (sym (ways_on zero l)) (sorted-map Lexicographic (λ fs. close_fields l ∷ fs) Lexicographic (ways zero l) (λ _ _ _ _ b. inr (refl, b)) (way-order zero l))
way-order (suc n) (suc l) =
    subst (Sorted Lexicographic) (sym (ways_on (suc n) l))
    (sorted-append Lexicographic (opening_ways (suc n) (suc l)) (closing_ways (suc n) l)
    (sorted-map Lexicographic (λ fs. open_one (suc l) ∷ fs) Lexicographic (ways n (suc (suc l))) (λ _ _ _ _ b. inr (refl, b)) (way-order n (suc (suc l))))
    (sorted-map Lexicographic (λ fs. close_fields l ∷ fs) Lexicographic (ways (suc n) l) (λ _ _ _ _ b. inr (refl, b)) (way-order (suc n) l))
    first)
  where
    first : (xs ys : List Fields) → Memᴰ xs (opening_ways (suc n) (suc l)) → Memᴰ ys (closing_ways (suc n) l) → Lexicographic xs ys
    first xs ys p q =
        let (us, i, e) = Memᴰ.of_map (λ fs. open_one (suc l) ∷ fs) (ways n (suc (suc l))) p in
        let (vs, j, f) = Memᴰ.of_map (λ fs. close_fields l ∷ fs) (ways (suc n) l) q in
        subst (λ (zs : List Fields). Lexicographic zs ys) e (subst (Lexicographic (open_one (suc l) ∷ us)) f (inl (refl, refl)))

-- ---- whole logs

-- A log that is wanted, by its records.
pub record IsDay (n : ℕ) (fs : List Fields) : Type 0 where
  pub fine : log_fault (chunk_of fs) ≡ pass
  pub opened : opened_of (chunk_of fs) ≡ n
  pub plain : AllPlain fs

pub day-sound : (n : ℕ) → n ≤ 100_000 → (fs : List Fields) → Memᴰ fs (days n) → IsDay n fs
day-sound zero few fs m = absurd (Memᴰ.not-nil (subst (Memᴰ fs) (days-are zero) m))
day-sound (suc n) few fs m =
    let (gs, k, e) = Memᴰ.of_map (λ gs. open_one 0 ∷ gs) (ways n 1) (subst (Memᴰ fs) (days-are (suc n)) m) in
    let r = way-sound n 1 gs k in
    subst (IsDay (suc n)) e record {
      fine = levels-well (record_of (open_one 0)) (chunk_of gs) (record { start = refl; above = r.above; end = r.ends }) (omega (arith, r.opened));
      opened = omega (arith, r.opened);
      plain = (opens 0, r.plain);
    }

-- The first record of a log opens at depth 0, and the others go on from there.
pub record RootFirst (n : ℕ) (f : Fields) (fs : List Fields) : Type 0 where
  pub root : f ≡ open_one 0
  pub levels : FromRoot (record_of (open_one 0)) (chunk_of fs)
  pub others : suc (opened_of (chunk_of fs)) ≡ n

plain-first : (n : ℕ) (f : Fields) (fs : List Fields) → Plain f → log_fault (chunk_of (f ∷ fs)) ≡ pass → opened_of (chunk_of (f ∷ fs)) ≡ n → RootFirst n f fs
plain-first n f fs (opens d) v o =
    let w = well-levels (record_of (open_one d)) (chunk_of fs) v in
    let z : d ≡ 0 = w.start in
    record { root = ap open_one z; levels = subst (λ k. FromRoot (record_of (open_one k)) (chunk_of fs)) z w; others = omega arith }
plain-first n f fs (closes d) v o = absurd (omega (arith, (well-levels (record_of (close_fields d)) (chunk_of fs) v).start))

pub root-first : (n : ℕ) (f : Fields) (fs : List Fields) → IsDay n (f ∷ fs) → RootFirst n f fs
root-first n f fs h = plain-first n f fs h.plain.0 h.fine h.opened

pub day-complete : (n : ℕ) (fs : List Fields) → IsDay n fs → Memᴰ fs (days n)
day-complete n [] h = absurd (refuse-pass h.fine)
day-complete n (f ∷ fs) h = go n (root-first n f fs h)
  where
    go : (m : ℕ) → RootFirst m f fs → Memᴰ (f ∷ fs) (days m)
    go zero r = absurd (omega (arith, r.others))
    go (suc m) r =
        subst (λ g. Memᴰ (g ∷ fs) (days (suc m))) (sym r.root)
        (subst (Memᴰ (open_one 0 ∷ fs)) (sym (days-are (suc m)))
        (Memᴰ.map (λ gs. open_one 0 ∷ gs) (way-complete fs m 1 r.levels.above r.levels.end (omega (arith, r.others)) h.plain.1)))

pub day-order : (n : ℕ) → Sorted Lexicographic (days n)
day-order zero = subst (Sorted Lexicographic) (sym (days-are zero)) tt
day-order (suc n) = subst (Sorted Lexicographic) (sym (days-are (suc n))) (sorted-map Lexicographic (λ fs. open_one 0 ∷ fs) Lexicographic (ways n 1) (λ _ _ _ _ b. inr (refl, b)) (way-order n 1))
