-- Laws of a row's pieces: the first piece and the rest, the pieces joined, and rows made of whole pieces. Assumes nothing.
use Rattle.std.specs.Prelude.{◌≡◌, refl, Bool, true, false, cond, ◌&&◌, List, [], ◌∷◌, ◌++◌, ℕ, zero, suc, ◌+◌, ◌-◌, ◌≤◌, ◌<◌, min, length, take, drop, leb}
use Rattle.std.proofs.Common.{sym, ap, ◌∙◌, subst, le_refl, arith, length-append, length-drop, take-append-drop, take_at, drop_at, drop-drop, length-take-le, le-leb, leb-true}
use Rattle.std.proofs.lemmas.Bool.{lt-leb}
use Rattle.number.specs.Bytes.{le_at}
use Rattle.number.specs.Laws.{le_at-append, part-rest}
use Rattle.row.specs.Row.{first_length, pieces_in, row_pieces, end_to_end}

-- The three ways to the length of a first piece.
pub first_field : (s : List ℕ) → 2 ≤ length s → 6 ≤ le_at 2 s 0 → le_at 2 s 0 ≤ length s → first_length s ≡ le_at 2 s 0
unfolding first_length
first_field s a b c = rw (le-leb 2 (length s) a, le-leb 6 (le_at 2 s 0) b, le-leb (le_at 2 s 0) (length s) c)

pub first_one : (s : List ℕ) → length s < 2 → first_length s ≡ length s
unfolding first_length
first_one s a = rw (lt-leb 2 (length s) a)

pub first-low : (s : List ℕ) → 2 ≤ length s → le_at 2 s 0 < 6 → first_length s ≡ length s
unfolding first_length
first-low s a b = rw (le-leb 2 (length s) a, lt-leb 6 (le_at 2 s 0) b)

pub first_past : (s : List ℕ) → 2 ≤ length s → 6 ≤ le_at 2 s 0 → length s < le_at 2 s 0 → first_length s ≡ length s
unfolding first_length
first_past s a b c = rw (le-leb 2 (length s) a, le-leb 6 (le_at 2 s 0) b, lt-leb (le_at 2 s 0) (length s) c)

-- The first piece has a byte where the row has one, and lies within the row.
pub record Within (s : List ℕ) (k : ℕ) : Type 0 where
  pub some : 0 < length s → 0 < k
  pub inside : k ≤ length s

pub first-within : (s : List ℕ) → Within s (first_length s)
unfolding first_length
first-within s = go (leb 2 (length s)) (leb 6 (le_at 2 s 0)) (leb (le_at 2 s 0) (length s)) (leb-true 6 (le_at 2 s 0)) (leb-true (le_at 2 s 0) (length s))
  where
    go : (a b c : Bool) → (b ≡ true → 6 ≤ le_at 2 s 0) → (c ≡ true → le_at 2 s 0 ≤ length s) → Within s (cond (a && b && c) (le_at 2 s 0) (length s))
    go true true true p q = let x : 6 ≤ le_at 2 s 0 = p refl in record { some = λ _. omega arith; inside = q refl }
    go true true false p q = record { some = λ h. h; inside = le_refl _ }
    go true false c p q = record { some = λ h. h; inside = le_refl _ }
    go false b c p q = record { some = λ h. h; inside = le_refl _ }

-- ---- enough pieces are allowed

nil-in : (n : ℕ) → pieces_in n [] ≡ []
unfolding pieces_in
nil-in zero = refl
nil-in (suc n) = refl

rest-shorter : (b : ℕ) (s : List ℕ) → length (drop (first_length (b ∷ s)) (b ∷ s)) ≤ length s
rest-shorter b s = let k : 0 < first_length (b ∷ s) = (first-within (b ∷ s)).some (omega arith) in omega (arith, length-drop (first_length (b ∷ s)) (b ∷ s))

Same : ℕ → Type 0
Same n = (m : ℕ) (s : List ℕ) → length s ≤ n → length s ≤ m → pieces_in n s ≡ pieces_in m s

same-suc : (n : ℕ) → Same n → Same (suc n)
unfolding Same pieces_in
same-suc n ih m [] h k = sym (nil-in m)
same-suc n ih zero (b ∷ s) h k = absurd (omega arith)
same-suc n ih (suc m) (b ∷ s) h k =
    let l = rest-shorter b s in
    ap (λ (ps : List (List ℕ)). take (first_length (b ∷ s)) (b ∷ s) ∷ ps) (ih m (drop (first_length (b ∷ s)) (b ∷ s)) (omega arith) (omega arith))

enough : (n : ℕ) → Same n
unfolding Same
enough zero m [] h k = nil-in zero ∙ sym (nil-in m)
enough zero m (b ∷ s) h k = absurd (omega arith)
enough (suc n) m s h k = same-suc n (enough n) m s h k

-- ---- the laws

pub pieces-nil : row_pieces [] ≡ []
unfolding row_pieces pieces_in
pieces-nil = refl

pub pieces-next : (s : List ℕ) → 0 < length s → row_pieces s ≡ take (first_length s) s ∷ row_pieces (drop (first_length s) s)
unfolding row_pieces pieces_in Same
pieces-next [] h = absurd (omega arith)
pieces-next (b ∷ s) h =
    ap (λ (ps : List (List ℕ)). take (first_length (b ∷ s)) (b ∷ s) ∷ ps)
    (enough (length s) (length (drop (first_length (b ∷ s)) (b ∷ s))) (drop (first_length (b ∷ s)) (b ∷ s)) (rest-shorter b s) (le_refl _))

-- The pieces joined are the row.
Joined : ℕ → Type 0
Joined n = (s : List ℕ) → length s ≤ n → end_to_end (row_pieces s) ≡ s

joined-suc : (n : ℕ) → Joined n → Joined (suc n)
unfolding Joined
joined-suc n ih [] h = ap end_to_end pieces-nil
joined-suc n ih (b ∷ s) h =
    let l = rest-shorter b s in
    ap end_to_end (pieces-next (b ∷ s) (omega arith))
    ∙ ap (λ (t : List ℕ). take (first_length (b ∷ s)) (b ∷ s) ++ t) (ih (drop (first_length (b ∷ s)) (b ∷ s)) (omega arith))
    ∙ take-append-drop (first_length (b ∷ s)) (b ∷ s)

joined : (n : ℕ) → Joined n
unfolding Joined
joined zero [] h = ap end_to_end pieces-nil
joined zero (b ∷ s) h = absurd (omega arith)
joined (suc n) s h = joined-suc n (joined n) s h

pub pieces-joined : (s : List ℕ) → end_to_end (row_pieces s) ≡ s
unfolding Joined
pieces-joined s = joined (length s) s (le_refl _)

-- Bytes whose length field is their length, as every summary's is.
pub record OwnLength (p : List ℕ) : Type 0 where
  pub least : 6 ≤ length p
  pub field : le_at 2 p 0 ≡ length p

abbrev pub AllOwn : List (List ℕ) → Type 0
AllOwn [] = Unit {0}
AllOwn (p ∷ ps) = OwnLength p × AllOwn ps

first-own : (p r : List ℕ) → OwnLength p → first_length (p ++ r) ≡ length p
first-own p r o =
    let e : le_at 2 (p ++ r) 0 ≡ length p = le_at-append 2 p r 0 (omega (arith, o.least)) ∙ o.field in
    let l : length (p ++ r) ≡ length p + length r = length-append p r in
    first_field (p ++ r) (omega (arith, o.least)) (omega (arith, o.least)) (omega arith) ∙ e

-- Of such bytes end to end the pieces are those.
pub pieces-own : (ps : List (List ℕ)) → AllOwn ps → row_pieces (end_to_end ps) ≡ ps
pieces-own [] o = pieces-nil
pieces-own (p ∷ ps) o =
    let e : first_length (p ++ end_to_end ps) ≡ length p = first-own p (end_to_end ps) o.0 in
    pieces-next (p ++ end_to_end ps) (omega (arith, o.0.least, length-append p (end_to_end ps)))
    ∙ ap (λ (k : ℕ). take k (p ++ end_to_end ps) ∷ row_pieces (drop k (p ++ end_to_end ps))) e
    ∙ ap (λ (x : List ℕ). x ∷ row_pieces (drop (length p) (p ++ end_to_end ps))) (take_at p (end_to_end ps) (length p) refl)
    ∙ ap (λ (x : List ℕ). p ∷ row_pieces x) (drop_at p (end_to_end ps) (length p) refl)
    ∙ ap (λ (x : List (List ℕ)). p ∷ x) (pieces-own ps o.1)

-- ---- loops over a row: the rest, as the logic gives a part

-- One piece more is passed.
pub count_next : (s : List ℕ) (k n w : ℕ) → k ≡ first_length s → 0 < length s → min 65 (n + length (row_pieces s)) ≡ w →
    min 65 (n + 1 + length (row_pieces (take (length s - k) (drop k s)))) ≡ w
count_next s k n w q h e =
    let p : length (row_pieces s) ≡ suc (length (row_pieces (drop k s))) = subst (λ (i : ℕ). length (row_pieces s) ≡ suc (length (row_pieces (drop i s)))) (sym q) (ap length (pieces-next s h)) in
    rw (part-rest k s) (ap (min 65) (omega arith) ∙ e)

pub count-done : (s : List ℕ) → length s ≤ 0 → length (row_pieces s) ≡ 0
count-done [] h = ap length pieces-nil
count-done (b ∷ s) h = absurd (omega arith)

-- Where the first n pieces of a row end.
unfoldable pub end_of : ℕ → List ℕ → ℕ
end_of n s = length (end_to_end (take n (row_pieces s)))

pub end_none : (s : List ℕ) → end_of 0 s ≡ 0
unfolding end_of
end_none s = refl

none_left : (n : ℕ) → length (end_to_end (take n [])) ≡ 0
none_left zero = refl
none_left (suc n) = refl

-- The first piece, and then those of the rest.
pub end-next : (n : ℕ) (s : List ℕ) → end_of (suc n) s ≡ first_length s + end_of n (drop (first_length s) s)
unfolding end_of first_length row_pieces pieces_in
end-next n [] = rw (none_left n)
end-next n (b ∷ s) =
    ap (λ (ps : List (List ℕ)). length (end_to_end (take (suc n) ps))) (pieces-next (b ∷ s) (omega arith))
    ∙ length-append (take (first_length (b ∷ s)) (b ∷ s)) (end_to_end (take n (row_pieces (drop (first_length (b ∷ s)) (b ∷ s)))))
    ∙ ap (λ (k : ℕ). k + length (end_to_end (take n (row_pieces (drop (first_length (b ∷ s)) (b ∷ s)))))) (length-take-le (first_length (b ∷ s)) (b ∷ s) (first-within (b ∷ s)).inside)

-- One piece more: of m + 1 that are to come, the first is passed.
pub end_step : (s : List ℕ) (at k m w : ℕ) → k ≡ first_length (take (length s - at) (drop at s)) → at + end_of (suc m) (drop at s) ≡ w →
    at + k + end_of m (drop (at + k) s) ≡ w
end_step s at k m w q e =
    let f : first_length (drop at s) ≡ k = ap first_length (sym (part-rest at s)) ∙ sym q in
    let n : end_of (suc m) (drop at s) ≡ k + end_of m (drop k (drop at s)) = subst (λ (i : ℕ). end_of (suc m) (drop at s) ≡ i + end_of m (drop i (drop at s))) f (end-next m (drop at s)) in
    let d : end_of m (drop k (drop at s)) ≡ end_of m (drop (at + k) s) = ap (end_of m) (drop-drop k at s) in
    omega arith

pub first-inside : (s : List ℕ) (at k : ℕ) → k ≡ first_length (take (length s - at) (drop at s)) → at ≤ length s → at + k ≤ length s
first-inside s at k q h =
    let f : first_length (drop at s) ≡ k = ap first_length (sym (part-rest at s)) ∙ sym q in
    let i = (first-within (drop at s)).inside in
    let l = length-drop at s in
    omega arith
