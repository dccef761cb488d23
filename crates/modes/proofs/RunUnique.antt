-- The numbers of each mode's run are the only ones that document 01's sentence "The run of a join .." allows. Assumes nothing.
use Rattle.std.specs.Prelude.{◌≡◌, ℕ, ◌+◌, ◌*◌, ◌%◌, ◌^◌, ◌<◌, List, [], ◌∷◌, ℤ, pos, ◌+ℤ◌, ◌-ℤ◌, neg_ℤ, ◌≤ℤ◌, unsigned_abs, refl}
use Rattle.std.proofs.Common.{sym, ap, ap₂, ◌∙◌, subst, arith}
use Rattle.std.proofs.Math.IntN.{+ℤ_assoc, -ℤ-+ℤ_cancel, +ℤ_idl, +ℤ_idr}
use Rattle.algebra.specs.Run.{Level, through, AllSound, run, run_on}
use Rattle.algebra.proofs.Run.{run_is, run-fine}
use Rattle.number.specs.Integer.{max_z}
use Rattle.number.specs.IntegerLaws.{zed, add-law, neg-law, abs-law, max-law, ≤-antisym}
use Rattle.modes.specs.FourModes.{InRange, net, heaviest, eaten, stamp, lift, Stamp, stamp_of}
use Rattle.modes.proofs.ModeLaws.{stamp-≡}
use Rattle.modes.specs.Run.{IsNetRun, HeaviestNumbers, at_least, along, IsHeaviestRun, EatenNumbers, eaten_along, addend, total, IsEatenRun, Affine, affine, IsStampRun}
use Rattle.modes.specs.Runs.{moved, line_level, line_after, eaten_level, eaten_after}
use Rattle.modes.proofs.Runs.{net_context, heaviest_context, eaten_context, stamp_context, between_ends, between-low, between-high}
use Rattle.modes.specs.declared.Held.{Held}
use Rattle.modes.specs.declared.Held.TheVariants.{Nothing, Figure}
use Rattle.modes.specs.RunUnique.{Pinned, Same, NoOther}

pub figure-same : {y z : ℤ} → Figure y ≡ Figure z → y ≡ z
figure-same e = ap addend e

-- ---- mode 1: x + a for one x determines a

pub net-only : (ls : List (Level net)) (a b : ℤ) → IsNetRun ls a → IsNetRun ls b → a ≡ b
net-only ls a b p q = sym (+ℤ_idl a) ∙ p (pos 0) ∙ sym (q (pos 0)) ∙ +ℤ_idl b

abbrev pub net_pinned : Pinned net_context IsNetRun
net_pinned = record { is = run_is net_context; only = net-only }

-- ---- mode 2: far below, x shows A; far above, it shows B; where there is no A, x shows that too

-- a number as far up as four others reach
far : ℤ → ℤ → ℤ → ℤ → ℕ
far a b c d = unsigned_abs a + unsigned_abs b + (unsigned_abs c + unsigned_abs d)

no-floor : (c B B' : ℤ) → Same Nothing (Figure c) B B' → ⊥
unfolding at_least
no-floor c B B' e =
    let x : ℤ = (c -ℤ pos 1) -ℤ B in
    let p : c -ℤ pos 1 ≡ max_z c (x +ℤ B') = sym (-ℤ-+ℤ_cancel (c -ℤ pos 1) B) ∙ e x in
    let q : (c -ℤ pos 1) +ℤ pos 1 ≡ c = -ℤ-+ℤ_cancel c (pos 1) in
    omega (zed, max-law c (x +ℤ B'), add-law (c -ℤ pos 1) (pos 1))

both-shown : (a c B B' : ℤ) → Same (Figure a) (Figure c) B B' → (a ≡ c) × (B ≡ B')
unfolding at_least far
both-shown a c B B' e =
    let n : ℕ = far a c B B' in
    let p : max_z a (pos n +ℤ B) ≡ max_z c (pos n +ℤ B') = e (pos n) in
    let q : max_z a (neg_ℤ (pos n) +ℤ B) ≡ max_z c (neg_ℤ (pos n) +ℤ B') = e (neg_ℤ (pos n)) in (
      omega (zed, max-law a (neg_ℤ (pos n) +ℤ B), max-law c (neg_ℤ (pos n) +ℤ B'), add-law (neg_ℤ (pos n)) B, add-law (neg_ℤ (pos n)) B', neg-law (pos n), abs-law a, abs-law c, abs-law B, abs-law B'),
      omega (zed, max-law a (pos n +ℤ B), max-law c (pos n +ℤ B'), add-law (pos n) B, add-law (pos n) B', abs-law a, abs-law c, abs-law B, abs-law B'),
    )

shown : (A A' : Held) (B B' : ℤ) → Same A A' B B' → (A ≡ A') × (B ≡ B')
unfolding at_least
shown Nothing Nothing B B' e = (refl, sym (+ℤ_idl B) ∙ e (pos 0) ∙ +ℤ_idl B')
shown Nothing (Figure c) B B' e = absurd (no-floor c B B' e)
shown (Figure a) Nothing B B' e = absurd (no-floor a B' B (λ x. sym (e x)))
shown (Figure a) (Figure c) B B' e = let r = both-shown a c B B' e in (ap Figure r.0, r.1)

pub line-≡ : (j k : HeaviestNumbers) → ((x : Held) → along j x ≡ along k x) → j ≡ k
unfolding along
line-≡ j k e =
    let r = shown j.other k.other j.add k.add (λ x. e (Figure x)) in
    λ i. record { empty = e Nothing i; other = r.0 i; add = r.1 i }

pub heaviest-only : (ls : List (Level heaviest)) (j k : HeaviestNumbers) → IsHeaviestRun ls j → IsHeaviestRun ls k → j ≡ k
heaviest-only ls j k p q = line-≡ j k (λ x. figure-same (p x ∙ sym (q x)))

abbrev pub heaviest_pinned : Pinned heaviest_context IsHeaviestRun
heaviest_pinned = record { is = run_is heaviest_context; only = heaviest-only }

lift-nothing : (f : ℤ → ℤ → ℤ) (a b : Held) → lift f a b ≡ Nothing → (a ≡ Nothing) × (b ≡ Nothing)
unfolding lift
lift-nothing f Nothing b e = (refl, e)
lift-nothing f (Figure a) Nothing e = (e, refl)
lift-nothing f (Figure a) (Figure b) e = (cc e, cc e)

moved_nothing : (a : Held) (v : ℤ) → moved a v ≡ Nothing → a ≡ Nothing
unfolding moved
moved_nothing Nothing v e = refl
moved_nothing (Figure a) v e = cc e

none-moved : {a b : Held} (v : ℤ) → a ≡ Nothing → b ≡ Nothing → moved (lift max_z a b) v ≡ Nothing
unfolding moved lift
none-moved v p q = ap₂ (λ a b. moved (lift max_z a b) v) p q

after_none : (a b : Held) (v : ℤ) → a ≡ Nothing → b ≡ Nothing → lift max_z a (moved b v) ≡ Nothing
unfolding moved lift
after_none a b v p q = ap₂ (λ a b. lift max_z a (moved b v)) p q

other_none : (k : HeaviestNumbers) (ls : List (Level heaviest)) → k.other ≡ Nothing → NoOther ls → (run_on heaviest_context k ls).other ≡ Nothing
unfolding run_on
other_none k [] e n = e
other_none k (l ∷ ls) e n = other_none (line_after (line_level l) k) ls (after_none _ k.other l.carried.value (none-moved l.carried.value n.0.0 n.0.1) e) n.1

none_other : (k : HeaviestNumbers) (ls : List (Level heaviest)) → (run_on heaviest_context k ls).other ≡ Nothing → (k.other ≡ Nothing) × NoOther ls
unfolding run_on
none_other k [] e = (e, tt)
none_other k (l ∷ ls) e =
    let r = none_other (line_after (line_level l) k) ls e in
    let s = lift-nothing max_z (moved (lift max_z l.before l.after) l.carried.value) (moved k.other l.carried.value) r.0 in
    (moved_nothing k.other l.carried.value s.1, (lift-nothing max_z l.before l.after (moved_nothing (lift max_z l.before l.after) l.carried.value s.0), r.1))

pub other-exactly : (l : Level heaviest) (ls : List (Level heaviest)) → ((run heaviest_context l ls).other ≡ Nothing → NoOther (l ∷ ls)) × (NoOther (l ∷ ls) → (run heaviest_context l ls).other ≡ Nothing)
other-exactly l ls = (
  (λ e.
      let r = none_other (line_level l) ls e in
      (lift-nothing max_z l.before l.after (moved_nothing (lift max_z l.before l.after) l.carried.value r.0), r.1)),
  λ n. other_none (line_level l) ls (none-moved l.carried.value n.0.0 n.0.1) n.1,
)

-- ---- mode 4: 0 gives q, and 1 gives m + q

affine-zero : (k : Affine) → affine k (stamp_of 0) ≡ k.plus
affine-zero k = stamp-≡ (omega (arith, k.plus.small))

cancel : (a b q : ℕ) → a < 2 ^ 32 → b < 2 ^ 32 → q < 2 ^ 32 → (a * 1 + q) % 2 ^ 32 ≡ (b * 1 + q) % 2 ^ 32 → a ≡ b
cancel a b q h k l e = omega arith

affine-one : (j k : Affine) → j.plus ≡ k.plus → affine j (stamp_of 1) ≡ affine k (stamp_of 1) → j.times ≡ k.times
affine-one j k p e =
    stamp-≡ (cancel j.times.num k.times.num k.plus.num j.times.small k.times.small k.plus.small
    (ap (λ (s : Stamp). (j.times.num * 1 + s.num) % 2 ^ 32) (sym p) ∙ ap (λ (s : Stamp). s.num) e))

pub affine-≡ : (j k : Affine) → ((x : Stamp) → affine j x ≡ affine k x) → j ≡ k
affine-≡ j k e =
    let p : j.plus ≡ k.plus = sym (affine-zero j) ∙ e (stamp_of 0) ∙ affine-zero k in
    let t : j.times ≡ k.times = affine-one j k p (e (stamp_of 1)) in
    λ i. record { times = t i; plus = p i }

pub stamp-only : (ls : List (Level stamp)) (j k : Affine) → IsStampRun ls j → IsStampRun ls k → j ≡ k
stamp-only ls j k p q = affine-≡ j k (λ x. p x ∙ sym (q x))

abbrev pub stamp_pinned : Pinned stamp_context IsStampRun
stamp_pinned = record { is = run_is stamp_context; only = stamp-only }

-- ---- mode 5: nothing shows z, the ends are the least and the greatest outcome for numbers, and a is the sum on the way

total-run : (k : EatenNumbers) (ls : List (Level eaten)) → (run_on eaten_context k ls).some.add ≡ k.some.add +ℤ total ls
unfolding run_on total
total-run k [] = sym (+ℤ_idr k.some.add)
total-run k (l ∷ ls) =
    total-run (eaten_after (eaten_level l) k) ls
    ∙ +ℤ_assoc k.some.add (l.carried.value +ℤ (addend l.before +ℤ addend l.after)) (total ls)

pub eaten-is : (l : Level eaten) (ls : List (Level eaten)) → AllSound InRange (l ∷ ls) → IsEatenRun (l ∷ ls) (run eaten_context l ls)
unfolding total eaten_along
eaten-is l ls s =
    let k : EatenNumbers = run eaten_context l ls in
    let e : (x : Held) → Figure (eaten_along k x) ≡ through eaten (l ∷ ls) x = run_is eaten_context l ls s in
    let f : k.some.low ≤ℤ k.some.high = run-fine eaten_context (eaten_level l) ls s.0.ordered s.1 in
    record {
      gives = e;
      adds = total-run (eaten_level l) ls;
      not-below = λ x y h. subst (λ z. k.some.low ≤ℤ z) (figure-same (e (Figure x) ∙ h)) (between_ends k.some f x).0;
      gives-low = (k.some.low -ℤ k.some.add, sym (e (Figure (k.some.low -ℤ k.some.add))) ∙ ap Figure (between-low k.some f));
      not-above = λ x y h. subst (λ z. z ≤ℤ k.some.high) (figure-same (e (Figure x) ∙ h)) (between_ends k.some f x).1;
      gives-high = (k.some.high -ℤ k.some.add, sym (e (Figure (k.some.high -ℤ k.some.add))) ∙ ap Figure (between-high k.some f));
    }

pub eaten-only : (ls : List (Level eaten)) (j k : EatenNumbers) → IsEatenRun ls j → IsEatenRun ls k → j ≡ k
unfolding eaten_along
eaten-only ls j k p q =
    let z : j.empty ≡ k.empty = figure-same (p.gives Nothing ∙ sym (q.gives Nothing)) in
    let a : j.some.add ≡ k.some.add = p.adds ∙ sym q.adds in
    let l : j.some.low ≡ k.some.low = ≤-antisym (p.not-below q.gives-low.0 k.some.low q.gives-low.1) (q.not-below p.gives-low.0 j.some.low p.gives-low.1) in
    let h : j.some.high ≡ k.some.high = ≤-antisym (q.not-above p.gives-high.0 j.some.high p.gives-high.1) (p.not-above q.gives-high.0 k.some.high q.gives-high.1) in
    λ i. record { empty = z i; some = record { add = a i; low = l i; high = h i } }

abbrev pub eaten_pinned : Pinned eaten_context IsEatenRun
eaten_pinned = record { is = eaten-is; only = eaten-only }
