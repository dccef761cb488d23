-- Every record of a chunk that was read is in range. Assumes nothing.
use Rattle.std.specs.Prelude.{◌≡◌, refl, true, List, [], ◌∷◌, ℕ, zero, suc, ◌≤◌, length, drop}
use Rattle.std.proofs.Common.{subst, le_refl, arith, length-drop}
use Rattle.gate.specs.Outcome.{Outcome, refused, granted}
use Rattle.record.specs.Record.{in_range, read_of, records_of}
use Rattle.record.proofs.Laws.{sound, records-nil, records-bad, records-next}
use Rattle.record.specs.declared.Fields.{Fields}

abbrev pub AllInRange : List Fields → Type 0
AllInRange [] = Unit {0}
AllInRange (f ∷ fs) = (in_range f.depth f.value f.floor f.ceiling ≡ true) × AllInRange fs

AllRead : ℕ → Type 0
AllRead n = (s : List ℕ) (fs : List Fields) → length s ≤ n → records_of s ≡ granted fs → AllInRange fs

read-nil : (fs : List Fields) → records_of [] ≡ granted fs → AllInRange fs
read-nil fs e =
    let q : [] ≡ fs = cc records-nil in
    subst AllInRange q tt

read-suc : (n : ℕ) → AllRead n → AllRead (suc n)
unfolding AllRead
read-suc n ih [] fs h e = read-nil fs e
read-suc n ih (x ∷ s) fs h e = go (read_of (x ∷ s)) refl
  where
    go : (r : Outcome Fields) → read_of (x ∷ s) ≡ r → AllInRange fs
    go (refused k) p = let z : ◌≡◌ {A = ℕ} 0 1 = cc (records-bad (x ∷ s) k (omega arith) p) in absurd (omega arith)
    go (granted f) p = rest (records_of (drop f.length (x ∷ s))) refl
      where
        rest : (o : Outcome (List Fields)) → records_of (drop f.length (x ∷ s)) ≡ o → AllInRange fs
        rest (refused n) q = let z : ◌≡◌ {A = ℕ} 0 1 = cc (records-next (x ∷ s) f p) in absurd (omega arith)
        rest (granted gs) q =
            let w = sound (x ∷ s) f p in
            let k : f ∷ gs ≡ fs = cc (records-next (x ∷ s) f p) in
            subst AllInRange k (w.ranged, ih (drop f.length (x ∷ s)) gs (omega (arith, w.least-6, length-drop f.length (x ∷ s))) q)

read_all : (n : ℕ) → AllRead n
unfolding AllRead
read_all zero [] fs h e = read-nil fs e
read_all zero (x ∷ s) fs h e = absurd (omega arith)
read_all (suc n) s fs h e = read-suc n (read_all n) s fs h e

pub records-in-range : (s : List ℕ) (fs : List Fields) → records_of s ≡ granted fs → AllInRange fs
unfolding AllRead
records-in-range s fs e = read_all (length s) s fs (le_refl _) e
