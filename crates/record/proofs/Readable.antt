-- The records of a readable chunk, the first and then the rest: what a pass keeps that reads a chunk again. Assumes nothing.
use Rattle.std.specs.Prelude.{◌≡◌, refl, List, [], ◌∷◌, ℕ, ◌<◌, length, drop}
use Rattle.std.proofs.Common.{ap, subst, ◌∙◌, arith}
use Rattle.gate.specs.Outcome.{Outcome, refused, granted}
use Rattle.record.specs.Record.{read_of, records_of}
use Rattle.record.proofs.Laws.{records-nil, records-bad, records-next}
use Rattle.record.specs.declared.Fields.{Fields}

-- The first record, and the rest.
pub record First (s : List ℕ) (f : Fields) (fs : List Fields) : Type 0 where
  pub here : read_of s ≡ granted f
  pub rest : records_of (drop f.length s) ≡ granted fs

pub first_read : (s : List ℕ) (f : Fields) (fs : List Fields) → records_of s ≡ granted (f ∷ fs) → First s f fs
first_read [] f fs e = let z : ◌≡◌ {A = ℕ} 0 1 = cc records-nil in absurd (omega arith)
first_read (x ∷ s) f fs e = go (read_of (x ∷ s)) refl
  where
    go : (r : Outcome Fields) → read_of (x ∷ s) ≡ r → First (x ∷ s) f fs
    go (refused k) p = let z : ◌≡◌ {A = ℕ} 0 1 = cc (records-bad (x ∷ s) k (omega arith) p) in absurd (omega arith)
    go (granted g) p = more (records_of (drop g.length (x ∷ s))) refl
      where
        more : (o : Outcome (List Fields)) → records_of (drop g.length (x ∷ s)) ≡ o → First (x ∷ s) f fs
        more (refused n) q = let z : ◌≡◌ {A = ℕ} 0 1 = cc (records-next (x ∷ s) g p) in absurd (omega arith)
        more (granted gs) q =
            let k : g ≡ f = cc (records-next (x ∷ s) g p) in
            let l : gs ≡ fs = cc (records-next (x ∷ s) g p) in
            record { here = p ∙ ap granted k; rest = subst (λ (y : Fields). records_of (drop y.length (x ∷ s)) ≡ granted fs) k (q ∙ ap granted l) }

pub none_read : (s : List ℕ) → records_of s ≡ granted [] → length s ≡ 0
none_read [] e = refl
none_read (x ∷ s) e = go (read_of (x ∷ s)) refl
  where
    go : (r : Outcome Fields) → read_of (x ∷ s) ≡ r → length (x ∷ s) ≡ 0
    go (refused k) p = let z : ◌≡◌ {A = ℕ} 0 1 = cc (records-bad (x ∷ s) k (omega arith) p) in absurd (omega arith)
    go (granted g) p = more (records_of (drop g.length (x ∷ s))) refl
      where
        more : (o : Outcome (List Fields)) → records_of (drop g.length (x ∷ s)) ≡ o → length (x ∷ s) ≡ 0
        more (refused n) q = let z : ◌≡◌ {A = ℕ} 0 1 = cc (records-next (x ∷ s) g p) in absurd (omega arith)
        more (granted gs) q = let z : ◌≡◌ {A = ℕ} 0 1 = cc (records-next (x ∷ s) g p) in absurd (omega arith)

-- ---- what is so of each record that is read is so of all records of a chunk

abbrev pub Each : (Fields → Type 0) → List Fields → Type 0
Each P [] = Unit {0}
Each P (f ∷ fs) = P f × Each P fs

pub each_read : (P : Fields → Type 0) → ((s : List ℕ) (f : Fields) → read_of s ≡ granted f → P f) → (fs : List Fields) (b : List ℕ) → records_of b ≡ granted fs → Each P fs
each_read P h [] b e = tt
each_read P h (f ∷ fs) b e =
    let w : First b f fs = first_read b f fs e in
    (h b f w.here, each_read P h fs (drop f.length b) w.rest)

-- ---- one turn of a pass over a chunk that is known to be readable

module _ (s : List ℕ) {fs : List Fields} (e : records_of s ≡ granted fs) where
  -- the reader does not refuse, ..
  pub not-refused : {n : ℕ} → 0 < length s → read_of s ≡ refused n → ⊥
  not-refused {n} h p = let z : ◌≡◌ {A = ℕ} 0 1 = cc (records-bad s n h p) in omega arith

  -- .. it reads the first record, ..
  pub read_is : {f : Fields} → read_of s ≡ granted f → (gs : List Fields) × (fs ≡ f ∷ gs) × (records_of (drop f.length s) ≡ granted gs)
  read_is {f} p = go (records_of (drop f.length s)) refl
    where
      go : (o : Outcome (List Fields)) → records_of (drop f.length s) ≡ o → (gs : List Fields) × (fs ≡ f ∷ gs) × (records_of (drop f.length s) ≡ granted gs)
      go (refused n) q = let z : ◌≡◌ {A = ℕ} 0 1 = cc (records-next s f p) in absurd (omega arith)
      go (granted gs) q = (gs, cc (records-next s f p), q)

  -- .. and at the end there is none.
  pub no_more : s ≡ [] → fs ≡ []
  no_more p = cc records-nil
