-- Laws of the tally: one record more, what it means that there is still no fault, and what is asked of a log at its end. Assumes nothing.
use Rattle.std.specs.Prelude.{◌≡◌, refl, Bool, true, false, cond, not, List, [], ◌∷◌, ◌++◌, ℕ, ◌+◌, ◌≤◌, T, eqb, Option, None}
use Rattle.std.proofs.Common.{sym, subst, ◌∙◌, arith}
use Rattle.hill.specs.Verdict.{pass, refuse, low, ask, joint, ends}
use Rattle.hill.proofs.VerdictLaws.{low-pass, low-fst, low-snd, joint-pass, count-few}
use Rattle.hill.specs.Log.{Record, start_level, end_level, end_of, opens, opened_of, joints, log_fault}
use Rattle.hill.proofs.Growth.{grown}
use Rattle.modes.specs.FourModes.{Amounts, net}
use Rattle.whole_log.specs.declared.Tally.{Tally}
use Rattle.gate.specs.declared.Refusal.{Refusal}
use Rattle.fault.specs.Fault.{verdict_of}
use Rattle.fault.specs.Laws.{clear-is, is-clear, ground-pass}
use Rattle.whole_log.specs.Tallies.{Tells, Tallied, log_verdict}

-- ---- one record more

pub not-begun : (b : Bool) → not b ≡ true → b ≡ false
not-begun true e = sym e
not-begun false e = refl

pub begun : (b : Bool) → not b ≡ false → b ≡ true
begun true e = refl
begun false e = sym e

pub not-both : {b : Bool} → b ≡ true → b ≡ false → ⊥
not-both e f = subst T (sym e ∙ f) tt

module _ (y : Record Amounts) {from to o : ℕ} (es : start_level y ≡ from) (ee : end_level y ≡ to) (eo : opens y ≡ o) (t : Tally) where
  pub joined : (xs : List (Record Amounts)) (f : Option Refusal) → not t.begun ≡ false → verdict_of f ≡ low (verdict_of t.fault) (joint t.level from) → Tallied xs t
      → Tallied (xs ++ (y ∷ [])) (record t { level = to; fault = f; opened = t.opened + o })
  joined [] f b e s = absurd (not-both (begun t.begun b) s.begun)
  joined (x ∷ xs) f b e s =
      let g = grown net x xs y in
      record {
        begun = s.begun;
        start = s.start;
        level = sym ee ∙ sym g.end;
        fault = e ∙ rw (s.fault, s.level, ← es) (sym g.joint);
        opened = omega (arith, g.opened, s.opened, eo);
      }

  pub further : (xs : List (Record Amounts)) (f j : Option Refusal) → not t.begun ≡ false → verdict_of f ≡ low (verdict_of t.fault) (verdict_of j) → verdict_of j ≡ joint t.level from → Tallied xs t
      → Tallied (xs ++ (y ∷ [])) (record t { level = to; fault = f; opened = t.opened + o })
  further xs f j b ef ej s = joined xs f b (rw ej at ef) s

pub level-is : (y : Record Amounts) (u : Tally) (xs : List (Record Amounts)) → Tallied (xs ++ (y ∷ [])) u → u.level ≡ end_level y
level-is y u [] s = s.level
level-is y u (x ∷ xs) s = s.level ∙ (grown net x xs y).end

pub opened-is : (xs : List (Record Amounts)) (t : Tally) → Tallied xs t → t.opened ≡ opened_of xs
opened-is [] t s = s.opened
opened-is (x ∷ xs) t s = s.opened

-- ---- where there is still no fault after one record more, there was none before it, and the two met

module _ (y : Record Amounts) (u : Tally) (e : u.fault ≡ None) where
  no-joint : (x : Record Amounts) (xs : List (Record Amounts)) → Tells x (xs ++ (y ∷ [])) u → low (joints x xs) (joint (end_of x xs) (start_level y)) ≡ pass
  no-joint x xs s = sym (grown net x xs y).joint ∙ clear-is s.fault e

  pub met : (x : Record Amounts) (xs : List (Record Amounts)) → Tells x (xs ++ (y ∷ [])) u → end_of x xs ≡ start_level y
  met x xs s = joint-pass (end_of x xs) (start_level y) (low-snd (joints x xs) (joint (end_of x xs) (start_level y)) (no-joint x xs s))

  pub faultless : (xs : List (Record Amounts)) (t : Tally) → Tallied xs t → Tallied (xs ++ (y ∷ [])) u → t.fault ≡ None
  faultless [] t s v = s.fault
  faultless (x ∷ xs) t s v = is-clear t.fault (s.fault ∙ low-fst (joints x xs) (joint (end_of x xs) (start_level y)) (no-joint x xs v))

pub joints-pass : (x : Record Amounts) (xs : List (Record Amounts)) (t : Tally) → Tells x xs t → t.fault ≡ None → joints x xs ≡ pass
joints-pass x xs t s e = clear-is s.fault e

-- ---- a log: its first record starts at level 0

pub so_far : (t : Tally) {r : Option Refusal} → verdict_of r ≡ low (verdict_of t.fault) (ask 11 (eqb t.start 0)) → r ≡ None → (t.fault ≡ None) × (t.start ≡ 0)
so_far t e h =
    let p = clear-is e h in
    (is-clear t.fault (low-fst (verdict_of t.fault) (ask 11 (eqb t.start 0)) p), ground-pass t.start (low-snd (verdict_of t.fault) (ask 11 (eqb t.start 0)) p))

module _ (y : Record Amounts) (u : Tally) (e : u.fault ≡ None) (z : u.start ≡ 0) where
  pub grounded : (xs : List (Record Amounts)) (t : Tally) → Tallied xs t → Tallied (xs ++ (y ∷ [])) u → t.start ≡ 0
  grounded [] t s v = s.start
  grounded (x ∷ xs) t s v = s.start ∙ sym v.start ∙ z

  pub meets : (xs : List (Record Amounts)) (t : Tally) → Tallied xs t → Tallied (xs ++ (y ∷ [])) u → t.level ≡ start_level y
  meets [] t s v = s.level ∙ sym z ∙ v.start
  meets (x ∷ xs) t s v = s.level ∙ met y u e x xs v

-- ---- all records of a log

-- what is asked at the end is what is asked of the log: question 9 cannot get a "no" where there are too few records
pub log-verdict : (xs : List (Record Amounts)) (t : Tally) → Tallied xs t → opened_of xs ≤ 100_000 → log_verdict t ≡ log_fault xs
log-verdict [] t s few = rw s.begun
log-verdict (x ∷ xs) t s few = rw (s.begun, s.fault, s.start, s.level, count-few (opened_of (x ∷ xs)) few, low-pass (joints x xs))

-- where all is passed there is no fault, and the log goes from level 0 to level 0
pub record Through (t : Tally) : Type 0 where
  pub fault : t.fault ≡ None
  pub start : t.start ≡ 0
  pub level : t.level ≡ 0

pub through : (t : Tally) → log_verdict t ≡ pass → Through t
unfolding ends
through t e = go t.begun e
  where
    go : (b : Bool) → cond b (low (verdict_of t.fault) (ends t.start t.level)) (refuse 10) ≡ pass → Through t
    go true e =
        let p = low-snd (verdict_of t.fault) (ends t.start t.level) e in
        record {
          fault = is-clear t.fault (low-fst (verdict_of t.fault) (ends t.start t.level) e);
          start = ground-pass t.start (low-fst (ask 11 (eqb t.start 0)) (ask 11 (eqb t.level 0)) p);
          level = ground-pass t.level (low-snd (ask 11 (eqb t.start 0)) (ask 11 (eqb t.level 0)) p);
        }
    go false e = let z : ◌≡◌ {A = ℕ} 0 1 = cc in absurd (omega arith)
