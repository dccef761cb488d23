-- What a station keeps that its calls alone change: eight summaries in one mode, and an excess within 20,000. Assumes nothing.
use Rattle.std.specs.Prelude.{◌≡◌, refl, ◌≢◌, Bool, true, false, cond, List, [], ◌∷◌, ℕ, zero, suc, ◌+◌, ◌≤◌, ◌<◌, leb, eqb, length, set}
use Rattle.std.proofs.Common.{sym, ap, subst, ◌∙◌, arith, length-set, get_or-set_same, get_or-set_other, leb-true, le-leb, eqb-true}
use Rattle.std.proofs.Math.Logic.{dite}
use Rattle.std.proofs.Math.Decide.{ℕ_discrete}
use Rattle.std.proofs.lemmas.List.{get_or-replicate}
use Rattle.std.proofs.lemmas.Bool.{lt-leb}
use Rattle.gate.specs.Outcome.{Outcome, granted, question, written}
use Rattle.gate.proofs.Laws.{yes, result-same}
use Rattle.number.specs.Bytes.{bytes_of, le_at}
use Rattle.modes.specs.FourModes.{Amounts}
use Rattle.figure.specs.Mode.{mode_in_use}
use Rattle.hill.specs.Summary.{Summary, blank, part, opened}
use Rattle.summary.specs.Judge.{kind_at, mode_at, fault_at, opened_at, IsSummary, is_blank, is_spoilt, is_hill}
use Rattle.summary.specs.Layout.{encode}
use Rattle.summary.specs.Decode.{decode}
use Rattle.summary.specs.Decide.{is_summary}
use Rattle.summary.proofs.DecideLaws.{decide-summary}
use Rattle.summary.specs.Accepted.{IsSummaryIn}
use Rattle.summary.proofs.MergeBytes.{merge-accepted, blank-accepted}
use Rattle.summary.specs.Outcomes.{blank_bytes, merge_bytes}
use Rattle.valley_station.specs.Station.{Station, held, fresh_station, opened_in, drawn, excess_of, send_outcome, end_outcome}

-- ---- opened records

-- The opened records of a summary; a blank has none.
abbrev pub opened_by : {Fig : Type 0} → Summary Fig Amounts → ℕ
opened_by blank = 0
opened_by (part p) = opened p

pub opened-said : (m : ℕ) (b : List ℕ) → IsSummaryIn m b → opened_in b ≡ opened_by (decode m b)
unfolding opened_in decode
opened-said m b i = go i.is
  where
    go : IsSummary b → opened_in b ≡ opened_by (decode m b)
    go (is_blank f) = rw (lt-leb 16 (length b) (omega (arith, f.length-fits)), f.kind_fits)
    go (is_spoilt v) = rw (le-leb 16 (length b) (omega (arith, v.layout.length-fits)), v.layout.kind_fits)
    go (is_hill v) = rw (le-leb 16 (length b) (omega (arith, v.layout.length-fits)), v.layout.kind_fits)

blank-opened : (m : ℕ) → opened_in (blank_bytes m) ≡ 0
unfolding opened_in blank_bytes encode bytes_of le_at
blank-opened m = refl

pub blank-draws : (m : ℕ) → drawn (blank_bytes m) ≡ 0
blank-draws m = omega (arith, blank-opened m)

-- A spoilt summary with fault 9 says that more than 100,000 were opened.
pub fault-9 : (m : ℕ) (b : List ℕ) → IsSummaryIn m b → kind_at b ≡ 17 → fault_at b ≡ 9 → opened_in b ≡ 100_001
unfolding opened_in
fault-9 m b i k e = go i.is
  where
    go : IsSummary b → cond (leb 16 (length b)) (opened_at b) 0 ≡ 100_001
    go (is_blank f) = absurd (omega (arith, f.kind_fits, k))
    go (is_spoilt v) = ap (λ t. cond t (opened_at b) 0) (le-leb 16 (length b) (omega (arith, v.layout.length-fits))) ∙ v.opened-more e
    go (is_hill v) = absurd (omega (arith, v.layout.kind_fits, k))

-- ---- the excess

-- With one farm's summary changed: what it drew is no longer counted, and what it draws now is.
pub excess-set : (st : Station) (farm : ℕ) (w : List ℕ) → farm < length st → excess_of (set st farm w) + drawn (held st farm) ≡ excess_of st + drawn w
excess-set [] farm w l = absurd (omega arith)
excess-set (b ∷ st) zero w l = omega arith
excess-set (b ∷ st) (suc farm) w l = omega (arith, excess-set st farm w (omega arith))

pub excess-one : (st : Station) (farm : ℕ) → farm < length st → drawn (held st farm) ≤ excess_of st
excess-one [] farm l = absurd (omega arith)
excess-one (b ∷ st) zero l = omega arith
excess-one (b ∷ st) (suc farm) l = omega (arith, excess-one st farm (omega arith))

-- ---- a farm's place

held-other : (st : Station) (f k : ℕ) (w : List ℕ) → k ≢ f → held (set st f w) k ≡ held st k
held-other st f k w n = get_or-set_other st f k w [] n

-- ---- what a run keeps

pub record Sound (m : ℕ) (st : Station) : Type 0 where
  pub eight : length st ≡ 8
  pub summaries : (k : ℕ) → k ≤ 7 → IsSummaryIn m (held st k)
  pub within : excess_of st ≤ 20_000

-- A question whose answer makes what comes after the same.
under : {A : Type 0} (n : ℕ) (t : Bool) {x y : Outcome A} → (t ≡ true → x ≡ y) → question n t x ≡ question n t y
under n true h = h refl
under n false h = refl

pub sent-in : (m : ℕ) (b : List ℕ) → is_summary b ≡ true → eqb m (mode_at b) ≡ true → IsSummaryIn m b
sent-in m b p q = record { is = (decide-summary b).from p; mode-is = sym (eqb-true m (mode_at b) q) }

-- A send that was taken.
pub record WasTaken (m : ℕ) (st : Station) (f : ℕ) (b w : List ℕ) : Type 0 where
  pub farm : f ≤ 7
  pub summary : IsSummaryIn m b
  pub merged : w ≡ merge_bytes m (held st f) b
  pub few : excess_of (set st f w) ≤ 20_000

module _ (m : ℕ) (st : Station) (h : Sound m st) where
  -- A SEND is asked 20, 5 and 6 of what is sent, and 21.
  pub send-asks : (f : ℕ) (b : List ℕ) → send_outcome st f b ≡
      question 20 (leb f 7) (question 5 (is_summary b) (question 6 (eqb m (mode_at b))
      (question 21 (leb (excess_of (set st f (merge_bytes m (held st f) b))) 20_000) (granted (merge_bytes m (held st f) b)))))
  unfolding send_outcome
  send-asks f b = under 20 (leb f 7) (λ l. let i = h.summaries f (leb-true f 7 l) in rw ((decide-summary (held st f)).to i.is, i.mode-is))

  -- AN END OF DAY is asked 20 and 12.
  pub end-asks : (f cap : ℕ) → end_outcome st f cap ≡ question 20 (leb f 7) (written cap (held st f))
  unfolding end_outcome
  end-asks f cap = under 20 (leb f 7) (λ l. rw ((decide-summary (held st f)).to (h.summaries f (leb-true f 7 l)).is))

  module _ (f : ℕ) (b w : List ℕ) (e : send_outcome st f b ≡ granted w) where
    pub send-taken : WasTaken m st f b w
    send-taken =
        let p = yes 20 (leb f 7) _ (sym (send-asks f b) ∙ e) in
        let q = yes 5 (is_summary b) _ p.1 in
        let r = yes 6 (eqb m (mode_at b)) _ q.1 in
        let z = yes 21 (leb (excess_of (set st f (merge_bytes m (held st f) b))) 20_000) _ r.1 in
        let same : w ≡ merge_bytes m (held st f) b = sym (result-same z.1) in
        record { farm = leb-true f 7 p.0; summary = sent-in m b q.0 r.0; merged = same; few = rw same (leb-true _ _ z.0) }

    pub sent-summary : IsSummaryIn m w
    sent-summary = let t = send-taken in subst (IsSummaryIn m) (sym t.merged) (merge-accepted m (held st f) b (h.summaries f t.farm) t.summary)

  -- An end of day that was taken.
  pub end-taken : (f cap : ℕ) (w : List ℕ) → end_outcome st f cap ≡ granted w → (f ≤ 7) × (w ≡ held st f)
  end-taken f cap w e =
      let p = yes 20 (leb f 7) _ (sym (end-asks f cap) ∙ e) in
      let q = yes 12 (leb (length (held st f)) cap) _ p.1 in
      (leb-true f 7 p.0, sym (result-same q.1))

  -- What it is made blank with.
  pub end-mode : (f cap : ℕ) (w : List ℕ) → end_outcome st f cap ≡ granted w → mode_at w ≡ m
  end-mode f cap w e = let t = end-taken f cap w e in ap mode_at t.1 ∙ (h.summaries f t.0).mode-is

  pub sound-set : (f : ℕ) (w : List ℕ) → f ≤ 7 → IsSummaryIn m w → excess_of (set st f w) ≤ 20_000 → Sound m (set st f w)
  sound-set f w b i l = record { eight = length-set st f w ∙ h.eight; summaries = each; within = l }
    where
      each : (k : ℕ) → k ≤ 7 → IsSummaryIn m (held (set st f w) k)
      each k c =
          dite (ℕ_discrete k f)
          (λ e. rw (e, get_or-set_same st f w [] (omega (arith, h.eight))) i)
          (λ n. rw (held-other st f k w n) (h.summaries k c))

  -- with one farm blank, nobody draws more
  pub blank-within : (f : ℕ) → f ≤ 7 → excess_of (set st f (blank_bytes m)) ≤ 20_000
  blank-within f b = omega (arith, excess-set st f (blank_bytes m) (omega (arith, h.eight)), blank-draws m, h.within)

pub sound-fresh : (m : ℕ) → mode_in_use m ≡ true → Sound m (fresh_station m)
unfolding fresh_station
sound-fresh m u = record {
  eight = refl;
  summaries = λ k b. rw (get_or-replicate 8 k (blank_bytes m) [] (omega arith)) (blank-accepted m u);
  within = omega (arith, blank-draws m);
}
