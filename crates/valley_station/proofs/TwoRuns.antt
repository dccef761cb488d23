-- Two runs in which one farm's calls are the same: what it is told, whatever the others do between. Assumes nothing.
use Rattle.std.specs.Prelude.{◌≡◌, refl, Bool, true, false, cond, ◌&&◌, ◌⊎◌, List, [], ◌∷◌, ℕ, ◌≤◌, leb, eqb, length, set}
use Rattle.std.proofs.Common.{sym, ap, ◌∙◌, inl, inr, arith, length-set, get_or-set_same, get_or-set_other, leb-true, eqb-true}
use Rattle.std.proofs.lemmas.Bool.{eqb-false}
use Rattle.gate.specs.Outcome.{Outcome, refused, granted, question}
use Rattle.figure.specs.Mode.{mode_in_use}
use Rattle.summary.specs.Judge.{mode_at}
use Rattle.summary.specs.Decide.{is_summary}
use Rattle.valley_station.specs.Station.{Station, held, fresh_station, excess_of, merged_right, send_outcome, end_outcome}
use Rattle.valley_station.specs.Runs.{FarmCall, send, end_of_day, farm_of, Told, taken, turned_away, tell, tell_handed, calls_of, told_to}
use Rattle.valley_station.specs.Claims.{PartAt21, SameUntil21}
use Rattle.valley_station.proofs.StationLaws.{sound-fresh}
use Rattle.valley_station.proofs.RunLaws.{station_told, with_new, kept, blanked, station_after, station_history, history-same}

-- ---- lists of what is told

abbrev Alike : List Told → List Told → Type 0
Alike xs ys = (xs ≡ ys) ⊎ (PartAt21 xs ys ⊎ PartAt21 ys xs)

part-cons : (x : Told) (xs ys : List Told) → PartAt21 xs ys → PartAt21 (x ∷ xs) (x ∷ ys)
part-cons x xs ys p = record {
  agreed = x ∷ p.agreed;
  later-x = p.later-x;
  later-y = p.later-y;
  gets-21 = ap (λ (l : List Told). x ∷ l) p.gets-21;
  is-taken = ap (λ (l : List Told). x ∷ l) p.is-taken;
}

alike-cons : (x : Told) (xs ys : List Told) → Alike xs ys → Alike (x ∷ xs) (x ∷ ys)
alike-cons x xs ys (inl e) = inl (ap (λ (l : List Told). x ∷ l) e)
alike-cons x xs ys (inr (inl p)) = inr (inl (part-cons x xs ys p))
alike-cons x xs ys (inr (inr p)) = inr (inr (part-cons x ys xs p))

part-here : (xs ys : List Told) → PartAt21 (turned_away 21 ∷ xs) (taken ∷ ys)
part-here xs ys = record { agreed = []; later-x = xs; later-y = ys; gets-21 = refl; is-taken = refl }

-- ---- one call

-- Two stations that hold the same for a farm.
record Agree (f : ℕ) (st st' : Station) : Type 0 where
  pub eight : length st ≡ 8
  pub eight' : length st' ≡ 8
  pub same : held st f ≡ held st' f

-- What a call of its own does: it is told the same, and they hold the same for it after; or 21 comes in just one of them.
data Step (f : ℕ) (x y : Told) (st st' : Station) : Type 0 where
  both : x ≡ y → Agree f st st' → Step f x y st st'
  first : x ≡ turned_away 21 → y ≡ taken → Step f x y st st'
  second : x ≡ taken → y ≡ turned_away 21 → Step f x y st st'

module _ (f : ℕ) (st st' : Station) (a : Agree f st st') where
  agree-set : (w : List ℕ) → f ≤ 7 → Agree f (set st f w) (set st' f w)
  agree-set w b = record {
    eight = length-set st f w ∙ a.eight;
    eight' = length-set st' f w ∙ a.eight';
    same = get_or-set_same st f w [] (omega (arith, a.eight)) ∙ sym (get_or-set_same st' f w [] (omega (arith, a.eight')));
  }

  -- A send by its questions: 20, 5, 6, and 21 of each station.
  abbrev asked : (t p q v : Bool) → List ℕ → Outcome (List ℕ)
  asked t p q v w = question 20 t (question 5 p (question 6 q (question 21 v (granted w))))

  send-step : (t p q v v' : Bool) (w : List ℕ) → leb f 7 ≡ t → Step f (tell (asked t p q v w)) (tell (asked t p q v' w)) (with_new st f kept (asked t p q v w)) (with_new st' f kept (asked t p q v' w))
  send-step false p q v v' w l = both refl a
  send-step true false q v v' w l = both refl a
  send-step true true false v v' w l = both refl a
  send-step true true true false false w l = both refl a
  send-step true true true true true w l = both refl (agree-set w (leb-true f 7 l))
  send-step true true true false true w l = first refl refl
  send-step true true true true false w l = second refl refl

  abbrev ended : (t p v : Bool) → List ℕ → Outcome (List ℕ)
  ended t p v w = question 20 t (question 5 p (question 12 v (granted w)))

  end_step : (t p v : Bool) (w : List ℕ) → leb f 7 ≡ t → Step f (tell_handed (ended t p v w)) (tell_handed (ended t p v w)) (with_new st f blanked (ended t p v w)) (with_new st' f blanked (ended t p v w))
  end_step false p v w l = both refl a
  end_step true false v w l = both refl a
  end_step true true false w l = both refl a
  end_step true true true w l = both refl (agree-set (blanked w) (leb-true f 7 l))

  -- A call of its own.
  own-step : (c : FarmCall) → farm_of c ≡ f → Step f (station_told st c) (station_told st' c) (station_after st c) (station_after st' c)
  unfolding send_outcome end_outcome
  own-step (send g b) e =
      rw (e, a.same)
      (send-step (leb f 7) (is_summary (held st' f) && is_summary b) (eqb (mode_at (held st' f)) (mode_at b)) (leb (excess_of (set st f (merged_right st' f b))) 20_000) (leb (excess_of (set st' f (merged_right st' f b))) 20_000) (merged_right st' f b) refl)
  own-step (end_of_day g cap) e = rw (e, a.same) (end_step (leb f 7) (is_summary (held st' f)) (leb (length (held st' f)) cap) (held st' f) refl)

-- A call of another.
module _ (f : ℕ) where
  other-set : (st : Station) (g : ℕ) (new : List ℕ → List ℕ) (o : Outcome (List ℕ)) → eqb g f ≡ false → (length (with_new st g new o) ≡ length st) × (held (with_new st g new o) f ≡ held st f)
  other-set st g new (refused n) e = (refl, refl)
  other-set st g new (granted w) e = (length-set st g (new w), get_or-set_other st g f (new w) [] (λ q. eqb-false g f e (sym q)))

  other_step : (st : Station) (c : FarmCall) → eqb (farm_of c) f ≡ false → (length (station_after st c) ≡ length st) × (held (station_after st c) f ≡ held st f)
  other_step st (send g b) e = other-set st g kept (send_outcome st g b) e
  other_step st (end_of_day g cap) e = other-set st g blanked (end_outcome st g cap) e

  -- ---- runs

  -- Two runs on from two stations.
  abbrev Runs : List FarmCall → List FarmCall → Type 0
  Runs xs ys = (st st' : Station) → Agree f st st' → Alike (told_to f (station_history st xs)) (told_to f (station_history st' ys))

  none_told : (st : Station) (ys : List FarmCall) → calls_of f ys ≡ [] → told_to f (station_history st ys) ≡ []
  none_told st [] e = refl
  none_told st (y ∷ ys) e = go (eqb (farm_of y) f) e (none_told (station_after st y) ys)
    where
      go : (t : Bool) → cond t (y ∷ calls_of f ys) (calls_of f ys) ≡ [] → (calls_of f ys ≡ [] → told_to f (station_history (station_after st y) ys) ≡ []) →
          cond t (station_told st y ∷ told_to f (station_history (station_after st y) ys)) (told_to f (station_history (station_after st y) ys)) ≡ []
      go true e ih = cc
      go false e ih = ih e

  -- x is a call of its own, xs follow; the other run is searched for its next own call.
  module _ (x : FarmCall) (xs : List FarmCall) (own : eqb (farm_of x) f ≡ true) (ih : (ys : List FarmCall) → calls_of f xs ≡ calls_of f ys → Runs xs ys) where
    met : (st st' : Station) (ys : List FarmCall) → calls_of f xs ≡ calls_of f ys → Step f (station_told st x) (station_told st' x) (station_after st x) (station_after st' x) →
        Alike (station_told st x ∷ told_to f (station_history (station_after st x) xs)) (station_told st' x ∷ told_to f (station_history (station_after st' x) ys))
    met st st' ys e (both q a) = rw q (alike-cons (station_told st' x) _ _ (ih ys e (station_after st x) (station_after st' x) a))
    met st st' ys e (first p q) = rw (p, q) (inr (inl (part-here _ _)))
    met st st' ys e (second p q) = rw (p, q) (inr (inr (part-here _ _)))

    next-own : (ys : List FarmCall) → x ∷ calls_of f xs ≡ calls_of f ys → (st st' : Station) → Agree f st st' → Alike (station_told st x ∷ told_to f (station_history (station_after st x) xs)) (told_to f (station_history st' ys))
    next-own [] e st st' a = let z : ◌≡◌ {A = ℕ} 0 1 = cc in absurd (omega arith)
    next-own (y ∷ ys) e st st' a = go (eqb (farm_of y) f) refl e (next-own ys)
      where
        go : (t : Bool) → eqb (farm_of y) f ≡ t → x ∷ calls_of f xs ≡ cond t (y ∷ calls_of f ys) (calls_of f ys) →
            (x ∷ calls_of f xs ≡ calls_of f ys → (st st' : Station) → Agree f st st' → Alike (station_told st x ∷ told_to f (station_history (station_after st x) xs)) (told_to f (station_history st' ys))) →
            Alike (station_told st x ∷ told_to f (station_history (station_after st x) xs)) (cond t (station_told st' y ∷ told_to f (station_history (station_after st' y) ys)) (told_to f (station_history (station_after st' y) ys)))
        go true o e rec =
            let same : y ≡ x = cc in
            let rest : calls_of f xs ≡ calls_of f ys = cc in
            rw same (met st st' ys rest (own-step f st st' a x (eqb-true (farm_of x) f own)))
        go false o e rec =
            let s = other_step st' y o in
            rec e st (station_after st' y) (record { eight = a.eight; eight' = s.0 ∙ a.eight'; same = a.same ∙ sym s.1 })

  both_runs : (xs ys : List FarmCall) → calls_of f xs ≡ calls_of f ys → Runs xs ys
  both_runs [] ys e st st' a = rw (none_told st' ys (sym e)) (inl refl)
  both_runs (x ∷ xs) ys e st st' a = go (eqb (farm_of x) f) refl e (λ zs. both_runs xs zs)
    where
      go : (t : Bool) → eqb (farm_of x) f ≡ t → cond t (x ∷ calls_of f xs) (calls_of f xs) ≡ calls_of f ys → ((zs : List FarmCall) → calls_of f xs ≡ calls_of f zs → Runs xs zs) →
          Alike (cond t (station_told st x ∷ told_to f (station_history (station_after st x) xs)) (told_to f (station_history (station_after st x) xs))) (told_to f (station_history st' ys))
      go true o e ih = next-own x xs o ih ys e st st' a
      go false o e ih =
          let s = other_step st x o in
          ih ys e (station_after st x) st' (record { eight = s.0 ∙ a.eight; eight' = a.eight'; same = s.1 ∙ a.same })

-- TWO RUNS "in which the mode and one farm's calls are the same".
pub two_runs : (mode : ℕ) → mode_in_use mode ≡ true → (farm : ℕ) → SameUntil21 mode farm
two_runs mode u farm xs ys e =
    let h = sound-fresh mode u in
    rw (history-same mode u (fresh_station mode) xs h, history-same mode u (fresh_station mode) ys h)
    (both_runs farm xs ys e (fresh_station mode) (fresh_station mode) (record { eight = h.eight; eight' = h.eight; same = refl }))
