-- The claims about every run, proved. Assumes nothing.
use Rattle.std.specs.Prelude.{◌≡◌, refl, Bool, true, false, ◌≢◌, ◌↔◌, List, [], ℕ, ◌≤◌, ◌<◌, leb, eqb, length, set}
use Rattle.std.proofs.Common.{sym, ap, subst, ◌∙◌, arith, get_or-set_same, get_or-set_other, leb-true, le-leb, eq-eqb}
use Rattle.std.proofs.Math.Logic.{dite}
use Rattle.std.proofs.Math.Decide.{dec_lt}
use Rattle.std.proofs.lemmas.Bool.{lt-leb}
use Rattle.gate.specs.Outcome.{Outcome, refused, granted, question, written}
use Rattle.gate.proofs.Laws.{fits}
use Rattle.figure.specs.Mode.{mode_in_use}
use Rattle.summary.specs.Decide.{is_summary}
use Rattle.summary.proofs.DecideLaws.{decide-summary}
use Rattle.summary.specs.Accepted.{IsSummaryIn}
use Rattle.summary.proofs.Accepted.{summary-length}
use Rattle.summary.specs.Judge.{mode_at}
use Rattle.summary.specs.Outcomes.{blank_bytes, merge_bytes}
use Rattle.valley_station.specs.Station.{Station, held, fresh_station, opened_in, excess_of, fresh_outcome, send_outcome, end_outcome}
use Rattle.valley_station.specs.State.{station_of, state_of, put_slot, fresh_after, state_after}
use Rattle.valley_station.specs.Runs.{FarmCall, send, end_of_day, taken, handed, turned_away, tell, tell_handed, told, after, run_state, run_history, own_since, merged_in_order}
use Rattle.valley_station.specs.Claims.{Keeps, Asks, MadeBlank, RefusalStays, Serves}
use Rattle.valley_station.proofs.StationLaws.{Sound, fault-9, send-asks, end-asks, end-taken, end-mode, sound-fresh, blank-draws, excess-set, excess-one}
use Rattle.valley_station.proofs.StateLaws.{state-length, says-station, slot-put}
use Rattle.valley_station.proofs.RunLaws.{station_after, station_after_all, with_new, blanked, sound-after, sound-all, after_same, all_same, history-same, own-summary}

-- ---- a fresh state

-- What `fresh` leaves is the state that a run begins with, whatever stood there before; where it is refused, the state is as it was.
pub fresh-state : (mode : ℕ) → mode_in_use mode ≡ true → (s : List ℕ) → (fresh_outcome mode ≡ granted (fresh_station mode)) × (fresh_after s mode ≡ state_of (fresh_station mode))
unfolding fresh_outcome
fresh-state mode u s = rw u (refl, refl)

pub fresh-refused : (mode : ℕ) → mode_in_use mode ≡ false → (s : List ℕ) → (fresh_outcome mode ≡ refused 1) × (fresh_after s mode ≡ s)
unfolding fresh_outcome
fresh-refused mode u s = rw u (refl, refl)

-- ---- what is told

not-21 : taken ≡ turned_away 21 → ⊥
not-21 e = let z : ◌≡◌ {A = ℕ} 0 1 = cc in omega arith

other-number : (n : ℕ) → n ≢ 21 → turned_away n ≡ turned_away 21 → ⊥
other-number n d e = d (let q : n ≡ 21 = cc in q)

-- ---- a state that is that of a sound station

module _ (m : ℕ) (st : Station) (h : Sound m st) where
  few-opened : (farm : ℕ) → farm ≤ 7 → opened_in (held st farm) ≤ 30_000
  few-opened farm l = omega (arith, excess-one st farm (omega (arith, h.eight)), h.within)

  keeps-sound : Keeps m (state_of st)
  keeps-sound = record {
    size = state-length st h;
    slots = ap state_of (sym (says-station st h));
    summaries = λ farm l. rw (says-station st h) ((h.summaries farm l).is, (h.summaries farm l).mode-is);
    excess = rw (says-station st h) h.within;
    opened = λ farm l. rw (says-station st h) (few-opened farm l);
    no-fault-9 = λ farm l. rw (says-station st h) (λ k e. absurd (omega (arith, few-opened farm l, fault-9 m (held st farm) (h.summaries farm l) k e)));
  }

  -- What a send that passes 20, 5 and 6 is told.
  module _ (f : ℕ) (b : List ℕ) (l : f ≤ 7) (i : IsSummaryIn m b) where
    abbrev then : ℕ
    then = excess_of (set st f (merge_bytes m (held st f) b))

    passes : send_outcome st f b ≡ question 21 (leb then 20_000) (granted (merge_bytes m (held st f) b))
    passes = send-asks m st h f b ∙ rw (le-leb f 7 l, (decide-summary b).to i.is, i.mode-is, eq-eqb m m refl)

    gets-21 : 20_000 < then → tell (send_outcome st f b) ≡ turned_away 21
    gets-21 x = rw (passes, lt-leb then 20_000 x)

    gets-taken : then ≤ 20_000 → tell (send_outcome st f b) ≡ taken
    gets-taken x = rw (passes, le-leb then 20_000 x)

    exactly-21 : (tell (send_outcome st f b) ≡ turned_away 21) ↔ (20_000 < then)
    exactly-21 = (λ e. dite (dec_lt 20_000 then) (λ x. x) (λ n. absurd (not-21 (sym (gets-taken (omega arith)) ∙ e))), gets-21)

    exactly-taken : (tell (send_outcome st f b) ≡ taken) ↔ (then ≤ 20_000)
    exactly-taken = (λ e. dite (dec_lt 20_000 then) (λ x. absurd (not-21 (sym e ∙ gets-21 x))) (λ n. omega arith), gets-taken)

  -- "no send that would leave it within 10,000 gets 21", whether it passes 20, 5 and 6 or not
  within-own : (f : ℕ) (b : List ℕ) → opened_in (merge_bytes m (held st f) b) ≤ 10_000 → tell (send_outcome st f b) ≢ turned_away 21
  within-own f b l e = go (leb f 7) refl (is_summary b) refl (eqb m (mode_at b)) refl (sym (ap tell (send-asks m st h f b)) ∙ e)
    where
      room : f ≤ 7 → excess_of (set st f (merge_bytes m (held st f) b)) ≤ 20_000
      room c = omega (arith, excess-set st f (merge_bytes m (held st f) b) (omega (arith, h.eight)), h.within)

      go : (x : Bool) → leb f 7 ≡ x → (y : Bool) → is_summary b ≡ y → (z : Bool) → eqb m (mode_at b) ≡ z →
          tell (question 20 x (question 5 y (question 6 z (question 21 (leb (excess_of (set st f (merge_bytes m (held st f) b))) 20_000) (granted (merge_bytes m (held st f) b)))))) ≡ turned_away 21 → ⊥
      go true ex true ey true ez q = not-21 (sym (ap (λ t. tell (question 21 t (granted (merge_bytes m (held st f) b)))) (le-leb (excess_of (set st f (merge_bytes m (held st f) b))) 20_000 (room (leb-true f 7 ex)))) ∙ q)
      go true ex true ey false ez q = other-number 6 (omega arith) q
      go true ex false ey z ez q = other-number 5 (omega arith) q
      go false ex y ey z ez q = other-number 20 (omega arith) q

  never-12 : (f cap : ℕ) → f ≤ 7 → 1788 ≤ cap → tell_handed (end_outcome st f cap) ≡ handed (held st f)
  never-12 f cap l c =
      let few : length (held st f) ≤ cap = omega (arith, (summary-length m (held st f) (h.summaries f l)).few) in
      rw (end-asks m st h f cap, le-leb f 7 l, fits cap (held st f) few)

  asks-sound : Asks m (state_of st)
  asks-sound = record {
    at-send = λ f b. rw (says-station st h) (send-asks m st h f b);
    at-end = λ f cap. rw (says-station st h) (end-asks m st h f cap);
    never-12 = λ f cap l c. rw (says-station st h) (never-12 f cap l c);
    exactly-21 = λ f b l i e. rw (says-station st h) (exactly-21 f b l (record { is = i; mode-is = e }));
    else-taken = λ f b l i e. rw (says-station st h) (exactly-taken f b l (record { is = i; mode-is = e }));
    within-own = λ f b l. rw (says-station st h) (within-own f b (subst (λ (s : Station). opened_in (merge_bytes m (held s f) b) ≤ 10_000) (says-station st h) l));
  }

-- ---- an end of day that was taken

handed-result : (o : Outcome (List ℕ)) (w : List ℕ) → tell_handed o ≡ handed w → o ≡ granted w
handed-result (refused n) w e = let z : ◌≡◌ {A = ℕ} 0 1 = cc in absurd (omega arith)
handed-result (granted v) w e = let q : v ≡ w = cc in ap granted q

module _ (m : ℕ) (u : mode_in_use m ≡ true) (st : Station) (h : Sound m st) (f cap : ℕ) (w : List ℕ) (e : end_outcome st f cap ≡ granted w) where
  abbrev emptied : Station
  emptied = set st f (blank_bytes m)

  ended : station_after st (end_of_day f cap) ≡ emptied
  ended = ap (with_new st f blanked) e ∙ ap (λ (k : ℕ). set st f (blank_bytes k)) (end-mode m st h f cap w e)

  below-8 : f < length st
  below-8 = omega (arith, (end-taken m st h f cap w e).0, h.eight)

  -- of the bytes after it
  module _ (t : List ℕ) (s : station_of t ≡ emptied) where
    made-blank : t ≡ put_slot (state_of st) f (blank_bytes m) → MadeBlank m (state_of st) f t
    made-blank b = record {
      bytes = b;
      station = s ∙ ap (λ (x : Station). set x f (blank_bytes m)) (sym (says-station st h));
      draws-nothing = rw (s, get_or-set_same st f (blank_bytes m) [] below-8) (blank-draws m);
      free-again = rw (s, says-station st h) (omega (arith, excess-set st f (blank_bytes m) below-8, blank-draws m));
      others = λ k n. rw (s, says-station st h) (get_or-set_other st f k (blank_bytes m) [] n);
    }

  made-blank-after : MadeBlank m (state_of st) f (after (state_of st) (end_of_day f cap))
  made-blank-after =
      let a : after (state_of st) (end_of_day f cap) ≡ state_of (station_after st (end_of_day f cap)) = after_same m u st (end_of_day f cap) h in
      made-blank (after (state_of st) (end_of_day f cap)) (ap station_of a ∙ says-station (station_after st (end_of_day f cap)) (sound-after m u st (end_of_day f cap) h) ∙ ended)
      (a ∙ ap state_of ended ∙ sym (slot-put st h f (blank_bytes m) (end-taken m st h f cap w e).0))

-- ---- a refusal

pub refusal-stays : RefusalStays
refusal-stays s (send f b) n e = go (send_outcome (station_of s) f b) e
  where
    go : (o : Outcome (List ℕ)) → tell o ≡ turned_away n → state_after o (put_slot s f) s ≡ s
    go (refused k) e = refl
    go (granted w) e = let z : ◌≡◌ {A = ℕ} 0 1 = cc in absurd (omega arith)
refusal-stays s (end_of_day f cap) n e = go (end_outcome (station_of s) f cap) e
  where
    go : (o : Outcome (List ℕ)) → tell_handed o ≡ turned_away n → state_after o (λ w. put_slot s f (blank_bytes (mode_at w))) s ≡ s
    go (refused k) e = refl
    go (granted w) e = let z : ◌≡◌ {A = ℕ} 0 1 = cc in absurd (omega arith)

-- ---- every run

module _ (mode : ℕ) (u : mode_in_use mode ≡ true) (calls : List FarmCall) where
  abbrev st : Station
  st = station_after_all (fresh_station mode) calls

  run_sound : Sound mode (station_after_all (fresh_station mode) calls)
  run_sound = sound-all mode u (fresh_station mode) calls (sound-fresh mode u)

  run_is : run_state mode calls ≡ state_of (station_after_all (fresh_station mode) calls)
  run_is = all_same mode u (fresh_station mode) calls (sound-fresh mode u)

  hands_out : (farm cap : ℕ) → farm ≤ 7 → told (run_state mode calls) (end_of_day farm cap) ≡ tell_handed (written cap (merged_in_order mode (own_since farm [] (run_history mode calls))))
  hands_out farm cap l =
      let a : end_outcome st farm cap ≡ written cap (held st farm) = end-asks mode st run_sound farm cap ∙ ap (λ t. question 20 t (written cap (held st farm))) (le-leb farm 7 l) in
      rw (run_is, says-station st run_sound, a, own-summary mode u farm l calls, history-same mode u (fresh_station mode) calls (sound-fresh mode u))

  -- EVERY RUN: what it keeps and asks, and what its ends of day hand out.
  pub serves : Serves mode calls
  serves = record {
    keeps = subst (Keeps mode) (sym run_is) (keeps-sound mode st run_sound);
    asks = subst (Asks mode) (sym run_is) (asks-sound mode st run_sound);
    hands_out = hands_out;
    made-blank = λ farm cap w e.
        subst (λ (s : List ℕ). MadeBlank mode s farm (after s (end_of_day farm cap))) (sym run_is)
        (made-blank-after mode u st run_sound farm cap w
        (sym (ap (λ (x : Station). end_outcome x farm cap) (says-station st run_sound)) ∙ handed-result _ w (subst (λ (s : List ℕ). told s (end_of_day farm cap) ≡ handed w) run_is e)));
  }
