-- Runs on stations themselves: every one keeps what is sound; what a farm holds is its own accepted summaries, merged in order. And the bytes of a state follow the
-- station through a run. Assumes nothing.
use Rattle.std.specs.Prelude.{◌≡◌, Bool, true, false, cond, ℕ, ◌≤◌, eqb, set}
use Rattle.std.proofs.Math.Path.{refl, ap}
use Rattle.std.proofs.Common.{sym, ◌∙◌, arith, get_or-set_same, get_or-set_other, eqb-true}
use mathlib.Core.List.{List, [], ◌∷◌, ◌++◌, map, foldl, append-nil, append_assoc, foldl-append}
use Rattle.std.proofs.Math.ListN.{get_or-replicate}
use Rattle.std.proofs.lemmas.Bool.{eqb-false}
use Rattle.gate.specs.Outcome.{Outcome, refused, granted}
use Rattle.number.specs.Bytes.{AllBytes}
use Rattle.modes.specs.FourModes.{Amounts}
use Rattle.figure.specs.Mode.{mode_of, mode_in_use}
use Rattle.hill.specs.Log.{Record}
use Rattle.hill.specs.Row.{joined}
use Rattle.hill.proofs.OwnLogLaws.{readable-first, readable-last}
use Rattle.hill.proofs.ValidLaws.{readable-append}
use Rattle.summary.specs.Judge.{mode_at}
use Rattle.summary.specs.Accepted.{IsSummaryIn}
use Rattle.summary.proofs.MergeBytes.{blank-accepted, blank-merge, Readables, merge-chunks, no_record}
use Rattle.summary.specs.Outcomes.{summary_bytes, blank_bytes, merge_bytes}
use Rattle.valley_station.specs.Station.{Station, held, fresh_station, send_outcome, end_outcome}
use Rattle.valley_station.specs.State.{state_of, state_after, put_slot}
use Rattle.valley_station.specs.Runs.{FarmCall, send, end_of_day, Told, tell, tell_handed, told, after, after_all, history, own_after, own_since, merged_in_order}
use Rattle.valley_station.proofs.StationLaws.{Sound, send-taken, sent-summary, end-taken, end-mode, sound-set, blank-within, sound-fresh}
use Rattle.valley_station.proofs.StateLaws.{says-station, slot-put}

-- ---- a run on stations

abbrev pub station_told : Station → FarmCall → Told
station_told st (send farm b) = tell (send_outcome st farm b)
station_told st (end_of_day farm cap) = tell_handed (end_outcome st farm cap)

-- The station with what a call came to for a farm.
abbrev pub with_new : Station → (farm : ℕ) → (List ℕ → List ℕ) → Outcome (List ℕ) → Station
with_new st farm new (refused n) = st
with_new st farm new (granted w) = set st farm (new w)

abbrev pub kept : List ℕ → List ℕ
kept w = w

abbrev pub blanked : List ℕ → List ℕ
blanked w = blank_bytes (mode_at w)

abbrev pub station_after : Station → FarmCall → Station
station_after st (send farm b) = with_new st farm kept (send_outcome st farm b)
station_after st (end_of_day farm cap) = with_new st farm blanked (end_outcome st farm cap)

abbrev pub station_after_all : Station → List FarmCall → Station
station_after_all st [] = st
station_after_all st (c ∷ cs) = station_after_all (station_after st c) cs

abbrev pub station_history : Station → List FarmCall → List (FarmCall × Told)
station_history st [] = []
station_history st (c ∷ cs) = (c, station_told st c) ∷ station_history (station_after st c) cs

module _ (m : ℕ) (u : mode_in_use m ≡ true) where
  -- ---- what is sound stays so

  pub sound-after : (st : Station) (c : FarmCall) → Sound m st → Sound m (station_after st c)
  sound-after st (send f b) h = go (send_outcome st f b) refl
    where
      go : (o : Outcome (List ℕ)) → send_outcome st f b ≡ o → Sound m (with_new st f kept o)
      go (refused n) e = h
      go (granted w) e = let t = send-taken m st h f b w e in sound-set m st h f w t.farm (sent-summary m st h f b w e) t.few
  sound-after st (end_of_day f cap) h = go (end_outcome st f cap) refl
    where
      go : (o : Outcome (List ℕ)) → end_outcome st f cap ≡ o → Sound m (with_new st f blanked o)
      go (refused n) e = h
      go (granted w) e = let l = (end-taken m st h f cap w e).0 in rw (end-mode m st h f cap w e) (sound-set m st h f (blank_bytes m) l (blank-accepted m u) (blank-within m st h f l))

  pub sound-all : (st : Station) (cs : List FarmCall) → Sound m st → Sound m (station_after_all st cs)
  sound-all st [] h = h
  sound-all st (c ∷ cs) h = sound-all (station_after st c) cs (sound-after st c h)

  -- ---- the bytes follow

  told_same : (st : Station) (c : FarmCall) → Sound m st → told (state_of st) c ≡ station_told st c
  told_same st (send f b) h = rw (says-station st h)
  told_same st (end_of_day f cap) h = rw (says-station st h)

  pub after_same : (st : Station) (c : FarmCall) → Sound m st → after (state_of st) c ≡ state_of (station_after st c)
  after_same st (send f b) h = rw (says-station st h) (go (send_outcome st f b) refl)
    where
      go : (o : Outcome (List ℕ)) → send_outcome st f b ≡ o → state_after o (put_slot (state_of st) f) (state_of st) ≡ state_of (with_new st f kept o)
      go (refused n) e = refl
      go (granted w) e = slot-put st h f w (send-taken m st h f b w e).farm
  after_same st (end_of_day f cap) h = rw (says-station st h) (go (end_outcome st f cap) refl)
    where
      go : (o : Outcome (List ℕ)) → end_outcome st f cap ≡ o → state_after o (λ w. put_slot (state_of st) f (blank_bytes (mode_at w))) (state_of st) ≡ state_of (with_new st f blanked o)
      go (refused n) e = refl
      go (granted w) e = slot-put st h f (blank_bytes (mode_at w)) (end-taken m st h f cap w e).0

  pub all_same : (st : Station) (cs : List FarmCall) → Sound m st → after_all (state_of st) cs ≡ state_of (station_after_all st cs)
  all_same st [] h = refl
  all_same st (c ∷ cs) h = rw (after_same st c h) (all_same (station_after st c) cs (sound-after st c h))

  pub history-same : (st : Station) (cs : List FarmCall) → Sound m st → history (state_of st) cs ≡ station_history st cs
  history-same st [] h = refl
  history-same st (c ∷ cs) h = rw (told_same st c h, after_same st c h) (ap (λ (es : List (FarmCall × Told)). (c, station_told st c) ∷ es) (history-same (station_after st c) cs (sound-after st c h)))

  -- ---- a farm's own summaries

  merged-snoc : (own : List (List ℕ)) (b : List ℕ) → merged_in_order m (own ++ (b ∷ [])) ≡ merge_bytes m (merged_in_order m own) b
  unfolding merged_in_order
  merged-snoc own b = foldl-append (merge_bytes m) (blank_bytes m) own (b ∷ [])

  merged-none : merged_in_order m [] ≡ blank_bytes m
  unfolding merged_in_order
  merged-none = refl

  -- One summary alone is handed out as it was sent, byte for byte.
  pub one-sent : (b : List ℕ) → AllBytes b → IsSummaryIn m b → merged_in_order m (b ∷ []) ≡ b
  unfolding merged_in_order
  one-sent b a i = blank-merge m b a i

  -- The summaries of chunks, in their order, merge to that of the chunks joined, however long these are.
  chunks-on : (front : List (Record Amounts)) (chunks : List (List (Record Amounts))) → Readables m front → Readables m (joined chunks) →
      foldl (merge_bytes m) (summary_bytes m front) (map (summary_bytes m) chunks) ≡ summary_bytes m (front ++ joined chunks)
  chunks-on front [] r h = ap (summary_bytes m) (sym (append-nil front))
  chunks-on front (xs ∷ chunks) r h =
      let x : Readables m xs = readable-first (mode_of m).algebra (mode_of m).sizes xs (joined chunks) h in
      let rest : Readables m (joined chunks) = readable-last (mode_of m).algebra (mode_of m).sizes xs (joined chunks) h in
      ap (λ (b : List ℕ). foldl (merge_bytes m) b (map (summary_bytes m) chunks)) (merge-chunks m front xs u r x)
      ∙ chunks-on (front ++ xs) chunks (readable-append (mode_of m).algebra (mode_of m).sizes front xs r x) rest
      ∙ ap (summary_bytes m) (append_assoc front xs (joined chunks))

  pub chunks-in-order : (chunks : List (List (Record Amounts))) → Readables m (joined chunks) → merged_in_order m (map (summary_bytes m) chunks) ≡ summary_bytes m (joined chunks)
  unfolding merged_in_order
  chunks-in-order chunks r = ap (λ (x : List ℕ). foldl (merge_bytes m) x (map (summary_bytes m) chunks)) (sym (no_record m)) ∙ chunks-on [] chunks tt r

  module _ (farm : ℕ) where
    -- what the farm holds once farm f has w
    put-held : (st : Station) (f : ℕ) (w x y : List ℕ) → Sound m st → f ≤ 7 → held st farm ≡ y → (f ≡ farm → w ≡ x) → (t : Bool) → eqb f farm ≡ t → held (set st f w) farm ≡ cond t x y
    put-held st f w x y h l e g true q = let same : f ≡ farm = eqb-true f farm q in rw (← same) (get_or-set_same st f w [] (omega (arith, h.eight))) ∙ g same
    put-held st f w x y h l e g false q = get_or-set_other st f farm w [] (λ r. eqb-false f farm q (sym r)) ∙ e

    merged-cond : (t : Bool) (a b : List (List ℕ)) → cond t (merged_in_order m a) (merged_in_order m b) ≡ merged_in_order m (cond t a b)
    merged-cond true a b = refl
    merged-cond false a b = refl

    own-after : (st : Station) (c : FarmCall) (own : List (List ℕ)) → Sound m st → held st farm ≡ merged_in_order m own → held (station_after st c) farm ≡ merged_in_order m (own_after farm own c (station_told st c))
    own-after st (send f b) own h e = go (send_outcome st f b) refl
      where
        go : (o : Outcome (List ℕ)) → send_outcome st f b ≡ o → held (with_new st f kept o) farm ≡ merged_in_order m (own_after farm own (send f b) (tell o))
        go (refused n) q = e
        go (granted w) q =
            let t = send-taken m st h f b w q in
            put-held st f w (merged_in_order m (own ++ (b ∷ []))) (merged_in_order m own) h t.farm e
            (λ same. t.merged ∙ ap (λ (x : List ℕ). merge_bytes m x b) (ap (held st) same ∙ e) ∙ sym (merged-snoc own b)) (eqb f farm) refl ∙ merged-cond (eqb f farm) (own ++ (b ∷ [])) own
    own-after st (end_of_day f cap) own h e = go (end_outcome st f cap) refl
      where
        go : (o : Outcome (List ℕ)) → end_outcome st f cap ≡ o → held (with_new st f blanked o) farm ≡ merged_in_order m (own_after farm own (end_of_day f cap) (tell_handed o))
        go (refused n) q = e
        go (granted w) q =
            put-held st f (blanked w) (merged_in_order m []) (merged_in_order m own) h (end-taken m st h f cap w q).0 e
            (λ same. ap blank_bytes (end-mode m st h f cap w q) ∙ sym merged-none) (eqb f farm) refl ∙ merged-cond (eqb f farm) [] own

    own-all : (st : Station) (cs : List FarmCall) (own : List (List ℕ)) → Sound m st → held st farm ≡ merged_in_order m own → held (station_after_all st cs) farm ≡ merged_in_order m (own_since farm own (station_history st cs))
    own-all st [] own h e = e
    own-all st (c ∷ cs) own h e = own-all (station_after st c) cs (own_after farm own c (station_told st c)) (sound-after st c h) (own-after st c own h e)

    fresh-held : farm ≤ 7 → held (fresh_station m) farm ≡ blank_bytes m
    unfolding fresh_station
    fresh-held l = get_or-replicate 8 farm (blank_bytes m) [] (omega arith)

    pub own-summary : farm ≤ 7 → (cs : List FarmCall) → held (station_after_all (fresh_station m) cs) farm ≡ merged_in_order m (own_since farm [] (station_history (fresh_station m) cs))
    own-summary l cs = own-all (fresh_station m) cs [] (sound-fresh m u) (fresh-held l ∙ sym merged-none)
