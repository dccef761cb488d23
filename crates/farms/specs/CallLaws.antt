-- The calls, by what their functions found: a send, an end of day, and a state made fresh. Assumes nothing.
use Rattle.std.specs.Prelude.{◌≡◌, refl, Bool, true, false, ◌&&◌, ℕ, suc, ◌+◌, ◌-◌, ◌*◌, ◌≤◌, ◌<◌, leb, eqb, take, drop, set, replicate, Result, Ok, Err}
use Rattle.std.proofs.Math.Path.{sym, subst}
use Rattle.std.proofs.Common.{ap, ◌∙◌, zero-add, arith, take_at, le-leb, leb-true}
use mathlib.Core.List.{List, ◌++◌}
use Rattle.std.proofs.Math.ListN.{length}
use Rattle.std.proofs.lemmas.Bool.{lt-leb}
use Rattle.gate.specs.Outcome.{Outcome, refused, granted, question, onward, written, buffer_after}
use Rattle.gate.specs.Answers.{number_of, answered, length_answered}
use Rattle.gate.proofs.Laws.{yes, result-same, one_number, not-result}
use Rattle.gate.specs.Promises.{Answers}
use Rattle.gate.specs.declared.Refusal.{Refusal}
use Rattle.figure.specs.Mode.{mode_in_use}
use Rattle.summary.specs.Judge.{mode_at}
use Rattle.summary.specs.Decide.{is_summary}
use Rattle.summary.specs.Outcomes.{blank_bytes, merge_bytes, merge_outcome}
use Rattle.summary.proofs.OutcomeLaws.{merge-room}
use Rattle.valley_station.specs.Station.{fresh_station, held, drawn, excess_of, fresh_outcome, send_outcome, end_outcome}
use Rattle.valley_station.specs.State.{slot_holds, station_of, slot_of, state_of, put_slot, state_after, fresh_after, send_after, end_after}
use Rattle.valley_station.specs.Runs.{Told, taken, turned_away, tell}
use Rattle.valley_station.proofs.StationLaws.{excess-set, excess-one}
use Rattle.valley_station.proofs.StateLaws.{held-slot, eight-farms, slot-length}
use Rattle.farms.specs.Promised.{IsSlot, asked21}
use Rattle.farms.specs.SlotLaws.{filled}

-- ---- bytes handed out

pub handed-over : (w before after : List ℕ) → after ≡ take 0 before ++ (w ++ drop (0 + length w) before) → after ≡ buffer_after (granted w) before
handed-over w before after e = e ∙ ap (λ (n : ℕ). w ++ drop n before) (zero-add (length w))

-- ---- question 21

module _ (s w : List ℕ) (farm all old new : ℕ) (few : farm ≤ 7) (a : all ≡ excess_of (station_of s)) (o : old ≡ drawn (slot_holds (drop (1788 * farm) s))) where
  here : drawn (held (station_of s) farm) ≡ old
  here = ap drawn (held-slot s farm few) ∙ sym o

  pub draws-some : old ≤ all
  draws-some = omega (arith, here, excess-one (station_of s) farm (omega (arith, eight-farms s)))

  module _ (n : new ≡ drawn w) where
    then-draw : all - old + new ≡ excess_of (set (station_of s) farm w)
    then-draw = omega (arith, here, draws-some, excess-set (station_of s) farm w (omega (arith, eight-farms s)))

    pub settle-21 : 20000 < all - old + new → asked21 s farm w ≡ refused 21
    unfolding asked21
    settle-21 l = rw (lt-leb (excess_of (set (station_of s) farm w)) 20_000 (omega (arith, then-draw)))

    pub settle-yes : all - old + new ≤ 20000 → asked21 s farm w ≡ granted w
    unfolding asked21
    settle-yes l = rw (le-leb (excess_of (set (station_of s) farm w)) 20_000 (omega (arith, then-draw)))

pub slot-put : (s t slot : List ℕ) (farm n : ℕ) → IsSlot slot n → t ≡ take (1788 * farm) s ++ (slot ++ drop (1788 * suc farm) s) → t ≡ put_slot s farm (take n slot)
unfolding put_slot
slot-put s t slot farm n i e = e ∙ ap (λ (x : List ℕ). take (1788 * farm) s ++ (x ++ drop (1788 * suc farm) s)) i.is

-- ---- a send

pub send-20 : (s : List ℕ) (farm : ℕ) (b : List ℕ) → 7 < farm → send_outcome (station_of s) farm b ≡ refused 20
unfolding send_outcome
send-20 s farm b l = rw (lt-leb farm 7 l)

onward-asked : (x y : Bool) (w : List ℕ) (k : List ℕ → Outcome (List ℕ)) → onward (question 5 x (question 6 y (granted w))) k ≡ question 5 x (question 6 y (k w))
onward-asked true true w k = refl
onward-asked true false w k = refl
onward-asked false y w k = refl

-- Bytes that were merged into a slot of zeros: k of them.
record Wrote (o : Outcome (List ℕ)) (slot : List ℕ) (k : ℕ) : Type 0 where
  pub came : o ≡ granted (take k slot)
  pub is-slot : IsSlot slot k

module _ (s piece b : List ℕ) (farm : ℕ) (few : farm ≤ 7) (p : piece ≡ slot_holds (drop (1788 * farm) s)) where
  send-is : send_outcome (station_of s) farm b ≡ onward (merge_outcome piece b 1788) (asked21 s farm)
  unfolding send_outcome asked21
  send-is =
      let h : held (station_of s) farm ≡ piece = held-slot s farm few ∙ sym p in
      rw (le-leb farm 7 few, h, merge-room piece b)
      (sym (onward-asked (is_summary piece && is_summary b) (eqb (mode_at piece) (mode_at b)) (merge_bytes (mode_at piece) piece b) (asked21 s farm)))

  merge-short : {w : List ℕ} → merge_outcome piece b 1788 ≡ granted w → length w ≤ 1788
  unfolding merge_outcome
  merge-short {w} e =
      let q = yes 5 (is_summary piece && is_summary b) _ e in
      let r = yes 6 (eqb (mode_at piece) (mode_at b)) _ q.1 in
      let t = yes 12 (leb (length (merge_bytes (mode_at piece) piece b)) 1788) _ r.1 in
      subst (λ (x : List ℕ). length x ≤ 1788) (result-same t.1) (leb-true _ _ t.0)

  module _ (r : Result ℕ Refusal) (slot : List ℕ) (a : answered r ≡ length_answered (merge_outcome piece b 1788)) (f : slot ≡ buffer_after (merge_outcome piece b 1788) (replicate 1788 0)) where
    wrote : {k : ℕ} → r ≡ Ok k → Wrote (merge_outcome piece b 1788) slot k
    wrote {k} e = go (merge_outcome piece b 1788) refl (sym (ap answered e) ∙ a) f
      where
        go : (o : Outcome (List ℕ)) → merge_outcome piece b 1788 ≡ o → granted k ≡ length_answered o → slot ≡ buffer_after o (replicate 1788 0) → Wrote o slot k
        go (refused n) q g h = absurd (not-result n k (sym g))
        go (granted w) q g h =
            let n : k ≡ length w = result-same g in
            let z : slot ≡ slot_of w = h ∙ filled w in
            let l : length w ≤ 1788 = merge-short q in
            let t : take k slot ≡ w = ap (λ (x : List ℕ). take k x) h ∙ take_at w (drop (length w) (replicate 1788 0)) k (sym n) in
            record {
              came = ap granted (sym t);
              is-slot = record { size = ap length z ∙ slot-length w l; inside = omega arith; is = z ∙ ap slot_of (sym t) };
            }

    pub sent-slot : {k : ℕ} → r ≡ Ok k → IsSlot slot k
    sent-slot e = (wrote e).is-slot

    -- what settling came to is what the send comes to
    pub sent : {k : ℕ} (x : Told) (t : List ℕ) → r ≡ Ok k → x ≡ tell (asked21 s farm (take k slot)) → t ≡ state_after (asked21 s farm (take k slot)) (put_slot s farm) s → (x ≡ tell (send_outcome (station_of s) farm b)) × (t ≡ send_after s farm b)
    sent {k} x t e g h = let c : send_outcome (station_of s) farm b ≡ asked21 s farm (take k slot) = send-is ∙ ap (λ o. onward o (asked21 s farm)) (wrote e).came in rw c (g, h)

    pub not-sent : {x : Refusal} → r ≡ Err x → send_outcome (station_of s) farm b ≡ refused (number_of x)
    not-sent {x} e = send-is ∙ ap (λ o. onward o (asked21 s farm)) (go (merge_outcome piece b 1788) (sym (ap answered e) ∙ a))
      where
        go : (o : Outcome (List ℕ)) → refused (number_of x) ≡ length_answered o → o ≡ refused (number_of x)
        go (refused n) g = ap refused (one_number (sym g))
        go (granted w) g = absurd (not-result (number_of x) (length w) g)

-- ---- an end of day

pub end-20 : (s : List ℕ) (farm cap : ℕ) → 7 < farm → end_outcome (station_of s) farm cap ≡ refused 20
unfolding end_outcome
end-20 s farm cap l = rw (lt-leb farm 7 l)

module _ (s piece : List ℕ) (farm cap : ℕ) (few : farm ≤ 7) (p : piece ≡ slot_holds (drop (1788 * farm) s)) where
  end_is : end_outcome (station_of s) farm cap ≡ question 5 (is_summary piece) (written cap piece)
  unfolding end_outcome
  end_is = let h : held (station_of s) farm ≡ piece = held-slot s farm few ∙ sym p in rw (le-leb farm 7 few, h)

  pub end-5 : is_summary piece ≡ false → end_outcome (station_of s) farm cap ≡ refused 5
  end-5 n = end_is ∙ ap (λ t. question 5 t (written cap piece)) n

  module _ (y : is_summary piece ≡ true) (r : Result ℕ Refusal) (before after : List ℕ) (h : Answers (written cap piece) before after r) where
    came : {o : Outcome (List ℕ)} → written cap piece ≡ o → end_outcome (station_of s) farm cap ≡ o
    came e = end_is ∙ ap (λ t. question 5 t (written cap piece)) y ∙ e

    pub end-12 : (x : Refusal) → r ≡ Err x → (end_outcome (station_of s) farm cap ≡ refused 12) × ((number_of x ≡ 12) × (after ≡ before))
    end-12 x e = go (leb (length piece) cap) refl (sym (ap answered e) ∙ h.answered)
      where
        go : (t : Bool) → leb (length piece) cap ≡ t → refused (number_of x) ≡ length_answered (question 12 t (granted piece)) → (end_outcome (station_of s) farm cap ≡ refused 12) × ((number_of x ≡ 12) × (after ≡ before))
        go true q g = absurd (not-result (number_of x) (length piece) g)
        go false q g =
            let w : written cap piece ≡ refused 12 = ap (λ t. question 12 t (granted piece)) q in
            (came w, (one_number g, h.buffer ∙ ap (λ o. buffer_after o before) w))

    module _ (n : ℕ) (e : r ≡ Ok n) where
      handed_out : written cap piece ≡ granted piece
      handed_out = go (leb (length piece) cap) refl (sym (ap answered e) ∙ h.answered)
        where
          go : (t : Bool) → leb (length piece) cap ≡ t → granted n ≡ length_answered (question 12 t (granted piece)) → written cap piece ≡ granted piece
          go true q g = ap (λ t. question 12 t (granted piece)) q
          go false q g = absurd (not-result 12 n (sym g))

      pub end-yes : (t : List ℕ) (m : ℕ) → m ≡ mode_at piece → t ≡ put_slot s farm (blank_bytes m) →
          (granted n ≡ length_answered (end_outcome (station_of s) farm cap)) × ((after ≡ buffer_after (end_outcome (station_of s) farm cap) before) × (t ≡ end_after s farm cap))
      end-yes t m g f =
          rw (came handed_out)
          (sym (ap answered e) ∙ h.answered ∙ ap length_answered handed_out, (h.buffer ∙ ap (λ o. buffer_after o before) handed_out, f ∙ ap (λ (k : ℕ). put_slot s farm (blank_bytes k)) g))

-- ---- a fresh state

pub fresh-yes : {used : Bool} (m : ℕ) (s t : List ℕ) → used ≡ mode_in_use m → used ≡ true → t ≡ state_of (fresh_station m) → (taken ≡ tell (fresh_outcome m)) × (t ≡ fresh_after s m)
unfolding fresh_outcome
fresh-yes m s t e y f = let u : mode_in_use m ≡ true = sym e ∙ y in rw u (refl, f)

pub fresh-no : {used : Bool} (m : ℕ) (s : List ℕ) → used ≡ mode_in_use m → used ≡ false → (turned_away 1 ≡ tell (fresh_outcome m)) × (s ≡ fresh_after s m)
unfolding fresh_outcome
fresh-no m s e n = let u : mode_in_use m ≡ false = sym e ∙ n in rw u (refl, refl)
