-- The slots of a state: what is held there, what is written there, and what the farms draw. Assumes nothing.
use Rattle.std.specs.Prelude.{◌≡◌, refl, List, [], ◌++◌, ℕ, zero, suc, ◌+◌, ◌-◌, ◌*◌, ◌^◌, ◌≤◌, ◌<◌, min, length, get_or, take, drop, set, replicate}
use Rattle.std.proofs.Common.{sym, ap, ◌∙◌, append_assoc, append-nil, add-zero, zero-add, arith, length-set, length-append, drop_of_length-le, take_all, drop-cons, take_at, length-take-le, le-leb}
use Rattle.std.proofs.lemmas.List.{length-replicate}
use Rattle.std.proofs.Math.Seq.{take-length, paste, paste-zero, paste-suc}
use Rattle.std.proofs.lemmas.Bool.{lt-leb}
use Rattle.gate.specs.Outcome.{written, buffer_after}
use Rattle.gate.proofs.Laws.{fits}
use Rattle.number.specs.Bytes.{le_at, bytes_of}
use Rattle.number.specs.Laws.{le_at-drop}
use Rattle.hill.specs.Summary.{blank}
use Rattle.summary.specs.Layout.{encode}
use Rattle.summary.specs.Outcomes.{blank_bytes}
use Rattle.valley_station.specs.Station.{fresh_station, opened_in, drawn, excess_of}
use Rattle.valley_station.specs.State.{slot_holds, station_of, slot_of, state_of, put_slot}
use Rattle.valley_station.proofs.StateLaws.{held-slot, eight-farms, slot-length}

-- ---- what is held

pub held-part : (s : List ℕ) (at end : ℕ) → end ≡ at + min (le_at 2 s at) 1788 → take (end - at) (drop at s) ≡ slot_holds (drop at s)
unfolding slot_holds
held-part s at end e =
    let f : end - at ≡ min (le_at 2 s at) 1788 = ap (λ (n : ℕ). n - at) e ∙ cancel (min (le_at 2 s at) 1788) in
    let g : le_at 2 (drop at s) 0 ≡ le_at 2 s at = le_at-drop 2 at s 0 ∙ ap (le_at 2 s) (add-zero at) in
    rw (f, g)
  where
    cancel : (n : ℕ) → at + n - at ≡ n
    cancel n = omega arith

pub opened-none : (b : List ℕ) → length b < 16 → 0 ≡ opened_in b
unfolding opened_in
opened-none b l = rw (lt-leb 16 (length b) l)

pub opened_some : (b : List ℕ) → 16 ≤ length b → le_at 4 b 12 ≡ opened_in b
unfolding opened_in
opened_some b l = rw (le-leb 16 (length b) l)

-- ---- what the farms draw

-- The farms before farm k are counted.
pub record Summing (s : List ℕ) (total k : ℕ) : Type 0 where
  pub few : k ≤ 8
  pub sum : total + excess_of (drop k (station_of s)) ≡ excess_of (station_of s)
  pub small : total ≤ k * 2 ^ 32

pub sum-start : (s : List ℕ) → Summing s 0 0
sum-start s = record { few = omega arith; sum = zero-add (excess_of (station_of s)); small = omega arith }

pub sum-next : {s : List ℕ} {total k : ℕ} (d : ℕ) → Summing s total k → k < 8 → d ≡ drawn (slot_holds (drop (1788 * k) s)) → d < 2 ^ 32 → Summing s (total + d) (k + 1)
sum-next {s} {total} {k} d i l e b =
    let c : drop k (station_of s) ≡ _ = drop-cons (station_of s) k [] (omega (arith, eight-farms s)) in
    let x : excess_of (drop k (station_of s)) ≡ d + excess_of (drop (suc k) (station_of s)) = ap excess_of c ∙ ap (λ (n : ℕ). n + excess_of (drop (suc k) (station_of s))) (ap drawn (held-slot s k (omega arith)) ∙ sym e) in
    let n : k + 1 ≡ suc k = omega arith in
    record { few = omega arith; sum = rw n (omega (arith, x, i.sum)); small = omega (arith, i.small) }

pub sum-all : {s : List ℕ} {total k : ℕ} → Summing s total k → 8 ≤ k → (total ≡ excess_of (station_of s)) × (total ≤ 8 * 2 ^ 32)
sum-all {s} {total} {k} i l =
    let e : k ≡ 8 = omega (arith, i.few) in
    let n : excess_of (drop k (station_of s)) ≡ 0 = ap excess_of (drop_of_length-le (station_of s) {i = k} (omega (arith, eight-farms s))) in
    (omega (arith, i.sum, n), omega (arith, i.small))

-- ---- what is written

-- The first i of the bytes w are stored, from `at` on.
pub record Storing (s w : List ℕ) (at i : ℕ) (t : List ℕ) : Type 0 where
  pub few : i ≤ length w
  pub same : t ≡ paste s at w i
  pub size : length t ≡ length s

pub store-start : (s w : List ℕ) (at : ℕ) → Storing s w at 0 s
store-start s w at = record { few = omega arith; same = paste-zero s at w; size = refl }

pub store-next : {s w : List ℕ} {at i : ℕ} {t : List ℕ} → Storing s w at i t → at + length w ≤ length s → i < length w → Storing s w at (i + 1) (set t (at + i) (get_or w i 0))
store-next {s} {w} {at} {i} {t} h r l =
    let n : i + 1 ≡ suc i = omega arith in
    record {
      few = omega arith;
      same = ap (λ (x : List ℕ). set x (at + i) (get_or w i 0)) h.same ∙ paste-suc s at w i 0 (omega arith) l ∙ ap (paste s at w) (sym n);
      size = length-set t (at + i) (get_or w i 0) ∙ h.size;
    }

pub store-end : {s w : List ℕ} {at i : ℕ} {t : List ℕ} → Storing s w at i t → length w ≤ i → t ≡ take at s ++ (w ++ drop (at + length w) s)
store-end {s} {w} {at} {i} {t} h l =
    let n : i ≡ length w = omega (arith, h.few) in
    h.same ∙ ap (paste s at w) n ∙ ap (λ (x : List ℕ). take at s ++ x ++ drop (at + length w) s) (take-length w) ∙ append_assoc (take at s) w (drop (at + length w) s)

pub slot-stored : (s w t : List ℕ) (farm : ℕ) → length w ≡ 1788 → t ≡ take (1788 * farm) s ++ (w ++ drop (1788 * farm + length w) s) → t ≡ take (1788 * farm) s ++ (w ++ drop (1788 * suc farm) s)
slot-stored s w t farm l e = let k : 1788 * farm + length w ≡ 1788 * suc farm = omega arith in e ∙ ap (λ (n : ℕ). take (1788 * farm) s ++ (w ++ drop n s)) k

drop-zeros : (n k : ℕ) → drop k (replicate {A = ℕ} n 0) ≡ replicate (n - k) 0
drop-zeros n zero = let e : n - 0 ≡ n = omega arith in rw e
drop-zeros zero (suc k) = let e : 0 - suc k ≡ 0 = omega arith in rw e
drop-zeros (suc n) (suc k) = let e : suc n - suc k ≡ n - k = omega arith in rw e (drop-zeros n k)

-- bytes written into a slot of zeros
pub filled : (w : List ℕ) → w ++ drop (length w) (replicate {A = ℕ} 1788 0) ≡ slot_of w
unfolding slot_of
filled w = ap (λ (x : List ℕ). w ++ x) (drop-zeros 1788 (length w))

blank-length : (m : ℕ) → length (encode m blank) ≡ 6
unfolding encode bytes_of
blank-length m = refl

blank-few : (m : ℕ) → length (blank_bytes m) ≤ 1788
unfolding blank_bytes
blank-few m = omega (arith, blank-length m)

pub blank-slot : (m : ℕ) (slot : List ℕ) → slot ≡ buffer_after (written (length (replicate {A = ℕ} 1788 0)) (encode m blank)) (replicate 1788 0) → slot ≡ slot_of (blank_bytes m)
unfolding blank_bytes
blank-slot m slot e =
    e ∙ ap (λ o. buffer_after o (replicate 1788 0)) (fits (length (replicate {A = ℕ} 1788 0)) (encode m blank) (omega (arith, blank-length m, length-replicate {A = ℕ} 1788 0))) ∙ filled (encode m blank)

pub blank-put : (m : ℕ) (s t slot : List ℕ) (farm : ℕ) → slot ≡ slot_of (blank_bytes m) → t ≡ take (1788 * farm) s ++ (slot ++ drop (1788 * suc farm) s) → t ≡ put_slot s farm (blank_bytes m)
unfolding put_slot
blank-put m s t slot farm e f = f ∙ ap (λ (x : List ℕ). take (1788 * farm) s ++ (x ++ drop (1788 * suc farm) s)) e

-- ---- every slot

-- The slots before farm k are blank.
pub record Blanking (m : ℕ) (s : List ℕ) (k : ℕ) : Type 0 where
  pub size : length s ≡ 14304
  pub few : k ≤ 8
  pub front : take (1788 * k) s ++ state_of (replicate (8 - k) (blank_bytes m)) ≡ state_of (fresh_station m)

pub blanking-start : (m : ℕ) (s : List ℕ) → length s ≡ 14304 → Blanking m s 0
unfolding fresh_station
blanking-start m s l = record { size = l; few = omega arith; front = refl }

one_more : (n : ℕ) (w : List ℕ) → state_of (replicate (suc n) w) ≡ slot_of w ++ state_of (replicate n w)
unfolding state_of
one_more n w = refl

pub blanking-next : {m : ℕ} {s : List ℕ} {k : ℕ} (t : List ℕ) → Blanking m s k → k < 8 → length t ≡ length s → t ≡ put_slot s k (blank_bytes m) → Blanking m t (k + 1)
unfolding put_slot
blanking-next {m} {s} {k} t i l n e =
    let w : List ℕ = blank_bytes m in
    let front : length (take (1788 * k) s) ≡ 1788 * k = length-take-le (1788 * k) s (omega (arith, i.size)) in
    let slot : length (slot_of w) ≡ 1788 = slot-length w (omega (arith, blank-few m)) in
    let both : length (take (1788 * k) s ++ slot_of w) ≡ 1788 * (k + 1) = omega (arith, length-append (take (1788 * k) s) (slot_of w)) in
    let a : t ≡ (take (1788 * k) s ++ slot_of w) ++ drop (1788 * suc k) s = e ∙ sym (append_assoc (take (1788 * k) s) (slot_of w) (drop (1788 * suc k) s)) in
    let c : take (1788 * (k + 1)) t ≡ take (1788 * k) s ++ slot_of w = ap (take (1788 * (k + 1))) a ∙ take_at (take (1788 * k) s ++ slot_of w) (drop (1788 * suc k) s) (1788 * (k + 1)) both in
    let d : 8 - k ≡ suc (8 - (k + 1)) = omega arith in
    let r : state_of (replicate (8 - k) w) ≡ slot_of w ++ state_of (replicate (8 - (k + 1)) w) = ap (λ (j : ℕ). state_of (replicate j w)) d ∙ one_more (8 - (k + 1)) w in
    record {
      size = n ∙ i.size;
      few = omega arith;
      front = ap (λ (x : List ℕ). x ++ state_of (replicate (8 - (k + 1)) w)) c ∙ append_assoc (take (1788 * k) s) (slot_of w) (state_of (replicate (8 - (k + 1)) w)) ∙ ap (λ (x : List ℕ). take (1788 * k) s ++ x) (sym r) ∙ i.front;
    }

pub blanking-end : {m : ℕ} {s : List ℕ} {k : ℕ} → Blanking m s k → 8 ≤ k → s ≡ state_of (fresh_station m)
unfolding state_of
blanking-end {m} {s} {k} i l =
    let e : k ≡ 8 = omega (arith, i.few) in
    let z : 8 - k ≡ 0 = omega arith in
    sym (append-nil s) ∙ ap (λ (x : List ℕ). x ++ []) (sym (take_all (1788 * k) s (omega (arith, i.size)))) ∙ ap (λ (j : ℕ). take (1788 * k) s ++ state_of (replicate j (blank_bytes m))) (sym z) ∙ i.front
