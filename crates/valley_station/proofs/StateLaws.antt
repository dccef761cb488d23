-- A state's bytes: what each farm's slot holds; that the state of a station says that station; and that a slot written anew is the farm's summary put there.
-- Assumes nothing.
use Rattle.std.specs.Prelude.{◌≡◌, refl, length, get_or, set, replicate}
use Rattle.std.proofs.Common.{sym, ◌∙◌, arith, length-append, take_at, drop-cons, ext_get_or}
use Rattle.std.proofs.Math.Path.{ap}
use mathlib.Core.List.{List, [], ◌∷◌, ◌++◌, append_assoc}
use Prim.Native.Nat.{ℕ, zero, suc, ◌+◌, ◌-◌, ◌*◌, ◌≤◌, ◌<◌, min}
use Rattle.std.proofs.Math.ListN.{take, drop}
use Rattle.std.proofs.lemmas.List.{length-replicate, set_split}
use Rattle.std.proofs.Math.Seq.{take-nil, drop-nil, take-append-add, drop-append-add}
use Rattle.number.specs.Bytes.{le_at}
use Rattle.number.specs.Laws.{le_at-append}
use Rattle.summary.proofs.Accepted.{HasLength, summary-length}
use Rattle.valley_station.specs.Station.{Station, held}
use Rattle.valley_station.specs.State.{slot_holds, held_in, station_of, slot_of, state_of, put_slot}
use Rattle.valley_station.proofs.StationLaws.{Sound}

-- ---- the eight slots of any state

pub held-slot : (s : List ℕ) (farm : ℕ) → farm ≤ 7 → held (station_of s) farm ≡ held_in s farm
unfolding station_of
held-slot s zero l = refl
held-slot s (suc zero) l = refl
held-slot s (suc (suc zero)) l = refl
held-slot s (suc (suc (suc zero))) l = refl
held-slot s (suc (suc (suc (suc zero)))) l = refl
held-slot s (suc (suc (suc (suc (suc zero))))) l = refl
held-slot s (suc (suc (suc (suc (suc (suc zero)))))) l = refl
held-slot s (suc (suc (suc (suc (suc (suc (suc zero))))))) l = refl
held-slot s (suc (suc (suc (suc (suc (suc (suc (suc farm)))))))) l = absurd (omega arith)

pub eight-farms : (s : List ℕ) → length (station_of s) ≡ 8
unfolding station_of
eight-farms s = refl

-- ---- slots

pub slot-length : (w : List ℕ) → length w ≤ 1788 → length (slot_of w) ≡ 1788
unfolding slot_of
slot-length w l = let zeros : List ℕ = replicate (1788 - length w) 0 in omega (arith, length-append w zeros, length-replicate {A = ℕ} (1788 - length w) 0)

slot-holds : (w rest : List ℕ) → HasLength w → slot_holds (slot_of w ++ rest) ≡ w
unfolding slot_holds slot_of
slot-holds w rest z =
    let zeros : List ℕ = replicate (1788 - length w) 0 in
    let a : (w ++ zeros) ++ rest ≡ w ++ (zeros ++ rest) = append_assoc w zeros rest in
    let n : le_at 2 (w ++ (zeros ++ rest)) 0 ≡ length w = le_at-append 2 w (zeros ++ rest) 0 (omega (arith, z.some)) ∙ z.said in
    let k : min (length w) 1788 ≡ length w = omega (arith, z.few) in
    rw (a, n, k) (take_at w (zeros ++ rest) (length w) refl)

-- ---- the state of a station

abbrev AllHaveLength : Station → Type 0
AllHaveLength [] = Unit {0}
AllHaveLength (w ∷ st) = HasLength w × AllHaveLength st

all-have-length : (st : Station) → ((k : ℕ) → k < length st → HasLength (held st k)) → AllHaveLength st
all-have-length [] h = tt
all-have-length (w ∷ st) h = (h 0 (omega arith), all-have-length st (λ k l. h (suc k) (omega arith)))

state-cons : (w : List ℕ) (st : Station) → state_of (w ∷ st) ≡ slot_of w ++ state_of st
unfolding state_of
state-cons w st = refl

state-nil : state_of [] ≡ []
unfolding state_of
state-nil = refl

pub state-append : (x y : Station) → state_of (x ++ y) ≡ state_of x ++ state_of y
state-append [] y = rw state-nil
state-append (w ∷ x) y = rw (state-cons w (x ++ y), state-cons w x, state-append x y, append_assoc (slot_of w) (state_of x) (state_of y))

pub state-drop : (k : ℕ) (st : Station) → AllHaveLength st → drop (1788 * k) (state_of st) ≡ state_of (drop k st)
state-drop zero st z = refl
state-drop (suc k) [] z = rw state-nil (drop-nil (1788 * suc k))
state-drop (suc k) (w ∷ st) z =
    let e : 1788 * suc k ≡ length (slot_of w) + 1788 * k = omega (arith, slot-length w z.0.few) in
    rw (e, state-cons w st) (drop-append-add (slot_of w) (state_of st) (1788 * k) ∙ state-drop k st z.1)

state-take : (k : ℕ) (st : Station) → AllHaveLength st → take (1788 * k) (state_of st) ≡ state_of (take k st)
state-take zero st z = sym state-nil
state-take (suc k) [] z = rw state-nil (take-nil (1788 * suc k))
state-take (suc k) (w ∷ st) z =
    let e : 1788 * suc k ≡ length (slot_of w) + 1788 * k = omega (arith, slot-length w z.0.few) in
    rw (e, state-cons w st, state-cons w (take k st)) (take-append-add (slot_of w) (state_of st) (1788 * k) ∙ ap (λ (x : List ℕ). slot_of w ++ x) (state-take k st z.1))

state-size : (st : Station) → AllHaveLength st → length (state_of st) ≡ 1788 * length st
state-size [] z = rw state-nil
state-size (w ∷ st) z = rw (state-cons w st) (omega (arith, length-append (slot_of w) (state_of st), slot-length w z.0.few, state-size st z.1))

state-holds : (st : Station) → AllHaveLength st → (k : ℕ) → k < length st → held_in (state_of st) k ≡ held st k
state-holds st z k l =
    ap slot_holds (state-drop k st z ∙ ap state_of (drop-cons st k [] l) ∙ state-cons (held st k) (drop (suc k) st)) ∙ slot-holds (held st k) (state_of (drop (suc k) st)) (length_at st z k l)
  where
    length_at : (st : Station) → AllHaveLength st → (k : ℕ) → k < length st → HasLength (held st k)
    length_at [] z k l = absurd (omega arith)
    length_at (w ∷ st) z zero l = z.0
    length_at (w ∷ st) z (suc k) l = length_at st z.1 k (omega arith)

module _ {m : ℕ} (st : Station) (h : Sound m st) where
  have-length : AllHaveLength st
  have-length = all-have-length st (λ k l. summary-length m (held st k) (h.summaries k (omega (arith, h.eight))))

  pub state-length : length (state_of st) ≡ 14_304
  state-length = state-size st have-length ∙ ap (λ (n : ℕ). 1788 * n) h.eight

  -- THE STATE OF A STATION says that station.
  pub says-station : station_of (state_of st) ≡ st
  says-station = ext_get_or [] (station_of (state_of st)) st (eight-farms (state_of st) ∙ sym h.eight) each
    where
      each : (k : ℕ) → k < length (station_of (state_of st)) → get_or (station_of (state_of st)) k [] ≡ get_or st k []
      each k l = held-slot (state_of st) k (omega (arith, eight-farms (state_of st))) ∙ state-holds st have-length k (omega (arith, eight-farms (state_of st), h.eight))

  -- A SLOT WRITTEN ANEW is the farm's summary put there.
  pub slot-put : (farm : ℕ) (w : List ℕ) → farm ≤ 7 → put_slot (state_of st) farm w ≡ state_of (set st farm w)
  unfolding put_slot
  slot-put farm w l =
      let t : take (1788 * farm) (state_of st) ≡ state_of (take farm st) = state-take farm st have-length in
      let d : drop (1788 * suc farm) (state_of st) ≡ state_of (drop (suc farm) st) = state-drop (suc farm) st have-length in
      rw (t, d) (sym (ap state_of (set_split st farm w (omega (arith, h.eight))) ∙ state-append (take farm st) (w ∷ drop (suc farm) st) ∙ ap (λ (x : List ℕ). state_of (take farm st) ++ x) (state-cons w (drop (suc farm) st))))
