-- The pass over a log in four modes: the arrays stand for the hills of the records so far, as long as there is no fault. Assumes nothing.
use Rattle.std.specs.Prelude.{◌≡◌, refl, List, [], ◌∷◌, ◌++◌, ℕ, suc, ◌≤◌, ◌<◌, ℤ, set, Option, None}
use Rattle.std.proofs.Common.{sym, subst, arith}
use Rattle.gate.specs.declared.Refusal.{Refusal}
use Rattle.hill.specs.Log.{Record, closing, start_level, end_level, opened_of}
use Rattle.modes.specs.FourModes.{Amounts, InRange}
use Rattle.figure.specs.Mode.{mode_of}
use Rattle.figure.specs.Stored.{amounts, none}
use Rattle.slopes.specs.declared.OpenAmounts.{OpenAmounts}
use Rattle.slopes.specs.Actions.{Pushed}
use Rattle.slopes.specs.Steps.{put_at, TopOf, ClosedAt}
use Rattle.slopes.specs.Laws.{is-top}
use Rattle.slopes.specs.Rising as one_mode
use Rattle.slopes.specs.Rising.{rising, stands-able, stands-open, stands-close}
use Rattle.record.specs.declared.Fields.{Fields}
use Rattle.record.specs.declared.Kind.TheVariants as kind
use Rattle.chunk.specs.Chunk.{record_of}
use Rattle.chunk.proofs.Laws.{is_open_lem, is-close}
use Rattle.outcome.specs.declared.Figures.{Figures}
use Rattle.day.specs.declared.Holding.{Holding}

-- ---- definitions

-- Nothing held, in each mode.
abbrev pub no_figures : Figures
no_figures = record { net = none (mode_of 1); heaviest = none (mode_of 2); eaten = none (mode_of 5); stamp = none (mode_of 4) }

-- In mode m the open records' amounts a, what they hold, hs, and the middle value stand for the hill of the records xs, whose last one ended at this level.
abbrev pub Stands : List (Record Amounts) → (level : ℕ) → OpenAmounts → (m : ℕ) (hs : List ℤ) (mid : ℤ) → Type 0
Stands xs level a m hs mid = one_mode.Stands xs level a.values a.floors a.ceilings m hs mid

pub record Standing (xs : List (Record Amounts)) (level : ℕ) (mid : Figures) (a : OpenAmounts) (h : Holding) : Type 0 where
  pub net : Stands xs level a 1 h.net mid.net
  pub heaviest : Stands xs level a 2 h.heaviest mid.heaviest
  pub eaten : Stands xs level a 5 h.eaten mid.eaten
  pub stamp : Stands xs level a 4 h.stamp mid.stamp

-- What `open` leaves.
pub record Opened (f : Fields) (a : OpenAmounts) (h : Holding) (a' : OpenAmounts) (h' : Holding) : Type 0 where
  pub amounts : a' ≡ put_at a f.depth f.value f.floor f.ceiling
  pub net : h'.net ≡ set h.net f.depth (none (mode_of 1))
  pub heaviest : h'.heaviest ≡ set h.heaviest f.depth (none (mode_of 2))
  pub eaten : h'.eaten ≡ set h.eaten f.depth (none (mode_of 5))
  pub stamp : h'.stamp ≡ set h.stamp f.depth (none (mode_of 4))

-- What `apply` asks, and what it leaves, where there is no fault.
pub record Ready (fault : Option Refusal) (f : Fields) (mid : Figures) (a : OpenAmounts) (h : Holding) : Type 0 where
  pub records : List (Record Amounts)
  pub few : opened_of records ≤ 100_000
  pub standing : fault ≡ None → Standing records (start_level (record_of f)) mid a h
  pub deep : f.depth ≤ 63
  pub in-range : InRange (amounts f.value f.floor f.ceiling)

abbrev pub Applied : Option Refusal → Fields → (mid : Figures) (a : OpenAmounts) (h : Holding) (mid' : Figures) (a' : OpenAmounts) (h' : Holding) → Type 0
Applied fault f mid a h mid' a' h' =
    fault ≡ None → (xs : List (Record Amounts)) → Standing xs (start_level (record_of f)) mid a h
    → Standing (xs ++ (record_of f ∷ [])) (end_level (record_of f)) mid' a' h'

-- ---- all four

module _ {mid : Figures} {a : OpenAmounts} {h : Holding} where
  at_open : (f : Fields) (xs : List (Record Amounts)) → f.kind ≡ kind.Open → Standing xs (start_level (record_of f)) mid a h → Standing xs f.depth mid a h
  at_open f xs k s = subst (λ (y : Record Amounts). Standing xs (start_level y) mid a h) (is_open_lem f k) s

  at-close : (f : Fields) (xs : List (Record Amounts)) → f.kind ≡ kind.Close → Standing xs (start_level (record_of f)) mid a h → Standing xs (suc f.depth) mid a h
  at-close f xs k s = subst (λ (y : Record Amounts). Standing xs (start_level y) mid a h) (is-close f k) s

  module _ {fault : Option Refusal} {f : Fields} (r : Ready fault f mid a h) (z : fault ≡ None) where
    -- an open is put on top in each mode
    pub applied-open : {a' : OpenAmounts} {h' : Holding} → f.kind ≡ kind.Open → Opened f a h a' h' → Applied fault f mid a h mid a' h'
    applied-open {a'} {h'} k o _ xs s =
        let d = f.depth in
        let v : Amounts = amounts f.value f.floor f.ceiling in
        let lt : f.depth < 64 = omega (arith, r.deep) in
        let g = at_open f r.records k (r.standing z) in
        let t = at_open f xs k s in
        subst (λ (y : Record Amounts). Standing (xs ++ (y ∷ [])) (end_level y) mid a' h') (sym (is_open_lem f k))
        (record {
          net = stands-open 1 xs d v lt r.in-range (stands-able 1 r.records r.few g.net) (put o.net) t.net;
          heaviest = stands-open 2 xs d v lt r.in-range (stands-able 2 r.records r.few g.heaviest) (put o.heaviest) t.heaviest;
          eaten = stands-open 5 xs d v lt r.in-range (stands-able 5 r.records r.few g.eaten) (put o.eaten) t.eaten;
          stamp = stands-open 4 xs d v lt r.in-range (stands-able 4 r.records r.few g.stamp) (put o.stamp) t.stamp;
        })
      where
        put : {x : ℤ} {hs hs' : List ℤ} → hs' ≡ set hs f.depth x → Pushed f.depth f.value f.floor f.ceiling x a.values a.floors a.ceilings hs a'.values a'.floors a'.ceilings hs'
        put e = rw o.amounts record { values = refl; floors = refl; ceilings = refl; held = e }

    module _ (k : f.kind ≡ kind.Close) where
      top : Standing r.records (suc f.depth) mid a h
      top = at-close f r.records k (r.standing z)

      -- what a close asks in one mode, of the middle value as the code has it
      asks : (m : ℕ) {hs : List ℤ} {x y : ℤ} → Stands r.records (suc f.depth) a m hs x → y ≡ x → TopOf (mode_of m) a hs f.depth y
      asks m {hs} s e = is-top {A = rising a.values a.floors a.ceilings hs} (stands-able m r.records r.few s) f.depth refl e

      pub asks-net : {m : ℤ} → m ≡ mid.net → TopOf (mode_of 1) a h.net f.depth m
      asks-net = asks 1 top.net

      pub asks-heaviest : {m : ℤ} → m ≡ mid.heaviest → TopOf (mode_of 2) a h.heaviest f.depth m
      asks-heaviest = asks 2 top.heaviest

      pub asks-eaten : {m : ℤ} → m ≡ mid.eaten → TopOf (mode_of 5) a h.eaten f.depth m
      asks-eaten = asks 5 top.eaten

      pub asks-stamp : {m : ℤ} → m ≡ mid.stamp → TopOf (mode_of 4) a h.stamp f.depth m
      asks-stamp = asks 4 top.stamp

      closed : (m : ℕ) (xs : List (Record Amounts)) {hs hs' : List ℤ} {x y y' x' : ℤ} → Stands r.records (suc f.depth) a m hs x → Stands xs (suc f.depth) a m hs x
          → y ≡ x → x' ≡ y' → ClosedAt (mode_of m) a hs f.depth y hs' y' → Stands (xs ++ (closing f.depth ∷ [])) f.depth a m hs' x'
      closed m xs s t e e' c = rw e' (stands-close m xs f.depth (stands-able m r.records r.few s) (rw e at c) t)

      -- a close closes the deepest record in each mode
      pub applied-close : {mid' : Figures} {h' : Holding} {mn mh me ms n x e s : ℤ}
          → mn ≡ mid.net → mid'.net ≡ n → ClosedAt (mode_of 1) a h.net f.depth mn h'.net n
          → mh ≡ mid.heaviest → mid'.heaviest ≡ x → ClosedAt (mode_of 2) a h.heaviest f.depth mh h'.heaviest x
          → me ≡ mid.eaten → mid'.eaten ≡ e → ClosedAt (mode_of 5) a h.eaten f.depth me h'.eaten e
          → ms ≡ mid.stamp → mid'.stamp ≡ s → ClosedAt (mode_of 4) a h.stamp f.depth ms h'.stamp s
          → Applied fault f mid a h mid' a h'
      applied-close {mid'} {h'} p p' n q q' x u u' e v v' s _ xs st =
          let t = at-close f xs k st in
          subst (λ (y : Record Amounts). Standing (xs ++ (y ∷ [])) (end_level y) mid' a h') (sym (is-close f k))
          (record {
            net = closed 1 xs top.net t.net p p' n;
            heaviest = closed 2 xs top.heaviest t.heaviest q q' x;
            eaten = closed 5 xs top.eaten t.eaten u u' e;
            stamp = closed 4 xs top.stamp t.stamp v v' s;
          })
