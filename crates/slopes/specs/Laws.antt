-- Each action on the arrays is the action on the hill that they stand for. Assumes nothing.
use Rattle.std.specs.Prelude.{◌≡◌, refl, ℤ, pos, set}
use Rattle.std.proofs.Common.{sym, ap, subst, ◌∙◌, mul-le-mul_right, below_more, get_or-set_other}
use Rattle.std.proofs.Math.Path.{ap₂}
use mathlib.Core.List.{List, [], ◌∷◌}
use Prim.Native.Nat.{ℕ, zero, suc, ◌+◌, ◌*◌, ◌^◌, ◌≤◌, ◌<◌}
use native.Mathlib.Omega.{arith}
use Rattle.std.proofs.Math.ListN.{length, length-set}
use Rattle.std.proofs.Math.Seq.{get_or-set_same}
use Rattle.hill.specs.Log.{opening}
use Rattle.hill.specs.Summary.{Hill, hill, rise, fall}
use Rattle.hill.specs.Building.{push, join, close, step, empty}
use Rattle.hill.proofs.ValidLaws.{weight-join, fine-join}
use Rattle.modes.specs.FourModes.{Amounts, limit, InRange}
use Rattle.figure.specs.Mode.{Mode}
use Rattle.figure.specs.Stored.{IsStored, size_of, none, combined, passed, amounts, Passes, none_read, none-size, none-stored, combined-read, combined-stored, passed-read, passed-size, passed-stored, passes}
use Rattle.slopes.specs.declared.Counts.{Counts}
use Rattle.slopes.specs.Arrays.{Arrays, arrays, at, amounts_at, Fig, ups, downs, slopes_of, weight_of, Fine, Arrays64, Stored, Able, StandsFor}
use Rattle.slopes.specs.Actions.{Pushed, current, Adds, mid_after, held_after, Added, Top, ClosedTop, CanClose, Joins}

abbrev pub counts : (nl n : ℕ) (mid : ℤ) → Counts
counts nl n mid = record { nl = nl; n = n; mid = mid }

-- ---- the counts are the lengths of the slopes

module _ (M : Mode) where
  length-ups : (ls : List ℤ) (n : ℕ) → length (ups M ls n) ≡ n
  length-ups ls zero = refl
  length-ups ls (suc n) = ap suc (length-ups ls n)

  length-downs : (vs fs cs hs : List ℤ) (n : ℕ) → length (downs M vs fs cs hs n) ≡ n
  length-downs vs fs cs hs zero = refl
  length-downs vs fs cs hs (suc n) = ap suc (length-downs vs fs cs hs n)

  pub rise-slopes : (A : Arrays) (c : Counts) → rise (slopes_of M A c) ≡ c.nl
  rise-slopes A c = length-ups A.left c.nl

  pub fall-slopes : (A : Arrays) (c : Counts) → fall (slopes_of M A c) ≡ c.n
  fall-slopes A c = length-downs A.values A.floors A.ceilings A.held c.n

-- ---- arrays that agree below a count stand for the same slopes

abbrev Same : ℕ → List ℤ → List ℤ → Type 0
Same n l m = (i : ℕ) → i < n → at l i ≡ at m i

-- a store at the count changes nothing below it
stored_at : (l : List ℤ) (k : ℕ) (y : ℤ) → Same k (set l k y) l
stored_at l k y i h = get_or-set_other l k i y (pos 0) (omega arith)

ups-same : (M : Mode) (l m : List ℤ) (n : ℕ) → Same n l m → ups M l n ≡ ups M m n
ups-same M l m zero e = refl
ups-same M l m (suc n) e = rw (e n (omega arith), ups-same M l m n (λ i h. e i (omega arith)))

downs-same : (M : Mode) (vs fs cs hs vs' fs' cs' hs' : List ℤ) (n : ℕ) → Same n vs vs' → Same n fs fs' → Same n cs cs' → Same n hs hs'
    → downs M vs fs cs hs n ≡ downs M vs' fs' cs' hs' n
downs-same M vs fs cs hs vs' fs' cs' hs' zero ev ef ec eh = refl
downs-same M vs fs cs hs vs' fs' cs' hs' (suc n) ev ef ec eh =
    rw (ev n (omega arith), ef n (omega arith), ec n (omega arith), eh n (omega arith), downs-same M vs fs cs hs vs' fs' cs' hs' n (λ i h. ev i (omega arith)) (λ i h. ef i (omega arith)) (λ i h. ec i (omega arith)) (λ i h. eh i (omega arith)))

-- what holds of each number below the count and of the one stored there holds below the next count
all-stored : (M : Mode) (l : List ℤ) (k : ℕ) (y : ℤ) → k < length l → ((i : ℕ) → i < k → IsStored M (at l i)) → IsStored M y → (i : ℕ) → i < suc k → IsStored M (at (set l k y) i)
all-stored M l k y h below top i lt =
    below_more (λ j. IsStored M (at (set l k y) j)) k (λ j lt. rw (get_or-set_other l k j y (pos 0) (omega arith)) (below j lt)) (rw (get_or-set_same l k y (pos 0) h) top) i (omega arith)

-- ---- a figure joins the current level

abbrev pub with_held : Arrays → List ℤ → Arrays
with_held A hs = arrays A.left A.values A.floors A.ceilings hs

module _ (M : Mode) (A : Arrays) where
  joined_is : (nl n : ℕ) (mid x : ℤ) → n ≤ length A.held → size_of M (current n mid A.held) + size_of M x < 2 ^ 63
      → slopes_of M (with_held A (held_after M n x A.held)) (counts nl n (mid_after M n x mid)) ≡ join M.algebra (M.read x) (slopes_of M A (counts nl n mid))
  joined_is nl zero mid x h room = ap (λ m. hill (ups M A.left nl) m []) (combined-read M mid x room)
  joined_is nl (suc k) mid x h room =
      let y = combined M (at A.held k) x in
      ap₂ (λ f d. hill (ups M A.left nl) (M.read mid) ((amounts (at A.values k) (at A.floors k) (at A.ceilings k), f) ∷ d))
      (ap M.read (get_or-set_same A.held k y (pos 0) (omega arith)) ∙ combined-read M (at A.held k) x room)
      (downs-same M A.values A.floors A.ceilings (set A.held k y) A.values A.floors A.ceilings A.held k (λ _ _. refl) (λ _ _. refl) (λ _ _. refl) (stored_at A.held k y))

  current-light : (nl n : ℕ) (mid : ℤ) → size_of M (current n mid A.held) ≤ weight_of M (slopes_of M A (counts nl n mid))
  unfolding size_of
  current-light nl zero mid = omega arith
  current-light nl (suc k) mid = omega arith

  current-stored : (nl n : ℕ) (mid : ℤ) → Stored M A (counts nl n mid) → IsStored M (current n mid A.held)
  current-stored nl zero mid s = s.mid
  current-stored nl (suc k) mid s = s.held k (omega arith)

  joined-stored : (nl n : ℕ) (mid x : ℤ) → n ≤ length A.held → size_of M (current n mid A.held) + size_of M x < 2 ^ 63 → Stored M A (counts nl n mid)
      → Stored M (with_held A (held_after M n x A.held)) (counts nl n (mid_after M n x mid))
  joined-stored nl zero mid x h room s = record { left = s.left; mid = combined-stored M mid x room; held = s.held }
  joined-stored nl (suc k) mid x h room s =
      record { left = s.left; mid = s.mid; held = all-stored M A.held k (combined M (at A.held k) x) (omega arith) (λ i l. s.held i (omega arith)) (combined-stored M (at A.held k) x room) }

  joined_length : (n : ℕ) (x : ℤ) → length (held_after M n x A.held) ≡ length A.held
  joined_length zero x = refl
  joined_length (suc k) x = length-set A.held k _

-- ---- what a function leaves, in other words

module _ {M : Mode} {A : Arrays} {c : Counts} {h : Hill (Fig M) Amounts} {b : ℕ} (s : StandsFor M A c h b) where
  pub able : b < 2 ^ 62 → Able M A c
  able lt = record { sound = s.sound; stored = s.stored; fine = subst (Fine M) (sym s.is) s.fine; light = subst (λ (g : Hill (Fig M) Amounts). weight_of M g < 2 ^ 62) (sym s.is) (omega (arith, s.light)) }

  pub restate : {g : Hill (Fig M) Amounts} (b' : ℕ) → h ≡ g → b ≤ b' → StandsFor M A c g b'
  restate b' e l = record { sound = s.sound; stored = s.stored; is = s.is ∙ e; fine = subst (Fine M) e s.fine; light = rw (sym e) (omega (arith, s.light)) }

  -- the counts are the hill's
  pub rise-is : c.nl ≡ rise h
  rise-is = sym (rise-slopes M A c) ∙ ap rise s.is

  pub fall-is : c.n ≡ fall h
  fall-is = sym (fall-slopes M A c) ∙ ap fall s.is

  -- x can join the current level
  pub joins : {x : ℤ} → IsStored M x → b + size_of M x < 2 ^ 62 → Joins M A c x
  joins {x} i lt = record { able = able (omega arith); stored = i; light = subst (λ (g : Hill (Fig M) Amounts). weight_of M g + size_of M x < 2 ^ 62) (sym s.is) (omega (arith, s.light)) }

module _ {M : Mode} {A : Arrays} {c : Counts} {x : ℤ} (j : Joins M A c x) where
  join-room : size_of M (current c.n c.mid A.held) + size_of M x < 2 ^ 63
  join-room = omega (arith, current-light M A c.nl c.n c.mid, j.light)

  -- what `add` asks
  pub adds : Adds M A.held c.n c.mid x
  adds = record {
    whole = j.able.sound.whole.held;
    few = j.able.sound.n≤;
    fits = record { first = current-stored M A c.nl c.n c.mid j.able.stored; second = j.stored; room = join-room };
  }

  -- what it leaves
  pub joined : {hs' : List ℤ} {mid' : ℤ} → Added M A.held c.n c.mid x hs' mid'
      → StandsFor M (with_held A hs') (counts c.nl c.n mid') (join M.algebra (M.read x) (slopes_of M A c)) (weight_of M (slopes_of M A c) + size_of M x)
  unfolding size_of
  joined {hs'} {mid'} a =
      let le : c.n ≤ length A.held = omega (arith, j.able.sound.whole.held, j.able.sound.n≤) in
      rw (a.held, a.middle) record {
        sound = record {
          whole = record {
            left = j.able.sound.whole.left;
            values = j.able.sound.whole.values;
            floors = j.able.sound.whole.floors;
            ceilings = j.able.sound.whole.ceilings;
            held = joined_length M A c.n x ∙ j.able.sound.whole.held;
          };
          nl≤ = j.able.sound.nl≤;
          n≤ = j.able.sound.n≤;
        };
        stored = joined-stored M A c.nl c.n c.mid x le join-room j.able.stored;
        is = joined_is M A c.nl c.n c.mid x le join-room;
        fine = fine-join M.algebra M.sizes (M.read x) (slopes_of M A c) j.able.fine;
        light = weight-join M.algebra M.sizes (M.read x) (slopes_of M A c);
      }

-- ---- a close

abbrev pub with_left : Arrays → List ℤ → Arrays
with_left A ls = arrays ls A.values A.floors A.ceilings A.held

module _ {M : Mode} {A : Arrays} {c : Counts} (a : Able M A c) where
  -- where no record is open, the level is left
  pub close-left : {nl' : ℕ} {mid' z : ℤ} → c.n ≡ 0 → CanClose c → nl' ≡ suc c.nl → mid' ≡ c.mid → z ≡ none M
      → StandsFor M (with_left A (set A.left c.nl mid')) (counts nl' c.n z) (close M.algebra (slopes_of M A c)) (weight_of M (slopes_of M A c))
  unfolding size_of
  close-left {nl'} {mid'} {z} e lt en em ez =
      let room : c.nl < length A.left = omega (arith, a.sound.whole.left) in
      let fits : c.nl < 64 = omega arith in
      rw (en, em, ez, e) record {
        sound = record {
          whole = record {
            left = length-set A.left c.nl c.mid ∙ a.sound.whole.left;
            values = a.sound.whole.values;
            floors = a.sound.whole.floors;
            ceilings = a.sound.whole.ceilings;
            held = a.sound.whole.held;
          };
          nl≤ = fits;
          n≤ = omega arith;
        };
        stored = record { left = all-stored M A.left c.nl c.mid room a.stored.left a.stored.mid; mid = none-stored M; held = λ i l. absurd (omega arith) };
        is =
            ap₂ (λ u m. hill u m []) (ap₂ ◌∷◌ (ap M.read (get_or-set_same A.left c.nl c.mid (pos 0) room)) (ups-same M (set A.left c.nl c.mid) A.left c.nl (stored_at A.left c.nl c.mid)))
            (none_read M);
        fine = tt;
        light = omega (arith, M.sizes.size-ι);
      }

  module _ (t : ℕ) (e : c.n ≡ suc t) where
    top_fine : InRange (amounts_at A t) × Fine M (slopes_of M A (counts c.nl t c.mid))
    top_fine = rw e at a.fine

    top-light : M.sizes.unit + size_of M (at A.held t) + weight_of M (slopes_of M A (counts c.nl t c.mid)) ≡ weight_of M (slopes_of M A c)
    unfolding size_of
    top-light = rw e (omega arith)

    top-room : limit + size_of M (at A.held t) < 2 ^ 63
    top-room = omega (arith, top-light, a.light)

    -- what `through` asks of the deepest record
    pub top-passes : Passes M (at A.values t) (at A.held t)
    top-passes = passes M (amounts_at A t) (at A.held t) top_fine.0 top-room (a.stored.held t (omega arith))

    -- what `add` asks of its figure, one level below
    pub top-joins : {f : ℤ} → f ≡ passed M (amounts_at A t) (at A.held t) → Joins M A (counts c.nl t c.mid) f
    top-joins ef = rw ef record {
      able = record {
        sound = record {
          whole = a.sound.whole;
          nl≤ = a.sound.nl≤;
          n≤ = omega (arith, a.sound.n≤);
        };
        stored = record { left = a.stored.left; mid = a.stored.mid; held = λ i l. a.stored.held i (omega arith) };
        fine = top_fine.1;
        light = omega (arith, top-light, a.light);
      };
      stored = passed-stored M (amounts_at A t) (at A.held t) top_fine.0 top-room;
      light = omega (arith, top-light, a.light, passed-size M (amounts_at A t) (at A.held t) top_fine.0 top-room);
    }

    pub close-top : {mid' : ℤ} {hs' : List ℤ} → ClosedTop M A.values A.floors A.ceilings A.held t c.mid hs' mid'
        → StandsFor M (with_held A hs') (counts c.nl t mid') (close M.algebra (slopes_of M A c)) (weight_of M (slopes_of M A c))
    close-top ad =
        restate (joined (top-joins refl) ad) (weight_of M (slopes_of M A c))
        (ap (λ y. join M.algebra y (slopes_of M A (counts c.nl t c.mid))) (passed-read M (amounts_at A t) (at A.held t) top_fine.0 top-room) ∙ rw e)
        (omega (arith, top-light, passed-size M (amounts_at A t) (at A.held t) top_fine.0 top-room))

    -- what `close_top` asks
    pub is-top : {mid : ℤ} → mid ≡ c.mid → Top M A.values A.floors A.ceilings A.held t mid
    is-top em = record { left = A.left; nl = c.nl; able = rw (em, ← e) a }

-- ---- an open

abbrev pub with_records : Arrays → (vs fs cs hs : List ℤ) → Arrays
with_records A vs fs cs hs = arrays A.left vs fs cs hs

module _ {M : Mode} {A : Arrays} {c : Counts} (a : Able M A c) where
  -- a record with what it holds so far is put on top
  pub pushed : (r : Amounts) (h : ℤ) {vs' fs' cs' hs' : List ℤ} {n' : ℕ} {mid' : ℤ} → c.n < 64 → InRange r → IsStored M h → n' ≡ suc c.n → mid' ≡ c.mid
      → Pushed c.n r.value r.floor r.ceiling h A.values A.floors A.ceilings A.held vs' fs' cs' hs'
      → StandsFor M (with_records A vs' fs' cs' hs') (counts c.nl n' mid') (push ((r, M.read h) ∷ []) (slopes_of M A c)) (weight_of M (slopes_of M A c) + (M.sizes.unit + size_of M h))
  unfolding size_of
  pushed r h lt g s en em p =
      rw (en, em, p.values, p.floors, p.ceilings, p.held) record {
        sound = record {
          whole = record {
            left = a.sound.whole.left;
            values = length-set A.values c.n r.value ∙ a.sound.whole.values;
            floors = length-set A.floors c.n r.floor ∙ a.sound.whole.floors;
            ceilings = length-set A.ceilings c.n r.ceiling ∙ a.sound.whole.ceilings;
            held = length-set A.held c.n h ∙ a.sound.whole.held;
          };
          nl≤ = a.sound.nl≤;
          n≤ = lt;
        };
        stored = record { left = a.stored.left; mid = a.stored.mid; held = all-stored M A.held c.n h (omega (arith, a.sound.whole.held)) a.stored.held s };
        is = simp (
          get_or-set_same A.values c.n r.value (pos 0) (omega (arith, a.sound.whole.values)),
          get_or-set_same A.floors c.n r.floor (pos 0) (omega (arith, a.sound.whole.floors)),
          get_or-set_same A.ceilings c.n r.ceiling (pos 0) (omega (arith, a.sound.whole.ceilings)),
          get_or-set_same A.held c.n h (pos 0) (omega (arith, a.sound.whole.held)),
          downs-same M (set A.values c.n r.value) (set A.floors c.n r.floor) (set A.ceilings c.n r.ceiling) (set A.held c.n h)
              A.values A.floors A.ceilings A.held c.n
              (stored_at A.values c.n r.value) (stored_at A.floors c.n r.floor) (stored_at A.ceilings c.n r.ceiling) (stored_at A.held c.n h),
        );
        fine = (g, a.fine);
        light = omega arith;
      }

  -- a chunk's open: nothing is held yet
  pub opened : (d : ℕ) (r : Amounts) {z : ℤ} {vs' fs' cs' hs' : List ℤ} {n' : ℕ} {mid' : ℤ} → c.n < 64 → InRange r → z ≡ none M → n' ≡ suc c.n → mid' ≡ c.mid
      → Pushed c.n r.value r.floor r.ceiling z A.values A.floors A.ceilings A.held vs' fs' cs' hs'
      → StandsFor M (with_records A vs' fs' cs' hs') (counts c.nl n' mid') (step M.algebra (slopes_of M A c) (opening d r)) (weight_of M (slopes_of M A c) + M.sizes.unit)
  opened d r {z} lt g ez en em p =
      let e : M.read z ≡ M.algebra.ι = ap M.read ez ∙ none_read M in
      restate (pushed r z lt g (rw ez (none-stored M)) en em p) (weight_of M (slopes_of M A c) + M.sizes.unit) (ap (λ f. push ((r, f) ∷ []) (slopes_of M A c)) e)
      (rw (ez, none-size M) (omega arith))

-- ---- one action after another: on arrays that stand for h, an action that adds no weight, and one that adds at most k

module _ {M : Mode} {A : Arrays} {c : Counts} {h : Hill (Fig M) Amounts} {b : ℕ} (s : StandsFor M A c h b) (f : Hill (Fig M) Amounts → Hill (Fig M) Amounts) where
  weight_is : weight_of M (slopes_of M A c) ≤ b
  weight_is = subst (λ (g : Hill (Fig M) Amounts). weight_of M g ≤ b) (sym s.is) s.light

  pub after : {A' : Arrays} {c' : Counts} → StandsFor M A' c' (f (slopes_of M A c)) (weight_of M (slopes_of M A c)) → StandsFor M A' c' (f h) b
  after t = restate t b (ap f s.is) weight_is

  pub after_more : {A' : Arrays} {c' : Counts} (k : ℕ) → StandsFor M A' c' (f (slopes_of M A c)) (weight_of M (slopes_of M A c) + k) → StandsFor M A' c' (f h) (b + k)
  after_more k t = restate t (b + k) (ap f s.is) (omega (arith, weight_is))

-- ---- no record yet

pub emptied : (M : Mode) (A : Arrays) (z : ℤ) → Arrays64 A → z ≡ none M → StandsFor M A (counts 0 0 z) (empty M.algebra) 0
unfolding size_of
emptied M A z s e = rw e record {
  sound = record { whole = s; nl≤ = omega arith; n≤ = omega arith };
  stored = record { left = λ i l. absurd (omega arith); mid = none-stored M; held = λ i l. absurd (omega arith) };
  is = ap (λ m. hill [] m []) (none_read M);
  fine = tt;
  light = omega (arith, M.sizes.size-ι);
}

-- ---- document 01's bound on opened records is far below what the functions ask

pub unit-bound : (M : Mode) (o : ℕ) → o < 2 ^ 32 → M.sizes.unit * o < 2 ^ 62
unit-bound M o lt = omega (arith, mul-le-mul_right o M.unit-small)
