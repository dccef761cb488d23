-- One turn of each loop: over the records of a log, and over the logs. Assumes nothing.
use Rattle.std.specs.Prelude.{◌≡◌, refl, ℕ, zero, suc, ◌+◌, ◌-◌, ◌≤◌, ◌<◌, pos, get_or, drop}
use Rattle.std.proofs.Common.{sym, subst, ◌∙◌, arith, length-append, drop_of_length-le, drop-cons, get_or-append-add}
use Rattle.std.proofs.Math.Path.{ap}
use mathlib.Core.List.{List, [], ◌∷◌, ◌++◌, map, append-nil}
use Rattle.std.proofs.Math.ListN.{length, length-map, get_or-append}
use Rattle.std.proofs.lemmas.List.Edits.{sets}
use Rattle.number.specs.Writing as writing
use Rattle.number.specs.Writing.{Writing, StoredAt}
use Rattle.record.specs.Record.{short_bytes, close_bytes, close_fields, chunk_bytes}
use Rattle.record.proofs.Encoding.{short-length, close-length}
use Rattle.hill.specs.Row.{joined}
use Rattle.day_list.specs.Days.{open_one, ways, days, small_days}
use Rattle.day_list.specs.WayLaws.{opening_ways}
use Rattle.day_list.proofs.WayLaws.{closing_ways, ways-over, ways-none, ways_on, days-are}
use Rattle.small_days.specs.Promised.{Small, DayFits, way_bytes, WayFits}

get_d_map : {A B : Type 0} (f : A → B) (l : List A) (n : ℕ) (a : A) (b : B) → n < length l → get_or (map f l) n b ≡ f (get_or l n a)
get_d_map f [] n a b h = absurd (omega arith)
get_d_map f (x ∷ l) zero a b h = refl
get_d_map f (x ∷ l) (suc n) a b h = get_d_map f l n a b (omega arith)

-- ---- the ways to go on from a level: those with an open come first

opening-length : (left level : ℕ) → length (opening_ways (suc left) level) ≡ length (ways left (suc level))
opening-length left level = length-map (ways left (suc level)) (λ fs. open_one level ∷ fs)

-- the first record of the way with `before` others before it, and the rest
opening-first : (left level before : ℕ) → before < length (opening_ways left level) → (0 < left) × (before < length (ways (left - 1) (suc level))) × (get_or (opening_ways left level) before [] ≡ open_one level ∷ get_or (ways (left - 1) (suc level)) before [])
opening-first zero level before h = absurd (omega arith)
opening-first (suc left) level before h =
    let e : suc left - 1 ≡ left = omega arith in
    let b : before < length (ways left (suc level)) = omega (arith, opening-length left level) in
    (omega arith, rw e b, rw e (get_d_map (λ fs. open_one level ∷ fs) (ways left (suc level)) before [] [] b))

-- ---- the bytes w of a way from level 1 on, written up to a level with so many records left to open

pub record WaySoFar (w : List ℕ) (start : ℕ) (buffer : List ℕ) (at left level before : ℕ) (out : List ℕ) : Type 0 where
  pub low : left + level ≤ 8
  pub there : before < length (ways left level)
  pub records : Writing w start buffer (chunk_bytes (get_or (ways left level) before [])) at out

pub way-begun : (left rank start : ℕ) (buffer : List ℕ) → WayFits left rank start (length buffer) → WaySoFar (way_bytes left rank) start buffer start left 1 rank buffer
way-begun left rank start buffer h = record { low = omega (arith, h.few); there = h.there; records = writing.begin (way_bytes left rank) start buffer h.fits }

module _ {w : List ℕ} {start : ℕ} {buffer : List ℕ} {at left level before : ℕ} {out : List ℕ} (i : WaySoFar w start buffer at left level before out) (high : 0 < level) where
  -- at a level above 0
  ways-here : ways left level ≡ opening_ways left level ++ closing_ways left (level - 1)
  ways-here = go level high
    where
      go : (l : ℕ) → 0 < l → ways left l ≡ opening_ways left l ++ closing_ways left (l - 1)
      go zero h = absurd (omega arith)
      go (suc l) h = let e : suc l - 1 ≡ l = omega arith in rw e (ways_on left l)

  module _ (m : before < length (opening_ways left level)) where
    open-rest : chunk_bytes (get_or (ways left level) before []) ≡ short_bytes level (pos 1) ++ chunk_bytes (get_or (ways (left - 1) (suc level)) before [])
    open-rest =
        ap (λ l. chunk_bytes (get_or l before [])) ways-here
        ∙ ap chunk_bytes (get_or-append (opening_ways left level) (closing_ways left (level - 1)) [] before m)
        ∙ ap chunk_bytes (opening-first left level before m).2

    pub some_left : 1 ≤ left
    some_left = (opening-first left level before m).0

    pub open-fits : at + 10 ≤ length out
    open-fits = omega (arith, writing.fits i.records (short_bytes level (pos 1)) _ open-rest, short-length level (pos 1))

    pub open-written : {out' : List ℕ} {level' : ℕ} → level' ≡ suc level → out' ≡ sets out at (short_bytes level (pos 1)) → WaySoFar w start buffer (at + 10) (left - 1) level' before out'
    open-written e s = rw e (record {
      low = omega (arith, i.low, some_left);
      there = (opening-first left level before m).1;
      records = writing.next i.records (short_bytes level (pos 1)) open-rest s (omega (arith, short-length level (pos 1)));
    })

  module _ (m : length (opening_ways left level) ≤ before) where
    abbrev opening : ℕ
    opening = length (opening_ways left level)

    ways-long : length (ways left level) ≡ opening + length (ways left (level - 1))
    ways-long = ap length ways-here ∙ length-append (opening_ways left level) (closing_ways left (level - 1)) ∙ ap (λ k. opening + k) (length-map (ways left (level - 1)) (λ fs. close_fields (level - 1) ∷ fs))

    below : before - opening < length (ways left (level - 1))
    below = omega (arith, i.there, ways-long)

    close-rest : chunk_bytes (get_or (ways left level) before []) ≡ close_bytes (level - 1) ++ chunk_bytes (get_or (ways left (level - 1)) (before - opening) [])
    close-rest =
        let e : opening + (before - opening) ≡ before = omega arith in
        ap (λ l. chunk_bytes (get_or l before [])) ways-here
        ∙ ap (λ k. chunk_bytes (get_or (opening_ways left level ++ closing_ways left (level - 1)) k [])) (sym e)
        ∙ ap chunk_bytes (get_or-append-add (opening_ways left level) (closing_ways left (level - 1)) (before - opening) [])
        ∙ ap chunk_bytes (get_d_map (λ fs. close_fields (level - 1) ∷ fs) (ways left (level - 1)) (before - opening) [] [] below)

    pub close-fits : at + 6 ≤ length out
    close-fits = omega (arith, writing.fits i.records (close_bytes (level - 1)) _ close-rest, close-length (level - 1))

    pub close-written : {out' : List ℕ} {before' : ℕ} → before' ≡ before - opening → out' ≡ sets out at (close_bytes (level - 1)) → WaySoFar w start buffer (at + 6) left (level - 1) before' out'
    close-written e s = rw e (record {
      low = omega (arith, i.low);
      there = below;
      records = writing.next i.records (close_bytes (level - 1)) close-rest s (omega (arith, close-length (level - 1)));
    })

-- at level 0 the log is over
over : (left before : ℕ) → before < length (ways left 0) → get_or (ways left 0) before [] ≡ []
over zero zero h = ap (λ l. get_or l 0 []) ways-over
over zero (suc k) h = absurd (omega (arith, ap length ways-over))
over (suc left) before h = absurd (omega (arith, ap length (ways-none left)))

pub way-written : {w : List ℕ} {start : ℕ} {buffer : List ℕ} {at left level before : ℕ} {out : List ℕ} → WaySoFar w start buffer at left level before out → level ≤ 0 → StoredAt w start buffer out at
way-written {left = left} {level = level} {before = before} i z =
    let e : level ≡ 0 = omega arith in
    writing.done i.records (ap (λ l. chunk_bytes (get_or (ways left l) before [])) e ∙ ap chunk_bytes (over left before (subst (λ l. before < length (ways left l)) e i.there)))

-- ---- a log: the first open, and the rest

module _ (n rank start : ℕ) (buffer : List ℕ) (h : DayFits n rank start (length buffer)) where
  there-day : rank < length (days n)
  unfolding small_days
  there-day = omega (arith, h.there, length-map (days n) chunk_bytes)

  root : (rank < length (ways (n - 1) 1)) × (get_or (small_days n) rank [] ≡ short_bytes 0 (pos 1) ++ way_bytes (n - 1) rank)
  unfolding small_days
  root =
      let w = opening-first n 0 rank (subst (λ l. rank < length l) (days-are n) there-day) in
      (w.1, get_d_map chunk_bytes (days n) rank [] [] there-day ∙ ap (λ l. chunk_bytes (get_or l rank [])) (days-are n) ∙ ap chunk_bytes w.2)

  begun : Writing (get_or (small_days n) rank []) start buffer (get_or (small_days n) rank []) start buffer
  begun = writing.begin (get_or (small_days n) rank []) start buffer h.fits

  pub root-fits : start + 10 ≤ length buffer
  root-fits = omega (arith, writing.fits begun (short_bytes 0 (pos 1)) _ root.1, short-length 0 (pos 1))

  module _ {out : List ℕ} (s : out ≡ sets buffer start (short_bytes 0 (pos 1))) where
    opened : Writing (get_or (small_days n) rank []) start buffer (way_bytes (n - 1) rank) (start + 10) out
    opened = writing.next begun (short_bytes 0 (pos 1)) root.1 s (omega (arith, short-length 0 (pos 1)))

    pub way-fits : WayFits (n - 1) rank (start + 10) (length out)
    way-fits = record { few = omega (arith, h.few); there = root.0; fits = writing.fits opened (way_bytes (n - 1) rank) [] (sym (append-nil (way_bytes (n - 1) rank))) }

    pub day-written : {out' : List ℕ} {r : ℕ} → StoredAt (way_bytes (n - 1) rank) (start + 10) out out' r → StoredAt (get_or (small_days n) rank []) start buffer out' r
    day-written t = writing.done (writing.next opened (way_bytes (n - 1) rank) (sym (append-nil (way_bytes (n - 1) rank))) t.buffer t.ends) refl

-- ---- all logs, written up to a rank

pub record DaysSoFar (n count : ℕ) (buffer : List ℕ) (at rank : ℕ) (out : List ℕ) : Type 0 where
  pub up : rank ≤ count
  pub logs : Writing (joined (small_days n)) 0 buffer (joined (drop rank (small_days n))) at out

pub no-day-yet : (n count : ℕ) (buffer : List ℕ) → length (joined (small_days n)) ≤ length buffer → DaysSoFar n count buffer 0 0 buffer
no-day-yet n count buffer h = record { up = omega arith; logs = writing.begin (joined (small_days n)) 0 buffer (omega arith) }

module _ {n count : ℕ} (s : Small n count) {buffer : List ℕ} {at rank : ℕ} {out : List ℕ} (i : DaysSoFar n count buffer at rank out) where
  module _ (h : rank < count) where
    first-log : joined (drop rank (small_days n)) ≡ get_or (small_days n) rank [] ++ joined (drop (suc rank) (small_days n))
    first-log = ap joined (drop-cons (small_days n) rank [] (omega (arith, s.counted)))

    pub day-fits : DayFits n rank at (length out)
    day-fits = record { some = s.some; few = s.few; there = omega (arith, s.counted); fits = writing.fits i.logs (get_or (small_days n) rank []) _ first-log }

    pub log-written : {out' : List ℕ} {at' rank' : ℕ} → rank' ≡ suc rank → StoredAt (get_or (small_days n) rank []) at out out' at' → DaysSoFar n count buffer at' rank' out'
    log-written e w = rw e (record { up = omega arith; logs = writing.next i.logs (get_or (small_days n) rank []) first-log w.buffer w.ends })

  pub all-written : count ≤ rank → out ≡ sets buffer 0 (joined (small_days n))
  all-written h = (writing.done i.logs (ap joined (drop_of_length-le (small_days n) {i = rank} (omega (arith, s.counted))))).buffer
