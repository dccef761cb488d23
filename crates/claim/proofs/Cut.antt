-- A cut of a log: each chunk has just the records between its places, and the chunks joined are the log. Every list of readable chunks is such a cut of
-- what they join to. Assumes nothing.
use Rattle.std.proofs.Math.Path.{◌≡◌, subst}
use Rattle.std.specs.Prelude.{refl, Bool, cond, List, [], ◌∷◌, ◌++◌, map, ℕ, zero, suc, ◌+◌, ◌≤◌, ◌<◌, leb, eqb, take, drop}
use Rattle.std.proofs.Common.{sym, ap, ap₂, ◌∙◌, append_assoc, append-nil, arith, lit≤, length-append, length-take, length-drop, take-append-drop, length-take-le, take-add, drop-drop, take_at, drop_at, le-leb}
use Rattle.std.proofs.Math.Bool.{true, false}
use Rattle.std.proofs.Math.ListN.{length}
use Rattle.std.proofs.Math.Seq.{slice}
use Rattle.gate.specs.Outcome.{Outcome, refused, granted}
use Rattle.number.specs.Bytes.{le_at}
use Rattle.number.specs.Laws.{le_at-append}
use Rattle.record.specs.Record.{in_range, accepted, whole, by_shape, read_of, before, records_of, full_open, open_with_batch, short_open, close}
use Rattle.record.proofs.Laws.{sound, records-nil, records-next}
use Rattle.record.proofs.Joined.{open-same, short-same, close-same}
use Rattle.record.proofs.Readable.{First, first_read, none_read}
use Rattle.record.specs.declared.Fields.{Fields}
use Rattle.modes.specs.FourModes.{Amounts}
use Rattle.hill.specs.Log.{Record}
use Rattle.hill.specs.Row.{joined}
use Rattle.chunk.specs.Chunk.{record_of, chunk_of}
use Rattle.claim.specs.Claim.{fields_found, fields_read, records_read, byte_at, InOrder, parts, cut_at}
use Rattle.claim.proofs.Stretches.{Reads, AllRead, fields-found, append-fields, reads-joined}

-- ---- a record is read of its own bytes

accepted-is : (g f : Fields) → accepted g ≡ granted f → g ≡ f
unfolding accepted
accepted-is g f = go (in_range g.depth g.value g.floor g.ceiling)
  where
    go : (t : Bool) → cond t (granted g) (refused 3) ≡ granted f → g ≡ f
    go true e = cc
    go false e = let z : ◌≡◌ {A = ℕ} 0 1 = cc in absurd (omega arith)

module _ (a b : List ℕ) where
  -- y reads the record that x reads, if that stands in a
  Back : Outcome Fields → Outcome Fields → Type 0
  Back x y = (f : Fields) → x ≡ granted f → f.length ≤ length a → y ≡ granted f

  no_record : (y : Outcome Fields) → Back (refused 3) y
  unfolding Back
  no_record y f e h = let z : ◌≡◌ {A = ℕ} 0 1 = cc in absurd (omega arith)

  either : (t : Bool) (x y x' y' : Outcome Fields) → Back x x' → Back y y' → Back (cond t x y) (cond t x' y')
  either true x y x' y' p q = p
  either false x y x' y' p q = q

  whole_back : (F : List ℕ → Fields) → ((F (a ++ b)).length ≤ length a → F (a ++ b) ≡ F a) → Back (whole (a ++ b) (F (a ++ b))) (whole a (F a))
  unfolding Back whole
  whole_back F same = go (leb (F (a ++ b)).length (length (a ++ b)))
    where
      go : (t : Bool) → Back (cond t (accepted (F (a ++ b))) (refused 3)) (whole a (F a))
      go true f e h =
          let g : F (a ++ b) ≡ f = accepted-is (F (a ++ b)) f e in
          let n : (F (a ++ b)).length ≤ length a = subst (λ (x : Fields). x.length ≤ length a) (sym g) h in
          subst (λ (x : Fields). whole a x ≡ granted f) (same n) (rw (le-leb (F (a ++ b)).length (length a) n) e)
      go false f e h = no_record (whole a (F a)) f e h

  shape-back : (kind len : ℕ) → Back (by_shape kind len (a ++ b)) (by_shape kind len a)
  unfolding by_shape
  shape-back kind len =
      either (eqb kind 1) _ _ _ _
      (either (eqb len 18) _ _ _ _ (whole_back full_open (open-same a b 18 (lit≤ tt)))
      (either (eqb len 10) _ _ _ _ (whole_back short_open (short-same a b))
      (either (eqb len 22) _ _ _ _ (whole_back open_with_batch (open-same a b 22 (lit≤ tt))) (no_record _))))
      (either (eqb kind 2) _ _ _ _ (either (eqb len 6) _ _ _ _ (whole_back close (close-same a b)) (no_record _)) (no_record _))

  read-front : (f : Fields) → read_of (a ++ b) ≡ granted f → f.length ≤ length a → read_of a ≡ granted f
  unfolding Back read_of
  read-front f e h =
      let six : 6 ≤ length a = omega (arith, (sound (a ++ b) f e).least-6) in
      shape-back (le_at 2 a 2) (le_at 2 a 0) f (rw (le_at-append 2 a b 2 (omega arith), le_at-append 2 a b 0 (omega arith)) at e) h

-- ---- the first records of a log, and the others

drop-take : {A : Type 0} (l n : ℕ) (s : List A) → l ≤ length s → drop l (take (l + n) s) ≡ take n (drop l s)
drop-take l n s h = ap (drop l) (take-add l n s) ∙ drop_at (take l s) (take n (drop l s)) l (length-take-le l s h)

records-front : (fs : List Fields) (k : ℕ) (s : List ℕ) → records_of s ≡ granted fs → records_of (take (byte_at fs k) s) ≡ granted (take k fs)
records-front fs zero s e = records-nil
records-front [] (suc k) s e = records-nil
records-front (f ∷ fs) (suc k) s e =
    let w : First s f fs = first_read s f fs e in
    let n : ℕ = f.length + byte_at fs k in
    let inside : f.length ≤ length s = (sound s f w.here).inside in
    let fits : f.length ≤ length (take n s) = omega (arith, length-take n s) in
    records-next (take n s) f (read-front (take n s) (drop n s) f (rw (take-append-drop n s) w.here) fits) ∙
    ap (λ (t : List ℕ). before f (records_of t)) (drop-take f.length (byte_at fs k) s inside) ∙
    ap (before f) (records-front fs k (drop f.length s) w.rest)

records-rest : (fs : List Fields) (k : ℕ) (s : List ℕ) → records_of s ≡ granted fs → records_of (drop (byte_at fs k) s) ≡ granted (drop k fs)
records-rest fs zero s e = e
records-rest [] (suc k) s e = e
records-rest (f ∷ fs) (suc k) s e =
    ap records_of (sym (drop-drop (byte_at fs k) f.length s)) ∙ records-rest fs k (drop f.length s) (first_read s f fs e).rest

-- ---- places

front-place : (fs : List Fields) (a b : ℕ) → a ≤ b → byte_at (take b fs) a ≡ byte_at fs a
front-place fs zero b h = refl
front-place fs (suc a) zero h = absurd (omega arith)
front-place [] (suc a) (suc b) h = refl
front-place (f ∷ fs) (suc a) (suc b) h = ap (λ (n : ℕ). f.length + n) (front-place fs a b (omega arith))

byte_le : (fs : List Fields) (a b : ℕ) → a ≤ b → byte_at fs a ≤ byte_at fs b
byte_le fs zero b h = omega arith
byte_le fs (suc a) zero h = absurd (omega arith)
byte_le [] (suc a) (suc b) h = omega arith
byte_le (f ∷ fs) (suc a) (suc b) h = omega (arith, byte_le fs a b (omega arith))

bytes-in-order : (fs : List Fields) (a : ℕ) (ps : List ℕ) (n : ℕ) → InOrder a ps n → InOrder (byte_at fs a) (map (byte_at fs) ps) (byte_at fs n)
bytes-in-order fs a [] n h = byte_le fs a n h
bytes-in-order fs a (p ∷ ps) n h = (byte_le fs a p (omega (arith, h.0)), bytes-in-order fs p ps n h.1)

-- ---- parts

seam : {A : Type 0} (a p : ℕ) (xs : List A) → a ≤ p → slice a p xs ++ drop p xs ≡ drop a xs
seam zero p xs h = take-append-drop p xs
seam (suc a) zero xs h = absurd (omega arith)
seam (suc a) (suc p) [] h = refl
seam (suc a) (suc p) (x ∷ xs) h = seam a p xs (omega arith)

pub parts-joined : {A : Type 0} (xs : List A) (a : ℕ) (ps : List ℕ) (n : ℕ) → InOrder a ps n → joined (parts xs a ps) ≡ drop a xs
parts-joined xs a [] n h = append-nil (drop a xs)
parts-joined xs a (p ∷ ps) n h = ap (λ (t : List _). slice a p xs ++ t) (parts-joined xs p ps n h.1) ∙ seam a p xs (omega (arith, h.0))

module _ {A B : Type 0} (f : A → B) where
  map-take : (n : ℕ) (xs : List A) → map f (take n xs) ≡ take n (map f xs)
  map-take zero xs = refl
  map-take (suc n) [] = refl
  map-take (suc n) (x ∷ xs) = rw (map-take n xs)

  map-drop : (n : ℕ) (xs : List A) → map f (drop n xs) ≡ drop n (map f xs)
  map-drop zero xs = refl
  map-drop (suc n) [] = refl
  map-drop (suc n) (x ∷ xs) = map-drop n xs

  parts-map : (xs : List A) (a : ℕ) (ps : List ℕ) → map (map f) (parts xs a ps) ≡ parts (map f xs) a ps
  parts-map xs a [] = ap (λ (t : List B). t ∷ []) (map-drop a xs)
  parts-map xs a (p ∷ ps) = ap₂ (λ (t : List B) (ts : List (List B)). t ∷ ts) (map-drop a (take p xs) ∙ ap (drop a) (map-take p xs)) (parts-map xs p ps)

-- ---- the cut

module _ (s : List ℕ) (fs : List Fields) (e : records_of s ≡ granted fs) where
  part-read : (a b : ℕ) → a ≤ b → records_of (slice (byte_at fs a) (byte_at fs b) s) ≡ granted (slice a b fs)
  part-read a b h =
      ap (λ (n : ℕ). records_of (drop n (take (byte_at fs b) s))) (sym (front-place fs a b h)) ∙
      records-rest (take b fs) a (take (byte_at fs b) s) (records-front fs b s e)

  parts-read : (a : ℕ) (ps : List ℕ) (n : ℕ) → InOrder a ps n → map records_of (parts s (byte_at fs a) (map (byte_at fs) ps)) ≡ map granted (parts fs a ps)
  parts-read a [] n h = ap (λ (o : Outcome (List Fields)). o ∷ []) (records-rest fs a s e)
  parts-read a (p ∷ ps) n h = ap₂ (λ (o : Outcome (List Fields)) (os : List (Outcome (List Fields))). o ∷ os) (part-read a p (omega (arith, h.0))) (parts-read p ps n h.1)

-- What was read of each chunk, as records; and each was read.
read-records : (cs : List (List ℕ)) (gs : List (List Fields)) → map records_of cs ≡ map granted gs → map records_read cs ≡ map chunk_of gs
unfolding fields_read records_read
read-records [] [] e = refl
read-records [] (g ∷ gs) e = cc
read-records (c ∷ cs) [] e = cc
read-records (c ∷ cs) (g ∷ gs) e =
    let h : records_of c ≡ granted g = cc in
    let t : map records_of cs ≡ map granted gs = cc in
    ap₂ (λ (x : List (Record Amounts)) (xs : List (List (Record Amounts))). x ∷ xs) (ap (λ (o : Outcome (List Fields)). chunk_of (fields_found o)) h) (read-records cs gs t)

each_read : (cs : List (List ℕ)) (gs : List (List Fields)) → map records_of cs ≡ map granted gs → AllRead cs
each_read [] gs e = tt
each_read (c ∷ cs) [] e = absurd (let z : ◌≡◌ {A = ℕ} 0 1 = cc in omega arith)
each_read (c ∷ cs) (g ∷ gs) e =
    let h : records_of c ≡ granted g = cc in
    let t : map records_of cs ≡ map granted gs = cc in
    ((g, h), each_read cs gs t)

-- A CUT OF A READABLE LOG.
module _ (log places : List ℕ) (r : Reads log) (i : InOrder 0 places (length (fields_read log))) where
  log-read : records_of log ≡ granted (fields_read log)
  log-read = r.1 ∙ ap granted (sym (fields-found log r.0 r.1))

  -- Each chunk has just the records between its places, ..
  pub cut-read : map records_of (cut_at log places) ≡ map granted (parts (fields_read log) 0 places)
  unfolding cut_at
  cut-read = parts-read log (fields_read log) log-read 0 places (length (fields_read log)) i

  pub cut-reads : AllRead (cut_at log places)
  cut-reads = each_read (cut_at log places) (parts (fields_read log) 0 places) cut-read

  pub cut-records : map records_read (cut_at log places) ≡ parts (records_read log) 0 places
  unfolding records_read
  cut-records = read-records (cut_at log places) (parts (fields_read log) 0 places) cut-read ∙ parts-map record_of (fields_read log) 0 places

  -- .. and the chunks joined are the log.
  pub cut-joined : joined (cut_at log places) ≡ log
  unfolding cut_at
  cut-joined =
      parts-joined log 0 (map (byte_at (fields_read log)) places) (byte_at (fields_read log) (length (fields_read log))) (bytes-in-order (fields_read log) 0 places (length (fields_read log)) i)

-- ---- every list of readable chunks is a cut

byte-all : (fs : List Fields) (s : List ℕ) → records_of s ≡ granted fs → byte_at fs (length fs) ≡ length s
byte-all [] s e = sym (none_read s e)
byte-all (f ∷ fs) s e =
    let w : First s f fs = first_read s f fs e in
    omega (arith, byte-all fs (drop f.length s) w.rest, length-drop f.length s, (sound s f w.here).inside)

byte-front : (fs gs : List Fields) → byte_at (fs ++ gs) (length fs) ≡ byte_at fs (length fs)
byte-front [] gs = refl
byte-front (f ∷ fs) gs = ap (λ (n : ℕ). f.length + n) (byte-front fs gs)

-- The chunks are what stands in the log from place a on, cut at some places.
abbrev Arises : (log : List ℕ) → List Fields → (a : ℕ) → List (List ℕ) → Type 0
Arises log fs a cs = (ps : List ℕ) × InOrder a ps (length fs) × (parts log (byte_at fs a) (map (byte_at fs) ps) ≡ cs)

-- The place after readable bytes that a readable log begins with.
place_after : (fs : List Fields) (a b : List ℕ) (p : Reads a) → Reads b → records_of (a ++ b) ≡ granted fs → (byte_at fs (length p.0) ≡ length a) × (length p.0 ≤ length fs)
place_after fs a b p q e =
    let k : p.0 ++ q.0 ≡ fs = cc (append-fields a b p q) in
    subst (λ (l : List Fields). (byte_at l (length p.0) ≡ length a) × (length p.0 ≤ length l)) k
    (byte-front p.0 q.0 ∙ byte-all p.0 a p.1, omega (arith, length-append p.0 q.0))

arises : (log : List ℕ) (fs : List Fields) (done : List ℕ) (p : Reads done) (c : List ℕ) (cs : List (List ℕ)) → AllRead (c ∷ cs) → records_of log ≡ granted fs → done ++ joined (c ∷ cs) ≡ log →
    Arises log fs (length p.0) (c ∷ cs)
arises log fs done p c [] a e w =
    let h = place_after fs done (joined (c ∷ [])) p (reads-joined (c ∷ []) a) (ap records_of w ∙ e) in
    let d : drop (length done) log ≡ c = ap (drop (length done)) (sym w) ∙ drop_at done (c ++ []) (length done) refl ∙ append-nil c in
    ([], h.1, ap (λ (t : List ℕ). t ∷ []) (ap (λ (n : ℕ). drop n log) h.0 ∙ d))
arises log fs done p c (d ∷ cs) a e w =
    let q : Reads (done ++ c) = (p.0 ++ a.0.0, append-fields done c p a.0) in
    let v : (done ++ c) ++ joined (d ∷ cs) ≡ log = append_assoc done c (joined (d ∷ cs)) ∙ w in
    let (ps, o, m) = arises log fs (done ++ c) q d cs a.1 e v in
    let h = place_after fs done (joined (c ∷ d ∷ cs)) p (reads-joined (c ∷ d ∷ cs) a) (ap records_of w ∙ e) in
    let k = place_after fs (done ++ c) (joined (d ∷ cs)) q (reads-joined (d ∷ cs) a.1) (ap records_of v ∙ e) in
    let t : take (length (done ++ c)) log ≡ done ++ c = ap (take (length (done ++ c))) (sym v) ∙ take_at (done ++ c) (joined (d ∷ cs)) (length (done ++ c)) refl in
    let x : slice (length done) (length (done ++ c)) log ≡ c = ap (drop (length done)) t ∙ drop_at done c (length done) refl in (
      length q.0 ∷ ps,
      (omega (arith, length-append p.0 a.0.0), o),
      ap₂ (λ (y : List ℕ) (ys : List (List ℕ)). y ∷ ys) (ap₂ (λ (i j : ℕ). slice i j log) h.0 k.0 ∙ x) m,
    )

-- EVERY LIST OF READABLE CHUNKS is a cut of the log that they join to, at places between its records.
pub every-cut : (log : List ℕ) (cs : List (List ℕ)) → 0 < length cs → AllRead cs → joined cs ≡ log → (places : List ℕ) × InOrder 0 places (length (fields_read log)) × (cut_at log places ≡ cs)
unfolding cut_at
every-cut log [] n a w = absurd (omega arith)
every-cut log (c ∷ cs) n a w =
    let r : Reads log = subst Reads w (reads-joined (c ∷ cs) a) in
    arises log (fields_read log) [] ([], records-nil) c cs a (r.1 ∙ ap granted (sym (fields-found log r.0 r.1))) w
