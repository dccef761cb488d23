-- Every way of cutting a log and of merging the pieces comes to the summary of the joined chunks. Assumes nothing.
use Rattle.std.specs.Prelude.{◌≡◌, refl, Bool, true, false, cond, List, [], ◌∷◌, ◌++◌, map, ℕ, zero, suc, ◌+◌, ◌*◌, ◌/◌, ◌≤◌, ◌<◌, length, get_or, take, drop}
use Rattle.std.proofs.Common.{sym, subst, ◌∙◌, append_assoc, mul-suc, arith, length-append, length-take, length-drop, take-append-drop}
use Rattle.std.proofs.lemmas.List.{map-append}
use Rattle.algebra.specs.Algebra.{Algebra, Laws}
use Rattle.gate.specs.Outcome.{Outcome, refused, granted}
use Rattle.hill.specs.Log.{Record}
use Rattle.hill.specs.Summary.{Summary, blank, summary_of}
use Rattle.hill.specs.Merge.{merge_summary}
use Rattle.hill.specs.Row.{joined, halves, merge_row, Call, answer, put, replay, answers, Proper, fitting, on_result}
use Rattle.hill.proofs.SummaryLaws.{merge_summary-assoc, merge-blank, summary_of-append}

-- Half with half comes to merging in order, for every associative merge with a unit.
module _ {A : Type 0} (merge : A → A → A) (unit : A) where
  abbrev pub in_order : List A → A
  in_order [] = unit
  in_order (a ∷ row) = merge a (in_order row)

  module _ (assoc : (a b c : A) → merge (merge a b) c ≡ merge a (merge b c)) (unit-l : (a : A) → merge unit a ≡ a) (unit-r : (a : A) → merge a unit ≡ a) where
    in_order-append : (s t : List A) → in_order (s ++ t) ≡ merge (in_order s) (in_order t)
    in_order-append [] t = sym (unit-l (in_order t))
    in_order-append (a ∷ s) t = rw (in_order-append s t) (sym (assoc a (in_order s) (in_order t)))

    pub halves-in_order : (n : ℕ) (row : List A) → length row ≤ n → halves merge unit n row ≡ in_order row
    halves-in_order zero [] l = refl
    halves-in_order zero (a ∷ row) l = absurd (omega arith)
    halves-in_order (suc n) [] l = refl
    halves-in_order (suc n) (a ∷ []) l = sym (unit-r a)
    halves-in_order (suc n) (a ∷ (b ∷ row)) l =
        let w = a ∷ (b ∷ row) in
        let h = (length w + 1) / 2 in
        rw (halves-in_order n (take h w) (simp length-take (omega arith)), halves-in_order n (drop h w) (simp length-drop (omega arith)))
        (sym (in_order-append (take h w) (drop h w)) ∙ rw (take-append-drop h w))

module _ {S A : Type 0} (φ : S → A) where
  pub map-take : (n : ℕ) (l : List S) → map φ (take n l) ≡ take n (map φ l)
  map-take zero l = refl
  map-take (suc n) [] = refl
  map-take (suc n) (x ∷ l) = rw (map-take n l)

  pub map-drop : (n : ℕ) (l : List S) → map φ (drop n l) ≡ drop n (map φ l)
  map-drop zero l = refl
  map-drop (suc n) [] = refl
  map-drop (suc n) (x ∷ l) = map-drop n l

-- Two rows side by side, the second being φ of the first, of which I holds: where a merge on the second comes to φ of what it comes to on the first,
-- the list of merges keeps the rows so, and gives the same answers.
module _ {S A B : Type 0} (φ : S → A) (g : List S → B → Outcome S) (f : List A → B → Outcome A) (Fit : Call B → List A → Type 0) (I : List S → Type 0) where
  pub record Keeps (c : Call B) (st : List S) : Type 0 where
    pub same : f (map φ (take c.many (drop c.place st))) c.lent ≡ on_result φ (answer g c st)
    pub kept : I (put g (answer g c st) c st)

  pub record SameRows (cs : List (Call B)) (st : List S) : Type 0 where
    pub rows : replay f cs (map φ st) ≡ map φ (replay g cs st)
    pub told : answers f cs (map φ st) ≡ map (on_result φ) (answers g cs st)
    pub stays : I (replay g cs st)

  put_same : (o : Outcome S) (c : Call B) (st : List S) → put f (on_result φ o) c (map φ st) ≡ map φ (put g o c st)
  put_same (refused n) c st = refl
  put_same (granted a) c st = simp (map-append, map-take, map-drop)

  module _ (keeps : (c : Call B) (st : List S) → I st → Fit c (map φ st) → Keeps c st) where
    pub replay-same : (cs : List (Call B)) (st : List S) → I st → Proper f Fit cs (map φ st) → SameRows cs st
    replay-same [] st i k = record { rows = refl; told = refl; stays = i }
    replay-same (c ∷ cs) st i k =
        let w = keeps c st i k.0 in
        let e : answer f c (map φ st) ≡ on_result φ (answer g c st) = rw (← map-drop φ c.place st, ← map-take φ c.many (drop c.place st)) w.same in
        let p : put f (answer f c (map φ st)) c (map φ st) ≡ map φ (put g (answer g c st) c st) = rw e (put_same (answer g c st) c st) in
        let ih = replay-same cs (put g (answer g c st) c st) w.kept (subst (Proper f Fit cs) p k.1) in
        record {
          rows = rw p ih.rows;
          told = rw (p, e, ih.told);
          stays = ih.stays;
        }

-- Lists joined: those of two rows, and how long they are where all have one length.
module _ {X : Type 0} where
  pub joined-append : (x y : List (List X)) → joined (x ++ y) ≡ joined x ++ joined y
  joined-append [] y = refl
  joined-append (a ∷ x) y = rw (joined-append x y, append_assoc a (joined x) (joined y))

  pub joined-long : (k : ℕ) (row : List (List X)) → ((i : ℕ) → i < length row → length (get_or row i []) ≡ k) → length (joined row) ≡ k * length row
  joined-long k [] h = omega arith
  joined-long k (x ∷ row) h =
      let m : length (joined row) ≡ k * length row = joined-long k row (λ i l. h (suc i) (omega arith)) in
      length-append x (joined row) ∙ rw (h 0 (omega arith), m, mul-suc k (length row)) (omega arith)

-- Merging stretches leaves their joined records as they are.
module _ {X B : Type 0} (fits : B → List X → Bool) where
  put-joined : (c : Call B) (st : List (List X)) → joined (put (fitting fits joined) (answer (fitting fits joined) c st) c st) ≡ joined st
  put-joined c st = go (fits c.lent (joined (take c.many (drop c.place st))))
    where
      row : List (List X)
      row = drop c.place st

      go : (t : Bool) → joined (put (fitting fits joined) (cond t (granted (joined (take c.many row))) (refused 12)) c st) ≡ joined st
      go true =
          joined-append (take c.place st) (joined (take c.many row) ∷ drop c.many row) ∙
          rw (← joined-append (take c.many row) (drop c.many row), take-append-drop c.many row, ← joined-append (take c.place st) row, take-append-drop c.place st)
      go false = refl

  pub replay-joined : (cs : List (Call B)) (st : List (List X)) → joined (replay (fitting fits joined) cs st) ≡ joined st
  replay-joined [] st = refl
  replay-joined (c ∷ cs) st = replay-joined cs (put (fitting fits joined) (answer (fitting fits joined) c st) c st) ∙ put-joined c st

module _ {R : Type 0} (𝒜 : Algebra R) (ℒ : Laws 𝒜) where
  open 𝒜 use {Fig}

  -- Half with half on a row of summaries comes to merging in order.
  pub merge_row-in_order : (row : List (Summary Fig R)) → merge_row 𝒜 row ≡ in_order (merge_summary 𝒜) blank row
  merge_row-in_order row = halves-in_order (merge_summary 𝒜) blank (merge_summary-assoc 𝒜 ℒ) (λ a. refl) (merge-blank 𝒜) (length row) row (omega arith)

  in_order-summaries : (xs : List (List (Record R))) → in_order (merge_summary 𝒜) blank (map (summary_of 𝒜) xs) ≡ summary_of 𝒜 (joined xs)
  in_order-summaries [] = refl
  in_order-summaries (x ∷ xs) = rw (in_order-summaries xs) (sym (summary_of-append 𝒜 ℒ x (joined xs)))

  -- The chunks' summaries merged are the summary of the joined chunks.
  pub merge_row-summaries : (xs : List (List (Record R))) → merge_row 𝒜 (map (summary_of 𝒜) xs) ≡ summary_of 𝒜 (joined xs)
  merge_row-summaries xs = merge_row-in_order (map (summary_of 𝒜) xs) ∙ in_order-summaries xs
