-- The pass that prints the lines of a page: each record keeps what `Printing` says, and at the end the lines are there. Assumes nothing.
use Rattle.std.specs.Prelude.{◌≡◌, refl, Bool, true, false, cond, ◌&&◌, ◌⊎◌, ℕ, suc, ◌+◌, ◌-◌, ◌*◌, ◌≤◌, ◌<◌, leb, ℤ, length, get_or, set, take, drop}
use Rattle.std.proofs.Common.{sym, ap₂, subst, ◌∙◌, inl, inr, ⊎_elim, eq-or-lt_of_le, arith, le-leb, lt-ltb, le-ltb, take-append-drop, length-take, length-drop, length-take-le, take-suc, get_or-take, get_or-drop}
use Rattle.std.proofs.Math.Path.{ap}
use Rattle.std.proofs.Math.Logic.{dite}
use mathlib.Core.List.Memᴰ
use mathlib.Core.List.{List, [], ◌∷◌, ◌++◌, Memᴰ}
use Rattle.std.proofs.Math.Decide.{dec_lt}
use Rattle.std.proofs.lemmas.Bool.{lt-leb}
use Rattle.std.proofs.lemmas.List.Edits.{sets}
use Rattle.std.proofs.Math.Seq.{length-sets}
use Rattle.gate.specs.Outcome.{granted, buffer_after}
use Rattle.record.specs.Record.{read_of}
use Rattle.record.proofs.Laws.{sound}
use Rattle.record.specs.declared.Fields.{Fields}
use Rattle.record.specs.declared.Kind.TheVariants as kind
use Rattle.modes.specs.FourModes.{Amounts, InRange}
use Rattle.figure.specs.Mode.{mode_of}
use Rattle.figure.specs.Stored.{none, amounts, passed}
use Rattle.hill.specs.Log.{Record, opening, closing, opened_of}
use Rattle.hill.specs.Closing.{at, OpensAt}
use Rattle.hill.proofs.HeldPlaces.{opening-closing, opens-inside}
use Rattle.hill.specs.Summary.{Hill, rights}
use Rattle.hill.specs.Building.{step, hill_of}
use Rattle.hill.specs.Row.{joined}
use Rattle.chunk.specs.Chunk.{figure_in, IsWellFormed}
use Rattle.chunk.proofs.Laws.{is_open_lem, is-close, one-log}
use Rattle.summary.proofs.Values.{tells-range}
use Rattle.whole_log.specs.Second as second
use Rattle.whole_log.specs.Second.{Second}
use Rattle.slopes.specs.Arrays.{Able, at as number_in, downs}
use Rattle.slopes.specs.Actions.{Pushed}
use Rattle.slopes.specs.Steps.{put_at, figure_at}
use Rattle.slopes.specs.Laws.{counts, is-top}
use Rattle.slopes.specs.Rising.{rising, stands-able, stands-open, stands-close, stands-none, hill-more}
use Rattle.log_records.specs.Numbers.{number_at, IsRecord}
use Rattle.log_records.proofs.NumberLaws.{counted-from-0, number-most}
use Rattle.log_records.specs.Formed.{Formed}
use Rattle.log_records.proofs.Formed.{formed}
use Rattle.log_records.specs.StackLaws.{OpenStack}
use Rattle.log_records.proofs.StackLaws.{open-level, Left, stack-close, stack-end}
use Rattle.log_records.specs.OpenNumbers.{Numbered}
use Rattle.log_records.proofs.OpenNumbers.{numbers-start, numbers-open, numbers-close}
use Rattle.log_records.specs.CloseFigure.{Carried}
use Rattle.log_records.proofs.CloseFigure.{carried-open, carried-close, close-figure}
use Rattle.day_sheet.specs.Sheet.{sheet_line, sheet_lines}
use Rattle.day_sheet.specs.Claims.{InColumns}
use Rattle.day_sheet.proofs.LineLaws.{line-27}
use Rattle.day_sheet.specs.PageLaws.{printed}
use Rattle.day_sheet.proofs.PageLaws.{lines-length, line-is, fits}
use Rattle.sheet.specs.declared.page.Page.{Page}
use Rattle.sheet.specs.declared.page.Progress.{Progress}
use Rattle.sheet.specs.declared.page.Open.{Open}
use Rattle.sheet.specs.declared.page.TheConstants.{NONE_OPEN}
use Rattle.sheet.specs.Promised.{lines_at, line_put, Opened, Closes, Closed, PageFits}
use Rattle.sheet.specs.Printing.{row, Stands, LinesSoFar, Printing, Ready, Noted}
use Rattle.sheet.specs.RowLaws.{row_same, row_other, after_same, rows-joined}

-- ---- a line is put at its place

module _ (page : Page) (n d : ℕ) (z : ℤ) (out : List ℕ) where
  pub before-page : n < page.first → out ≡ line_put page n d z out
  before-page h = rw (lt-leb page.first n h)

  pub after-page : page.first + page.lines ≤ n → out ≡ line_put page n d z out
  after-page h = rw (le-ltb n (page.first + page.lines) h) (go (leb page.first n))
    where
      go : (t : Bool) → out ≡ cond (t && false) (sets out (27 * (n - page.first)) (sheet_line n d z)) out
      go true = refl
      go false = refl

  pub on-page : page.first ≤ n → n < page.first + page.lines → sets out (27 * (n - page.first)) (sheet_line n d z) ≡ line_put page n d z out
  on-page a b = rw (le-leb page.first n a, lt-ltb n (page.first + page.lines) b)

-- ---- one record

module _ (xs : List (Record Amounts)) where
  module _ {page : Page} {k : ℕ} {before : List ℕ} {s : Progress} {os : Open} {out : List ℕ} (i : Printing xs page k before s os out) (inside : k < length xs) where
    few : opened_of (take k xs) ≤ 100_000
    few = omega (arith, number-most xs k, i.formed.few)

    taken : (y : Record Amounts) → at xs k ≡ y → take k xs ++ (y ∷ []) ≡ take (suc k) xs
    taken y e = sym (take-suc xs k (closing 0) inside ∙ ap (λ x. take k xs ++ (x ∷ [])) e)

    -- the hill of one record more
    hill-next : (y : Record Amounts) → at xs k ≡ y → step (mode_of page.mode).algebra (hill_of (mode_of page.mode).algebra (take k xs)) y ≡ hill_of (mode_of page.mode).algebra (take (suc k) xs)
    hill-next y e = hill-more page.mode (take k xs) y ∙ ap (λ ys. hill_of (mode_of page.mode).algebra ys) (taken y e)

    -- ---- an open

    module _ {d : ℕ} {r : Amounts} (e : at xs k ≡ opening d r) where
      level : d ≡ length i.stack
      level = open-level xs i.formed i.open-records.numbers.stands inside (r, e)

      arrays-open : (os' : Open) → d < 64 → InRange r → os'.amounts ≡ put_at os.amounts d r.value r.floor r.ceiling → os'.held ≡ set os.held d (none (mode_of page.mode))
          → Stands (take (suc k) xs) (suc (length i.stack)) os'.amounts page.mode os'.held s.middle
      arrays-open os' lt g ea eh =
          let t : Stands (take k xs) d os.amounts page.mode os.held s.middle = subst (λ n. Stands (take k xs) n os.amounts page.mode os.held s.middle) (sym level) i.open-records.arrays in
          subst (λ ys. Stands ys (suc (length i.stack)) os'.amounts page.mode os'.held s.middle) (taken (opening d r) e)
          (subst (λ n. Stands (take k xs ++ (opening d r ∷ [])) (suc n) os'.amounts page.mode os'.held s.middle) level (stands-open page.mode (take k xs) d r lt g (stands-able page.mode (take k xs) few t) put t))
        where
          put : Pushed d r.value r.floor r.ceiling (none (mode_of page.mode)) os.amounts.values os.amounts.floors os.amounts.ceilings os.held
              os'.amounts.values os'.amounts.floors os'.amounts.ceilings os'.held
          put = rw ea record { values = refl; floors = refl; ceilings = refl; held = eh }

      lines-open : LinesSoFar xs page (suc k) (k ∷ i.stack) before out
      lines-open = record {
        size = i.so_far.size;
        after = i.so_far.after;
        filled = λ p c o l a b. ⊎_elim (λ (g : p ≡ k). inl (Memᴰ.head g)) (λ g. ⊎_elim (λ m. inl (Memᴰ.tail m)) (λ m. inr m) (i.so_far.filled p c o g a b)) (eq-or-lt_of_le (omega arith));
      }

      printing-open : {s' : Progress} {os' : Open} → d < 64 → InRange r → os'.amounts ≡ put_at os.amounts d r.value r.floor r.ceiling → os'.held ≡ set os.held d (none (mode_of page.mode))
          → os'.numbers ≡ set os.numbers d s.opened → s' ≡ record s { opened = s.opened + 1 } → Printing xs page (suc k) before s' os' out
      printing-open {s'} {os'} lt g ea eh en es = rw es record {
        formed = i.formed;
        columns = i.columns;
        room = i.room;
        stack = k ∷ i.stack;
        open-records = record {
          numbers = rw en (numbers-open xs i.formed i.open-records.numbers inside (r, e) (omega arith));
          carried = subst (λ (h : Hill (mode_of page.mode).algebra.Fig Amounts). Carried (mode_of page.mode).algebra (mode_of page.mode).laws xs (suc k) (k ∷ i.stack) (rights h)) (hill-next (opening d r) e)
              (carried-open (mode_of page.mode).algebra (mode_of page.mode).laws xs k i.stack (hill_of (mode_of page.mode).algebra (take k xs)) e level i.open-records.carried);
          arrays = arrays-open os' lt g ea eh;
        };
        so_far = lines-open;
      }

    -- ---- a close

    module _ {d : ℕ} (e : at xs k ≡ closing d) where
      -- the record that it closes
      gone : Left xs k i.stack d
      gone = stack-close xs i.formed i.stack i.open-records.numbers.stands inside e

      open-stack : OpenStack xs k (gone.top ∷ gone.rest)
      open-stack = subst (OpenStack xs k) gone.is i.open-records.numbers.stands.open-records

      carried-all : Carried (mode_of page.mode).algebra (mode_of page.mode).laws xs k (gone.top ∷ gone.rest) (rights (hill_of (mode_of page.mode).algebra (take k xs)))
      carried-all = subst (λ ps. Carried (mode_of page.mode).algebra (mode_of page.mode).laws xs k ps (rights (hill_of (mode_of page.mode).algebra (take k xs)))) gone.is i.open-records.carried

      closes_here : at xs k ≡ closing (length gone.rest)
      closes_here = e ∙ ap closing gone.closes

      arrays-all : Stands (take k xs) (suc d) os.amounts page.mode os.held s.middle
      arrays-all =
          let n : length i.stack ≡ suc d = ap length gone.is ∙ ap suc (sym gone.closes) in
          subst (λ j. Stands (take k xs) j os.amounts page.mode os.held s.middle) n i.open-records.arrays

      able-here : Able (mode_of page.mode) (rising os.amounts.values os.amounts.floors os.amounts.ceilings os.held) (counts 0 (suc d) s.middle)
      able-here = stands-able page.mode (take k xs) few arrays-all

      top-opens : OpensAt xs gone.top d
      top-opens = subst (OpensAt xs gone.top) (sym gone.closes) open-stack.0.opens

      top-number : get_or os.numbers d 0 ≡ number_at xs gone.top
      top-number = ap (λ n. get_or os.numbers n 0) gone.closes ∙ (subst (Numbered xs os.numbers) gone.is i.open-records.numbers.numbered).0

      -- what the arrays have at its depth makes up its figure
      top-figure : figure_at (mode_of page.mode) os.amounts os.held d ≡ printed page.mode xs gone.top
      unfolding passed figure_in
      top-figure = ap (mode_of page.mode).store (sym (close-figure (mode_of page.mode).algebra (mode_of page.mode).laws xs k gone.top gone.rest inside open-stack closes_here
          (amounts (number_in os.amounts.values d) (number_in os.amounts.floors d) (number_in os.amounts.ceilings d)) ((mode_of page.mode).read (number_in os.held d)) (downs (mode_of page.mode) os.amounts.values os.amounts.floors os.amounts.ceilings os.held d)
          (subst (λ (h : Hill (mode_of page.mode).algebra.Fig Amounts). Carried (mode_of page.mode).algebra (mode_of page.mode).laws xs k (gone.top ∷ gone.rest) (rights h)) (sym arrays-all.is) carried-all)))

      can-close : d ≤ 63 → Closes page d s os out
      can-close l = record {
        top = is-top {A = rising os.amounts.values os.amounts.floors os.amounts.ceilings os.held} able-here d refl refl;
        columns = subst (λ n. InColumns n d (figure_at (mode_of page.mode) os.amounts os.held d)) (sym top-number)
            (subst (InColumns (number_at xs gone.top) d) (sym top-figure) (i.columns gone.top d top-opens));
        deep = l;
        room = omega (arith, i.room, i.so_far.size);
      }

      -- ---- the buffer

      abbrev n₀ : ℕ
      n₀ = number_at xs gone.top

      abbrev line₀ : List ℕ
      line₀ = sheet_line (number_at xs gone.top) d (printed page.mode xs gone.top)

      long : length line₀ ≡ 27
      long = line-27 (i.columns gone.top d top-opens)

      -- a record that is not the one closed here has its line already, or is still open
      before-this : (p c : ℕ) → OpensAt xs p c → p < suc k → page.first ≤ number_at xs p → number_at xs p < page.first + page.lines → (number_at xs p ≡ n₀ → ⊥)
          → Memᴰ p gone.rest ⊎ (row out (number_at xs p - page.first) ≡ sheet_line (number_at xs p) c (printed page.mode xs p))
      before-this p c o l a b m =
          let q : p < k = ⊎_elim (λ (g : p ≡ k). absurd (opening-closing (at xs k) c d o.0 (ap (at xs) (sym g) ∙ o.1) e)) (λ g. g) (eq-or-lt_of_le (omega arith)) in
          ⊎_elim (λ t. ⊎_elim (λ (g : p ≡ gone.top). absurd (m (ap (number_at xs) g))) (λ g. inl g) (Memᴰ.cases_cons (subst (Memᴰ p) gone.is t))) (λ t. inr t) (i.so_far.filled p c o q a b)

      -- where its line is on another page
      lines_stay : (page.first ≤ n₀ → n₀ < page.first + page.lines → ⊥) → LinesSoFar xs page (suc k) gone.rest before out
      lines_stay other = record {
        size = i.so_far.size;
        after = i.so_far.after;
        filled = λ p c o l a b. before-this p c o l a b (λ g. other (omega arith) (omega arith));
      }

      -- where it is on this one
      lines_more : page.first ≤ n₀ → n₀ < page.first + page.lines → LinesSoFar xs page (suc k) gone.rest before (sets out (27 * (n₀ - page.first)) line₀)
      lines_more u v = record {
        size = length-sets out (27 * (n₀ - page.first)) line₀ ∙ i.so_far.size;
        after = after_same out (n₀ - page.first) line₀ long page.lines (omega arith) ∙ i.so_far.after;
        filled = λ p c o l a b. dite (dec_lt (number_at xs p) n₀) (λ h. other p c o l a b (λ g. omega arith)) (λ h. dite (dec_lt n₀ (number_at xs p)) (λ j. other p c o l a b (λ g. omega arith)) (λ j. inr (this p c o (omega arith))));
      }
        where
          other : (p c : ℕ) → OpensAt xs p c → p < suc k → page.first ≤ number_at xs p → number_at xs p < page.first + page.lines → (number_at xs p ≡ n₀ → ⊥)
              → Memᴰ p gone.rest ⊎ (row (sets out (27 * (n₀ - page.first)) line₀) (number_at xs p - page.first) ≡ sheet_line (number_at xs p) c (printed page.mode xs p))
          other p c o l a b m = ⊎_elim (λ t. inl t) (λ t. inr (row_other out (n₀ - page.first) line₀ long (number_at xs p - page.first) (λ g. m (omega arith)) ∙ t)) (before-this p c o l a b m)

          this : (p c : ℕ) → OpensAt xs p c → number_at xs p ≡ n₀ → row (sets out (27 * (n₀ - page.first)) line₀) (number_at xs p - page.first) ≡ sheet_line (number_at xs p) c (printed page.mode xs p)
          this p c o g =
              let same : gone.top ≡ p = (counted-from-0 xs).once n₀ gone.top p d c (record { opens = top-opens; number = refl }) (record { opens = o; number = g }) in
              ap (λ j. row (sets out (27 * (n₀ - page.first)) line₀) (j - page.first)) g ∙
              row_same out (n₀ - page.first) line₀ long (omega (arith, i.room, i.so_far.size)) ∙
              line-of p c o same
            where
              line-of : (p c : ℕ) → OpensAt xs p c → gone.top ≡ p → line₀ ≡ sheet_line (number_at xs p) c (printed page.mode xs p)
              line-of p c o same =
                  let t : d ≡ c = cc (top-opens.1, o.1, ap (at xs) same) in
                  ap₂ (λ (q j : ℕ). sheet_line (number_at xs q) j (printed page.mode xs q)) same t

      lines-close : LinesSoFar xs page (suc k) gone.rest before (line_put page n₀ d (printed page.mode xs gone.top) out)
      lines-close =
          dite (dec_lt n₀ page.first) (λ h. subst (LinesSoFar xs page (suc k) gone.rest before) (before-page page n₀ d (printed page.mode xs gone.top) out h) (lines_stay (λ u v. omega arith)))
          (λ h. dite (dec_lt n₀ (page.first + page.lines))
          (λ j. subst (LinesSoFar xs page (suc k) gone.rest before) (on-page page n₀ d (printed page.mode xs gone.top) out (omega arith) j) (lines_more (omega arith) j))
          (λ j. subst (LinesSoFar xs page (suc k) gone.rest before) (after-page page n₀ d (printed page.mode xs gone.top) out (omega arith)) (lines_stay (λ u v. omega arith))))

      printing-close : {s' : Progress} {os' : Open} {out' : List ℕ} → Closed page d s os out s' os' out' → Printing xs page (suc k) before s' os' out'
      printing-close {s'} {os'} {out'} c = record {
        formed = i.formed;
        columns = i.columns;
        room = i.room;
        stack = gone.rest;
        open-records = record {
          numbers = rw (c.opened, c.numbers) (numbers-close xs i.formed i.open-records.numbers inside e gone);
          carried = subst (λ (h : Hill (mode_of page.mode).algebra.Fig Amounts). Carried (mode_of page.mode).algebra (mode_of page.mode).laws xs (suc k) gone.rest (rights h)) (hill-next (closing d) e)
              (carried-close (mode_of page.mode).algebra (mode_of page.mode).laws xs k gone.top gone.rest (hill_of (mode_of page.mode).algebra (take k xs)) inside open-stack e gone.closes carried-all);
          arrays = rw c.amounts (subst (λ ys. Stands ys (length gone.rest) os.amounts page.mode os'.held s'.middle) (taken (closing d) e)
              (subst (λ n. Stands (take k xs ++ (closing d ∷ [])) n os.amounts page.mode os'.held s'.middle) gone.closes (stands-close page.mode (take k xs) d able-here c.joins arrays-all)));
        };
        so_far = subst (LinesSoFar xs page (suc k) gone.rest before) (sym (c.line ∙ ap₂ (λ (n : ℕ) (z : ℤ). line_put page n d z out) top-number top-figure)) lines-close;
      }

  -- ---- the beginning and the end of the log

  printing-start : {page : Page} {before : List ℕ} {s : Progress} {os : Open} → Formed xs → ((p d : ℕ) → OpensAt xs p d → InColumns (number_at xs p) d (printed page.mode xs p))
      → 27 * page.lines ≤ length before → length os.amounts.values ≡ 64 → length os.amounts.floors ≡ 64 → length os.amounts.ceilings ≡ 64 → length os.held ≡ 64 → length os.numbers ≡ 64
      → s.opened ≡ 0 → s.middle ≡ none (mode_of page.mode) → Printing xs page 0 before s os before
  printing-start {page} f columns room ev ef ec eh en eo em = record {
    formed = f;
    columns = columns;
    room = room;
    stack = [];
    open-records = record { numbers = numbers-start xs f en eo; carried = tt; arrays = stands-none page.mode ev ef ec eh em };
    so_far = record { size = refl; after = refl; filled = λ p d o l a b. absurd (omega arith) };
  }

  module _ {page : Page} {k : ℕ} {before : List ℕ} {s : Progress} {os : Open} {out : List ℕ} (i : Printing xs page k before s os out) (all : length xs ≤ k)
      (there : page.first + page.lines ≤ opened_of xs) where
    long-lines : length (lines_at page xs) ≡ page.lines
    long-lines = length-take page.lines (drop page.first (sheet_lines page.mode xs)) ∙ omega (arith, length-drop page.first (sheet_lines page.mode xs), lines-length page.mode 0 xs)

    each_row : (j : ℕ) → j < length (lines_at page xs) → row out j ≡ get_or (lines_at page xs) j []
    each_row j l =
        let m : j < page.lines = omega (arith, long-lines) in
        let w = (counted-from-0 xs).some (page.first + j) (omega arith) in
        let r : IsRecord xs (page.first + j) w.0 w.1 = w.2 in
        let n : number_at xs w.0 - page.first ≡ j = omega (arith, r.number) in
        ap (row out) (sym n) ∙
        ⊎_elim (λ t. absurd (Memᴰ.not-nil (subst (Memᴰ w.0) (stack-end xs i.formed i.stack i.open-records.numbers.stands all) t))) (λ t. t)
        (i.so_far.filled w.0 w.1 r.opens (omega (arith, opens-inside xs w.0 w.1 r.opens)) (omega (arith, r.number)) (omega (arith, r.number))) ∙
        ap (λ q. sheet_line q w.1 (printed page.mode xs w.0)) r.number ∙
        sym (get_or-take page.lines (drop page.first (sheet_lines page.mode xs)) j [] m ∙ get_or-drop page.first (sheet_lines page.mode xs) j [] ∙ line-is page.mode xs r)

    printing-end : out ≡ buffer_after (granted (joined (lines_at page xs))) before
    printing-end =
        let n : 27 * length (lines_at page xs) ≡ 27 * page.lines = ap (λ q. 27 * q) long-lines in
        let t : take (27 * page.lines) out ≡ joined (lines_at page xs) = ap (λ q. take q out) (sym n) ∙ rows-joined (lines_at page xs) out each_row in
        let l : 27 * page.lines ≡ length (joined (lines_at page xs)) = sym (ap length (sym t) ∙ length-take-le (27 * page.lines) out (omega (arith, i.room, i.so_far.size))) in
        sym (take-append-drop (27 * page.lines) out) ∙ ap₂ (λ (a b : List ℕ). a ++ b) t (i.so_far.after ∙ ap (λ q. drop q before) l)

-- ---- one record, as the code has it

module _ {page : Page} {f : Fields} {s : Progress} {os : Open} {out : List ℕ} (b : Ready page f s os out) where
  pub ready-open : (f.depth < 64) × (s.opened ≤ 100_000)
  ready-open = (omega (arith, b.deep), omega (arith, b.printing.open-records.numbers.counted, number-most b.records b.place, b.printing.formed.few))

  pub ready-close : f.kind ≡ kind.Close → Closes page f.depth s os out
  ready-close o = can-close b.records b.printing b.inside (b.here ∙ is-close f o) b.deep

  pub noted-open : {s' : Progress} {os' : Open} → f.kind ≡ kind.Open → Opened page.mode f s os s' os' → Noted page f s os out s' os' out
  noted-open o w xs k before p l e = printing-open xs p l (e ∙ is_open_lem f o) ready-open.0 b.in-range w.amounts w.held w.numbers w.one-more

  pub noted-close : {s' : Progress} {os' : Open} {out' : List ℕ} → f.kind ≡ kind.Close → Closed page f.depth s os out s' os' out' → Noted page f s os out s' os' out'
  noted-close o w xs k before p l e = printing-close xs p l (e ∙ is-close f o) w

-- ---- the pass over a log that was let through

-- Of the log, `rest` is left to be read.
pub record Pass (log : List ℕ) (page : Page) (before rest : List ℕ) (s : Progress) (os : Open) (out : List ℕ) : Type 0 where
  pub records : List (Record Amounts)
  pub is : IsWellFormed log records
  pub there : page.first + page.lines ≤ opened_of records
  pub place : ℕ
  pub second : Second records rest place
  pub printing : Printing records page place before s os out

pub pass-start : {log : List ℕ} {page : Page} {before : List ℕ} {s : Progress} {os : Open} → PageFits log page (length before)
    → length os.amounts.values ≡ 64 → length os.amounts.floors ≡ 64 → length os.amounts.ceilings ≡ 64 → length os.held ≡ 64 → length os.numbers ≡ 64
    → s.opened ≡ 0 → s.middle ≡ none (mode_of page.mode) → Pass log page before log s os before
pass-start {page = page} b ev ef ec eh en eo em = record {
  records = b.records;
  is = b.is;
  there = b.there;
  place = 0;
  second = second.begin b.is;
  printing = printing-start b.records (formed b.records b.is.fine) (fits page.mode b.in_use b.is) b.fits ev ef ec eh en eo em;
}

-- the same of the arrays that the code begins with
pub pass-start-none : {log : List ℕ} {page : Page} {before : List ℕ} {s : Progress} → PageFits log page (length before) → s.opened ≡ 0 → s.middle ≡ none (mode_of page.mode) → Pass log page before log s NONE_OPEN before
pass-start-none b eo em = pass-start b refl refl refl refl refl eo em

module _ {log : List ℕ} {page : Page} {before rest : List ℕ} {s : Progress} {os : Open} {out : List ℕ} (i : Pass log page before rest s os out) where
  module _ {f : Fields} (e : read_of rest ≡ granted f) where
    pub pass-ready : Ready page f s os out
    pass-ready =
        let r = (tells-range f.depth (amounts f.value f.floor f.ceiling)).from (sound rest f e).ranged in
        record { records = i.records; place = i.place; before = before; printing = i.printing; inside = second.inside i.second e; here = second.here i.second e; deep = r.0; in-range = r.1 }

    pub pass-next : {s' : Progress} {os' : Open} {out' : List ℕ} → Noted page f s os out s' os' out'
        → Pass log page before (take (length rest - f.length) (drop f.length rest)) s' os' out'
    pass-next n = record {
      records = i.records;
      is = i.is;
      there = i.there;
      place = suc i.place;
      second = second.next i.second e;
      printing = n i.records i.place before i.printing (second.inside i.second e) (second.here i.second e);
    }

  pub pass-end : length rest ≤ 0 → (xs : List (Record Amounts)) → IsWellFormed log xs → out ≡ buffer_after (granted (joined (lines_at page xs))) before
  pass-end h xs w =
      subst (λ ys. out ≡ buffer_after (granted (joined (lines_at page ys))) before) (one-log i.is w) (printing-end i.records i.printing (second.ended i.second h) i.there)
