-- The pass that writes the numbers of the line: each record keeps what `Numbering` says, and at the end of the line its numbers are written. Assumes nothing.
use Rattle.std.specs.Prelude.{◌≡◌, refl, List, [], ◌∷◌, ◌++◌, map, ℕ, suc, ◌+◌, ◌-◌, ◌*◌, ◌≤◌, ◌<◌, length, take, drop, set}
use Rattle.std.proofs.Common.{sym, ap, ap₂, subst, ◌∙◌, ⊎_elim, append_assoc, append-nil, eq-or-lt_of_le, arith, take-append-drop, length-append, length-take-le, take_at, drop-set-lt}
use Rattle.std.proofs.Math.Logic.{dite}
use Rattle.std.proofs.lemmas.List.{map-append, length-map, take-set-le}
use Rattle.std.proofs.Math.Decide.{dec_lt}
use Rattle.std.proofs.lemmas.List.Edits.{sets, sets-eq}
use Rattle.std.proofs.Math.Seq.{length-sets}
use Rattle.gate.specs.Outcome.{granted, buffer_after}
use Rattle.number.specs.Bytes.{bytes_of, put_at}
use Rattle.number.specs.Laws.{length-bytes_of}
use Rattle.record.specs.Record.{read_of}
use Rattle.record.specs.declared.Fields.{Fields}
use Rattle.record.specs.declared.Kind.TheVariants as kind
use Rattle.modes.specs.FourModes.{Amounts}
use Rattle.hill.specs.Log.{Record, opening, closing, depth as depth_of, start_level, opens}
use Rattle.hill.specs.Closing.{at}
use Rattle.chunk.specs.Chunk.{record_of, IsWellFormed}
use Rattle.chunk.proofs.Laws.{is_open_lem, is-close, one-log}
use Rattle.whole_log.specs.Second as second
use Rattle.whole_log.specs.Second.{Second}
use Rattle.log_records.specs.Numbers.{number_at}
use Rattle.log_records.proofs.NumberLaws.{number-next, number-before, number-mono, number-most}
use Rattle.log_records.specs.Line.{line_places, line_numbers, number_bytes}
use Rattle.log_records.proofs.CallLaws.{bytes-length}
use Rattle.log_records.specs.Formed.{Formed}
use Rattle.log_records.specs.StackLaws.{unwind, OpenStack}
use Rattle.log_records.proofs.StackLaws.{unwind-append, stack-start, open-level, stack-open, Left, stack-close}
use Rattle.heaviest_line.specs.Search.{IsEnd}
use Rattle.heaviest_line.specs.Promised.{LineFits}
use Rattle.heaviest_line.specs.Numbering.{Begins, Numbering}

-- ---- bytes before and after those that are stored

take-sets : (n : ℕ) (l : List ℕ) (i : ℕ) (vs : List ℕ) → n ≤ i → take n (sets l i vs) ≡ take n l
take-sets n l i [] h = refl
take-sets n l i (v ∷ vs) h = take-sets n (set l i v) (suc i) vs (omega arith) ∙ take-set-le n l i v h

drop-sets : (n : ℕ) (l : List ℕ) (i : ℕ) (vs : List ℕ) → i + length vs ≤ n → drop n (sets l i vs) ≡ drop n l
drop-sets n l i [] h = refl
drop-sets n l i (v ∷ vs) h = drop-sets n (set l i v) (suc i) vs (omega arith) ∙ drop-set-lt n l i v (omega arith)

take-stored : (l : List ℕ) (i : ℕ) (vs : List ℕ) (n : ℕ) → i + length vs ≡ n → n ≤ length l → take n (sets l i vs) ≡ take i l ++ vs
take-stored l i vs n e h =
    let s : length (take i l) ≡ i = length-take-le i l (omega arith) in
    ap (take n) (sets-eq vs l i (omega arith))
    ∙ take_at (take i l ++ vs) (drop (i + length vs) l) n (length-append (take i l) vs ∙ omega arith)

-- ---- numbers one after another

bytes-append : (ns : List ℕ) (n : ℕ) → number_bytes (ns ++ (n ∷ [])) ≡ number_bytes ns ++ bytes_of 4 n
bytes-append [] n = append-nil (bytes_of 4 n)
bytes-append (m ∷ ns) n = ap (λ (l : List ℕ). bytes_of 4 m ++ l) (bytes-append ns n) ∙ sym (append_assoc (bytes_of 4 m) (number_bytes ns) (bytes_of 4 n))

module _ (xs : List (Record Amounts)) (depth : ℕ) where
  begins-kept : (out out' : List ℕ) (ps : List ℕ) (n : ℕ) → length ps ≤ n → ((m : ℕ) → m ≤ 4 * n → take m out' ≡ take m out) → Begins xs depth out ps → Begins xs depth out' ps
  begins-kept out out' [] n l same b = tt
  begins-kept out out' (p ∷ ps) n l same b = ((λ h. same (4 * suc (length ps)) (omega arith) ∙ b.0 h), begins-kept out out' ps n (omega arith) same b.1)

  begins-all : (out : List ℕ) (ps : List ℕ) → length ps ≤ suc depth → Begins xs depth out ps → take (4 * length ps) out ≡ number_bytes (map (number_at xs) (unwind ps []))
  begins-all out [] l b = refl
  begins-all out (p ∷ ps) l b = b.0 (omega arith)

  numbering_start : Formed xs → (before : List ℕ) → Numbering xs depth before 0 0 before
  numbering_start f before = record { formed = f; stack = []; stands = stack-start xs f; counted = refl; begins = tt; size = refl; after = refl }

  module _ {before : List ℕ} {k number : ℕ} {out : List ℕ} (i : Numbering xs depth before k number out) (inside : k < length xs) where
    -- a close
    numbering-close : {d : ℕ} → at xs k ≡ closing d → Numbering xs depth before (suc k) number out
    numbering-close {d} e =
        let g : Left xs k i.stack d = stack-close xs i.formed i.stack i.stands inside e in
        record {
          formed = i.formed;
          stack = g.rest;
          stands = g.before;
          counted = omega (arith, i.counted, number-next xs k inside, ap opens e);
          begins = (subst (Begins xs depth out) g.is i.begins).1;
          size = i.size;
          after = i.after;
        }

    module _ {d : ℕ} {r : Amounts} (e : at xs k ≡ opening d r) where
      level : d ≡ length i.stack
      level = open-level xs i.formed i.stands inside (r, e)

      count : number + 1 ≡ number_at xs (suc k)
      count = omega (arith, i.counted, number-next xs k inside, ap opens e)

      -- an open deeper than the line goes
      numbering-deeper : depth < d → Numbering xs depth before (suc k) (number + 1) out
      numbering-deeper l = record {
        formed = i.formed;
        stack = k ∷ i.stack;
        stands = stack-open xs i.formed i.stands inside (r, e);
        counted = count;
        begins = ((λ h. absurd (omega (arith, level))), i.begins);
        size = i.size;
        after = i.after;
      }

      -- one whose number is stored
      numbering-open : {out' : List ℕ} → d ≤ depth → 4 * depth + 4 ≤ length out → out' ≡ put_at 4 out (4 * d) number → Numbering xs depth before (suc k) (number + 1) out'
      numbering-open {out'} l room s = record {
        formed = i.formed;
        stack = k ∷ i.stack;
        stands = stack-open xs i.formed i.stands inside (r, e);
        counted = count;
        begins = ((λ h. first), begins-kept out out' i.stack d (omega (arith, level)) (λ m h. ap (take m) s ∙ take-sets m out (4 * d) (bytes_of 4 number) h) i.begins);
        size = ap length s ∙ length-sets out (4 * d) (bytes_of 4 number) ∙ i.size;
        after = ap (drop (4 * depth + 4)) s ∙ drop-sets (4 * depth + 4) out (4 * d) (bytes_of 4 number) (omega (arith, length-bytes_of 4 number)) ∙ i.after;
      }
        where
          first : take (4 * suc (length i.stack)) out' ≡ number_bytes (map (number_at xs) (unwind i.stack (k ∷ [])))
          first =
              let n : 4 * d ≡ 4 * length i.stack = omega (arith, level) in
              ap (take (4 * suc (length i.stack))) s
              ∙ take-stored out (4 * d) (bytes_of 4 number) (4 * suc (length i.stack)) (omega (arith, level, length-bytes_of 4 number)) (omega (arith, level))
              ∙ ap₂ (λ (a b : List ℕ). a ++ b) (ap (λ m. take m out) n ∙ begins-all out i.stack (omega (arith, level)) i.begins) (ap (bytes_of 4) i.counted)
              ∙ sym (bytes-append (map (number_at xs) (unwind i.stack [])) (number_at xs k))
              ∙ ap number_bytes (sym (map-append (number_at xs) (unwind i.stack []) (k ∷ [])) ∙ ap (map (number_at xs)) (sym (unwind-append i.stack (k ∷ []))))

  -- ---- the end of the line

  module _ {upto : ℕ} (e : IsEnd xs upto depth) {before : List ℕ} {k number : ℕ} {out : List ℕ} (i : Numbering xs depth before k number out) where
    -- it is still to come, ..
    pub not-past : number < upto → k ≤ e.place
    not-past h = number-before xs e.place k depth e.leaf.opens (omega (arith, i.counted, e.counted))

    -- .. or it is written
    pub all-numbered : upto ≤ number → k ≤ suc e.place → 4 * depth + 4 ≤ length before → out ≡ buffer_after (granted (number_bytes (line_numbers xs))) before
    all-numbered h l room = go i.stack refl
      where
        at-end : k ≡ suc e.place
        at-end = ⊎_elim (λ (g : k ≡ suc e.place). g) (λ g. absurd (omega (arith, number-mono xs k e.place (omega arith), i.counted, e.counted))) (eq-or-lt_of_le l)

        high : suc depth ≡ length i.stack
        high = sym (ap start_level e.leaf.closes) ∙ ap (λ n. start_level (at xs n)) (sym at-end) ∙ i.stands.level (omega (arith, at-end, e.leaf.inside))

        whole : (w : List ℕ) → length w ≡ 4 * depth + 4 → take (4 * depth + 4) out ≡ w → out ≡ buffer_after (granted w) before
        whole w n s =
            sym (take-append-drop (4 * depth + 4) out) ∙ ap₂ (λ (a b : List ℕ). a ++ b) s i.after
            ∙ ap (λ m. w ++ drop m before) (sym n)

        go : (ps : List ℕ) → i.stack ≡ ps → out ≡ buffer_after (granted (number_bytes (line_numbers xs))) before
        go [] p = absurd (omega (arith, high, ap length p))
        go (p ∷ ps) q =
            let n : length ps ≡ depth = omega (arith, high, ap length q) in
            let w : OpenStack xs k (p ∷ ps) = subst (OpenStack xs k) q i.stands.open-records in
            let top : p ≡ e.place =
            ⊎_elim (λ (g : p ≡ e.place). g) (λ g. absurd (omega (arith, w.0.deeper e.place g (omega (arith, at-end)), ap depth_of e.leaf.opens.1)))
            (eq-or-lt_of_le (omega (arith, w.0.before, at-end))) in
            let line : unwind ps (p ∷ []) ≡ line_places xs = ap (λ j. unwind ps (j ∷ [])) top ∙ e.is-line ps (subst (λ j. OpenStack xs j ps) top w.1) n in
            let b : Begins xs depth out (p ∷ ps) = subst (Begins xs depth out) q i.begins in
            let m : 4 * depth + 4 ≡ 4 * suc (length ps) = omega arith in
            whole (number_bytes (line_numbers xs)) (bytes-length (line_numbers xs) ∙ omega (arith, length-map (line_places xs) (number_at xs), e.long))
            (ap (λ j. take j out) m ∙ b.0 (omega arith) ∙ ap (λ ps. number_bytes (map (number_at xs) ps)) line)

-- ---- one record, as the code has it

module _ (f : Fields) {depth number : ℕ} {out : List ℕ} (xs : List (Record Amounts)) (before : List ℕ) (k : ℕ) (i : Numbering xs depth before k number out) (inside : k < length xs) (here : at xs k ≡ record_of f) where
  pub write-close : f.kind ≡ kind.Close → Numbering xs depth before (suc k) number out
  write-close o = numbering-close xs depth i inside (here ∙ is-close f o)

  pub write-deeper : f.kind ≡ kind.Open → depth < f.depth → Numbering xs depth before (suc k) (number + 1) out
  write-deeper o l = numbering-deeper xs depth i inside (here ∙ is_open_lem f o) l

  pub write-open : {out' : List ℕ} → f.kind ≡ kind.Open → f.depth ≤ depth → 4 * depth + 4 ≤ length out → out' ≡ put_at 4 out (4 * f.depth) number → Numbering xs depth before (suc k) (number + 1) out'
  write-open o l room s = numbering-open xs depth i inside (here ∙ is_open_lem f o) l room s

-- ---- the pass over a log that was let through, up to the end of the line

-- Of the log, `rest` is left to be read, and the end of the line is not past.
pub record NumberingTo (log rest : List ℕ) (upto depth : ℕ) (before : List ℕ) (number : ℕ) (out : List ℕ) : Type 0 where
  pub fits : LineFits log upto depth (length before)
  pub place : ℕ
  pub second : Second fits.records rest place
  pub numbering : Numbering fits.records depth before place number out
  pub so_far : place ≤ suc fits.found.place

pub numbering-begin : {log : List ℕ} {upto depth : ℕ} {before : List ℕ} → LineFits log upto depth (length before) → NumberingTo log log upto depth before 0 before
numbering-begin {depth = depth} {before} l = record { fits = l; place = 0; second = second.begin l.is; numbering = numbering_start l.records depth l.found.formed before; so_far = omega arith }

module _ {log rest : List ℕ} {upto depth : ℕ} {before : List ℕ} {number : ℕ} {out : List ℕ} (i : NumberingTo log rest upto depth before number out) where
  pub room : 4 * depth + 4 ≤ length out
  room = omega (arith, i.fits.fits, i.numbering.size)

  module _ (h : number < upto) where
    to-come : i.place ≤ i.fits.found.place
    to-come = not-past i.fits.records depth i.fits.found i.numbering h

    -- there is a record left, ..
    pub some_left : 0 < length rest
    some_left = dite (dec_lt 0 (length rest)) (λ l. l) (λ l. absurd (omega (arith, second.ended i.second (omega arith), to-come, i.fits.found.leaf.inside)))

    -- .. and a number
    pub number_small : number < 4_294_967_295
    number_small = omega (arith, i.numbering.counted, number-most i.fits.records i.place, i.fits.found.formed.few)

    pub numbering-next : {f : Fields} (e : read_of rest ≡ granted f) {number' : ℕ} {out' : List ℕ}
        → ((xs : List (Record Amounts)) (before : List ℕ) (k : ℕ) → Numbering xs depth before k number out → k < length xs → at xs k ≡ record_of f → Numbering xs depth before (suc k) number' out')
        → NumberingTo log (take (length rest - f.length) (drop f.length rest)) upto depth before number' out'
    numbering-next e step = record {
      fits = i.fits;
      place = suc i.place;
      second = second.next i.second e;
      numbering = step i.fits.records before i.place i.numbering (second.inside i.second e) (second.here i.second e);
      so_far = omega (arith, to-come);
    }

  pub numbered : upto ≤ number → (xs : List (Record Amounts)) → IsWellFormed log xs → out ≡ buffer_after (granted (number_bytes (line_numbers xs))) before
  numbered h xs w =
      all-numbered i.fits.records depth i.fits.found i.numbering h i.so_far i.fits.fits
      ∙ ap (λ ys. buffer_after (granted (number_bytes (line_numbers ys))) before) (one-log i.fits.is w)
