-- What naming the records behind the heaviest line comes to: their numbers, or a fault, or 12, each exactly where it is due. Assumes nothing.
use Rattle.std.specs.Prelude.{◌≡◌, refl, List, [], ◌∷◌, map, ℕ, zero, suc, ◌+◌, ◌-◌, ◌*◌, ◌≤◌, ◌<◌, ℤ, ◌+ℤ◌, length, get_or}
use Rattle.std.proofs.Common.{sym, ap, subst, ◌∙◌, zero-add, add-zero, arith, length-append}
use Rattle.std.proofs.Math.Logic.{dite}
use Rattle.std.proofs.Math.Decide.{dec_lt}
use Rattle.std.proofs.lemmas.List.{length-map}
use Rattle.gate.specs.Outcome.{Outcome, refused, granted, written}
use Rattle.gate.proofs.Laws.{not-result, result-same, fits, too_short}
use Rattle.number.specs.Bytes.{le_at, bytes_of}
use Rattle.number.specs.Laws.{length-bytes_of, field-here, field_past}
use Rattle.modes.specs.FourModes.{Amounts}
use Rattle.hill.specs.Log.{Record}
use Rattle.hill.specs.Closing.{OpensAt}
use Rattle.chunk.specs.Chunk.{whole_log, IsWellFormed}
use Rattle.chunk.specs.Laws.{IsLog}
use Rattle.chunk.proofs.Laws.{low-log, is-log}
use Rattle.log_records.specs.Numbers.{number_at}
use Rattle.log_records.proofs.NumberLaws.{number-most}
use Rattle.log_records.specs.Line.{line_places, line_numbers, number_bytes, heaviest_line_outcome}
use Rattle.log_records.specs.Claims.{record_value, Down, TakesGreatest, LineBytes, TurnsAway}
use Rattle.log_records.proofs.Formed.{depth-once, formed}
use Rattle.log_records.proofs.LineLaws.{one_line}

pub bytes-length : (ns : List ℕ) → length (number_bytes ns) ≡ 4 * length ns
bytes-length [] = refl
bytes-length (n ∷ ns) = length-append (bytes_of 4 n) (number_bytes ns) ∙ omega (arith, length-bytes_of 4 n, bytes-length ns)

-- ---- the numbers read back

each_back : (f : ℕ → ℕ) (ps : List ℕ) → ((p : ℕ) → f p < 4_294_967_296) → (i : ℕ) → i < length ps → le_at 4 (number_bytes (map f ps)) (4 * i) ≡ f (get_or ps i 0)
each_back f [] small i l = absurd (omega arith)
each_back f (p ∷ ps) small zero l = field-here 4 (f p) (number_bytes (map f ps)) (small p)
each_back f (p ∷ ps) small (suc i) l =
    let e : 4 * suc i - 4 ≡ 4 * i = omega arith in
    field_past 4 4 (f p) (number_bytes (map f ps)) (4 * suc i) (omega arith) ∙ ap (le_at 4 (number_bytes (map f ps))) e ∙ each_back f ps small i (omega arith)

-- ---- the record at place i of the line has depth i

module _ (xs : List (Record Amounts)) where
  down-opens : (qs : List ℕ) (s : ℤ) (p d : ℕ) → OpensAt xs p d → Down xs (TakesGreatest xs) s p qs → (i : ℕ) → i < suc (length qs) → OpensAt xs (get_or (p ∷ qs) i 0) (d + i)
  down-opens qs s p d o w zero l = subst (OpensAt xs p) (sym (add-zero d)) o
  down-opens [] s p d o w (suc i) l = absurd (omega arith)
  down-opens (q ∷ qs) s p d o w (suc i) l =
      let e : suc w.0.depth + i ≡ d + suc i = omega (arith, depth-once xs p d w.0.depth o w.0.holds.holder) in
      subst (OpensAt xs (get_or (q ∷ qs) i 0)) e (down-opens qs (s +ℤ record_value xs q) q (suc w.0.depth) w.0.holds.held w.1 i (omega arith))

-- ---- what is written

module _ {log : List ℕ} {xs : List (Record Amounts)} (i : IsWellFormed log xs) where
  line-opens : (k : ℕ) → k < length (line_places xs) → OpensAt xs (get_or (line_places xs) k 0) k
  line-opens k l =
      let a = (one_line xs i.fine).is in
      let o = down-opens xs a.below (record_value xs 0) 0 0 a.root a.down k (omega (arith, ap length a.from-root)) in
      subst (λ ps. OpensAt xs (get_or ps k 0) k) (sym a.from-root) (subst (OpensAt xs (get_or (0 ∷ a.below) k 0)) (zero-add k) o)

  few : length (line_places xs) ≤ 64
  few = dite (dec_lt 64 (length (line_places xs))) (λ l. absurd (omega (arith, low-log i (get_or (line_places xs) 64 0) 64 (line-opens 64 l)))) (λ l. omega arith)

  -- WHAT IS WRITTEN: the numbers of the line's records.
  pub line-bytes : LineBytes xs (number_bytes (line_numbers xs))
  line-bytes = record {
    places = line_places xs;
    line = one_line xs i.fine;
    few = few;
    whole_length = bytes-length (line_numbers xs) ∙ ap (λ n. 4 * n) (length-map (line_places xs) (number_at xs));
    each = λ k l. record { opens = line-opens k l; number = sym (each_back (number_at xs) (line_places xs) (λ p. omega (arith, number-most xs p, (formed xs i.fine).few)) k l) };
    bytes = refl;
  }

-- ---- what the call comes to

module _ (log : List ℕ) (cap : ℕ) where
  pub line_refused : {n : ℕ} → whole_log log ≡ refused n → heaviest_line_outcome log cap ≡ refused n
  unfolding heaviest_line_outcome
  line_refused e = rw e

  pub line-is : {xs : List (Record Amounts)} → whole_log log ≡ granted xs → heaviest_line_outcome log cap ≡ written cap (number_bytes (line_numbers xs))
  unfolding heaviest_line_outcome
  line-is e = rw e

  -- TURNED AWAY where it is due; all else is written.
  pub turns-away : TurnsAway log cap
  turns-away = record { by-fault = λ n e. line_refused e; else-written = λ xs e. (number_bytes (line_numbers xs), line-bytes (is-log log xs e).formed, line-is e) }

  -- WHAT THE CALL WRITES.
  pub written-line : {w : List ℕ} → heaviest_line_outcome log cap ≡ granted w → (xs : List (Record Amounts)) × IsLog log xs × LineBytes xs w
  written-line {w} r = go (whole_log log) refl
    where
      go : (o : Outcome (List (Record Amounts))) → whole_log log ≡ o → (xs : List (Record Amounts)) × IsLog log xs × LineBytes xs w
      go (refused k) e = absurd (not-result k w (sym (line_refused e) ∙ r))
      go (granted xs) e =
          let i = is-log log xs e in
          let v : List ℕ = number_bytes (line_numbers xs) in
          dite (dec_lt cap (length v)) (λ l. absurd (not-result 12 w (sym (too_short cap v l) ∙ sym (line-is e) ∙ r)))
          (λ l. let s : v ≡ w = result-same (sym (fits cap v (omega arith)) ∙ sym (line-is e) ∙ r) in (xs, i, subst (LineBytes xs) s (line-bytes i.formed)))
