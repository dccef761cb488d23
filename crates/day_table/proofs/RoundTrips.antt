-- Document 02, L1: what is written from a table, both round trips, a log's faults, buffers that are never too short, which lines 3 lets through, and 13 exactly;
-- and L2: what comes back of any log. Assumes nothing.
use Rattle.std.specs.Prelude.{◌≡◌, refl, Bool, true, false, cond, List, [], ◌∷◌, ◌++◌, ℕ, ◌*◌, ◌%◌, ◌≤◌, leb, length}
use Rattle.std.proofs.Common.{sym, ap, subst, ◌∙◌, arith, le-leb, eq-eqb}
use Rattle.gate.specs.Outcome.{refused, granted, question, written}
use Rattle.gate.proofs.Laws.{fits, not-result}
use Rattle.number.specs.Bytes.{AllBytes}
use Rattle.record.specs.Record.{is_open, records_of, read_of, default_floor, default_ceiling, open_bytes}
use Rattle.record.proofs.Laws.{short-is, sound}
use Rattle.record.proofs.Encoding.{read-open}
use Rattle.record.proofs.Ranged.{AllInRange, records-in-range}
use Rattle.record.specs.declared.Fields.{Fields}
use Rattle.modes.specs.FourModes.{Amounts}
use Rattle.figure.specs.Stored.{amounts}
use Rattle.hill.specs.Verdict.{Verdict, pass, refuse}
use Rattle.hill.specs.Log.{Record, opening, closing, opened_of, log_fault}
use Rattle.hill.specs.Questions.{NoOfLog}
use Rattle.hill.proofs.Faults.{lowest-log}
use Rattle.chunk.specs.Chunk.{record_of, chunk_of, whole_log, IsWellFormed}
use Rattle.chunk.specs.Laws.{IsLog}
use Rattle.chunk.proofs.Laws.{is-log, log_is}
use Rattle.day_table.specs.Table.{TableLine, table_line, table_of, log_of, nested}
use Rattle.day_table.specs.Outcomes.{table_lines, table_bytes, could_hold, all_could_hold, log_bytes, write_log_outcome, read_table_outcome}
use Rattle.day_table.specs.Claims.{AllFull, IsFullLog, IsLogOfTable, ReadsBack, WritesAgain, ComesBack, HoldsLine, SomeLog, ReadableTable, Exactly13}
use Rattle.day_table.proofs.TableLaws.{table-log, log-table, log-nested, log-some, nested-log, table-opened}
use Rattle.day_table.proofs.LineLaws.{length-lines, length-table, table-bytes, lines-again, lines-back}
use Rattle.day_table.proofs.LogLaws.{all_fields, chunk-fields, fields-full, log-bytes, log-read, log-again, all-come-back, ranged-from, log-long}
use Rattle.day_table.specs.CallLaws.{Taken}
use Rattle.day_table.proofs.CallLaws.{taken_is, is-taken, not-nested, nested-length}

-- ---- what is written

few-lines : (table : List ℕ) → Taken table → length (table_lines table) ≤ 2_730
few-lines table t = omega (arith, length-lines table, t.short)

some-log : (ls : List TableLine) → 1 ≤ length ls → nested ls ≡ true → length ls ≤ 100_000 → log_fault (log_of ls) ≡ pass
some-log [] h n few = absurd (omega arith)
some-log (x ∷ ls) h n few = nested-log x ls n few

module _ (table : List ℕ) (t : Taken table) where
  log_back : records_of (log_bytes (log_of (table_lines table))) ≡ granted (all_fields (log_of (table_lines table)))
  log_back = log-read (log_of (table_lines table)) (ranged-from 0 (table_lines table) (omega arith) t.readable)

  the-log : IsFullLog (log_bytes (log_of (table_lines table))) (log_of (table_lines table))
  the-log = record {
    bytes = log-bytes (log_of (table_lines table));
    formed = record {
      fields = all_fields (log_of (table_lines table));
      read = log_back;
      records-are = chunk-fields (log_of (table_lines table));
      fine = some-log (table_lines table) t.some t.in_order (omega (arith, few-lines table t));
    };
    full = fields-full (log_of (table_lines table));
  }

  log-short : length (log_bytes (log_of (table_lines table))) ≤ 65_520
  log-short = omega (arith, nested-length (table_lines table) t.in_order, few-lines table t)

  log-taken : whole_log (log_bytes (log_of (table_lines table))) ≡ granted (log_of (table_lines table))
  log-taken = log_is (record { short = omega (arith, log-short); formed = the-log.formed })

-- the bytes of a well-formed log of full records are those of the log of its table
full-log : (b : List ℕ) (xs : List (Record Amounts)) → IsFullLog b xs → log_bytes (log_of (table_of xs)) ≡ b
full-log b xs i =
    let f = i.formed in
    ap log_bytes (log-table xs f.fine ∙ sym f.records-are) ∙ log-again f.fields b i.bytes f.read i.full

-- "WE NEED THE LOG WRITTEN FROM IT, FULL OPEN RECORDS, CLOSES WHERE THEY BELONG."
pub written-log : (table : List ℕ) (cap : ℕ) {w : List ℕ} → write_log_outcome table cap ≡ granted w → IsLogOfTable table w
written-log table cap {w} e =
    let p = is-taken table cap e in
    subst (IsLogOfTable table) (sym p.1)
    (record {
      records = log_of (table_lines table);
      log = the-log table p.0;
      lines = table-log (table_lines table);
      only = λ b xs i l. sym (full-log b xs i) ∙ ap (λ (ls : List TableLine). log_bytes (log_of ls)) l;
      short = log-short table p.0;
      taken = log-taken table p.0;
    })

-- "READING THAT LOG BACK MUST GIVE THE TABLE."
pub reads-back : (table : List ℕ) (cap : ℕ) {w : List ℕ} → AllBytes table → write_log_outcome table cap ≡ granted w → ReadsBack table w
unfolding read_table_outcome
reads-back table cap {w} all e room =
    let p = is-taken table cap e in
    rw (p.1, log-taken table p.0, table-log (table_lines table), lines-again table all p.0.whole)

-- ---- the table of a log

-- a readable full open record could hold the line of each record that was read
could-hold-lines : (fs : List Fields) → AllInRange fs → all_could_hold (table_of (chunk_of fs)) ≡ true
could-hold-lines [] h = refl
could-hold-lines (f ∷ fs) h = go (is_open f.kind) (could-hold-lines fs h.1)
  where
    go : (t : Bool) → all_could_hold (table_of (chunk_of fs)) ≡ true
        → all_could_hold (table_of (cond t (opening f.depth (amounts f.value f.floor f.ceiling)) (closing f.depth) ∷ chunk_of fs)) ≡ true
    go true ih = rw h.0 ih
    go false ih = ih

-- the table of a well-formed log is taken, if it has few enough lines, and its lines are those of the log
table_taken : (log : List ℕ) (xs : List (Record Amounts)) → IsWellFormed log xs → opened_of xs ≤ 2_730 → Taken (table_bytes (table_of xs)) × (table_lines (table_bytes (table_of xs)) ≡ table_of xs)
table_taken log xs i few =
    let ok : all_could_hold (table_of xs) ≡ true = subst (λ (ys : List (Record Amounts)). all_could_hold (table_of ys) ≡ true) i.records-are (could-hold-lines i.fields (records-in-range log i.fields i.read)) in
    let back = lines-back (table_of xs) ok in
    let n = length-table (table_of xs) in (
      record {
        short = omega (arith, table-opened xs);
        whole = omega arith;
        readable = rw back ok;
        in_order = rw back (log-nested xs i.fine);
        some = rw back (log-some xs i.fine);
      },
      back,
    )

-- what comes back, of a log that is let through
log-comes-back : (log : List ℕ) (xs : List (Record Amounts)) (i : IsLog log xs) → AllBytes log → opened_of xs ≤ 2_730 → ComesBack log i.formed.fields
unfolding read_table_outcome
log-comes-back log xs i all few =
    let f : IsWellFormed log xs = i.formed in
    let t = table_taken log xs f few in
    let wrote : log_of (table_lines (table_bytes (table_of xs))) ≡ xs = ap log_of t.1 ∙ log-table xs f.fine in
    let read : records_of (log_bytes xs) ≡ granted (all_fields xs) =
    subst (λ (ys : List (Record Amounts)). records_of (log_bytes ys) ≡ granted (all_fields ys)) wrote (log_back (table_bytes (table_of xs)) t.0) in
    record {
      table = table_bytes (table_of xs);
      back = log_bytes xs;
      table-bytes = table-bytes (table_of xs);
      back-bytes = log-bytes xs;
      given = λ room. rw (log_is i);
      writes = λ cap. taken_is (table_bytes (table_of xs)) cap t.0 ∙ ap (λ (ys : List (Record Amounts)). written cap (log_bytes ys)) wrote;
      records = read ∙ ap (λ (ys : List (Record Amounts)). granted (all_fields ys)) (sym f.records-are) ∙ ap granted (all-come-back f.fields log f.read);
      same = (
        λ e. let k : all_fields xs ≡ f.fields = cc (read, ap records_of e, f.read) in subst AllFull k (fields-full xs),
        λ u. ap log_bytes (sym f.records-are) ∙ log-again f.fields log all f.read u,
      );
    }

-- "ALL OTHER CALLS DROP IT, SO FROM THE DAY TABLE THE SAME BYTES COME BACK ONLY FOR RECORDS OF LENGTH 18." (L2)
pub comes_back : (log : List ℕ) (fs : List Fields) (xs : List (Record Amounts)) → AllBytes log → records_of log ≡ granted fs → whole_log log ≡ granted xs → opened_of xs ≤ 2_730 → ComesBack log fs
comes_back log fs xs all e w few =
    let i : IsLog log xs = is-log log xs w in
    let same : i.formed.fields ≡ fs = cc i.formed.read in
    subst (ComesBack log) same (log-comes-back log xs i all few)

-- a well-formed log of full records has 24 bytes for each record that it opens
full-length : (log : List ℕ) (xs : List (Record Amounts)) → IsFullLog log xs → length log ≡ 24 * opened_of xs
full-length log xs i = omega (arith, ap length (full-log log xs i), nested-length (table_of xs) (log-nested xs i.formed.fine), table-opened xs)

-- "AND A WELL-FORMED LOG OF FULL RECORDS, OF AT MOST 2,730 LINES, MUST GIVE A TABLE THAT WRITES THE SAME BYTES."
pub writes_again : (log : List ℕ) (xs : List (Record Amounts)) → IsFullLog log xs → opened_of xs ≤ 2_730 → WritesAgain log
writes_again log xs i few =
    let is : IsLog log xs = record { short = omega (arith, full-length log xs i); formed = i.formed } in
    let c : ComesBack log i.formed.fields = log-comes-back log xs is i.bytes few in
    record {
      table = c.table;
      bytes = c.table-bytes;
      given = c.given;
      again = λ cap. c.writes cap ∙ ap (written cap) (c.same.1 i.full);
    }

-- "A SHORT RECORD READ BACK FILLS ITS LINE WITH THE DEFAULT FLOOR AND CEILING."
pub short-line : (s : List ℕ) (f : Fields) → read_of s ≡ granted f → f.length ≡ 10 → table_of (record_of f ∷ []) ≡ table_line f.depth (amounts f.value default_floor default_ceiling) ∷ []
short-line s f e l = ap (λ (g : Fields). table_of (record_of g ∷ [])) (short-is s f e l)

-- "A LOG WITH A FAULT GETS THE FAULT'S NUMBER": the lowest of questions 7 to 11 that gets a "no", by places.
pub read-fault : (log : List ℕ) (fs : List Fields) (n cap : ℕ) → length log ≤ 65_536 → records_of log ≡ granted fs → NoOfLog (chunk_of fs) n → ((m : ℕ) → NoOfLog (chunk_of fs) m → n ≤ m)
    → read_table_outcome log cap ≡ refused n
unfolding read_table_outcome whole_log
read-fault log fs n cap few e asked least = rw (le-leb (length log) 65_536 few, e, verdict (log_fault (chunk_of fs)) refl)
  where
    verdict : (v : Verdict) → log_fault (chunk_of fs) ≡ v → log_fault (chunk_of fs) ≡ refuse n
    verdict pass p = absurd ((lowest-log (chunk_of fs)).none p n asked)
    verdict (refuse m) p =
        let l = (lowest-log (chunk_of fs)).least m p in
        let same : m ≡ n = omega (arith, l.1 n asked, least m l.0) in
        p ∙ ap refuse same

-- ---- a buffer that is never too short

-- 65,520 bytes for a log that is written, ..
pub log-fits : (table : List ℕ) (cap : ℕ) → 65_520 ≤ cap → Taken table → write_log_outcome table cap ≡ granted (log_bytes (log_of (table_lines table)))
log-fits table cap h t = taken_is table cap t ∙ fits cap (log_bytes (log_of (table_lines table))) (omega (arith, log-short table t))

-- .. and 57,344 for a table that is read: it has at most 4,096 lines.
pub table-short : (log : List ℕ) (xs : List (Record Amounts)) → whole_log log ≡ granted xs → length (table_bytes (table_of xs)) ≤ 57_344
table-short log xs e =
    let i : IsLog log xs = is-log log xs e in
    omega (arith, length-table (table_of xs), table-opened xs, log-long i.formed, i.short)

pub table_fits : (log : List ℕ) (xs : List (Record Amounts)) (cap : ℕ) → 57_344 ≤ cap → whole_log log ≡ granted xs → read_table_outcome log cap ≡ granted (table_bytes (table_of xs))
unfolding read_table_outcome
table_fits log xs cap h e = rw e (fits cap (table_bytes (table_of xs)) (omega (arith, table-short log xs e)))

-- ---- 3: which lines a readable full open record could hold

pub could-hold : (x : TableLine) → could_hold x ≡ true → (b : List ℕ) × HoldsLine b x
could-hold x ok =
    let r = x.amounts in
    (open_bytes x.depth r.value r.floor r.ceiling ++ [], read-open x.depth r.value r.floor r.ceiling [] ok)

pub only-could-hold : (x : TableLine) (b : List ℕ) → HoldsLine b x → could_hold x ≡ true
only-could-hold x b e = (sound b _ e).ranged

-- ---- 13 exactly

not-13 : (cap : ℕ) (w : List ℕ) → written cap w ≡ refused 13 → ⊥
not-13 cap w = go (leb (length w) cap)
  where
    go : (t : Bool) → question 12 t (granted w) ≡ refused 13 → ⊥
    go true e = not-result 13 w (sym e)
    go false e = let z : ◌≡◌ {A = ℕ} 12 13 = cc in omega arith

module _ (table : List ℕ) (r : ReadableTable table) where
  few_bytes : length table ≤ 38_220
  few_bytes = omega (arith, r.whole, r.few)

  whole : length table % 14 ≡ 0
  whole = omega (arith, r.whole)

  in_order : SomeLog (table_lines table) → nested (table_lines table) ≡ true
  in_order s = subst (λ (ls : List TableLine). nested ls ≡ true) s.lines (log-nested s.records s.formed.fine)

  to_take : nested (table_lines table) ≡ true → Taken table
  to_take n = record { short = few_bytes; whole = whole; readable = r.readable; in_order = n; some = omega (arith, length-lines table, r.whole, r.some) }

  its-log : Taken table → SomeLog (table_lines table)
  its-log t =
      let i = the-log table t in
      record { log = log_bytes (log_of (table_lines table)); records = log_of (table_lines table); bytes = i.bytes; formed = i.formed; lines = table-log (table_lines table) }

  pub exactly-13 : Exactly13 table
  exactly-13 = record {
    taken = λ s cap room. let t = to_take (in_order s) in
        (log_bytes (log_of (table_lines table)), taken_is table cap t ∙ fits cap (log_bytes (log_of (table_lines table))) (omega (arith, nested-length (table_lines table) t.in_order)));
    only-taken = λ cap w e. its-log (is-taken table cap e).0;
    refused-13 = λ none cap. none-nested none cap (nested (table_lines table)) refl;
    only-refused = λ cap e s. not-13 cap (log_bytes (log_of (table_lines table))) (sym (taken_is table cap (to_take (in_order s))) ∙ e);
  }
    where
      none-nested : (SomeLog (table_lines table) → ⊥) → (cap : ℕ) (b : Bool) → nested (table_lines table) ≡ b → write_log_outcome table cap ≡ refused 13
      none-nested none cap true n = absurd (none (its-log (to_take n)))
      none-nested none cap false n = not-nested table cap few_bytes (rw (eq-eqb (length table % 14) 0 whole) r.readable) n
