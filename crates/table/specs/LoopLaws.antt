-- One turn of each loop: over the lines of a table, over the closes between two levels, and over the records of a log. Assumes nothing.
use Rattle.std.specs.Prelude.{◌≡◌, refl, true, false, ◌&&◌, List, [], ◌∷◌, ◌++◌, ℕ, zero, suc, ◌+◌, ◌-◌, ◌*◌, ◌≤◌, ◌<◌, leb, ltb, ℤ, length, drop}
use Rattle.std.proofs.Common.{sym, ap, ◌∙◌, append-nil, arith, add-one, length-append, drop_at, drop_of_length-le, ne_eqb}
use Rattle.std.proofs.lemmas.List.Edits.{sets}
use Rattle.gate.specs.Outcome.{granted}
use Rattle.number.specs.Bytes.{le_at, i32_at}
use Rattle.number.specs.Laws.{le_at-append}
use Rattle.number.specs.Writing as writing
use Rattle.number.specs.Writing.{Writing, StoredAt}
use Rattle.record.specs.Record.{read_of, records_of, open_bytes, close_bytes}
use Rattle.record.proofs.Encoding.{open-length}
use Rattle.record.proofs.Laws.{and_left, and_right}
use Rattle.record.proofs.RangeLaws.{range-parts}
use Rattle.record.proofs.Readable.{read_is, no_more}
use Rattle.record.specs.declared.Fields.{Fields}
use Rattle.record.specs.declared.Kind.TheVariants as kind
use Rattle.modes.specs.FourModes.{Amounts}
use Rattle.figure.specs.Stored.{amounts}
use Rattle.hill.specs.Log.{Record, opening, closing, opened_of}
use Rattle.chunk.specs.Chunk.{record_of, chunk_of, IsWellFormed}
use Rattle.chunk.proofs.Laws.{is_open_lem, is-close}
use Rattle.day_table.specs.Table.{TableLine, table_line, table_of, closes_to, log_from, log_of, nested_after, nested}
use Rattle.day_table.specs.Outcomes.{table_line_in, table_line_bytes, table_bytes, table_lines, could_hold, all_could_hold, log_bytes}
use Rattle.day_table.proofs.TableLaws.{closes-none, closes-one, table-opened}
use Rattle.day_table.proofs.LineLaws.{lines_none, lines_next, length-line, length-table}
use Rattle.day_table.proofs.LogLaws.{log-append}

-- ---- the lines of a table, of which the bytes b are left

module _ (b : List ℕ) (h : length b < 14) where
  pub readable-none : all_could_hold (table_lines b) ≡ true
  readable-none = rw (lines_none b h)

  pub after_none : (before : ℕ) → nested_after before (table_lines b) ≡ true
  after_none before = rw (lines_none b h)

  pub nested-none : nested (table_lines b) ≡ true
  nested-none = rw (lines_none b h)

  -- what is written after the last line
  pub from_end : (level : ℕ) → log_bytes (log_from level (table_lines b)) ≡ log_bytes (closes_to level 0)
  from_end level = ap (λ (ls : List TableLine). log_bytes (log_from level ls)) (lines_none b h)

-- The line x is cut off from b, and the bytes r are left.
pub record Cut (b x r : List ℕ) : Type 0 where
  pub is : b ≡ x ++ r
  pub long : length x ≡ 14

module _ {b x r : List ℕ} (t : Cut b x r) where
  line-here : table_lines b ≡ table_line_in x ∷ table_lines r
  line-here =
      let n = t.long in
      lines_next b (omega (arith, ap length t.is, length-append x r))
      ∙ rw (t.is, drop_at x r 14 n, le_at-append 2 x r 0 (omega arith), le_at-append 4 x r 2 (omega arith), le_at-append 4 x r 6 (omega arith), le_at-append 4 x r 10 (omega arith))

  pub readable-first : could_hold (table_line_in x) ≡ true → all_could_hold (table_lines b) ≡ all_could_hold (table_lines r)
  readable-first e = rw (line-here, e)

  pub readable-not : could_hold (table_line_in x) ≡ false → all_could_hold (table_lines b) ≡ false
  readable-not e = rw (line-here, e)

  pub nested-first : le_at 2 x 0 ≡ 0 → nested (table_lines b) ≡ nested_after 0 (table_lines r)
  nested-first e = rw (line-here, e)

  pub nested-not : (le_at 2 x 0 ≡ 0 → ⊥) → nested (table_lines b) ≡ false
  nested-not n = rw (line-here, ne_eqb (le_at 2 x 0) 0 n)

  pub after_first : (before d : ℕ) → d ≡ le_at 2 x 0 → ltb 0 d && leb d (before + 1) ≡ true → nested_after before (table_lines b) ≡ nested_after d (table_lines r)
  after_first before d e h = rw (line-here, ← e, ← add-one before, h)

  pub after-not : (before d : ℕ) → d ≡ le_at 2 x 0 → ltb 0 d && leb d (before + 1) ≡ false → nested_after before (table_lines b) ≡ false
  after-not before d e h = rw (line-here, ← e, ← add-one before, h)

  -- what is written of a line, and then of the rest
  pub from-line : (level : ℕ) → log_bytes (log_from level (table_lines b)) ≡
      log_bytes (closes_to level (le_at 2 x 0)) ++ (open_bytes (le_at 2 x 0) (i32_at x 2) (i32_at x 6) (i32_at x 10) ++ log_bytes (log_from (suc (le_at 2 x 0)) (table_lines r)))
  from-line level = ap (λ (ls : List TableLine). log_bytes (log_from level ls)) line-here ∙ log-append (closes_to level (le_at 2 x 0)) _

-- as `chunks_exact` tells it
pub cut : {b x r : List ℕ} {n : ℕ} → b ≡ x ++ r → length x ≡ n → n ≡ 14 → Cut b x r
cut e l n = record { is = e; long = l ∙ n }

pub no_bytes : (b : List ℕ) → length b ≤ 0 → b ≡ []
no_bytes b h = drop_of_length-le b {i = 0} h

-- ---- the closes between two levels

pub closes-turn : (to level : ℕ) → to < level → log_bytes (closes_to level to) ≡ close_bytes (level - 1) ++ log_bytes (closes_to (level - 1) to)
closes-turn to zero h = absurd (omega arith)
closes-turn to (suc l) h = let e : suc l - 1 ≡ l = omega arith in rw e (ap log_bytes (closes-one to l (omega arith)))

pub closes-end : (to level : ℕ) → level ≤ to → log_bytes (closes_to level to) ≡ []
closes-end to level h = ap log_bytes (closes-none to level h)

-- ---- the log of a table, whose lines are written up to `rest`

pub record LogSoFar (table rest before : List ℕ) (at level : ℕ) (out : List ℕ) : Type 0 where
  pub readable : all_could_hold (table_lines rest) ≡ true
  pub records : Writing (log_bytes (log_of (table_lines table))) 0 before (log_bytes (log_from level (table_lines rest))) at out

pub no-line-yet : {table before : List ℕ} → all_could_hold (table_lines table) ≡ true → length (log_bytes (log_of (table_lines table))) ≤ length before → LogSoFar table table before 0 0 before
no-line-yet {table} {before} ok h = record { readable = ok; records = writing.begin (log_bytes (log_of (table_lines table))) 0 before (omega arith) }

module _ {table rest before : List ℕ} {at level : ℕ} {out : List ℕ} (i : LogSoFar table rest before at level out) where
  module _ {x r : List ℕ} (t : Cut rest x r) where
    readable-here : could_hold (table_line_in x) && all_could_hold (table_lines r) ≡ true
    readable-here = ap all_could_hold (sym (line-here t)) ∙ i.readable

    -- a depth that is in range leaves room for the level above it
    pub low : le_at 2 x 0 ≤ 63
    low = (range-parts (le_at 2 x 0) (i32_at x 2) (i32_at x 6) (i32_at x 10) (and_left (could_hold (table_line_in x)) (all_could_hold (table_lines r)) readable-here)).depth

    module _ {d : ℕ} (e : d ≡ le_at 2 x 0) where
      line-is : log_bytes (log_from level (table_lines rest)) ≡ log_bytes (closes_to level d) ++ (open_bytes d (i32_at x 2) (i32_at x 6) (i32_at x 10) ++ log_bytes (log_from (suc d) (table_lines r)))
      line-is = rw e (from-line t level)

      pub closes-fit : at + length (log_bytes (closes_to level d)) ≤ length out
      closes-fit = writing.fits i.records (log_bytes (closes_to level d)) _ line-is

      module _ {out₁ : List ℕ} {at₁ : ℕ} (s : StoredAt (log_bytes (closes_to level d)) at out out₁ at₁) where
        closed : Writing (log_bytes (log_of (table_lines table))) 0 before (open_bytes d (i32_at x 2) (i32_at x 6) (i32_at x 10) ++ log_bytes (log_from (suc d) (table_lines r))) at₁ out₁
        closed = writing.next i.records (log_bytes (closes_to level d)) line-is s.buffer s.ends

        pub open-fits : at₁ + 18 ≤ length out₁
        open-fits = omega (arith, writing.fits closed (open_bytes d (i32_at x 2) (i32_at x 6) (i32_at x 10)) _ refl, open-length d (i32_at x 2) (i32_at x 6) (i32_at x 10))

        pub line-written : {out₂ : List ℕ} {v f c : ℤ} → v ≡ i32_at x 2 → f ≡ i32_at x 6 → c ≡ i32_at x 10 → out₂ ≡ sets out₁ at₁ (open_bytes d v f c) → LogSoFar table r before (at₁ + 18) (d + 1) out₂
        line-written ev ef ec o = record {
          readable = and_right (could_hold (table_line_in x)) (all_could_hold (table_lines r)) readable-here;
          records = rw (add-one d)
              (writing.next closed (open_bytes d (i32_at x 2) (i32_at x 6) (i32_at x 10)) refl (o ∙ rw (ev, ef, ec)) (omega (arith, open-length d (i32_at x 2) (i32_at x 6) (i32_at x 10))));
        }

  module _ (h : length rest < 14) where
    pub last_fit : at + length (log_bytes (closes_to level 0)) ≤ length out
    last_fit = omega (arith, i.records.size, i.records.room, ap length (from_end rest h level))

    pub log-written : {out' : List ℕ} {end : ℕ} → StoredAt (log_bytes (closes_to level 0)) at out out' end → StoredAt (log_bytes (log_of (table_lines table))) 0 before out' end
    log-written s =
        writing.done (writing.next i.records (log_bytes (closes_to level 0)) (from_end rest h level ∙ sym (append-nil _)) s.buffer s.ends) refl

-- ---- the records of a log that was let through

-- The log is read up to `rest`, and the lines of what was read stand in the buffer.
pub record TableSoFar (log rest before : List ℕ) (at : ℕ) (out : List ℕ) : Type 0 where
  pub fields : List Fields
  pub read : records_of log ≡ granted fields
  pub left : List Fields
  pub unread : records_of rest ≡ granted left
  pub lines : Writing (table_bytes (table_of (chunk_of fields))) 0 before (table_bytes (table_of (chunk_of left))) at out

pub table-begun : {log before : List ℕ} {xs : List (Record Amounts)} → IsWellFormed log xs → 14 * opened_of xs ≤ length before → TableSoFar log log before 0 before
table-begun {log} {before} {xs} i h = record {
  fields = i.fields;
  read = i.read;
  left = i.fields;
  unread = i.read;
  lines = writing.begin (table_bytes (table_of (chunk_of i.fields))) 0 before (omega (arith, length-table (table_of (chunk_of i.fields)), table-opened (chunk_of i.fields), ap opened_of i.records-are));
}

record-lines : (x : Record Amounts) (xs : List (Record Amounts)) → table_bytes (table_of (x ∷ xs)) ≡ table_bytes (table_of (x ∷ [])) ++ table_bytes (table_of xs)
record-lines (opening d r) xs = simp append-nil
record-lines (closing d) xs = refl

-- the line of a record, where it is an open, and no line where it is a close
module _ (f : Fields) where
  pub one_line : f.kind ≡ kind.Open → table_bytes (table_of (record_of f ∷ [])) ≡ table_line_bytes (table_line f.depth (amounts f.value f.floor f.ceiling))
  one_line k = rw (is_open_lem f k) (append-nil _)

  pub no_line : f.kind ≡ kind.Close → table_bytes (table_of (record_of f ∷ [])) ≡ []
  no_line k = rw (is-close f k)

  pub line-fits : (at room : ℕ) → f.kind ≡ kind.Open → at + length (table_bytes (table_of (record_of f ∷ []))) ≤ room → at + 14 ≤ room
  line-fits at room k h = omega (arith, ap length (one_line k), length-line (table_line f.depth (amounts f.value f.floor f.ceiling)))

  pub line-stored : (at : ℕ) (out out' : List ℕ) (v l h : ℤ) → f.kind ≡ kind.Open → out' ≡ sets out at (table_line_bytes (table_line f.depth (amounts v l h))) → v ≡ f.value → l ≡ f.floor → h ≡ f.ceiling
      → StoredAt (table_bytes (table_of (record_of f ∷ []))) at out out' (at + 14)
  line-stored at out out' v l h k e ev el eh = rw (one_line k) record { ends = omega (arith, length-line (table_line f.depth (amounts f.value f.floor f.ceiling))); buffer = e ∙ rw (ev, el, eh) }

  pub close-stored : (at : ℕ) (out : List ℕ) → f.kind ≡ kind.Close → StoredAt (table_bytes (table_of (record_of f ∷ []))) at out out at
  close-stored at out k = rw (no_line k) record { ends = omega arith; buffer = refl }

module _ {log rest before : List ℕ} {at : ℕ} {out : List ℕ} (i : TableSoFar log rest before at out) where
  module _ {f : Fields} (e : read_of rest ≡ granted f) where
    turn : table_bytes (table_of (chunk_of i.left)) ≡ table_bytes (table_of (record_of f ∷ [])) ++ table_bytes (table_of (chunk_of (read_is rest i.unread e).0))
    turn = ap (λ (fs : List Fields). table_bytes (table_of (chunk_of fs))) (read_is rest i.unread e).1 ∙ record-lines (record_of f) (chunk_of (read_is rest i.unread e).0)

    pub line-room : at + length (table_bytes (table_of (record_of f ∷ []))) ≤ length out
    line-room = writing.fits i.lines (table_bytes (table_of (record_of f ∷ []))) _ turn

    pub table-next : {out' : List ℕ} {at' : ℕ} → StoredAt (table_bytes (table_of (record_of f ∷ []))) at out out' at' → TableSoFar log (drop f.length rest) before at' out'
    table-next s = record {
      fields = i.fields;
      read = i.read;
      left = (read_is rest i.unread e).0;
      unread = (read_is rest i.unread e).2;
      lines = writing.next i.lines (table_bytes (table_of (record_of f ∷ []))) turn s.buffer s.ends;
    }

  pub all-written : rest ≡ [] → (xs : List (Record Amounts)) → IsWellFormed log xs → out ≡ sets before 0 (table_bytes (table_of xs))
  all-written r xs l =
      let same : i.fields ≡ l.fields = cc (i.read, l.read) in
      (writing.done i.lines (ap (λ (fs : List Fields). table_bytes (table_of (chunk_of fs))) (no_more rest i.unread r))).buffer
      ∙ ap (λ (ys : List (Record Amounts)). sets before 0 (table_bytes (table_of ys))) (ap chunk_of same ∙ l.records-are)
