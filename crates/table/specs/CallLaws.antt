-- What the two calls come to, where they are refused and where they write. Assumes nothing.
use Rattle.std.specs.Prelude.{◌≡◌, Bool, true, false, ◌&&◌, List, ℕ, ◌*◌, ◌/◌, ◌%◌, ◌≤◌, leb, eqb, length, Option, Some, None}
use Rattle.std.proofs.Common.{sym, ap, subst, ◌∙◌, arith, le-leb, leb-true, eqb-true}
use Rattle.std.proofs.Math.Logic.{dite}
use Rattle.std.proofs.Math.Decide.{dec_lt}
use Rattle.std.proofs.lemmas.Bool.{lt-leb}
use Rattle.gate.specs.Outcome.{refused, written}
use Rattle.gate.specs.Answers.{number_of}
use Rattle.gate.specs.declared.Refusal.{Refusal}
use Rattle.gate.specs.declared.Refusal.TheVariants as no
use Rattle.record.proofs.Laws.{and_left, and_right}
use Rattle.modes.specs.FourModes.{Amounts}
use Rattle.hill.specs.Log.{Record, opened_of}
use Rattle.chunk.specs.Chunk.{whole_log, IsWellFormed}
use Rattle.chunk.specs.Laws.{IsLog}
use Rattle.chunk.proofs.Laws.{log_is, one-log}
use Rattle.whole_log.specs.AskLaws.{Opens}
use Rattle.day_table.specs.Table.{table_of, log_of, nested}
use Rattle.day_table.specs.Outcomes.{table_lines, table_bytes, all_could_hold, log_bytes, write_log_outcome, read_table_outcome}
use Rattle.day_table.proofs.TableLaws.{table-opened}
use Rattle.day_table.proofs.LineLaws.{length-lines, length-table}
use Rattle.day_table.specs.CallLaws.{Taken}
use Rattle.day_table.proofs.CallLaws.{unreadable, not-nested, no_line, nested-length}
use Rattle.table.specs.Promised.{first_no, TableFits}

-- ---- questions 3, 13 and 10

module _ (readable nest some : Bool) where
  pub no-3 : readable ≡ false → Some no.Unreadable ≡ first_no readable nest some
  no-3 h = rw h

  module _ (h : readable ≡ true) where
    pub no-13 : nest ≡ false → Some no.NotNested ≡ first_no readable nest some
    no-13 n = rw (h, n)

    module _ (n : nest ≡ true) where
      pub no-10 : some ≡ false → Some no.NoRecord ≡ first_no readable nest some
      no-10 s = rw (h, n, s)

      pub all_yes : some ≡ true → None ≡ first_no readable nest some
      all_yes s = rw (h, n, s)

-- What the first "no" settles of a table: none that it is taken, and any the refusal.
pub record Settled (table : List ℕ) (f : Option Refusal) : Type 0 where
  pub yes : f ≡ None → Taken table
  pub no : (r : Refusal) → f ≡ Some r → (cap : ℕ) → write_log_outcome table cap ≡ refused (number_of r)

-- a "no" settles that the table is refused
refused-by : {table : List ℕ} (r : Refusal) → ((cap : ℕ) → write_log_outcome table cap ≡ refused (number_of r)) → Settled table (Some r)
refused-by r h = record { yes = λ e. let z : ◌≡◌ {A = ℕ} 0 1 = cc in absurd (omega arith); no = λ q e cap. let g : r ≡ q = cc in h cap ∙ ap (λ (x : Refusal). refused (number_of x)) g }

some-line : (table : List ℕ) → leb 14 (length table) ≡ leb 1 (length (table_lines table))
some-line table =
    dite (dec_lt (length table) 14)
    (λ h. lt-leb 14 (length table) h ∙ sym (lt-leb 1 (length (table_lines table)) (omega (arith, length-lines table))))
    (λ h. le-leb 14 (length table) (omega arith) ∙ sym (le-leb 1 (length (table_lines table)) (omega (arith, length-lines table))))

module _ (table : List ℕ) (short : length table ≤ 38_220) where
  asked : (h d s : Bool) → h ≡ eqb (length table % 14) 0 && all_could_hold (table_lines table) → d ≡ nested (table_lines table) → s ≡ leb 1 (length (table_lines table)) → Settled table (first_no h d s)
  asked false d s eh ed es = refused-by no.Unreadable (λ cap. unreadable table cap short (sym eh))
  asked true false s eh ed es = refused-by no.NotNested (λ cap. not-nested table cap short (sym eh) (sym ed))
  asked true true false eh ed es = refused-by no.NoRecord (λ cap. no_line table cap short (sym eh) (sym ed) (sym es))
  asked true true true eh ed es = record {
    yes = λ _. record {
      short = short;
      whole = eqb-true (length table % 14) 0 (and_left (eqb (length table % 14) 0) (all_could_hold (table_lines table)) (sym eh));
      readable = and_right (eqb (length table % 14) 0) (all_could_hold (table_lines table)) (sym eh);
      in_order = sym ed;
      some = leb-true 1 (length (table_lines table)) (sym es);
    };
    no = λ q e cap. cc;
  }

  pub settled : {f : Option Refusal} {a b : Bool} → a ≡ all_could_hold (table_lines table) → b ≡ nested (table_lines table) → f ≡ first_no (eqb (length table % 14) 0 && a) b (leb 14 (length table)) → Settled table f
  settled {f} {a} {b} ea eb e = subst (Settled table) (sym e) (asked _ b _ (ap (λ (t : Bool). eqb (length table % 14) 0 && t) ea) eb (some-line table))

-- ---- the log of a table that is taken: 24 bytes a line

pub log-total : {table : List ℕ} → Taken table → length table / 14 * 24 ≡ length (log_bytes (log_of (table_lines table)))
log-total {table} t = omega (arith, nested-length (table_lines table) t.in_order, length-lines table)

-- ---- the table of a log that was let through: 14 bytes for each record that it opens

pub table-total : {log : List ℕ} {opened : ℕ} {xs : List (Record Amounts)} → Opens log opened → IsWellFormed log xs → 14 * opened ≡ length (table_bytes (table_of xs))
table-total {xs = xs} o i = omega (arith, o.count, ap opened_of (one-log o.is.formed i), table-opened xs, length-table (table_of xs))

pub opens-fit : {log : List ℕ} {opened : ℕ} (o : Opens log opened) {room : ℕ} → 14 * opened ≤ room → TableFits log room
opens-fit o h = record { records = o.records; is = o.is.formed; fits = omega (arith, o.count) }

module _ (log : List ℕ) where
  pub read-refused : {n : ℕ} (cap : ℕ) → whole_log log ≡ refused n → read_table_outcome log cap ≡ refused n
  unfolding read_table_outcome
  read-refused cap e = rw e

  pub table_is : {xs : List (Record Amounts)} (cap : ℕ) → IsLog log xs → read_table_outcome log cap ≡ written cap (table_bytes (table_of xs))
  unfolding read_table_outcome
  table_is cap i = rw (log_is i)
