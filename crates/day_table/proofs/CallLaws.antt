-- What writing the log comes to, question by question. Assumes nothing.
use Rattle.std.specs.Prelude.{◌≡◌, refl, true, false, ◌&&◌, List, [], ◌∷◌, ℕ, suc, ◌*◌, ◌%◌, ◌≤◌, ◌<◌, leb, eqb, length}
use Rattle.std.proofs.Common.{arith, length-append}
use borrow.Author.Tests.{le-leb, lt-leb, leb-true, eq-eqb, eqb-true}
use Rattle.gate.specs.Outcome.{refused, granted, written}
use Rattle.gate.proofs.Laws.{yes}
use Rattle.record.proofs.Laws.{and_left, and_right}
use Rattle.record.specs.Record.{open_bytes}
use Rattle.record.proofs.Encoding.{open-length}
use Rattle.day_table.specs.Table.{TableLine, log_from, log_of, nested}
use Rattle.day_table.specs.Outcomes.{table_lines, all_could_hold, log_bytes, write_log_outcome}
use Rattle.day_table.proofs.TableLaws.{nested-under}
use Rattle.day_table.proofs.LogLaws.{length_from}
use Rattle.day_table.specs.CallLaws.{Taken}

module _ (table : List ℕ) (cap : ℕ) where
  -- 2
  pub too_long : 38_220 < length table → write_log_outcome table cap ≡ refused 2
  unfolding write_log_outcome
  too_long h = rw (lt-leb (length table) 38_220 h)

  module _ (short : length table ≤ 38_220) where
    -- 3
    pub unreadable : eqb (length table % 14) 0 && all_could_hold (table_lines table) ≡ false → write_log_outcome table cap ≡ refused 3
    unfolding write_log_outcome
    unreadable h = rw (le-leb (length table) 38_220 short, h)

    module _ (readable : eqb (length table % 14) 0 && all_could_hold (table_lines table) ≡ true) where
      -- 13
      pub not-nested : nested (table_lines table) ≡ false → write_log_outcome table cap ≡ refused 13
      unfolding write_log_outcome
      not-nested h = rw (le-leb (length table) 38_220 short, readable, h)

      -- 10
      pub no_line : nested (table_lines table) ≡ true → leb 1 (length (table_lines table)) ≡ false → write_log_outcome table cap ≡ refused 10
      unfolding write_log_outcome
      no_line n h = rw (le-leb (length table) 38_220 short, readable, n, h)

  -- and 12
  pub taken_is : Taken table → write_log_outcome table cap ≡ written cap (log_bytes (log_of (table_lines table)))
  unfolding write_log_outcome
  taken_is t = rw (le-leb (length table) 38_220 t.short, eq-eqb (length table % 14) 0 t.whole, t.readable, t.in_order, le-leb 1 (length (table_lines table)) t.some)

  -- what was written is the log of a table that is taken
  pub is-taken : {w : List ℕ} → write_log_outcome table cap ≡ granted w → Taken table × (w ≡ log_bytes (log_of (table_lines table)))
  unfolding write_log_outcome
  is-taken {w} e =
      let a = yes 2 (leb (length table) 38_220) _ e in
      let b = yes 3 (eqb (length table % 14) 0 && all_could_hold (table_lines table)) _ a.1 in
      let c = yes 13 (nested (table_lines table)) _ b.1 in
      let d = yes 10 (leb 1 (length (table_lines table))) _ c.1 in
      let f = yes 12 (leb (length (log_bytes (log_of (table_lines table)))) cap) (granted (log_bytes (log_of (table_lines table)))) d.1 in
      let same : w ≡ log_bytes (log_of (table_lines table)) = cc f.1 in (
        record {
          short = leb-true (length table) 38_220 a.0;
          whole = eqb-true (length table % 14) 0 (and_left (eqb (length table % 14) 0) (all_could_hold (table_lines table)) b.0);
          readable = and_right (eqb (length table % 14) 0) (all_could_hold (table_lines table)) b.0;
          in_order = c.0;
          some = leb-true 1 (length (table_lines table)) d.0;
        },
        same,
      )

-- 24 bytes a line
pub nested-length : (ls : List TableLine) → nested ls ≡ true → length (log_bytes (log_of ls)) ≡ 24 * length ls
nested-length [] n = refl
nested-length (x ∷ ls) n =
    let p = nested-under x ls n in
    let r = x.amounts in
    omega (arith, length-append (open_bytes x.depth r.value r.floor r.ceiling) (log_bytes (log_from (suc x.depth) ls)), open-length x.depth r.value r.floor r.ceiling, length_from (suc x.depth) ls p.1, p.0)
