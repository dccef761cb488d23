-- What printing a page comes to: the page, or 1, a fault, 18 or 12, each exactly where it is due. Assumes nothing.
use Rattle.std.specs.Prelude.{◌≡◌, refl, Bool, true, false, List, ℕ, ◌+◌, ◌*◌, ◌/◌, ◌≤◌, ◌<◌, length}
use Rattle.std.proofs.Common.{sym, ap, subst, ◌∙◌, arith, lt-ltb, le-ltb}
use Rattle.std.proofs.Math.Logic.{dite}
use Rattle.std.proofs.Math.Decide.{dec_lt}
use Rattle.gate.specs.Outcome.{Outcome, refused, granted, question, written}
use Rattle.gate.proofs.Laws.{not-result, one_number, result-same, fits, too_short}
use Rattle.modes.specs.FourModes.{Amounts}
use Rattle.figure.specs.Mode.{mode_in_use}
use Rattle.hill.specs.Log.{Record, opened_of}
use Rattle.chunk.specs.Chunk.{whole_log}
use Rattle.chunk.proofs.Laws.{is-log, refused-low}
use Rattle.log_records.proofs.NumberLaws.{counted-from-0}
use Rattle.day_sheet.specs.Sheet.{page_text, page_outcome, sheet_outcome}
use Rattle.day_sheet.specs.Claims.{IsPage, AllPages, TurnsAway, WritesPage}
use Rattle.day_sheet.proofs.PageLaws.{lines-length, page-length, tells, is-page, pages-whole}

module _ (log : List ℕ) (mode page cap : ℕ) where
  pub out-of-use : mode_in_use mode ≡ false → sheet_outcome log mode page cap ≡ refused 1
  unfolding sheet_outcome
  out-of-use e = rw e

  module _ (u : mode_in_use mode ≡ true) where
    pub at-fault : {n : ℕ} → whole_log log ≡ refused n → sheet_outcome log mode page cap ≡ refused n
    unfolding sheet_outcome
    at-fault e = rw (u, e)

    module _ {xs : List (Record Amounts)} (e : whole_log log ≡ granted xs) where
      pub let_through : sheet_outcome log mode page cap ≡ page_outcome mode page cap xs
      unfolding sheet_outcome
      let_through = rw (u, e)

      past-last : opened_of xs ≤ 60 * page → sheet_outcome log mode page cap ≡ refused 18
      past-last h = let_through ∙ ap (λ t. question 18 t (written cap (page_text mode page xs))) (le-ltb (60 * page) (opened_of xs) h)

      pub starts : 60 * page < opened_of xs → sheet_outcome log mode page cap ≡ written cap (page_text mode page xs)
      starts h = let_through ∙ ap (λ t. question 18 t (written cap (page_text mode page xs))) (lt-ltb (60 * page) (opened_of xs) h)

      not-18 : (w : List ℕ) → written cap w ≡ refused 18 → ⊥
      not-18 w h =
          dite (dec_lt cap (length w)) (λ l. omega (arith, one_number (sym (too_short cap w l) ∙ h)))
          (λ l. not-result 18 w (sym (sym (fits cap w (omega arith)) ∙ h)))

      only-past : sheet_outcome log mode page cap ≡ refused 18 → opened_of xs ≤ 60 * page
      only-past h = dite (dec_lt (60 * page) (opened_of xs)) (λ l. absurd (not-18 (page_text mode page xs) (sym (starts l) ∙ h))) (λ l. omega arith)

  -- 18 is answered for no other reason
  only-18 : sheet_outcome log mode page cap ≡ refused 18 → (mode_in_use mode ≡ true) × ((xs : List (Record Amounts)) × (whole_log log ≡ granted xs) × (opened_of xs ≤ 60 * page))
  only-18 h = by-use (mode_in_use mode) refl
    where
      by-log : mode_in_use mode ≡ true → (o : Outcome (List (Record Amounts))) → whole_log log ≡ o → (xs : List (Record Amounts)) × (whole_log log ≡ granted xs) × (opened_of xs ≤ 60 * page)
      by-log u (refused n) e = absurd (omega (arith, refused-low log n e, one_number (sym (at-fault u e) ∙ h)))
      by-log u (granted xs) e = (xs, e, only-past u e h)

      by-use : (t : Bool) → mode_in_use mode ≡ t → (mode_in_use mode ≡ true) × ((xs : List (Record Amounts)) × (whole_log log ≡ granted xs) × (opened_of xs ≤ 60 * page))
      by-use false u = absurd (omega (arith, one_number (sym (out-of-use u) ∙ h)))
      by-use true u = (u, by-log u (whole_log log) refl)

  -- TURNED AWAY where it is due; all else is written.
  pub turns-away : TurnsAway log mode page cap
  turns-away = record {
    by_mode = out-of-use;
    by-fault = λ u n e. at-fault u e;
    past-the-last = (only-18, λ w. past-last w.0 w.1.1 w.1.2);
    else-written = λ u xs e l. (is-page mode u (is-log log xs e).formed page l, starts u e l);
  }

  -- WHAT THE CALL WRITES.
  pub written-page : {w : List ℕ} → sheet_outcome log mode page cap ≡ granted w → WritesPage log mode page cap w
  written-page {w} r = by-use (mode_in_use mode) refl
    where
      starting : mode_in_use mode ≡ true → (xs : List (Record Amounts)) → whole_log log ≡ granted xs → 60 * page < opened_of xs → WritesPage log mode page cap w
      starting u xs e l =
          let i = is-log log xs e in
          let v : List ℕ = page_text mode page xs in
          dite (dec_lt cap (length v)) (λ h. absurd (not-result 12 w (sym (too_short cap v h) ∙ sym (starts u e l) ∙ r)))
          (λ h. let s : v ≡ w = result-same (sym (fits cap v (omega arith)) ∙ sym (starts u e l) ∙ r) in
          record { in_use = u; records = xs; let_through = e; starts = l; bytes-are = sym s; is-page = subst (IsPage mode xs page) s (is-page mode u i.formed page l); fits = omega (arith, ap length s) })

      by-log : mode_in_use mode ≡ true → (o : Outcome (List (Record Amounts))) → whole_log log ≡ o → WritesPage log mode page cap w
      by-log u (refused n) e = absurd (not-result n w (sym (at-fault u e) ∙ r))
      by-log u (granted xs) e = dite (dec_lt (60 * page) (opened_of xs)) (λ l. starting u xs e l) (λ l. absurd (not-result 18 w (sym (past-last u e (omega arith)) ∙ r)))

      by-use : (t : Bool) → mode_in_use mode ≡ t → WritesPage log mode page cap w
      by-use false u = absurd (not-result 1 w (sym (out-of-use u) ∙ r))
      by-use true u = by-log u (whole_log log) refl

-- ALL PAGES PUT ONE AFTER ANOTHER.
pub all-pages : (log : List ℕ) (mode : ℕ) → mode_in_use mode ≡ true → {xs : List (Record Amounts)} → whole_log log ≡ granted xs → AllPages log mode xs ((opened_of xs + 59) / 60)
all-pages log mode u {xs} e = record {
  whole = pages-whole mode xs ((opened_of xs + 59) / 60) (omega arith);
  a-record = lines-length mode 0 xs;
  each = tells mode u (is-log log xs e).formed;
  counted = counted-from-0 xs;
  full = λ n l. omega (arith, page-length mode n xs);
  starts = λ n. (λ h. omega arith, λ h. omega arith);
  printed = λ n l cap. starts log mode n cap u e (omega arith);
}
