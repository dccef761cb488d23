-- The calls on a row of summaries of one mode: what their questions find. Assumes nothing.
use Rattle.std.specs.Prelude.{◌≡◌, refl, true, false, ℕ, ◌≤◌, ◌<◌, length}
use Rattle.std.proofs.Common.{sym, subst, ◌∙◌, arith, le-leb, eq-eqb}
use Rattle.std.proofs.Math.Path.{ap}
use mathlib.Core.List.{List, [], ◌∷◌, map}
use Rattle.std.proofs.lemmas.List.{length-map}
use Rattle.std.proofs.lemmas.Bool.{lt-leb}
use Rattle.gate.specs.Outcome.{Outcome, refused, granted, onward, written}
use Rattle.row.specs.Row.{row_pieces, end_to_end}
use Rattle.plan_work.specs.Fair.{ValidRow}
use Rattle.row.specs.Laws.{OwnLength, AllOwn, pieces-own}
use Rattle.figure.specs.Mode.{mode_of, mode_in_use}
use Rattle.hill.specs.Row.{merge_row}
use Rattle.summary.specs.Layout.{SummaryIn, encode}
use Rattle.summary.specs.Judge.{IsSummary, is_blank, is_spoilt, is_hill}
use Rattle.summary.specs.Decode.{decode}
use Rattle.summary.proofs.DecideLaws.{decide-summary}
use Rattle.summary.proofs.Accepted.{mode-used, encoded, decode-encode}
use Rattle.outcome.specs.Outcomes.{two_to64, all_summaries, all_of, first_mode, mode_of_all, Summaries, ask_row, ask_log, merged_bytes, plan_bytes, runs_bytes, work_along, merge_row_outcome, plan_outcome, runs_outcome, work_outcome}
use Rattle.outcome.specs.Laws.{AllIn}

-- ---- one question after another

module _ (ps : List (List ℕ)) where
  pub ask-4 : two_to64 ps ≡ false → ask_row ps ≡ refused 4
  unfolding ask_row
  ask-4 a = rw a

  pub mode-5 : all_summaries ps ≡ false → mode_of_all ps ≡ refused 5
  mode-5 b = rw b

  pub mode-6 : all_summaries ps ≡ true → all_of (first_mode ps) ps ≡ false → mode_of_all ps ≡ refused 6
  mode-6 b c = rw (b, c)

  pub mode-all : all_summaries ps ≡ true → all_of (first_mode ps) ps ≡ true → mode_of_all ps ≡ granted (first_mode ps)
  mode-all b c = rw (b, c)

  -- what 5 and 6 find, where 4 has a "yes"
  pub ask-mode : two_to64 ps ≡ true → {o : Outcome ℕ} → mode_of_all ps ≡ o → ask_row ps ≡ onward o (λ m. granted (record { mode = m; row = map (decode m) ps }))
  unfolding ask_row
  ask-mode a e = rw a (ap (λ (o : Outcome ℕ). onward o (λ m. granted (record { mode = m; row = map (decode m) ps }))) e)

pub two_to_64 : (ps : List (List ℕ)) → 2 ≤ length ps → length ps ≤ 64 → two_to64 ps ≡ true
unfolding two_to64
two_to_64 ps a b = rw (le-leb 2 (length ps) a, le-leb (length ps) 64 b)

pub too_many : (ps : List (List ℕ)) → 64 < length ps → two_to64 ps ≡ false
unfolding two_to64
too_many ps a = rw (le-leb 2 (length ps) (omega arith), lt-leb (length ps) 64 a)

pub too_few : (ps : List (List ℕ)) → length ps < 2 → two_to64 ps ≡ false
unfolding two_to64
too_few ps a = rw (lt-leb 2 (length ps) a)

module _ (m : ℕ) where
  pub all-summaries : (ps : List (List ℕ)) → AllIn m ps → all_summaries ps ≡ true
  all-summaries [] a = refl
  all-summaries (p ∷ ps) a = rw ((decide-summary p).to a.0.is, all-summaries ps a.1)

  all-of : (ps : List (List ℕ)) → AllIn m ps → all_of m ps ≡ true
  all-of [] a = refl
  all-of (p ∷ ps) a = rw (a.0.mode-is, eq-eqb m m refl, all-of ps a.1)

  pub first-mode : (ps : List (List ℕ)) → AllIn m ps → 2 ≤ length ps → first_mode ps ≡ m
  first-mode [] a l = absurd (omega arith)
  first-mode (p ∷ ps) a l = a.0.mode-is

  pub all_in_use : (ps : List (List ℕ)) → AllIn m ps → 0 < length ps → mode_in_use m ≡ true
  all_in_use [] a l = absurd (omega arith)
  all_in_use (p ∷ ps) a l = mode-used m p a.0

  -- 2 to 64 of them are let through.
  pub ask-all : (ps : List (List ℕ)) → AllIn m ps → 2 ≤ length ps → length ps ≤ 64 → ask_row ps ≡ granted (record { mode = m; row = map (decode m) ps })
  ask-all ps a l h =
      let e : first_mode ps ≡ m = first-mode ps a l in
      ask-mode ps (two_to_64 ps l h) (mode-all ps (all-summaries ps a) (subst (λ (k : ℕ). all_of k ps ≡ true) (sym e) (all-of ps a)) ∙ ap granted e)

  -- Lent end to end, they are the row's pieces.
  own-length : (b : List ℕ) → IsSummary b → OwnLength b
  own-length b (is_blank f) = record { least = omega (arith, f.length-fits); field = f.length-said }
  own-length b (is_spoilt v) = record { least = omega (arith, v.layout.length-fits); field = v.layout.length-said }
  own-length b (is_hill v) = record { least = omega (arith, v.layout.length-fits); field = v.layout.length-said }

  all_own : (ps : List (List ℕ)) → AllIn m ps → AllOwn ps
  all_own [] a = tt
  all_own (p ∷ ps) a = (own-length p a.0.is, all_own ps a.1)

  pub pieces-all : (ps : List (List ℕ)) → AllIn m ps → row_pieces (end_to_end ps) ≡ ps
  pieces-all ps a = pieces-own ps (all_own ps a)

  -- ---- the bytes of accepted summaries

  abbrev pub AllAccepted : List (SummaryIn m) → Type 0
  AllAccepted ss = ValidRow (mode_of m).algebra (mode_of m).sizes ss

  module _ (u : mode_in_use m ≡ true) where
    pub encoded-all : (ss : List (SummaryIn m)) → AllAccepted ss → AllIn m (map (encode m) ss)
    encoded-all [] a = tt
    encoded-all (s ∷ ss) a = (encoded m u s a.0, encoded-all ss a.1)

    decoded-all : (ss : List (SummaryIn m)) → AllAccepted ss → map (decode m) (map (encode m) ss) ≡ ss
    decoded-all [] a = refl
    decoded-all (s ∷ ss) a = rw (decode-encode m u s a.0, decoded-all ss a.1)

    module _ (ss : List (SummaryIn m)) (a : AllAccepted ss) (l : 2 ≤ length ss) (h : length ss ≤ 64) where
      abbrev these : Summaries
      these = record { mode = m; row = ss }

      abbrev pub lent : List ℕ
      lent = end_to_end (map (encode m) ss)

      ask-encoded : ask_row (row_pieces lent) ≡ granted these
      ask-encoded =
          let n : length (map (encode m) ss) ≡ length ss = length-map ss (encode m) in
          ap ask_row (pieces-all (map (encode m) ss) (encoded-all ss a)) ∙ ask-all (map (encode m) ss) (encoded-all ss a) (omega arith) (omega arith) ∙
          ap (λ (r : List (SummaryIn m)). granted (record { mode = m; row = r })) (decoded-all ss a)

      pub merge-row-is : (cap : ℕ) → merge_row_outcome lent cap ≡ written cap (encode m (merge_row (mode_of m).algebra ss))
      unfolding merge_row_outcome merged_bytes
      merge-row-is cap = ap (λ (o : Outcome Summaries). onward o (λ s. written cap (merged_bytes s))) ask-encoded

      pub plan-is : (cap : ℕ) → plan_outcome lent cap ≡ onward (ask_log these) (λ t. written cap (plan_bytes t))
      unfolding plan_outcome
      plan-is cap = ap (λ (o : Outcome Summaries). onward o (λ s. onward (ask_log s) (λ t. written cap (plan_bytes t)))) ask-encoded

      pub runs-is : (cap : ℕ) → runs_outcome lent cap ≡ onward (ask_log these) (λ t. written cap (runs_bytes t))
      unfolding runs_outcome
      runs-is cap = ap (λ (o : Outcome Summaries). onward o (λ s. onward (ask_log s) (λ t. written cap (runs_bytes t)))) ask-encoded

      pub work-is : work_outcome lent ≡ onward (ask_log these) (λ t. granted (work_along t))
      unfolding work_outcome
      work-is = ap (λ (o : Outcome Summaries). onward o (λ s. onward (ask_log s) (λ t. granted (work_along t)))) ask-encoded
