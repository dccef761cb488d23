-- Document 02, L3: in mode 5 every cut and every plan leads to the recursion in plain numbers, which is so of each record by its place; and mode 3 is
-- refused. Assumes nothing.
use Rattle.std.specs.Prelude.{◌≡◌, refl, ◌⊎◌, Bool, true, false, ◌&&◌, ℕ, suc, T, length, ℤ, ◌+ℤ◌}
use Rattle.std.proofs.Common.{sym, ap₂, subst, ◌∙◌, inl, inr, ⊎_elim, le-leb}
use Rattle.std.proofs.Math.Path.{ap}
use mathlib.Core.List.Memᴰ
use mathlib.Core.List.{List, [], ◌∷◌, map, Memᴰ}
use Rattle.std.proofs.Math.IntN.{+ℤ_idr}
use Rattle.gate.specs.Outcome.{Outcome, refused, granted, onward, written}
use Rattle.row.specs.Row.{row_pieces}
use Rattle.modes.specs.FourModes.{Amounts, lift, eaten_of, eaten, store_held}
use Rattle.modes.proofs.ModeLaws.{eaten_laws}
use Rattle.modes.specs.Run.{addend}
use Rattle.figure.specs.Mode.{mode_of, mode_in_use}
use Rattle.modes.specs.declared.Held.{Held}
use Rattle.modes.specs.declared.Held.TheVariants.{Nothing, Figure}
use Rattle.hill.specs.Log.{Record, opening}
use Rattle.hill.specs.Closing.{at, OpensAt, Holds, Places}
use Rattle.hill.specs.Tree.{Forest, nil, tree, value}
use Rattle.hill.specs.Figure.{figure_of, figure_at, combined}
use Rattle.hill.proofs.FigureLaws.{figure-write}
use Rattle.hill.proofs.HeldPlaces.{held-figure, figure-only, held-listed}
use Rattle.hill.specs.Row.{Call}
use Rattle.summary.specs.Judge.{mode_at, IsSummary, is_blank, is_spoilt, is_hill}
use Rattle.summary.specs.Decide.{is_summary}
use Rattle.summary.proofs.DecideLaws.{decide-summary}
use Rattle.summary.specs.Outcomes.{summarise_outcome, merge_outcome, finish_outcome}
use Rattle.outcome.specs.Outcomes.{all_summaries, Summaries, ask_row, ask_log, merged_bytes, plan_bytes, runs_bytes, work_along, merge_row_outcome, plan_outcome, runs_outcome, work_outcome}
use Rattle.outcome.proofs.Laws.{two_to_64, mode-5, ask-mode}
use Rattle.day_sheet.specs.Sheet.{sheet_outcome}
use Rattle.valley_station.specs.Station.{held, fresh_outcome, send_outcome, end_outcome}
use Rattle.claim.specs.Claim.{records_read, log_says, IsCut, Lent, RowSize, WellFormed, Recursion, AreMerges, Claimed}
use Rattle.claim.proofs.Demand3.{demand3}
use Rattle.claim.specs.Drops.{eaten_trees, summed, TakenAtValue, eaten_at, LeadsToRecursion, OutOfUse, OutOfUseAtStations}

-- ---- trees

-- the figures of trees side by side, combined: nothing where there is no tree
abbrev held_trees : Forest Amounts → Held
held_trees nil = Nothing
held_trees (tree r k f) = Figure (eaten_trees (tree r k f))

one-tree : (r : Amounts) (k f : Forest Amounts) → lift ◌+ℤ◌ (Figure (eaten_of r (held_trees k))) (held_trees f) ≡ Figure (eaten_trees (tree r k f))
unfolding lift eaten_of
one-tree r nil nil = ap Figure (sym (+ℤ_idr r.value))
one-tree r nil (tree t j h) = refl
one-tree r (tree s k g) nil = ap Figure (sym (+ℤ_idr _))
one-tree r (tree s k g) (tree t j h) = refl

trees : (f : Forest Amounts) → value eaten f ≡ held_trees f
trees nil = refl
trees (tree r k f) = ap₂ (λ a b. lift ◌+ℤ◌ (Figure (eaten_of r a)) b) (trees k) (trees f) ∙ one-tree r k f

pub eaten-trees : (r : Amounts) (k f : Forest Amounts) → value eaten (tree r k f) ≡ Figure (eaten_trees (tree r k f))
eaten-trees r k f = trees (tree r k f)

-- ---- places

-- figures of one record or more that are numbers, combined, are the sum of the numbers
some-summed : (F : ℕ → Held) (f : ℕ → ℤ) (q : ℕ) (qs : List ℕ) → ((k : ℕ) → Memᴰ k (q ∷ qs) → F k ≡ Figure (f k)) → combined eaten (map F (q ∷ qs)) ≡ Figure (summed (map f (q ∷ qs)))
unfolding lift
some-summed F f q [] e = ap (λ h. lift ◌+ℤ◌ h Nothing) (e q (Memᴰ.head refl)) ∙ ap Figure (sym (+ℤ_idr (f q)))
some-summed F f q (k ∷ qs) e = ap₂ (lift ◌+ℤ◌) (e q (Memᴰ.head refl)) (some-summed F f k qs (λ j m. e j (Memᴰ.tail m)))

module _ (log : List (Record Amounts)) where
  -- The figure of an opened record is a number, ..
  pub eaten-number : (p d : ℕ) → OpensAt log p d → figure_at eaten log p ≡ Figure (eaten_at log p)
  eaten-number p d o =
      let e = held-figure eaten log p d o.0 o.1 _ (held-listed log p d o) in
      e ∙ ap (λ h. Figure (addend h)) (sym e)

  -- .. the one that the leaf rule gives, ..
  pub taken-at-value : (p d : ℕ) (r : Amounts) → at log p ≡ opening d r → TakenAtValue (eaten_at log) log p d r
  unfolding eaten_of
  taken-at-value p d r e = record {
    alone = λ n. ap addend (held-figure eaten log p d r e [] (record { rising = tt; all = λ q h. absurd (n q h); only = λ q m. absurd (Memᴰ.not-nil m) }));
    bound = λ q h qs l. ap addend (held-figure eaten log p d r e qs l ∙ ap (λ s. Figure (eaten_of r s)) (some qs l (l.all q h)));
  }
    where
      some : {q : ℕ} (qs : List ℕ) → Places (λ k. Holds log p k d) qs → Memᴰ q qs → combined eaten (map (figure_at eaten log) qs) ≡ Figure (summed (map (eaten_at log) qs))
      some [] l m = absurd (Memᴰ.not-nil m)
      some (k ∷ qs) l m = some-summed (figure_at eaten log) (eaten_at log) k qs (λ j i. eaten-number j (suc d) (l.only j i).held)

  -- .. and it gives no other.
  pub taken-only : (f : ℕ → ℤ) → ((p d : ℕ) (r : Amounts) → at log p ≡ opening d r → TakenAtValue f log p d r) → (p d : ℕ) → OpensAt log p d → f p ≡ eaten_at log p
  unfolding eaten_of
  taken-only f t p d o = ap addend (figure-only eaten log (λ k. Figure (f k)) says p d o)
    where
      says : (p d : ℕ) (r : Amounts) → at log p ≡ opening d r → (qs : List ℕ) → Places (λ q. Holds log p q d) qs → Figure (f p) ≡ Figure (eaten_of r (combined eaten (map (λ k. Figure (f k)) qs)))
      says p d r e [] l = ap Figure ((t p d r e).alone (λ q h. Memᴰ.not-nil (l.all q h)))
      says p d r e (q ∷ qs) l =
          ap Figure ((t p d r e).bound q (l.only q (Memᴰ.head refl)) (q ∷ qs) l)
          ∙ ap (λ s. Figure (eaten_of r s)) (sym (some-summed (λ k. Figure (f k)) f q qs (λ _ _. refl)))

-- ---- every cut, every list of merges, every plan

-- what a well-formed log says in mode 5
pub eaten-says : (log : List ℕ) (t : Recursion 5 log) → log_says 5 log ≡ granted (eaten_trees (tree t.root t.below nil))
unfolding mode_of store_held
eaten-says log t = t.figure ∙ ap (λ h. granted (store_held h)) (eaten-trees t.root t.below nil)

pub first-place : (log : List ℕ) (t : Recursion 5 log) → eaten_at (records_read log) 0 ≡ eaten_trees (tree t.root t.below nil)
first-place log t =
    ap (λ (xs : List (Record Amounts)). addend (figure_of eaten xs)) (sym t.traversal)
    ∙ ap addend (figure-write eaten eaten_laws t.root t.below ∙ eaten-trees t.root t.below nil)

pub leads-to-recursion : (log places : List ℕ) (buffers : List (List ℕ)) (merges : List (Call Lent)) → IsCut 5 log places buffers → AreMerges 5 log places buffers merges →
    WellFormed (records_read log) → LeadsToRecursion log places buffers merges
leads-to-recursion log places buffers merges i m w =
    let c : Claimed 5 log places buffers merges = demand3 5 log places buffers merges i m in
    let t : Recursion 5 log = c.recursion w in
    record {
      root = t.root;
      below = t.below;
      traversal = t.traversal;
      by_place = first-place log t;
      finished = λ p e. c.finished p e ∙ eaten-says log t;
      worked = λ z. c.worked z ∙ eaten-says log t;
    }

-- ---- a mode out of use

mode-used : (b : List ℕ) → IsSummary b → mode_in_use (mode_at b) ≡ true
mode-used b (is_blank f) = f.mode-fits
mode-used b (is_spoilt v) = v.layout.mode-fits
mode-used b (is_hill v) = v.layout.mode-fits

module _ (m : ℕ) (out : mode_in_use m ≡ false) where
  no-summary : (b : List ℕ) → mode_at b ≡ m → is_summary b ≡ false
  no-summary b e = go (is_summary b) (decide-summary b).from
    where
      go : (t : Bool) → (t ≡ true → IsSummary b) → t ≡ false
      go true h = absurd (subst T (sym (mode-used b (h refl)) ∙ ap mode_in_use e ∙ out) tt)
      go false h = refl

  not-all : (p : List ℕ) (ps : List (List ℕ)) → Memᴰ p ps → mode_at p ≡ m → all_summaries ps ≡ false
  not-all p [] i e = absurd (Memᴰ.not-nil i)
  not-all p (q ∷ ps) i e =
      ⊎_elim
      (λ (a : p ≡ q). ap (λ (t : Bool). t && all_summaries ps) (no-summary q (subst (λ (x : List ℕ). mode_at x ≡ m) a e)))
      (λ j. go (is_summary q) (not-all p ps j e))
      (Memᴰ.cases_cons i)
    where
      go : (t : Bool) → all_summaries ps ≡ false → t && all_summaries ps ≡ false
      go true h = h
      go false h = refl

  merged-5 : (a b : List ℕ) (cap : ℕ) → (mode_at a ≡ m) ⊎ (mode_at b ≡ m) → is_summary a && is_summary b ≡ false
  merged-5 a b cap (inl e) = ap (λ (t : Bool). t && is_summary b) (no-summary a e)
  merged-5 a b cap (inr e) = go (is_summary a) (no-summary b e)
    where
      go : (t : Bool) → is_summary b ≡ false → t && is_summary b ≡ false
      go true h = h
      go false h = refl

  module _ (b : List ℕ) (z : RowSize (length (row_pieces b))) (p : List ℕ) (i : Memᴰ p (row_pieces b)) (e : mode_at p ≡ m) where
    asked-5 : ask_row (row_pieces b) ≡ refused 5
    asked-5 = ask-mode (row_pieces b) (two_to_64 (row_pieces b) z.0 z.1) (mode-5 (row_pieces b) (not-all p (row_pieces b) i e))

    row-5 : (cap : ℕ) → (merge_row_outcome b cap ≡ refused 5) × (plan_outcome b cap ≡ refused 5) × (runs_outcome b cap ≡ refused 5) × (work_outcome b ≡ refused 5)
    unfolding merge_row_outcome plan_outcome runs_outcome work_outcome
    row-5 cap = (
      ap (λ (o : Outcome Summaries). onward o (λ s. written cap (merged_bytes s))) asked-5,
      ap (λ (o : Outcome Summaries). onward o (λ s. onward (ask_log s) (λ t. written cap (plan_bytes t)))) asked-5,
      ap (λ (o : Outcome Summaries). onward o (λ s. onward (ask_log s) (λ t. written cap (runs_bytes t)))) asked-5,
      ap (λ (o : Outcome Summaries). onward o (λ s. onward (ask_log s) (λ t. granted (work_along t)))) asked-5,
    )

  pub out-of-use : OutOfUse m
  unfolding summarise_outcome merge_outcome finish_outcome sheet_outcome
  out-of-use = record {
    argument = λ chunk cap. rw out;
    printed = λ log page cap. rw out;
    merged = λ a b cap e. rw (merged-5 a b cap e);
    finished = λ b e. rw (no-summary b e);
    row = row-5;
  }

  pub out-of-use-at-stations : OutOfUseAtStations m
  unfolding fresh_outcome send_outcome end_outcome
  out-of-use-at-stations = record {
    started = rw out;
    sent = λ st farm b l e. rw (le-leb farm 7 l, merged-5 (held st farm) b 0 e);
    ended = λ st farm cap l e. rw (le-leb farm 7 l, no-summary (held st farm) e);
  }

pub mode-3 : OutOfUse 3
unfolding mode_in_use
mode-3 = out-of-use 3 refl

pub mode-3-at-stations : OutOfUseAtStations 3
unfolding mode_in_use
mode-3-at-stations = out-of-use-at-stations 3 refl
