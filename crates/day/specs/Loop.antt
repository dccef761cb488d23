-- What the pass over a log keeps from turn to turn, and what it comes to at the end. Assumes nothing.
use Rattle.std.specs.Prelude.{◌≡◌, refl, List, [], ◌∷◌, ◌++◌, ℕ, ◌-◌, ◌≤◌, ◌<◌, eqb, ℤ, length, take, drop, Option, None}
use Rattle.std.proofs.Common.{sym, ap, subst, ◌∙◌, arith, eq-eqb}
use Rattle.gate.specs.Outcome.{refused, granted}
use Rattle.record.specs.Record.{read_of}
use Rattle.record.proofs.Laws.{sound}
use Rattle.record.specs.declared.Fields.{Fields}
use Rattle.hill.specs.Verdict.{Verdict, pass, refuse, low, ask}
use Rattle.hill.specs.Log.{Record, start_level, log_fault}
use Rattle.hill.specs.Tree.{nil, tree}
use Rattle.hill.proofs.TreeLaws.{hill_of-write}
use Rattle.hill.proofs.FigureLaws.{log-tree}
use Rattle.hill.specs.Summary.{middle}
use Rattle.hill.specs.Building.{hill_of}
use Rattle.hill.specs.Finish.{outcome}
use Rattle.modes.specs.FourModes.{Amounts}
use Rattle.figure.specs.Mode.{mode_of}
use Rattle.figure.specs.Stored.{IsStored, amounts}
use Rattle.slopes.specs.declared.OpenAmounts.{OpenAmounts}
use Rattle.slopes.specs.declared.TheConstants.{NO_AMOUNTS}
use Rattle.slopes.specs.Rising.{stands-none}
use Rattle.gate.specs.declared.Refusal.{Refusal}
use Rattle.fault.specs.Fault.{verdict_of}
use Rattle.fault.specs.Laws.{is-clear}
use Rattle.summary.proofs.Values.{tells-range}
use Rattle.chunk.specs.Chunk.{record_of, chunk_of, figure_in}
use Rattle.chunk.proofs.Laws.{chunk-append}
use Rattle.whole_log.specs.declared.Tally.{Tally}
use Rattle.whole_log.specs.Tallies.{Fresh, Tallied, log_verdict}
use Rattle.whole_log.specs.TallyLaws.{level-is, faultless, so_far, grounded, meets, log-verdict, through}
use Rattle.whole_log.specs.Pass as reading
use Rattle.whole_log.specs.Pass.{Reading}
use Rattle.outcome.specs.declared.Figures.{Figures}
use Rattle.outcome.specs.Day.{figures_of, day_outcome}
use Rattle.day.specs.declared.Holding.{Holding}
use Rattle.day.specs.declared.TheConstants.{NO_HOLDING}
use Rattle.day.specs.Pass.{no_figures, Stands, Standing, Ready, Applied}

-- ---- the figures

-- At level 0 a log without fault has its figure for the middle value, and no slopes.
figure-is : (m : ℕ) (xs : List (Record Amounts)) {a : OpenAmounts} {hs : List ℤ} {mid : ℤ} → log_fault xs ≡ pass → Stands xs 0 a m hs mid → mid ≡ figure_in m xs
unfolding IsStored figure_in
figure-is m xs v s =
    let t = log-tree (mode_of m).algebra (mode_of m).laws xs v in
    sym s.stored.mid ∙
    ap (mode_of m).store
    (ap middle (s.is ∙ ap (hill_of (mode_of m).algebra) (sym t.traversal) ∙ hill_of-write (mode_of m).algebra (mode_of m).laws 0 (tree t.root t.below nil)) ∙ sym t.its-figure)

all-figures : (xs : List (Record Amounts)) {mid : Figures} {a : OpenAmounts} {h : Holding} → log_fault xs ≡ pass → Standing xs 0 mid a h → mid ≡ figures_of xs
unfolding figures_of
all-figures xs {mid} v s =
    four (figure-is 1 xs v s.net) (figure-is 2 xs v s.heaviest) (figure-is 5 xs v s.eaten) (figure-is 4 xs v s.stamp)
  where
    four : {n h e s : ℤ} → mid.net ≡ n → mid.heaviest ≡ h → mid.eaten ≡ e → mid.stamp ≡ s → mid ≡ record { net = n; heaviest = h; eaten = e; stamp = s }
    four a b c d = rw (sym a, sym b, sym c, sym d)

-- ---- the invariant

-- The pass so far; as long as there is no fault and the log starts at level 0, the arrays stand for the hill of the records read in each mode.
pub record Inv (log rest : List ℕ) (t : Tally) (mid : Figures) (a : OpenAmounts) (h : Holding) : Type 0 where
  pub done : List Fields
  pub read : Reading log rest done t
  pub standing : t.fault ≡ None → t.start ≡ 0 → Standing (chunk_of done) t.level mid a h

-- arrays of 64, and nothing in them yet
pub record Empty (mid : Figures) (a : OpenAmounts) (h : Holding) : Type 0 where
  pub values : length a.values ≡ 64
  pub floors : length a.floors ≡ 64
  pub ceilings : length a.ceilings ≡ 64
  pub held-net : length h.net ≡ 64
  pub held-heaviest : length h.heaviest ≡ 64
  pub held-eaten : length h.eaten ≡ 64
  pub held-stamp : length h.stamp ≡ 64
  pub figures : mid ≡ no_figures

pub begin : {log : List ℕ} {t : Tally} {mid : Figures} {a : OpenAmounts} {h : Holding} → length log ≤ 65_536 → Fresh t → Empty mid a h → Inv log log t mid a h
begin {mid} {a} {h} short u e = record {
  done = [];
  read = reading.begin short u;
  standing = λ _ _. subst (λ (l : ℕ). Standing [] l mid a h) (sym u.level) record {
    net = stands-none 1 e.values e.floors e.ceilings e.held-net (ap (λ (x : Figures). x.net) e.figures);
    heaviest = stands-none 2 e.values e.floors e.ceilings e.held-heaviest (ap (λ (x : Figures). x.heaviest) e.figures);
    eaten = stands-none 5 e.values e.floors e.ceilings e.held-eaten (ap (λ (x : Figures). x.eaten) e.figures);
    stamp = stands-none 4 e.values e.floors e.ceilings e.held-stamp (ap (λ (x : Figures). x.stamp) e.figures);
  };
}

-- the same of the arrays that the code begins with
pub begin-none : {log : List ℕ} {t : Tally} {mid : Figures} → length log ≤ 65_536 → Fresh t → mid ≡ no_figures → Inv log log t mid NO_AMOUNTS NO_HOLDING
begin-none short u e = begin short u record { values = refl; floors = refl; ceilings = refl; held-net = refl; held-heaviest = refl; held-eaten = refl; held-stamp = refl; figures = e }

module _ {log rest : List ℕ} {t : Tally} {mid : Figures} {a : OpenAmounts} {h : Holding} (i : Inv log rest t mid a h) where
  abbrev xs : List (Record Amounts)
  xs = chunk_of i.done

  -- ---- one turn

  module _ {f : Fields} (e : read_of rest ≡ granted f) (u : Tally) (n : Tallied (xs ++ (record_of f ∷ [])) u) (fault : Option Refusal) (v : verdict_of fault ≡ low (verdict_of u.fault) (ask 11 (eqb u.start 0))) where
    standing-before : u.fault ≡ None → u.start ≡ 0 → Standing xs (start_level (record_of f)) mid a h
    standing-before z g =
        rw (sym (meets (record_of f) u z g xs t i.read.tallied n))
        (i.standing (faultless (record_of f) u z xs t i.read.tallied n) (grounded (record_of f) u z g xs t i.read.tallied n))

    pub ready : Ready fault f mid a h
    ready = record {
      records = xs;
      few = omega (arith, reading.few i.read);
      standing = λ z. let s = so_far u v z in standing-before s.0 s.1;
      deep = reading.deep i.read e;
      in-range = ((tells-range f.depth (amounts f.value f.floor f.ceiling)).from (sound rest f e).ranged).1;
    }

    pub next : {mid' : Figures} {a' : OpenAmounts} {h' : Holding} → Applied fault f mid a h mid' a' h'
        → Inv log (take (length rest - f.length) (drop f.length rest)) u mid' a' h'
    next {mid'} {a'} {h'} w = record {
      done = i.done ++ (f ∷ []);
      read = reading.next i.read e n;
      standing = λ z g.
          subst (λ (ys : List (Record Amounts)). Standing ys u.level mid' a' h') (sym (chunk-append i.done (f ∷ [])))
          (subst (λ (l : ℕ). Standing (xs ++ (record_of f ∷ [])) l mid' a' h') (sym (level-is (record_of f) u xs n))
          (w (is-clear fault (v ∙ clear_both z g)) xs (standing-before z g)));
    }
      where
        clear_both : u.fault ≡ None → u.start ≡ 0 → low (verdict_of u.fault) (ask 11 (eqb u.start 0)) ≡ pass
        clear_both z g = rw (z, eq-eqb u.start 0 g)

  pub stopped : 0 < length rest → read_of rest ≡ refused 3 → day_outcome log ≡ refused 3
  unfolding day_outcome
  stopped h e = reading.stopped i.read figures_of h e

  -- ---- the end

  module _ (over : length rest ≤ 0) where
    judged : day_outcome log ≡ outcome (log_verdict t) (figures_of xs)
    unfolding day_outcome
    judged = reading.ended i.read figures_of over

    pub ended : day_outcome log ≡ outcome (log_verdict t) mid
    ended = judged ∙ go (log_verdict t) refl
      where
        go : (v : Verdict) → log_verdict t ≡ v → outcome v (figures_of xs) ≡ outcome v mid
        go (refuse n) e = refl
        go pass e =
            let p = through t e in
            let st : Standing xs 0 mid a h = subst (λ (l : ℕ). Standing xs l mid a h) p.level (i.standing p.fault p.start) in
            ap granted (sym (all-figures xs (sym (log-verdict xs t i.read.tallied (omega (arith, reading.few i.read))) ∙ e) st))
