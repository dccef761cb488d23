-- The three cases of a chunk's summary. Assumes nothing.
use Rattle.std.specs.Prelude.{◌≡◌, true, false, not, List, [], ◌∷◌, ℕ, ◌-◌, ◌≤◌, Some, None}
use Rattle.std.proofs.Math.Path.{refl}
use Rattle.std.proofs.Common.{sym, ap, ◌∙◌, arith}
use Rattle.hill.specs.Verdict.{refuse}
use Rattle.hill.proofs.VerdictLaws.{low-pass, cut-few, count-few}
use Rattle.hill.specs.Log.{Record, peak_of, opened_of, fault_of}
use Rattle.hill.specs.Summary.{Hill as HillOf, part, spoilt, judged, part_of, summary_of}
use Rattle.hill.specs.Building.{hill_of}
use Rattle.hill.proofs.SummaryLaws.{part_of-built}
use Rattle.modes.specs.FourModes.{Amounts}
use Rattle.figure.specs.Mode.{Mode, mode_of}
use Rattle.modes.specs.declared.Held.{Held}
use Rattle.judge.specs.declared.Head.TheVariants.{Blank, Spoilt, Hill}
use Rattle.judge.specs.Judged.{held_in}
use Rattle.slopes.specs.declared.Counts.{Counts}
use Rattle.slopes.specs.Arrays.{Arrays}
use Rattle.slopes.specs.Laws.{rise-is, fall-is}
use Rattle.summary.specs.Layout.{SummaryIn, encode}
use Rattle.summary.specs.Outcomes.{summary_bytes}
use Rattle.whole_log.specs.declared.Tally.{Tally}
use Rattle.gate.specs.Answers.{number_of}
use Rattle.gate.specs.declared.Refusal.{Refusal}
use Rattle.fault.specs.Laws.{found-is}
use Rattle.whole_log.specs.Tallies.{Tells}
use Rattle.whole_log.specs.TallyLaws.{begun, not-begun, not-both, joints-pass}
use Rattle.summarise.specs.Scans.{Summed}
use Rattle.summarise.specs.ScanLaws.{start-low, start_is, end_is, part-whole}
use Rattle.emit.specs.Emitted.{Said}
use Rattle.emit.specs.Laws.{spoilt_head, hill_head, hill-said}

judged-spoilt : {Fig R : Type 0} (k s e o p : ℕ) (h : HillOf Fig R) → o ≤ 100000 → judged (refuse k) s e o p h ≡ spoilt k s e o
judged-spoilt k s e o p h le = ap (spoilt k s e) (cut-few o le)

module _ (m : ℕ) where
  abbrev M : Mode
  M = mode_of m

  abbrev said : List (Record Amounts) → SummaryIn m
  said xs = summary_of M.algebra xs

  pub bytes-are : (xs : List (Record Amounts)) → encode m (said xs) ≡ summary_bytes m xs
  unfolding summary_bytes
  bytes-are xs = refl

  part-spoilt : {t : Tally} {r : Refusal} (x : Record Amounts) (xs : List (Record Amounts)) → t.fault ≡ Some r → opened_of (x ∷ xs) ≤ 65536 → Tells x xs t
      → spoilt (number_of r) t.start t.level t.opened ≡ part_of M.algebra x xs
  part-spoilt {t} {r} x xs some few s =
      let v : fault_of x xs ≡ refuse (number_of r) = rw (count-few (opened_of (x ∷ xs)) (omega arith), found-is s.fault some) (low-pass (refuse (number_of r))) in
      sym (part_of-built M.algebra M.laws x xs
      ∙ rw (v, ← s.start, ← s.level, ← s.opened) (judged-spoilt (number_of r) t.start t.level t.opened (peak_of x xs) (hill_of M.algebra (x ∷ xs)) (omega (arith, s.opened))))

module _ (m : ℕ) {A : Arrays} {t : Tally} {c : Counts} where
  pub says-blank : (xs : List (Record Amounts)) → not t.begun ≡ true → Summed (M m) A c t xs → Said m Blank A (said m xs)
  says-blank [] b s = record { writable = tt; is = refl }
  says-blank (x ∷ xs) b s = absurd (not-both s.tallied.begun (not-begun t.begun b))

  module _ (b : not t.begun ≡ false) where
    pub says-spoilt : {r : Refusal} (xs : List (Record Amounts)) → t.fault ≡ Some r → Summed (M m) A c t xs → Said m (Spoilt (spoilt_head r t.start t.level t.opened)) A (said m xs)
    says-spoilt [] some s = absurd (not-both (begun t.begun b) s.tallied.begun)
    says-spoilt (x ∷ xs) some s = record { writable = tt; is = ap part (part-spoilt m x xs some s.few s.tallied) }

    module _ (z : t.fault ≡ None) where
      -- the peak is as many levels below the start as there are left values
      pub rises : (xs : List (Record Amounts)) → Summed (M m) A c t xs → (c.nl ≤ t.start) × (t.start ≤ 64)
      rises [] s = absurd (not-both (begun t.begun b) s.tallied.begun)
      rises (x ∷ xs) s =
          let w = s.tallied in
          let p = start_is (M m) x xs (joints-pass x xs t w z) (omega (arith, s.few)) in
          omega (arith, rise-is (s.hill z), w.start, start-low (M m) x s.readable.0)

      pub says-hill : (xs : List (Record Amounts)) {peak : ℕ} {middle : Held} → peak ≡ t.start - c.nl → middle ≡ held_in m c.mid → Summed (M m) A c t xs
          → Said m (Hill (hill_head t.start peak t.level t.opened middle)) A (said m xs)
      says-hill [] e em s = absurd (not-both (begun t.begun b) s.tallied.begun)
      says-hill (x ∷ xs) {peak} {middle} e em s =
          let w = s.tallied in
          let j = joints-pass x xs t w z in
          let few : opened_of (x ∷ xs) ≤ 100000 = omega (arith, s.few) in
          let p = start_is (M m) x xs j few in
          let n = end_is (M m) x xs j few in
          let q : peak ≡ peak_of x xs = omega (arith, rise-is (s.hill z), w.start) in
          hill-said m (hill_head t.start peak t.level t.opened middle) {c = c} (omega (arith, rises (x ∷ xs) s)) (omega (arith, fall-is (s.hill z), w.level)) em
          (s.hill z).sound (s.hill z).stored (omega (arith, rises (x ∷ xs) s))
          (ap part (rw (q, w.opened, (s.hill z).is) (sym (part-whole (M m) x xs j few))))
