-- What accepted bytes say before their slopes, and what two sides say together. Assumes nothing.
use Rattle.std.specs.Prelude.{◌≡◌, refl, List, ℕ, ◌+◌, min, Option, Some, None}
use Rattle.std.proofs.Common.{ap, ap₂, sym, subst, ◌∙◌, arith}
use Rattle.algebra.specs.Algebra.{Algebra}
use Rattle.modes.specs.FourModes.{Amounts}
use Rattle.figure.specs.Mode.{mode_of}
use Rattle.gate.specs.declared.Refusal.{Refusal}
use Rattle.hill.specs.Verdict.{pass, refuse, low, joint, count, cut}
use Rattle.hill.proofs.VerdictLaws.{low-fst, low-snd}
use Rattle.hill.specs.Summary.{Part, blank, part, spoilt, whole, start, end, opened, verdict, peak}
use Rattle.hill.specs.Merge.{merge_verdict, merge_part, merge_summary}
use Rattle.hill.proofs.SummaryLaws.{verdict-merge, start-merge, end-merge, opened-merge}
use Rattle.summary.specs.Judge.{kind_at, fault_at, spoilt_start_at, start_at, peak_at, end_at, opened_at, rise_at, fall_at, HasLayout, IsSpoilt, IsHill, IsSummary, is_blank, is_spoilt, is_hill}
use Rattle.summary.specs.Layout.{SummaryIn}
use Rattle.summary.specs.Decode.{decode, hill_in}
use Rattle.summary.proofs.Values.{lefts-length, rights-length, reading-blank, reading-spoilt, reading-hill}
use Rattle.judge.specs.Judged.{fault_named, head_at}
use Rattle.judge.specs.Laws.{head-blank, head-spoilt, head-hill, summary-fits, in-bounds, fault-number}
use Rattle.judge.specs.declared.SpoiltHead.{SpoiltHead}
use Rattle.judge.specs.declared.HillHead.{HillHead}
use Rattle.judge.specs.declared.Head.TheVariants.{Spoilt, Hill}
use Rattle.judge.specs.declared.Numbers.{Numbers}
use Rattle.judge.specs.Numbers.{numbers_of, InBounds, AllInBounds}
use Rattle.fault.specs.Fault.{verdict_of}
use Rattle.merging.specs.Side.{SaysPart, SaysOf}

-- ---- what they say

abbrev pub numbers : (f : Option Refusal) (s p e o : ℕ) → Numbers
numbers f s p e o = record { fault = f; start = s; peak = p; end = e; opened = o }

module _ (m : ℕ) (b : List ℕ) where
  pub decode-blank : kind_at b ≡ 16 → decode m b ≡ blank
  unfolding decode
  decode-blank e = reading-blank (mode_of m).read b e

  pub decode-spoilt : kind_at b ≡ 17 → decode m b ≡ part (spoilt (fault_at b) (spoilt_start_at b) (end_at b) (opened_at b))
  unfolding decode
  decode-spoilt e = reading-spoilt (mode_of m).read b e

  pub decode-hill : kind_at b ≡ 18 → decode m b ≡ part (whole (peak_at b) (opened_at b) (hill_in (mode_of m).read b))
  unfolding decode
  decode-hill e = reading-hill (mode_of m).read b e

  -- by the three cases
  says-blank : HasLayout b 16 6 → SaysOf m (numbers_of (head_at b)) (decode m b)
  says-blank f = rw (head-blank b f.kind_fits) (decode-blank f.kind_fits)

  says-spoilt : IsSpoilt b → InBounds (numbers (Some (fault_named (fault_at b))) (spoilt_start_at b) 0 (end_at b) (opened_at b)) → SaysOf m (numbers_of (head_at b)) (decode m b)
  says-spoilt v i =
      rw (head-spoilt b v.layout.kind_fits) record {
        said = spoilt (fault_at b) (spoilt_start_at b) (end_at b) (opened_at b);
        is = decode-spoilt v.layout.kind_fits;
        says = record { fault = ap refuse (fault-number v); start = refl; peak = λ w. refl; end = refl; opened = refl; bounds = i };
      }

  says-hill : IsHill b → InBounds (numbers None (start_at b) (peak_at b) (end_at b) (opened_at b)) → SaysOf m (numbers_of (head_at b)) (decode m b)
  says-hill v i =
      let k = v.layout.kind_fits in
      rw (head-hill b (λ e. omega arith) (λ e. omega arith)) record {
        said = whole (peak_at b) (opened_at b) (hill_in (mode_of m).read b);
        is = decode-hill k;
        says = record {
          fault = refl;
          start = omega (arith, lefts-length (mode_of m).read b (rise_at b), v.peak-start);
          peak = λ w. refl;
          end = omega (arith, rights-length (mode_of m).read b (fall_at b), v.peak-end);
          opened = refl;
          bounds = i;
        };
      }

  bounds : IsSummary b → AllInBounds (numbers_of (head_at b))
  bounds i = in-bounds (head_at b) (summary-fits b i)

  -- of accepted bytes start, peak and end are at most 64
  pub spoilt-bounds : IsSummary b → {h : SpoiltHead} → head_at b ≡ Spoilt h → InBounds (numbers (Some h.fault) h.start 0 h.end h.opened)
  spoilt-bounds i q = subst AllInBounds (ap numbers_of q) (bounds i)

  pub hill-bounds : IsSummary b → {h : HillHead} → head_at b ≡ Hill h → InBounds (numbers None h.start h.peak h.end h.opened)
  hill-bounds i q = subst AllInBounds (ap numbers_of q) (bounds i)

  pub says-side : IsSummary b → SaysOf m (numbers_of (head_at b)) (decode m b)
  says-side (is_blank f) = says-blank f
  says-side (is_spoilt v) = says-spoilt v (rw (head-spoilt b v.layout.kind_fits) at (bounds (is_spoilt v)))
  says-side (is_hill v) = let k = v.layout.kind_fits in says-hill v (rw (head-hill b (λ e. omega arith) (λ e. omega arith)) at (bounds (is_hill v)))

module _ (m : ℕ) (s : SummaryIn m) (r : Option Numbers) (h : SaysOf m r s) where
  pub part-said : {p : Numbers} → r ≡ Some p → SaysPart m p s
  part-said e = rw e at h

pub side-bounds : (m : ℕ) (s : SummaryIn m) (r : Option Numbers) → SaysOf m r s → AllInBounds r
side-bounds m s None h = tt
side-bounds m s (Some p) h = h.says.bounds

-- ---- two sides

cut_is : (n : ℕ) → min n 100001 ≡ cut n
unfolding cut
cut_is n = omega arith

module _ (m : ℕ) where
  abbrev 𝒜 : Algebra Amounts
  𝒜 = (mode_of m).algebra

  module _ {s t : SummaryIn m} {p : Numbers} (h : SaysPart m p t) where
    -- "The lowest of these faults, the left's start, the right's end, opened added and cut to 100,001."
    pub after-part : {q : Numbers} {f : Option Refusal} {k o : ℕ} → SaysPart m q s →
        verdict_of f ≡ low (verdict_of q.fault) (low (verdict_of p.fault) (low (joint q.end p.start) (count (q.opened + p.opened)))) →
        k ≡ min q.peak p.peak → o ≡ min (q.opened + p.opened) 100001 → SaysPart m (numbers f q.start k p.end o) (merge_summary 𝒜 s t)
    after-part {q} {f} {k} {o} g ef ek eo =
        let l = g.says in
        let r = h.says in
        let a : Part 𝒜.Fig Amounts = g.said in
        let b : Part 𝒜.Fig Amounts = h.said in
        let w : verdict_of f ≡ merge_verdict 𝒜 a b = ef ∙ rw (l.fault, r.fault, l.end, r.start, l.opened, r.opened) refl in
        record {
          said = merge_part 𝒜 a b;
          is = ap₂ (merge_summary 𝒜) g.is h.is;
          says = record {
            fault = w ∙ sym (verdict-merge 𝒜 a b);
            start = l.start ∙ sym (start-merge 𝒜 (mode_of m).laws a b);
            peak = λ v. lowest a b (sym (verdict-merge 𝒜 a b) ∙ v) ek l.peak r.peak;
            end = r.end ∙ sym (end-merge 𝒜 (mode_of m).laws a b);
            opened = eo ∙ cut_is (q.opened + p.opened) ∙ ap₂ (λ (x y : ℕ). cut (x + y)) l.opened r.opened ∙ sym (opened-merge 𝒜 a b);
            bounds = record {
              start-high = l.bounds.start-high;
              peak-high = omega (arith, l.bounds.peak-high);
              end-high = r.bounds.end-high;
              opened-few = omega arith;
            };
          };
        }
      where
        lowest : (a b : Part 𝒜.Fig Amounts) → merge_verdict 𝒜 a b ≡ pass → k ≡ min q.peak p.peak → (verdict a ≡ pass → q.peak ≡ peak 𝒜 a) → (verdict b ≡ pass → p.peak ≡ peak 𝒜 b) → k ≡ peak 𝒜 (merge_part 𝒜 a b)
        lowest a b v ek ea eb =
            let x = low-fst (verdict a) (low (verdict b) (low (joint (end a) (start b)) (count (opened a + opened b)))) v in
            let y = low-snd (verdict a) (low (verdict b) (low (joint (end a) (start b)) (count (opened a + opened b)))) v in
            let z = low-fst (verdict b) (low (joint (end a) (start b)) (count (opened a + opened b))) y in
            rw v (ek ∙ ap₂ min (ea x) (eb z))
