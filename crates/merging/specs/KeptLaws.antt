-- What was merged so far, and one piece or one half more. Assumes nothing.
use Rattle.std.specs.Prelude.{◌≡◌, refl, true, false, List, ℕ, ◌+◌, ◌*◌, ◌-◌, ◌^◌, ◌≤◌, ◌<◌, ℤ, Option, Some, None, is_some}
use Rattle.std.proofs.Common.{ap, ap₂, sym, subst, ◌∙◌, arith}
use Rattle.algebra.specs.Algebra.{Algebra}
use Rattle.modes.specs.FourModes.{Amounts}
use Rattle.figure.specs.Mode.{mode_of}
use Rattle.figure.specs.Stored.{none}
use Rattle.modes.specs.declared.Held.{Held}
use Rattle.judge.specs.declared.Head.TheVariants.{Blank, Spoilt, Hill}
use Rattle.judge.specs.Judged.{held_in}
use Rattle.hill.specs.Verdict.{Verdict, pass, refuse, low, joint, count}
use Rattle.hill.proofs.VerdictLaws.{low-fst, low-snd, joint-pass, refuse-pass}
use Rattle.hill.specs.Summary.{Hill as HillOf, Part, blank, part, spoilt, whole, rise, fall, start, end, opened, verdict, slopes}
use Rattle.hill.specs.Building.{merge}
use Rattle.hill.proofs.Building.{merge-empty, empty-merge}
use Rattle.hill.specs.Merge.{merge_summary}
use Rattle.hill.proofs.MergeLaws.{merge_hills-merge}
use Rattle.hill.proofs.SummaryLaws.{verdict-merge}
use Rattle.hill.proofs.ValidLaws.{valid-merge_summary, hill-weight}
use Rattle.summary.specs.Judge.{peak_at, opened_at, rise_at, fall_at, IsHill, IsSummary, is_blank, is_spoilt, is_hill}
use Rattle.summary.specs.Layout.{SummaryIn}
use Rattle.summary.specs.Decode.{decode, hill_in}
use Rattle.summary.proofs.Values.{lefts-length}
use Rattle.summary.specs.Accepted.{Accepted, IsSummaryIn}
use Rattle.summary.proofs.Accepted.{decoded}
use Rattle.slopes.specs.declared.Counts.{Counts}
use Rattle.slopes.specs.declared.Slopes.{Slopes}
use Rattle.slopes.specs.Kept.{arrays_of}
use Rattle.slopes.specs.Arrays.{Arrays, Fig, slopes_of as hill_of, weight_of, Fine, Arrays64, StandsFor}
use Rattle.slopes.specs.Laws.{counts, able, restate, rise-is, fall-is, emptied, unit-bound}
use Rattle.codec.specs.Promised.{Loads}
use Rattle.join_plan.specs.Gate.{summary_fault}
use Rattle.join_plan.proofs.Gate.{fault-parts}
use Rattle.plan_work.specs.Runs.{slopes_of}
use Rattle.fault.specs.Fault.{verdict_of}
use Rattle.fault.specs.Laws.{clear-is, found-is}
use Rattle.judge.specs.declared.Numbers.{Numbers}
use Rattle.gate.specs.Answers.{number_of}
use Rattle.gate.specs.declared.Refusal.{Refusal}
use Rattle.merging.specs.declared.Merged.{Merged}
use Rattle.merging.specs.Side.{Says, SaysPart}
use Rattle.emit.specs.Emitted.{Said}
use Rattle.emit.specs.Laws.{spoilt_head, hill_head, hill-said}
use Rattle.merging.specs.Asks.{Kept}
use Rattle.merging.specs.SayLaws.{decode-blank, decode-spoilt, decode-hill}

abbrev pub merged : (r : Option Numbers) (c : Counts) (s : Slopes) → Merged
merged r c s = record { side = r; counts = c; slopes = s }

some-found : (f : Option Refusal) → is_some f ≡ true → verdict_of f ≡ pass → ⊥
some-found None e v = cc
some-found (Some r) e v = refuse-pass v

none-found : (f : Option Refusal) → is_some f ≡ false → f ≡ None
none-found None e = refl
none-found (Some r) e = cc

-- both slopes have room for the bytes of a hill
record Rooms (b : List ℕ) (c : Counts) : Type 0 where
  left : c.nl + (rise_at b - c.n) ≤ 64
  right : fall_at b + (c.n - rise_at b) ≤ 64

module _ (m : ℕ) where
  abbrev 𝒜 : Algebra Amounts
  𝒜 = (mode_of m).algebra

  abbrev most : ℕ
  most = (mode_of m).sizes.unit * 100000

  abbrev new : List ℕ → HillOf (Fig (mode_of m)) Amounts
  new b = hill_in (mode_of m).read b

  -- the fault that a summary shows is the one in hand
  said-fault : {s : SummaryIn m} {p : Numbers} → SaysPart m p s → summary_fault 𝒜 s ≡ verdict_of p.fault
  said-fault h = ap (summary_fault 𝒜) h.is ∙ sym h.says.fault

  -- an accepted summary weighs no more than 100,000 records
  light : (s : SummaryIn m) → Accepted m s → weight_of (mode_of m) (slopes_of 𝒜 s) ≤ most
  light blank v = omega (arith, (mode_of m).sizes.size-ι)
  light (part (spoilt f b e o)) v = omega (arith, (mode_of m).sizes.size-ι)
  light (part (whole p o h)) v = hill-weight 𝒜 (mode_of m).sizes p o h v

  -- the slopes of two that were merged without a fault
  both-slopes : (s t : SummaryIn m) → summary_fault 𝒜 (merge_summary 𝒜 s t) ≡ pass → slopes_of 𝒜 (merge_summary 𝒜 s t) ≡ merge 𝒜 (slopes_of 𝒜 s) (slopes_of 𝒜 t)
  both-slopes blank t v = sym (empty-merge 𝒜 (mode_of m).laws (slopes_of 𝒜 t))
  both-slopes (part a) blank v = sym (merge-empty 𝒜 (mode_of m).laws (slopes 𝒜 a))
  both-slopes (part a) (part b) v = rw (sym (verdict-merge 𝒜 a b) ∙ v) (merge_hills-merge 𝒜 (mode_of m).laws (slopes 𝒜 a) (slopes 𝒜 b))

  -- where they meet
  meets : (a b : Part 𝒜.Fig Amounts) → summary_fault 𝒜 (merge_summary 𝒜 (part a) (part b)) ≡ pass → end a ≡ start b
  meets a b v =
      let j : Verdict = low (joint (end a) (start b)) (count (opened a + opened b)) in
      let x = low-snd (verdict a) (low (verdict b) j) (sym (verdict-merge 𝒜 a b) ∙ v) in
      joint-pass (end a) (start b) (low-fst (joint (end a) (start b)) (count (opened a + opened b)) (low-snd (verdict b) j x))

  -- ---- nothing merged yet

  pub kept-none : {s : Slopes} {z : ℤ} → Arrays64 (arrays_of s) → z ≡ none (mode_of m) → Kept m (merged None (counts 0 0 z) s) blank
  kept-none {s} {z} h e = record {
    whole = h;
    accepted = tt;
    says = refl;
    stands = λ v. restate (emptied (mode_of m) (arrays_of s) z h e) most refl (omega arith);
  }

  module _ {a : Merged} {s : SummaryIn m} (k : Kept m a s) where
    abbrev A : Arrays
    A = arrays_of a.slopes

    -- ---- one piece more that is not blank:

    module _ {b : List ℕ} (i : IsSummaryIn m b) where
      both-accepted : Accepted m (merge_summary 𝒜 s (decode m b))
      both-accepted = valid-merge_summary 𝒜 (mode_of m).sizes (mode_of m).laws s (decode m b) k.accepted (decoded m b i)

      module _ {p both : Numbers} (h : SaysPart m p (decode m b)) (g : SaysPart m both (merge_summary 𝒜 s (decode m b))) where
        -- one that brings a fault, ..
        pub kept-fault : {c : Counts} → is_some both.fault ≡ true → Kept m (merged (Some both) c a.slopes) (merge_summary 𝒜 s (decode m b))
        kept-fault e = record { whole = k.whole; accepted = both-accepted; says = g; stands = λ v. absurd (some-found both.fault e (sym (said-fault g) ∙ v)) }

        -- .. or a hill that meets what was merged before
        module _ (e : is_some both.fault ≡ false) where
          clear : summary_fault 𝒜 (merge_summary 𝒜 s (decode m b)) ≡ pass
          clear = clear-is (sym (said-fault g)) (none-found both.fault e)

          before : StandsFor (mode_of m) A a.counts (slopes_of 𝒜 s) most
          before = k.stands (fault-parts 𝒜 s (decode m b) clear).0

          is-hill : IsHill b
          is-hill = go i.is
            where
              go : IsSummary b → IsHill b
              go (is_blank f) = let z : ◌≡◌ {A = ℕ} 0 1 = cc (decode-blank m b f.kind_fits, h.is) in absurd (omega arith)
              go (is_spoilt v) = absurd (refuse-pass (sym (ap (summary_fault 𝒜) (decode-spoilt m b v.layout.kind_fits)) ∙ (fault-parts 𝒜 s (decode m b) clear).1))
              go (is_hill v) = v

          piece_is : decode m b ≡ part (whole (peak_at b) (opened_at b) (new b))
          piece_is = decode-hill m b is-hill.layout.kind_fits

          -- since no level is above 64
          rooms : Rooms b a.counts
          rooms = go s k.accepted (rise-is before) (fall-is before) (subst (λ (t : SummaryIn m). summary_fault 𝒜 (merge_summary 𝒜 s t) ≡ pass) piece_is clear)
            where
              v : IsHill b
              v = is-hill

              go : (s : SummaryIn m) → Accepted m s → a.counts.nl ≡ rise (slopes_of 𝒜 s) → a.counts.n ≡ fall (slopes_of 𝒜 s) →
                  summary_fault 𝒜 (merge_summary 𝒜 s (part (whole (peak_at b) (opened_at b) (new b)))) ≡ pass → Rooms b a.counts
              go blank w x y z = record { left = omega (arith, v.start-high); right = omega (arith, v.end-high) }
              go (part (spoilt f d e o)) w x y z = absurd (refuse-pass (fault-parts 𝒜 (part (spoilt f d e o)) (part (whole (peak_at b) (opened_at b) (new b))) z).0)
              go (part (whole q o u)) w x y z =
                  let j : q + fall u ≡ peak_at b + rise (new b) = meets (whole q o u) (whole (peak_at b) (opened_at b) (new b)) z in
                  let l = lefts-length (mode_of m).read b (rise_at b) in
                  record {
                    left = omega (arith, w.start-high, v.start-high, v.peak-start);
                    right = omega (arith, w.end-high, v.end-high, v.peak-start, v.peak-end);
                  }

          pub kept-loads : Loads m b A a.counts
          kept-loads =
              let u = unit-bound (mode_of m) 200000 (omega arith) in
              let w : weight_of (mode_of m) (new b) ≤ most = subst (λ (t : SummaryIn m). weight_of (mode_of m) (slopes_of 𝒜 t) ≤ most) piece_is (light (decode m b) (decoded m b i)) in
              record {
                able = able before (omega arith);
                hill = is-hill;
                mode-is = i.mode-is;
                left-room = rooms.left;
                right-room = rooms.right;
                light = subst (λ (x : HillOf (Fig (mode_of m)) Amounts). weight_of (mode_of m) x + weight_of (mode_of m) (new b) < 2 ^ 62) (sym before.is) (omega (arith, before.light));
              }

          pub kept-loaded : {s' : Slopes} {c' : Counts} → StandsFor (mode_of m) (arrays_of s') c' (merge 𝒜 (hill_of (mode_of m) A a.counts) (new b)) (weight_of (mode_of m) (hill_of (mode_of m) A a.counts) + weight_of (mode_of m) (new b)) →
              Kept m (merged (Some both) c' s') (merge_summary 𝒜 s (decode m b))
          kept-loaded r =
              let n : slopes_of 𝒜 (decode m b) ≡ (new b) = ap (slopes_of 𝒜) piece_is in
              let x : merge 𝒜 (hill_of (mode_of m) A a.counts) (new b) ≡ slopes_of 𝒜 (merge_summary 𝒜 s (decode m b)) = ap₂ (merge 𝒜) before.is (sym n) ∙ sym (both-slopes s (decode m b) clear) in
              record {
                whole = r.sound.whole;
                accepted = both-accepted;
                says = g;
                stands = λ v. record { sound = r.sound; stored = r.stored; is = r.is ∙ x; fine = subst (Fine (mode_of m)) x r.fine; light = light (merge_summary 𝒜 s (decode m b)) both-accepted };
              }

    -- ---- its head, by the three cases

    pub says-blank : s ≡ blank → Said m Blank A s
    says-blank e = record { writable = tt; is = sym e }

    pub says-spoilt : {p : Numbers} {r : Refusal} → SaysPart m p s → p.fault ≡ Some r → Said m (Spoilt (spoilt_head r p.start p.end p.opened)) A s
    says-spoilt {p} {r} h e = record { writable = tt; is = go h.said (sym (found-is h.says.fault e)) h.says.start h.says.end h.says.opened ∙ sym h.is }
      where
        go : (a : Part 𝒜.Fig Amounts) → refuse (number_of r) ≡ verdict a → p.start ≡ start a → p.end ≡ end a → p.opened ≡ opened a → part (spoilt (number_of r) p.start p.end p.opened) ≡ part a
        go (spoilt f b e o) v x y z = let w : number_of r ≡ f = cc in rw (w, x, y, z)
        go (whole q o u) v x y z = absurd (refuse-pass v)

    module _ {p : Numbers} (h : SaysPart m p s) (e : p.fault ≡ None) where
      no-fault : summary_fault 𝒜 s ≡ pass
      no-fault = clear-is (sym (said-fault h)) e

      stands : StandsFor (mode_of m) A a.counts (slopes 𝒜 h.said) most
      stands = restate (k.stands no-fault) most (ap (slopes_of 𝒜) h.is) (omega arith)

      pub says-hill : {middle : Held} → middle ≡ held_in m a.counts.mid → Said m (Hill (hill_head p.start p.peak p.end p.opened middle)) A s
      says-hill {middle} em = go h.said h.is (clear-is h.says.fault e) h.says (subst (Accepted m) h.is k.accepted) stands
        where
          go : (t : Part 𝒜.Fig Amounts) → s ≡ part t → verdict t ≡ pass → Says m p t → Accepted m (part t) → StandsFor (mode_of m) A a.counts (slopes 𝒜 t) most
              → Said m (Hill (hill_head p.start p.peak p.end p.opened middle)) A s
          go (spoilt f b e o) i v w c st = absurd (refuse-pass v)
          go (whole q o u) i v w c st =
              let peak-is : p.peak ≡ q = w.peak v in
              hill-said m (hill_head p.start p.peak p.end p.opened middle) {c = a.counts} (omega (arith, w.start, rise-is st)) (omega (arith, w.end, fall-is st)) em
              st.sound st.stored (omega (arith, c.start-high)) (rw (peak-is, w.opened, st.is) (sym i))
