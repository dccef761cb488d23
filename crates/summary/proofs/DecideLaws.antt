-- The test of question 5 tells whether bytes are a summary. Assumes nothing.
use Rattle.std.specs.Prelude.{◌≡◌, refl, ◌≢◌, ◌⊎◌, Bool, cond, ◌&&◌, List, ℕ, ◌+◌, ◌*◌, ◌≤◌, ◌<◌, eqb, length}
use Rattle.std.proofs.Math.Bool.{true, false}
use Rattle.std.proofs.Common.{arith}
use Rattle.std.proofs.Math.Dec.{leb}
use Rattle.record.specs.Record.{in_range}
use Rattle.modes.specs.FourModes.{limit, is_stamp}
use Rattle.figure.specs.Mode.{mode_in_use}
use Rattle.summary.specs.Judge.{length_at, kind_at, mode_at, fault_at, spoilt_start_at, start_at, peak_at, end_at, opened_at, rise_at, fall_at, left_at, middle_at, value_at, floor_at, ceiling_at, held_at, nothing_in, absolute_values, AllStamps, HasLayout, IsSpoilt, IsHill, IsSummary, is_blank, is_spoilt, is_hill}
use Rattle.summary.specs.Decide.{all_to, layout_fits, spoilt_fits, levels_fit, opened_fits, middle_fits, records_fit, values_fit, hill_fits, is_summary}
use Rattle.summary.proofs.Tests.{Tells, tells-le, tells-eq, tells-true, tells-and, tells-or, tells-where, tells-unless, tells-not, tells-same, tells_all, tells-also, false-true}

module _ (b : List ℕ) where
  pub tells-layout : (kind bytes : ℕ) → Tells (HasLayout b kind bytes) (layout_fits b kind bytes)
  unfolding layout_fits
  tells-layout kind bytes =
      tells-also (λ p. record { kind_fits = p.0.0.0; length-fits = p.0.0.1; length-said = p.0.1; mode-fits = p.1 })
      (λ h. (((h.kind_fits, h.length-fits), h.length-said), h.mode-fits))
      (tells-and (tells-and (tells-and (tells-eq (kind_at b) kind) (tells-eq (length b) bytes)) (tells-eq (length_at b) (length b))) (tells-true (mode_in_use (mode_at b))))

  tells-spoilt : Tells (IsSpoilt b) (layout_fits b 17 16 && spoilt_fits b)
  unfolding spoilt_fits
  tells-spoilt =
      tells-also
      (λ p. record { layout = p.0; fault-low = p.1.0.0.0.0.0; fault-high = p.1.0.0.0.0.1; start-high = p.1.0.0.0.1; end-high = p.1.0.0.1; opened-few = p.1.0.1; opened-more = p.1.1 })
      (λ v. (v.layout, (((((v.fault-low, v.fault-high), v.start-high), v.end-high), v.opened-few), v.opened-more)))
      (tells-and (tells-layout 17 16) (tells-and (tells-and (tells-and (tells-and (tells-and
      (tells-le 7 (fault_at b)) (tells-le (fault_at b) 9)) (tells-le (spoilt_start_at b) 64)) (tells-le (end_at b) 64)) (tells-le (opened_at b) 100_001))
      (tells-where (tells-eq (fault_at b) 9) (tells-eq (opened_at b) 100_001))))

  record Levels : Type 0 where
    start-high : start_at b ≤ 64
    end-high : end_at b ≤ 64
    peak-start : peak_at b ≤ start_at b
    peak-end : peak_at b ≤ end_at b
    ground : peak_at b ≡ 0 → (start_at b ≡ 0) ⊎ (end_at b ≡ 0)

  tells-levels : Tells Levels (levels_fit b)
  unfolding levels_fit
  tells-levels =
      tells-also (λ p. record { start-high = p.0.0.0.0; end-high = p.0.0.0.1; peak-start = p.0.0.1; peak-end = p.0.1; ground = p.1 })
      (λ l. ((((l.start-high, l.end-high), l.peak-start), l.peak-end), l.ground))
      (tells-and (tells-and (tells-and (tells-and (tells-le (start_at b) 64) (tells-le (end_at b) 64)) (tells-le (peak_at b) (start_at b))) (tells-le (peak_at b) (end_at b)))
      (tells-where (tells-eq (peak_at b) 0) (tells-or (tells-eq (start_at b) 0) (tells-eq (end_at b) 0))))

  tells-opened : Tells ((opened_at b ≤ 100_000) × (start_at b ≡ peak_at b → peak_at b ≡ end_at b → opened_at b ≢ 0)) (opened_fits b)
  unfolding opened_fits
  tells-opened = tells-and (tells-le (opened_at b) 100_000) (tells-where (tells-eq (start_at b) (peak_at b)) (tells-where (tells-eq (peak_at b) (end_at b)) (tells-not (tells-eq (opened_at b) 0))))

  tells-middle : Tells (peak_at b ≡ 0 → ¬ ((start_at b ≡ 0) × (end_at b ≡ 0)) → middle_at b ≡ nothing_in (mode_at b)) (middle_fits b)
  unfolding middle_fits
  tells-middle = tells-where (tells-eq (peak_at b) 0) (tells-unless (tells-and (tells-eq (start_at b) 0) (tells-eq (end_at b) 0)) (tells-same (middle_at b) (nothing_in (mode_at b))))

  tells-records : Tells ((j : ℕ) → j < fall_at b → in_range (peak_at b + j) (value_at b j) (floor_at b j) (ceiling_at b j) ≡ true) (records_fit b)
  unfolding records_fit
  tells-records = tells_all _ _ (λ j. tells-true (in_range (peak_at b + j) (value_at b j) (floor_at b j) (ceiling_at b j))) (fall_at b)

  record Weighed : Type 0 where
    light : mode_at b ≢ 4 → limit * fall_at b + absolute_values b ≤ limit * opened_at b
    stamps : mode_at b ≡ 4 → AllStamps b
    unclosed : mode_at b ≡ 4 → fall_at b ≤ opened_at b

  tells-stamps : Tells (AllStamps b × (fall_at b ≤ opened_at b)) (all_to (rise_at b) (λ i. is_stamp (left_at b i)) && is_stamp (middle_at b) && all_to (fall_at b) (λ j. is_stamp (held_at b j)) && leb (fall_at b) (opened_at b))
  tells-stamps =
      tells-and
      (tells-also (λ p. record { lefts = p.0.0; middle = p.0.1; helds = p.1 }) (λ a. ((a.lefts, a.middle), a.helds))
      (tells-and (tells-and (tells_all _ _ (λ i. tells-true (is_stamp (left_at b i))) (rise_at b)) (tells-true (is_stamp (middle_at b)))) (tells_all _ _ (λ j. tells-true (is_stamp (held_at b j))) (fall_at b))))
      (tells-le (fall_at b) (opened_at b))

  tells-values : Tells Weighed (values_fit b)
  unfolding values_fit
  tells-values = go (eqb (mode_at b) 4) (tells-eq (mode_at b) 4)
    where
      go : (t : Bool) → Tells (mode_at b ≡ 4) t → Tells Weighed (cond t (all_to (rise_at b) (λ i. is_stamp (left_at b i)) && is_stamp (middle_at b) && all_to (fall_at b) (λ j. is_stamp (held_at b j)) && leb (fall_at b) (opened_at b)) (leb (limit * fall_at b + absolute_values b) (limit * opened_at b)))
      go true s = tells-also (λ p. record { light = λ n. absurd (n (s.from refl)); stamps = λ _. p.0; unclosed = λ _. p.1 }) (λ w. (w.stamps (s.from refl), w.unclosed (s.from refl))) tells-stamps
      go false s =
          tells-also (λ p. record { light = λ _. p; stamps = λ e. false-true (s.to e); unclosed = λ e. false-true (s.to e) }) (λ w. w.light (λ e. false-true (s.to e)))
          (tells-le (limit * fall_at b + absolute_values b) (limit * opened_at b))

  tells-hill : Tells (IsHill b) (layout_fits b 18 (24 + 8 * rise_at b + 20 * fall_at b) && hill_fits b)
  unfolding hill_fits
  tells-hill =
      tells-also
      (λ p. record {
        layout = p.0;
        start-high = p.1.0.0.0.0.start-high;
        end-high = p.1.0.0.0.0.end-high;
        peak-start = p.1.0.0.0.0.peak-start;
        peak-end = p.1.0.0.0.0.peak-end;
        ground = p.1.0.0.0.0.ground;
        records = p.1.0.1;
        opened-few = p.1.0.0.0.1.0;
        opened_some = p.1.0.0.0.1.1;
        middle-nothing = p.1.0.0.1;
        values-light = p.1.1.light;
        values-stamps = p.1.1.stamps;
        opened-unclosed = p.1.1.unclosed;
      })
      (λ v. (
        v.layout,
        (
          (
            (
              (
                record { start-high = v.start-high; end-high = v.end-high; peak-start = v.peak-start; peak-end = v.peak-end; ground = v.ground },
                (v.opened-few, v.opened_some),
              ),
              v.middle-nothing,
            ),
            v.records,
          ),
          record { light = v.values-light; stamps = v.values-stamps; unclosed = v.opened-unclosed },
        ),
      ))
      (tells-and (tells-layout 18 (24 + 8 * rise_at b + 20 * fall_at b)) (tells-and (tells-and (tells-and (tells-and tells-levels tells-opened) tells-middle) tells-records) tells-values))

  only-blank : kind_at b ≡ 16 → IsSummary b → HasLayout b 16 6
  only-blank e (is_blank f) = f
  only-blank e (is_spoilt v) = absurd (omega (arith, v.layout.kind_fits))
  only-blank e (is_hill v) = absurd (omega (arith, v.layout.kind_fits))

  only-spoilt : kind_at b ≡ 17 → IsSummary b → IsSpoilt b
  only-spoilt e (is_blank f) = absurd (omega (arith, f.kind_fits))
  only-spoilt e (is_spoilt v) = v
  only-spoilt e (is_hill v) = absurd (omega (arith, v.layout.kind_fits))

  only-hill : kind_at b ≢ 16 → kind_at b ≢ 17 → IsSummary b → IsHill b
  only-hill m n (is_blank f) = absurd (m f.kind_fits)
  only-hill m n (is_spoilt v) = absurd (n v.layout.kind_fits)
  only-hill m n (is_hill v) = v

  -- QUESTION 5 is decided by `is_summary`.
  pub decide-summary : Tells (IsSummary b) (is_summary b)
  unfolding is_summary
  decide-summary = go (eqb (kind_at b) 16) (tells-eq (kind_at b) 16) (eqb (kind_at b) 17) (tells-eq (kind_at b) 17)
    where
      go : (s : Bool) → Tells (kind_at b ≡ 16) s → (t : Bool) → Tells (kind_at b ≡ 17) t → Tells (IsSummary b) (cond s (layout_fits b 16 6) (cond t (layout_fits b 17 16 && spoilt_fits b) (layout_fits b 18 (24 + 8 * rise_at b + 20 * fall_at b) && hill_fits b)))
      go true s t q = tells-also is_blank (only-blank (s.from refl)) (tells-layout 16 6)
      go false s true q = tells-also is_spoilt (only-spoilt (q.from refl)) tells-spoilt
      go false s false q = tells-also is_hill (only-hill (λ e. false-true (s.to e)) (λ e. false-true (q.to e))) tells-hill
