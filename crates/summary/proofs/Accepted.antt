-- Question 5 and what bytes stand for: bytes are a summary in mode m exactly where they are the bytes of an accepted one, which is then the one that
-- they say. Assumes nothing.
use Rattle.std.specs.Prelude.{◌≡◌, ◌↔◌, true, List, ℕ, ◌+◌, ◌*◌, ◌≤◌, length}
use Rattle.std.proofs.Common.{sym, ap, subst, ◌∙◌, ⊎_elim, arith}
use Rattle.std.proofs.Math.Logic.{dite}
use Rattle.std.proofs.Math.Decide.{ℕ_discrete}
use Rattle.number.specs.Bytes.{AllBytes}
use Rattle.modes.specs.FourModes.{Amounts}
use Rattle.figure.specs.Mode.{mode_of, mode_in_use}
use Rattle.hill.specs.Log.{Record}
use Rattle.hill.specs.Summary.{blank, part, spoilt, whole, summary_of}
use Rattle.hill.specs.Valid.{AllReadable}
use Rattle.hill.proofs.ValidLaws.{hill-length, valid-summary}
use Rattle.summary.specs.Layout.{SummaryIn, encode, length_of}
use Rattle.summary.specs.Judge.{length_at, mode_at, rise_at, fall_at, peak_at, IsHill, IsSummary, is_blank, is_spoilt, is_hill}
use Rattle.summary.specs.Decode.{decode}
use Rattle.summary.proofs.ModeValues.{numbered}
use Rattle.summary.proofs.ReadBack.{layout-length, layout-bytes}
use Rattle.summary.proofs.Written.{says}
use Rattle.summary.proofs.WriteBack.{layout-reading, reading-valid}
use Rattle.summary.specs.Accepted.{Accepted, IsSummaryIn}

in_use : (b : List ℕ) → IsSummary b → mode_in_use (mode_at b) ≡ true
in_use b (is_blank f) = f.mode-fits
in_use b (is_spoilt v) = v.layout.mode-fits
in_use b (is_hill v) = v.layout.mode-fits

pub mode-used : (m : ℕ) (b : List ℕ) → IsSummaryIn m b → mode_in_use m ≡ true
mode-used m b i = subst (λ (k : ℕ). mode_in_use k ≡ true) i.mode-is (in_use b i.is)

-- ---- the length of a summary

-- Its first field says it; it is 6 or more, and "at most 1,788".
pub record HasLength (b : List ℕ) : Type 0 where
  pub said : length_at b ≡ length b
  pub some : 6 ≤ length b
  pub few : length b ≤ 1788

hill-few : (b : List ℕ) → IsHill b → 24 + 8 * rise_at b + 20 * fall_at b ≤ 1788
hill-few b v =
    dite (ℕ_discrete (peak_at b) 0)
    (λ e. ⊎_elim (λ s. omega (arith, v.end-high)) (λ s. omega (arith, v.start-high)) (v.ground e))
    (λ n. omega (arith, v.start-high, v.end-high))

pub summary-length : (m : ℕ) (b : List ℕ) → IsSummaryIn m b → HasLength b
summary-length m b i = go i.is
  where
    go : IsSummary b → HasLength b
    go (is_blank f) = record { said = f.length-said; some = omega (arith, f.length-fits); few = omega (arith, f.length-fits) }
    go (is_spoilt v) = record { said = v.layout.length-said; some = omega (arith, v.layout.length-fits); few = omega (arith, v.layout.length-fits) }
    go (is_hill v) = record { said = v.layout.length-said; some = omega (arith, v.layout.length-fits); few = omega (arith, v.layout.length-fits, hill-few b v) }

-- ---- from summaries to bytes

module _ (m : ℕ) (u : mode_in_use m ≡ true) (s : SummaryIn m) (v : Accepted m s) where
  pub encoded : IsSummaryIn m (encode m s)
  unfolding encode
  encoded = let w = says (mode_of m) m (numbered m u) u s v in record { is = w.is; mode-is = w.mode-is }

  pub decode-encode : decode m (encode m s) ≡ s
  unfolding encode decode
  decode-encode = (says (mode_of m) m (numbered m u) u s v).back

pub encode-length : (m : ℕ) (s : SummaryIn m) → length (encode m s) ≡ length_of s
unfolding encode
encode-length m s = layout-length (mode_of m).store m s

pub encode-bytes : (m : ℕ) (s : SummaryIn m) → AllBytes (encode m s)
unfolding encode
encode-bytes m s = layout-bytes (mode_of m).store m s

-- "at most 1,788"
pub encode-fits : (m : ℕ) (s : SummaryIn m) → Accepted m s → length (encode m s) ≤ 1788
encode-fits m s v = rw (encode-length m s) (go s v)
  where
    go : (s : SummaryIn m) → Accepted m s → length_of s ≤ 1788
    go blank v = omega arith
    go (part (spoilt f s e o)) v = omega arith
    go (part (whole p o h)) v = hill-length (mode_of m).algebra (mode_of m).sizes p o h v

-- ---- from bytes to summaries

decoded-here : (b : List ℕ) → IsSummary b → Accepted (mode_at b) (decode (mode_at b) b)
unfolding decode
decoded-here b i = reading-valid (mode_of (mode_at b)) b (numbered (mode_at b) (in_use b i)) i

pub decoded : (m : ℕ) (b : List ℕ) → IsSummaryIn m b → Accepted m (decode m b)
decoded m b i = subst (λ (k : ℕ). Accepted k (decode k b)) i.mode-is (decoded-here b i.is)

encode-decode-here : (b : List ℕ) → AllBytes b → IsSummary b → encode (mode_at b) (decode (mode_at b) b) ≡ b
unfolding encode decode
encode-decode-here b a i = layout-reading (mode_of (mode_at b)) b a (numbered (mode_at b) (in_use b i)) i

pub encode-decode : (m : ℕ) (b : List ℕ) → AllBytes b → IsSummaryIn m b → encode m (decode m b) ≡ b
encode-decode m b a i = subst (λ (k : ℕ). encode k (decode k b) ≡ b) i.mode-is (encode-decode-here b a i.is)

-- ---- both

-- The bytes b stand for s.
pub record StandsFor (m : ℕ) (b : List ℕ) (s : SummaryIn m) : Type 0 where
  pub accepted : Accepted m s
  pub same : b ≡ encode m s

pub stands : (m : ℕ) (b : List ℕ) → AllBytes b → IsSummaryIn m b → StandsFor m b (decode m b)
stands m b a i = record { accepted = decoded m b i; same = sym (encode-decode m b a i) }

pub stands-is : (m : ℕ) (b : List ℕ) (s : SummaryIn m) → mode_in_use m ≡ true → StandsFor m b s → IsSummaryIn m b
stands-is m b s u t = subst (IsSummaryIn m) (sym t.same) (encoded m u s t.accepted)

pub stands-only : (m : ℕ) (b : List ℕ) (s : SummaryIn m) → mode_in_use m ≡ true → StandsFor m b s → s ≡ decode m b
stands-only m b s u t = sym (ap (decode m) t.same ∙ decode-encode m u s t.accepted)

-- They stand for one summary, and for no other.
pub record StandsForOne (m : ℕ) (b : List ℕ) : Type 0 where
  pub said : SummaryIn m
  pub stands-for : StandsFor m b said
  pub only : (s : SummaryIn m) → StandsFor m b s → s ≡ said

-- QUESTION 5: bytes are a summary in mode m exactly where they are the bytes of one accepted summary, namely of the one that `decode` reads.
pub is-summary : (m : ℕ) (b : List ℕ) → mode_in_use m ≡ true → AllBytes b → IsSummaryIn m b ↔ StandsForOne m b
is-summary m b u a = (
  (λ i. record { said = decode m b; stands-for = stands m b a i; only = λ s t. stands-only m b s u t }),
  λ o. stands-is m b o.said u o.stands-for,
)

-- ---- chunks

-- The summary of a chunk of readable records is accepted.
pub chunk-accepted : (m : ℕ) (xs : List (Record Amounts)) → AllReadable (mode_of m).algebra (mode_of m).sizes xs → Accepted m (summary_of (mode_of m).algebra xs)
chunk-accepted m xs r = valid-summary (mode_of m).algebra (mode_of m).sizes (mode_of m).laws xs r
