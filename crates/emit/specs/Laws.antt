-- What is answered of a summary's bytes that fit, and how long they are; what a head says by its case. Assumes nothing.
use Rattle.std.specs.Prelude.{◌≡◌, List, ℕ, ◌+◌, ◌-◌, ◌≤◌, ℤ, length, Result, Ok}
use Rattle.std.proofs.Common.{sym, ap, subst, ◌∙◌, arith}
use Rattle.gate.specs.Outcome.{written}
use Rattle.gate.specs.Promises.{Answers}
use Rattle.gate.proofs.Promises.{answer-fits, answer-same}
use Rattle.gate.specs.declared.Refusal.{Refusal}
use Rattle.modes.specs.FourModes.{store_held}
use Rattle.figure.specs.Mode.{Mode, mode_of}
use Rattle.modes.specs.declared.Held.{Held}
use Rattle.hill.specs.Summary.{blank, part, whole}
use Rattle.judge.specs.declared.SpoiltHead.{SpoiltHead}
use Rattle.judge.specs.declared.HillHead.{HillHead}
use Rattle.judge.specs.declared.Head.{Head}
use Rattle.judge.specs.declared.Head.TheVariants.{Hill}
use Rattle.judge.specs.Judged.{held_in}
use Rattle.judge.specs.Laws.{held_back}
use Rattle.slopes.specs.declared.Counts.{Counts}
use Rattle.slopes.specs.Arrays.{Arrays, slopes_of, Sound, Stored}
use Rattle.slopes.specs.Laws.{counts, rise-slopes, fall-slopes}
use Rattle.summary.specs.Layout.{SummaryIn, encode}
use Rattle.summary.proofs.Accepted.{encode-length}
use Rattle.emit.specs.Promised.{Wrote, hill_length, Writes}
use Rattle.emit.specs.Emitted.{counts_of, spoilt_said, hill_said, summary_said, WritableHill, Writable, Said}

abbrev pub spoilt_head : (fault : Refusal) (start end opened : ℕ) → SpoiltHead
spoilt_head f s e o = record { fault = f; start = s; end = e; opened = o }

abbrev pub hill_head : (start peak end opened : ℕ) → Held → HillHead
hill_head s p e o m = record { start = s; peak = p; end = e; opened = o; middle = m }

-- ---- by the length

pub answer-wrote : (w o : List ℕ) {o' : List ℕ} {n : ℕ} → length w ≤ length o → Wrote w o o' n → Answers (written (length o) w) o o' (Ok n)
answer-wrote w o h e = answer-fits w o h e.answered e.buffer

-- ---- by what is said

pub blank-length : (m : ℕ) → length (encode m blank) ≡ 6
blank-length m = encode-length m blank

pub spoilt-length : (m : ℕ) (s : SpoiltHead) → length (encode m (spoilt_said m s)) ≡ 16
spoilt-length m s = encode-length m (spoilt_said m s)

-- a hill's length, by the levels of its head
pub hill-length : (m : ℕ) (h : HillHead) (A : Arrays) → length (encode m (hill_said m h A)) ≡ hill_length (counts_of h)
hill-length m h A = encode-length m (hill_said m h A) ∙ rw (rise-slopes (mode_of m) A (counts_of h), fall-slopes (mode_of m) A (counts_of h))

-- ---- the counts that the code has computed are the head's

pub counts-are : (h : HillHead) {z : ℤ} → z ≡ store_held h.middle → counts (h.start - h.peak) (h.end - h.peak) z ≡ counts_of h
counts-are h e = rw e

module _ (h : HillHead) (A : Arrays) {c : Counts} (e : c ≡ counts_of h) where
  pub can_write : {M : Mode} {room : ℕ} → WritableHill M h A → hill_length (counts_of h) ≤ room → Writes M A c h.peak room
  can_write w f = rw e record { sound = w.sound; stored = w.stored; level = w.level; fits = f }

  pub wrote-said : (m : ℕ) {n : ℕ} {o o' : List ℕ} → Wrote (encode m (part (whole h.peak h.opened (slopes_of (mode_of m) A c)))) o o' n → Wrote (encode m (hill_said m h A)) o o' n
  wrote-said m w = rw e at w

-- ---- by the head

module _ {M : Mode} {head : Head} {A : Arrays} (w : Writable M head A) where
  pub hill-writable : {h : HillHead} → head ≡ Hill h → WritableHill M h A
  hill-writable e = rw e at w

-- what is answered of the case that a head is, is answered of the head
pub answer-head : (m : ℕ) {head g : Head} (A : Arrays) {o o' : List ℕ} {r : Result ℕ Refusal} → head ≡ g → Answers (written (length o) (encode m (summary_said m g A))) o o' r → Answers (written (length o) (encode m (summary_said m head A))) o o' r
answer-head m A e a = answer-same (ap (λ (h : Head). encode m (summary_said m h A)) (sym e)) a

-- ---- a head that is made from counts gives them back, and so says what the arrays say with them

module _ (m : ℕ) (h : HillHead) {c : Counts} (es : h.start ≡ h.peak + c.nl) (ee : h.end ≡ h.peak + c.n) (em : h.middle ≡ held_in m c.mid) where
  counts-back : counts_of h ≡ c
  counts-back =
      let l : h.start - h.peak ≡ c.nl = omega arith in
      let r : h.end - h.peak ≡ c.n = omega arith in
      let z : store_held h.middle ≡ c.mid = ap store_held em ∙ held_back m c.mid in
      rw (l, r, z)

  pub hill-said : {A : Arrays} {s : SummaryIn m} → Sound A c → Stored (mode_of m) A c → h.peak ≤ 64 → part (whole h.peak h.opened (slopes_of (mode_of m) A c)) ≡ s → Said m (Hill h) A s
  hill-said {A} a b l e = record {
    writable = record { sound = subst (Sound A) (sym counts-back) a; stored = subst (Stored (mode_of m) A) (sym counts-back) b; peak-start = omega arith; peak-end = omega arith; level = l };
    is = ap (λ (k : Counts). part (whole h.peak h.opened (slopes_of (mode_of m) A k))) counts-back ∙ e;
  }
