-- What a caller of `judge` may conclude from its answer. Assumes nothing.
use Rattle.std.specs.Prelude.{◌≡◌, refl, Bool, true, false, cond, List, ℕ, ◌≤◌, eqb, ℤ, length, Result, Ok, Err}
use Rattle.std.proofs.Common.{sym, ap, ◌∙◌, subst, arith, eqb-true}
use Rattle.std.proofs.lemmas.Bool.{eqb-false}
use borrow.Author.Tests.{ne_eqb}
use Rattle.gate.specs.Outcome.{refused, granted}
use Rattle.gate.specs.Answers.{number_of, answered}
use Rattle.gate.proofs.Laws.{not-result, one_number}
use Rattle.gate.specs.declared.Refusal.{Refusal}
use Rattle.modes.specs.FourModes.{read_held, store_held}
use Rattle.figure.specs.Mode.{stores_nothing}
use Rattle.modes.proofs.StoreLaws.{held-stored}
use Rattle.modes.specs.declared.Held.TheVariants.{Figure}
use Rattle.gate.specs.declared.Refusal.TheVariants as no
use Rattle.summary.specs.Judge.{kind_at, mode_at, fault_at, HasLayout, IsSpoilt, IsHill, IsSummary, is_blank, is_spoilt, is_hill}
use Rattle.summary.specs.Decide.{layout_fits, is_summary}
use Rattle.summary.proofs.DecideLaws.{decide-summary}
use Rattle.judge.specs.Judged.{held_in, fault_named, spoilt_head_at, hill_head_at, head_at, piece_at, judged_of}
use Rattle.judge.specs.Numbers.{Fits, numbers_of, AllInBounds}
use Rattle.judge.specs.Laid.{is_spoilt_test, is_hill_test, Laid}
use Rattle.judge.specs.declared.SpoiltHead.{SpoiltHead}
use Rattle.judge.specs.declared.HillHead.{HillHead}
use Rattle.judge.specs.declared.Head.{Head}
use Rattle.judge.specs.declared.Head.TheVariants.{Blank, Spoilt, Hill}
use Rattle.judge.specs.declared.Piece.{Piece}

-- ---- what is held

pub held-nothing : (m : ℕ) (z : ℤ) → stores_nothing m ≡ true → held_in m z ≡ read_held z
unfolding held_in
held-nothing m z e = rw e

pub held-other : (m : ℕ) (z : ℤ) → stores_nothing m ≡ false → held_in m z ≡ Figure z
unfolding held_in
held-other m z e = rw e

-- stored again it is the number that was read
pub held_back : (m : ℕ) (z : ℤ) → store_held (held_in m z) ≡ z
unfolding held_in store_held
held_back m z = go (stores_nothing m)
  where
    go : (t : Bool) → store_held (cond t (read_held z) (Figure z)) ≡ z
    go true = held-stored z
    go false = refl

-- ---- by the kind

module _ (b : List ℕ) where
  pub head-blank : kind_at b ≡ 16 → head_at b ≡ Blank
  unfolding head_at
  head-blank e = rw e

  pub head-spoilt : kind_at b ≡ 17 → head_at b ≡ Spoilt (spoilt_head_at b)
  unfolding head_at
  head-spoilt e = rw e

  pub head-hill : (kind_at b ≡ 16 → ⊥) → (kind_at b ≡ 17 → ⊥) → head_at b ≡ Hill (hill_head_at b)
  unfolding head_at
  head-hill m n = rw (ne_eqb (kind_at b) 16 m, ne_eqb (kind_at b) 17 n)

  pub test-blank : kind_at b ≡ 16 → is_summary b ≡ layout_fits b 16 6
  unfolding is_summary
  test-blank e = rw e

  pub test-spoilt : kind_at b ≡ 17 → is_summary b ≡ is_spoilt_test b
  unfolding is_summary
  test-spoilt e = rw e

  pub test-hill : (kind_at b ≡ 16 → ⊥) → (kind_at b ≡ 17 → ⊥) → is_summary b ≡ is_hill_test b
  unfolding is_summary
  test-hill m n = rw (ne_eqb (kind_at b) 16 m, ne_eqb (kind_at b) 17 n)

  -- ---- by the test

  pub judged-yes : is_summary b ≡ true → judged_of b ≡ granted (piece_at b)
  unfolding judged_of
  judged-yes e = rw e

  pub judged-no : is_summary b ≡ false → judged_of b ≡ refused 5
  unfolding judged_of
  judged-no e = rw e

-- ---- from the answer

-- p is the summary that the bytes b are
pub record Judges (b : List ℕ) (p : Piece) : Type 0 where
  pub test : is_summary b ≡ true
  pub summary : IsSummary b
  pub piece : p ≡ piece_at b

pub judged-mode : {b : List ℕ} {p : Piece} → Judges b p → p.mode ≡ mode_at b
judged-mode j = ap (λ (x : Piece). x.mode) j.piece

module _ (b : List ℕ) (r : Result Piece Refusal) (e : answered r ≡ judged_of b) where
  pub judges : (p : Piece) → r ≡ Ok p → Judges b p
  judges p q = go (is_summary b) refl
    where
      go : (t : Bool) → is_summary b ≡ t → Judges b p
      go true y = record {
        test = y;
        summary = (decide-summary b).from y;
        piece = let f : granted p ≡ granted (piece_at b) = sym (ap answered q) ∙ e ∙ judged-yes b y in cc;
      }
      go false n =
          let f : granted p ≡ refused 5 = sym (ap answered q) ∙ e ∙ judged-no b n in
          let z : ◌≡◌ {A = ℕ} 0 1 = cc in
          absurd (omega arith)

  pub judges-not : (x : Refusal) → r ≡ Err x → (is_summary b ≡ false) × (number_of x ≡ 5)
  judges-not x q = go (is_summary b) refl
    where
      go : (t : Bool) → is_summary b ≡ t → (t ≡ false) × (number_of x ≡ 5)
      go true y =
          let f : refused (number_of x) ≡ granted (piece_at b) = sym (ap answered q) ∙ e ∙ judged-yes b y in
          absurd (not-result (number_of x) (piece_at b) f)
      go false n = (refl, one_number (sym (ap answered q) ∙ e ∙ judged-no b n))

-- by the head
data Said (b : List ℕ) : Head → Type 0 where
  said_blank : HasLayout b 16 6 → Said b Blank
  said_spoilt : IsSpoilt b → Said b (Spoilt (spoilt_head_at b))
  said_hill : IsHill b → Said b (Hill (hill_head_at b))

said : (b : List ℕ) → IsSummary b → Said b (head_at b)
said b (is_blank f) = subst (Said b) (sym (head-blank b f.kind_fits)) (said_blank f)
said b (is_spoilt v) = subst (Said b) (sym (head-spoilt b v.layout.kind_fits)) (said_spoilt v)
said b (is_hill v) = let k = v.layout.kind_fits in subst (Said b) (sym (head-hill b (λ e. omega arith) (λ e. omega arith))) (said_hill v)

said-blank : {b : List ℕ} {h : Head} → Said b h → h ≡ Blank → HasLayout b 16 6
said-blank (said_blank f) q = f
said-blank (said_spoilt v) q = let z : ◌≡◌ {A = ℕ} 0 1 = cc in absurd (omega arith)
said-blank (said_hill v) q = let z : ◌≡◌ {A = ℕ} 0 1 = cc in absurd (omega arith)

said-spoilt : {b : List ℕ} {h : Head} → Said b h → (s : SpoiltHead) → h ≡ Spoilt s → IsSpoilt b × (s ≡ spoilt_head_at b)
said-spoilt (said_blank f) s q = let z : ◌≡◌ {A = ℕ} 0 1 = cc in absurd (omega arith)
said-spoilt (said_spoilt v) s q = (v, cc)
said-spoilt (said_hill v) s q = let z : ◌≡◌ {A = ℕ} 0 1 = cc in absurd (omega arith)

said-hill : {b : List ℕ} {h : Head} → Said b h → (s : HillHead) → h ≡ Hill s → IsHill b × (s ≡ hill_head_at b)
said-hill (said_blank f) s q = let z : ◌≡◌ {A = ℕ} 0 1 = cc in absurd (omega arith)
said-hill (said_spoilt v) s q = let z : ◌≡◌ {A = ℕ} 0 1 = cc in absurd (omega arith)
said-hill (said_hill v) s q = (v, cc)

module _ {b : List ℕ} (i : IsSummary b) where
  pub blank-at : head_at b ≡ Blank → HasLayout b 16 6
  blank-at q = said-blank (said b i) q

  pub spoilt-at : (h : SpoiltHead) → head_at b ≡ Spoilt h → IsSpoilt b × (h ≡ spoilt_head_at b)
  spoilt-at h q = said-spoilt (said b i) h q

  pub hill-at : (h : HillHead) → head_at b ≡ Hill h → IsHill b × (h ≡ hill_head_at b)
  hill-at h q = said-hill (said b i) h q

module _ {b : List ℕ} {p : Piece} (j : Judges b p) where
  -- the head stands where the bytes say
  at_head : head_at b ≡ p.head
  at_head = sym (ap (λ (x : Piece). x.head) j.piece)

  pub blank-is : p.head ≡ Blank → HasLayout b 16 6
  blank-is q = blank-at j.summary (at_head ∙ q)

  pub spoilt-is : (h : SpoiltHead) → p.head ≡ Spoilt h → IsSpoilt b × (h ≡ spoilt_head_at b)
  spoilt-is h q = spoilt-at j.summary h (at_head ∙ q)

  pub hill-is : (h : HillHead) → p.head ≡ Hill h → IsHill b × (h ≡ hill_head_at b)
  hill-is h q = hill-at j.summary h (at_head ∙ q)

-- length, kind and mode are there
pub six : {b : List ℕ} → IsSummary b → 6 ≤ length b
six (is_blank f) = omega (arith, f.length-fits)
six (is_spoilt v) = omega (arith, v.layout.length-fits)
six (is_hill v) = omega (arith, v.layout.length-fits)

-- all the bytes that a hill's numbers stand in are there
pub hill-laid : {b : List ℕ} → IsHill b → Laid b
hill-laid v =
    let n = v.layout.length-fits in
    record { levels = record { long = omega arith; start-high = v.start-high; end-high = v.end-high; peak-start = v.peak-start; peak-end = v.peak-end }; whole = omega arith }

-- ---- the numbers of a summary

pub summary-fits : (b : List ℕ) → IsSummary b → Fits (head_at b)
summary-fits b (is_blank f) = rw (head-blank b f.kind_fits) tt
summary-fits b (is_spoilt v) = rw (head-spoilt b v.layout.kind_fits) record { start-high = v.start-high; end-high = v.end-high; opened-few = v.opened-few }
summary-fits b (is_hill v) =
    rw (head-hill b (λ e. omega (arith, v.layout.kind_fits)) (λ e. omega (arith, v.layout.kind_fits)))
    record { start-high = v.start-high; end-high = v.end-high; peak-high = omega (arith, v.peak-start, v.start-high); opened-few = omega (arith, v.opened-few) }

pub in-bounds : (h : Head) → Fits h → AllInBounds (numbers_of h)
in-bounds Blank f = tt
in-bounds (Spoilt h) f = record { start-high = f.start-high; peak-high = omega arith; end-high = f.end-high; opened-few = f.opened-few }
in-bounds (Hill h) f = record { start-high = f.start-high; peak-high = f.peak-high; end-high = f.end-high; opened-few = f.opened-few }

-- the fault that a spoilt summary names has the number that stands there
pub fault-number : {b : List ℕ} → IsSpoilt b → number_of (fault_named (fault_at b)) ≡ fault_at b
unfolding fault_named
fault-number {b} v = go (eqb (fault_at b) 7) (eqb (fault_at b) 8) refl refl
  where
    go : (s t : Bool) → eqb (fault_at b) 7 ≡ s → eqb (fault_at b) 8 ≡ t → number_of (cond s no.LevelGap (cond t no.LevelZero no.TooManyOpened)) ≡ fault_at b
    go true t e f = sym (eqb-true (fault_at b) 7 e)
    go false true e f = sym (eqb-true (fault_at b) 8 f)
    go false false e f = Prim.grind (arith, v.fault-low, v.fault-high, eqb-false (fault_at b) 7 e, eqb-false (fault_at b) 8 f)

-- the number of that fault is 7 to 9
pub fault-range : {b : List ℕ} → IsSpoilt b → (7 ≤ number_of (spoilt_head_at b).fault) × (number_of (spoilt_head_at b).fault ≤ 9)
fault-range v = let e = fault-number v in (omega (arith, e, v.fault-low), omega (arith, e, v.fault-high))
