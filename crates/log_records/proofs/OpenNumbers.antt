-- The open records as a pass over the log has them that names records: their stack, and the number of each at its depth. Assumes nothing.
use Rattle.std.specs.Prelude.{◌≡◌, List, [], ◌∷◌, ℕ, suc, ◌+◌, ◌≤◌, ◌<◌, length, get_or, set}
use Rattle.std.proofs.Common.{sym, ap, subst, ◌∙◌, arith, length-set, get_or-set_same, get_or-set_other}
use Rattle.hill.specs.Log.{Record, closing, opens}
use Rattle.hill.specs.Closing.{at, OpensAt}
use Rattle.log_records.proofs.NumberLaws.{number-next}
use Rattle.log_records.specs.Formed.{Formed}
use Rattle.log_records.proofs.StackLaws.{stack-start, open-level, stack-open, Left}
use Rattle.log_records.specs.OpenNumbers.{Numbered, OpenNumbers}

module _ {R : Type 0} (xs : List (Record R)) where
  kept : (ns : List ℕ) (i v : ℕ) (ps : List ℕ) → length ps ≤ i → Numbered xs ns ps → Numbered xs (set ns i v) ps
  kept ns i v [] l h = tt
  kept ns i v (p ∷ ps) l h = (get_or-set_other ns i (length ps) v 0 (λ e. absurd (omega arith)) ∙ h.0, kept ns i v ps (omega arith) h.1)

  module _ (f : Formed xs) where
    pub numbers-start : {n : ℕ} {ns : List ℕ} → length ns ≡ 64 → n ≡ 0 → OpenNumbers xs 0 n ns []
    numbers-start e o = record { stands = stack-start xs f; numbered = tt; size = e; counted = o }

    module _ {k n : ℕ} {ns stack : List ℕ} (i : OpenNumbers xs k n ns stack) (inside : k < length xs) where
      -- one record more is open, ..
      pub numbers-open : {d : ℕ} → OpensAt xs k d → d ≤ 63 → OpenNumbers xs (suc k) (n + 1) (set ns d n) (k ∷ stack)
      numbers-open {d} o low =
          let e : d ≡ length stack = open-level xs f i.stands inside o in
          record {
            stands = stack-open xs f i.stands inside o;
            numbered = (ap (λ j. get_or (set ns d n) j 0) (sym e) ∙ get_or-set_same ns d n 0 (omega (arith, i.size)) ∙ i.counted, kept ns d n stack (omega arith) i.numbered);
            size = length-set ns d n ∙ i.size;
            counted = omega (arith, i.counted, number-next xs k inside, ap opens o.1);
          }

      -- .. or the top of the stack is closed
      pub numbers-close : {d : ℕ} → at xs k ≡ closing d → (g : Left xs k stack d) → OpenNumbers xs (suc k) n ns g.rest
      numbers-close {d} e g = record {
        stands = g.before;
        numbered = (subst (Numbered xs ns) g.is i.numbered).1;
        size = i.size;
        counted = omega (arith, i.counted, number-next xs k inside, ap opens e);
      }
