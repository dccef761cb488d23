-- A pass over a chunk that hands on the rest: what every such loop keeps that asks whether it is readable. Assumes nothing.
use Rattle.std.specs.Prelude.{◌≡◌, ℕ, ◌+◌, ◌-◌, ◌*◌, ◌≤◌, ◌<◌, length, take, drop}
use Rattle.std.proofs.Common.{sym, ◌∙◌, arith, length-drop, drop_of_length-le, length-append}
use Rattle.std.proofs.Math.Path.{ap}
use mathlib.Core.List.{List, [], ◌∷◌, ◌++◌, append-nil}
use Rattle.gate.specs.Outcome.{refused, granted}
use Rattle.number.specs.Laws.{part-rest}
use Rattle.record.specs.Record.{read_of, records_of}
use Rattle.record.proofs.Laws.{sound, records-nil, records-bad, records-next, onto, onto-nil, onto-next}
use Rattle.record.specs.declared.Fields.{Fields}

-- Of the chunk s the records `done` are read, and `rest` is left.
pub record Handed (s rest : List ℕ) (done : List Fields) : Type 0 where
  pub few : 6 * length done + length rest ≤ length s
  pub total : records_of s ≡ onto done (records_of rest)

pub start : (s : List ℕ) → Handed s s []
start s = record { few = omega arith; total = sym (onto-nil _) }

module _ {s rest : List ℕ} {done : List Fields} (p : Handed s rest done) where
  -- the rest's rest, as the logic gives a part
  pub next : (f : Fields) → read_of rest ≡ granted f → Handed s (take (length rest - f.length) (drop f.length rest)) (done ++ (f ∷ []))
  next f e =
      let z = sound rest f e in
      rw (part-rest f.length rest)
      (record {
        few = omega (arith, p.few, z.least-6, z.inside, length-append done (f ∷ []), length-drop f.length rest);
        total = p.total ∙ ap (onto done) (records-next rest f e) ∙ onto-next done f _;
      })

  pub unreadable : 0 < length rest → read_of rest ≡ refused 3 → records_of s ≡ refused 3
  unfolding onto
  unreadable h e = p.total ∙ ap (onto done) (records-bad rest 3 h e)

  pub finished : length rest ≤ 0 → records_of s ≡ granted done
  unfolding onto
  finished h = p.total ∙ ap (λ (l : List ℕ). onto done (records_of l)) (drop_of_length-le rest {i = 0} h) ∙ ap (onto done) records-nil ∙ ap granted (append-nil done)
