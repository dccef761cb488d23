-- The row that summarise writes for a cut log is the chunks' summaries. Assumes nothing.
use Rattle.std.specs.Prelude.{◌≡◌, refl, true, List, [], ◌∷◌, map, ℕ, ◌≤◌}
use Rattle.std.proofs.Common.{sym, ap₂, ◌∙◌, append-nil}
use Rattle.std.proofs.Math.Path.{ap}
use Rattle.std.proofs.Math.ListN.{length}
use borrow.Author.Tests.{le-leb}
use Rattle.gate.specs.Outcome.{Outcome, refused, granted}
use Rattle.gate.specs.Answers.{length_answered}
use Rattle.gate.proofs.Laws.{result-first}
use Rattle.figure.specs.Mode.{mode_in_use}
use Rattle.hill.specs.Row.{joined, Call, answer, put, answers, on_result}
use Rattle.summary.specs.Outcomes.{summary_bytes, summarise_outcome}
use Rattle.chunk.specs.Chunk.{chunk_of}
use Rattle.summary.proofs.OutcomeLaws.{summarise-is}
use Rattle.claim.specs.Claim.{records_read, stretch_bytes, leaves, wrote, first_row, IsChunk, AllChunks, Lent, buffer_of, called, by_calls, told}
use Rattle.claim.proofs.Stretches.{Reads, AllRead, found}

module _ (m : ℕ) (u : mode_in_use m ≡ true) where
  -- Summarise writes the summary of each chunk.
  wrote-chunk : (c b : List ℕ) → Reads c → IsChunk m c b → wrote (leaves (summarise_outcome c m (length b)) b) ≡ stretch_bytes m c
  unfolding stretch_bytes
  wrote-chunk c b r i =
      let e : records_read c ≡ chunk_of r.0 = found c r.0 r.1 in
      let n : length (summary_bytes m (records_read c)) ≤ length b = i.long-enough in
      ap (λ (o : Outcome (List ℕ)). wrote (leaves o b)) (summarise-is c m (length b) r.0 u i.short r.1) ∙
      rw (← e, le-leb (length (summary_bytes m (records_read c))) (length b) n) (result-first (summary_bytes m (records_read c)) b)

  pub first-row : (cs bs : List (List ℕ)) → AllRead cs → AllChunks m cs bs → first_row m cs bs ≡ map (stretch_bytes m) cs
  first-row (c ∷ cs) (b ∷ bs) a i = ap₂ (λ (x : List ℕ) (xs : List (List ℕ)). x ∷ xs) (wrote-chunk c b a.0 i.0) (first-row cs bs a.1 i.1)
  first-row (c ∷ cs) [] a i = absurd i
  first-row [] (b ∷ bs) a i = absurd i
  first-row [] [] a i = refl

-- A row of one piece is the summary of the whole.
pub only_one : (f : List ℕ → List ℕ) (st : List (List ℕ)) (p : List ℕ) → map f st ≡ p ∷ [] → p ≡ f (joined st)
only_one f [] p e = cc
only_one f (s ∷ []) p e = rw (append-nil s) (cc)
only_one f (s ∷ t ∷ st) p e = cc

-- What a call leaves has the length that it answers.
answer-length : (o : Outcome (List ℕ)) (b : List ℕ) → length_answered o ≡ on_result length (leaves o b)
answer-length (refused n) b = refl
answer-length (granted w) b = ap (λ (x : List ℕ). granted (length x)) (sym (result-first w b))

pub told-lengths : (cs : List (Call Lent)) (row : List (List ℕ)) → told cs row ≡ map (on_result length) (answers by_calls cs row)
told-lengths [] row = refl
told-lengths (c ∷ cs) row =
    ap₂ (λ (o : Outcome ℕ) (os : List (Outcome ℕ)). o ∷ os) (answer-length (answer called c row) (buffer_of c.lent)) (told-lengths cs (put by_calls (answer by_calls c row) c row))

pub lengths : (f : List ℕ → List ℕ) (os : List (Outcome (List ℕ))) → map (on_result length) (map (on_result f) os) ≡ map (on_result (λ s. length (f s))) os
lengths f [] = refl
lengths f (refused n ∷ os) = rw (lengths f os)
lengths f (granted s ∷ os) = rw (lengths f os)
