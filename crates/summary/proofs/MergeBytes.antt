-- Merging on bytes: what accepted bytes merge to is accepted again; associative, with the blank's bytes for its unit; and the bytes of chunks'
-- summaries merge to those of the joined chunk's, however long it is. Assumes nothing.
use Rattle.std.specs.Prelude.{◌≡◌, true, List, [], ◌++◌, ℕ}
use Rattle.std.proofs.Math.Path.{refl, sym, ap, ap₂}
use Rattle.std.proofs.Common.{◌∙◌}
use Rattle.number.specs.Bytes.{AllBytes}
use Rattle.modes.specs.FourModes.{Amounts}
use Rattle.figure.specs.Mode.{mode_of, mode_in_use}
use Rattle.hill.specs.Log.{Record}
use Rattle.hill.specs.Summary.{blank, summary_of}
use Rattle.hill.specs.Merge.{merge_summary}
use Rattle.hill.specs.Valid.{AllReadable}
use Rattle.hill.proofs.SummaryLaws.{merge-blank, merge_summary-assoc, summary_of-append}
use Rattle.hill.proofs.ValidLaws.{valid-merge_summary}
use Rattle.summary.specs.Layout.{SummaryIn, encode}
use Rattle.summary.specs.Decode.{decode}
use Rattle.summary.specs.Accepted.{Accepted, IsSummaryIn}
use Rattle.summary.proofs.Accepted.{mode-used, encoded, decode-encode, encode-bytes, decoded, encode-decode, chunk-accepted}
use Rattle.summary.specs.Outcomes.{summary_bytes, blank_bytes, merge_bytes}

module _ (m : ℕ) where
  -- Of the summaries themselves.
  abbrev merged : SummaryIn m → SummaryIn m → SummaryIn m
  merged s t = merge_summary (mode_of m).algebra s t

  accepted-merged : (s t : SummaryIn m) → Accepted m s → Accepted m t → Accepted m (merged s t)
  accepted-merged s t v w = valid-merge_summary (mode_of m).algebra (mode_of m).sizes (mode_of m).laws s t v w

  pub merge-encoded : (s t : SummaryIn m) → mode_in_use m ≡ true → Accepted m s → Accepted m t → merge_bytes m (encode m s) (encode m t) ≡ encode m (merged s t)
  unfolding merge_bytes
  merge-encoded s t u v w = ap₂ (λ x y. encode m (merged x y)) (decode-encode m u s v) (decode-encode m u t w)

  module _ (a b : List ℕ) (i : IsSummaryIn m a) (j : IsSummaryIn m b) where
    -- "All accepted bytes merge so, even those that no chunk makes."
    pub merge-accepted : IsSummaryIn m (merge_bytes m a b)
    unfolding merge_bytes
    merge-accepted = encoded m (mode-used m a i) (merged (decode m a) (decode m b)) (accepted-merged (decode m a) (decode m b) (decoded m a i) (decoded m b j))

    pub decode-merge : decode m (merge_bytes m a b) ≡ merged (decode m a) (decode m b)
    unfolding merge_bytes
    decode-merge = decode-encode m (mode-used m a i) (merged (decode m a) (decode m b)) (accepted-merged (decode m a) (decode m b) (decoded m a i) (decoded m b j))

    pub merge-bytes : AllBytes (merge_bytes m a b)
    unfolding merge_bytes
    merge-bytes = encode-bytes m (merged (decode m a) (decode m b))

  pub merge-assoc : (a b c : List ℕ) → IsSummaryIn m a → IsSummaryIn m b → IsSummaryIn m c → merge_bytes m (merge_bytes m a b) c ≡ merge_bytes m a (merge_bytes m b c)
  unfolding merge_bytes
  merge-assoc a b c i j k =
      ap (λ x. encode m (merged x (decode m c))) (decode-merge a b i j) ∙
      ap (encode m) (merge_summary-assoc (mode_of m).algebra (mode_of m).laws (decode m a) (decode m b) (decode m c)) ∙
      sym (ap (λ x. encode m (merged (decode m a) x)) (decode-merge b c j k))

  -- "A blank adds nothing."
  pub blank-accepted : mode_in_use m ≡ true → IsSummaryIn m (blank_bytes m)
  unfolding blank_bytes
  blank-accepted u = encoded m u blank tt

  pub blank-merge : (b : List ℕ) → AllBytes b → IsSummaryIn m b → merge_bytes m (blank_bytes m) b ≡ b
  unfolding merge_bytes blank_bytes
  blank-merge b h i = ap (λ x. encode m (merged x (decode m b))) (decode-encode m (mode-used m b i) blank tt) ∙ encode-decode m b h i

  pub merge-blank-bytes : (b : List ℕ) → AllBytes b → IsSummaryIn m b → merge_bytes m b (blank_bytes m) ≡ b
  unfolding merge_bytes blank_bytes
  merge-blank-bytes b h i =
      ap (λ x. encode m (merged (decode m b) x)) (decode-encode m (mode-used m b i) blank tt) ∙ ap (encode m) (merge-blank (mode_of m).algebra (decode m b)) ∙ encode-decode m b h i

  -- Chunks.
  abbrev pub Readables : List (Record Amounts) → Type 0
  Readables xs = AllReadable (mode_of m).algebra (mode_of m).sizes xs

  pub chunk-is : (xs : List (Record Amounts)) → mode_in_use m ≡ true → Readables xs → IsSummaryIn m (summary_bytes m xs)
  unfolding summary_bytes
  chunk-is xs u r = encoded m u (summary_of (mode_of m).algebra xs) (chunk-accepted m xs r)

  -- "Merging two summaries gives the summary of the joined chunks, byte for byte."
  pub merge-chunks : (xs ys : List (Record Amounts)) → mode_in_use m ≡ true → Readables xs → Readables ys → merge_bytes m (summary_bytes m xs) (summary_bytes m ys) ≡ summary_bytes m (xs ++ ys)
  unfolding summary_bytes
  merge-chunks xs ys u r q =
      merge-encoded (summary_of (mode_of m).algebra xs) (summary_of (mode_of m).algebra ys) u (chunk-accepted m xs r) (chunk-accepted m ys q) ∙
      sym (ap (encode m) (summary_of-append (mode_of m).algebra (mode_of m).laws xs ys))

  pub no_record : summary_bytes m [] ≡ blank_bytes m
  unfolding summary_bytes blank_bytes
  no_record = refl
