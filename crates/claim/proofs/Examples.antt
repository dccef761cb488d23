-- The theorem at work: log D cut after record 2, with a blank chunk at both ends and between, into buffers that just fit, and three merges, the second with a
-- buffer that is one byte short. So what demand 3 asks for can be met, in mode 1 and in mode 5; and so can what is asked of batches. Assumes nothing.
use Rattle.std.specs.Prelude.{◌≡◌, refl, List, [], ◌∷◌, ◌++◌, ℕ, zero, suc, take, drop, pos, negsuc}
use Rattle.std.proofs.Common.{sym, ◌∙◌, lit≤, lit<}
use Rattle.gate.specs.Outcome.{refused, granted}
use Rattle.number.specs.Bytes.{le_at, bytes_of}
use Rattle.number.specs.Integer.{min_z, max_z, clamp}
use Rattle.row.specs.Row.{first_length, pieces_in, row_pieces}
use Rattle.record.specs.Record.{within, in_range, accepted, whole, by_shape, read_of, records_in, records_of, batch_bytes}
use Rattle.record.proofs.Examples.{log_d}
use Rattle.modes.specs.FourModes.{Amounts, lift, eaten_of, store_held, read_held, is_stamp}
use Rattle.figure.specs.Mode.{mode_of, mode_in_use}
use Rattle.hill.specs.Verdict.{pass, joint, count, cut, ends}
use Rattle.hill.specs.Log.{log_fault}
use Rattle.hill.proofs.Faults.{lowest-log}
use Rattle.hill.specs.Tree.{Forest, nil, tree, write}
use Rattle.hill.proofs.FigureLaws.{log-tree}
use Rattle.hill.specs.Row.{Call, answers}
use Rattle.summary.specs.Layout.{encode}
use Rattle.summary.specs.Judge.{sum_to, nothing_in, counted}
use Rattle.summary.specs.Decode.{decode}
use Rattle.summary.specs.Decide.{all_to, layout_fits, spoilt_fits, levels_fit, opened_fits, middle_fits, records_fit, values_fit, hill_fits, is_summary}
use Rattle.summary.specs.Outcomes.{summary_bytes, merge_bytes, summarise_outcome, merge_outcome, log_outcome}
use Rattle.chunk.specs.Chunk.{SameButBatches}
use Rattle.outcome.specs.Outcomes.{two_to64, ask_row, merged_bytes, merge_row_outcome}
use Rattle.claim.specs.Claim.{fields_read, records_read, cut_at, stretch_bytes, log_says, first_row, AllChunks, IsCut, Lent, to_merge, to_merge_row, told, on_stretches, Recursion, AreMerges, Claimed}
use Rattle.claim.specs.Batches.{SameAnswers, SameClaim}
use Rattle.claim.specs.Drops.{eaten_trees, LeadsToRecursion}
use Rattle.claim.proofs.Demand3.{demand3}
use Rattle.claim.proofs.BatchLaws.{batches-ignored, batches-claim, batch-given}
use Rattle.claim.proofs.DropLaws.{leads-to-recursion}

abbrev zeros : ℕ → List ℕ
zeros zero = []
zeros (suc n) = 0 ∷ zeros n

-- Before the first record, after record 2 twice, and after the last one. A buffer for each of the five chunks.
abbrev places : List ℕ
places = 0 ∷ 2 ∷ 2 ∷ 6 ∷ []

abbrev buffers : List (List ℕ)
buffers = zeros 6 ∷ zeros 64 ∷ zeros 6 ∷ zeros 40 ∷ zeros 6 ∷ []

abbrev merges : List (Call Lent)
merges =
    record { place = 2; many = 2; lent = to_merge (zeros 40) } ∷
    record { place = 1; many = 2; lent = to_merge (zeros 23) } ∷
    record { place = 0; many = 4; lent = to_merge_row (zeros 24) } ∷
    []

D-cut : cut_at log_d places ≡ [] ∷ take 36 log_d ∷ [] ∷ drop 36 log_d ∷ [] ∷ []
unfolding le_at bytes_of within in_range accepted whole by_shape read_of records_in records_of fields_read cut_at
D-cut = refl

is_cut : IsCut 1 log_d places buffers
unfolding le_at bytes_of within in_range accepted whole by_shape read_of records_in records_of mode_in_use mode_of joint count cut encode summary_bytes fields_read records_read cut_at stretch_bytes
is_cut = record {
  mode-in-use = refl;
  readable = (_, refl);
  between = (lit≤ tt, (lit≤ tt, (lit≤ tt, (lit≤ tt, lit≤ tt))));
  each = (record { short = lit≤ tt; long-enough = lit≤ tt }, (record { short = lit≤ tt; long-enough = lit≤ tt }, (record { short = lit≤ tt; long-enough = lit≤ tt }, (record { short = lit≤ tt; long-enough = lit≤ tt }, (record { short = lit≤ tt; long-enough = lit≤ tt }, tt)))));
}

are-merges : AreMerges 1 log_d places buffers merges
unfolding le_at bytes_of within in_range accepted whole by_shape read_of records_in records_of mode_in_use mode_of joint count cut encode decode sum_to nothing_in counted is_stamp all_to layout_fits spoilt_fits levels_fit opened_fits middle_fits records_fit values_fit hill_fits is_summary summary_bytes merge_bytes summarise_outcome merge_outcome fields_read cut_at
are-merges = (record { takes = refl; inside = lit≤ tt }, (record { takes = refl; inside = lit≤ tt }, (record { takes = (lit≤ tt, lit≤ tt); inside = lit≤ tt }, tt)))

D-holds : Claimed 1 log_d places buffers merges
D-holds = demand3 1 log_d places buffers merges is_cut are-merges

-- The first is told 40, the second 12, the third 24.
D-told : told merges (first_row 1 (cut_at log_d places) buffers) ≡ granted 40 ∷ refused 12 ∷ granted 24 ∷ []
unfolding le_at bytes_of first_length pieces_in row_pieces within in_range accepted whole by_shape read_of records_in records_of mode_in_use mode_of joint count cut encode decode sum_to nothing_in counted is_stamp all_to layout_fits spoilt_fits levels_fit opened_fits middle_fits records_fit values_fit hill_fits is_summary summary_bytes merge_bytes summarise_outcome merge_outcome two_to64 ask_row merged_bytes merge_row_outcome fields_read cut_at
D-told = refl

-- The same list on the stretches gives the second half of D, with a blank one before it, then a refusal, then D.
D-stretches : answers (on_stretches 1) merges (cut_at log_d places) ≡ granted (drop 36 log_d) ∷ refused 12 ∷ granted log_d ∷ []
unfolding le_at bytes_of within in_range accepted whole by_shape read_of records_in records_of mode_of joint count cut encode summary_bytes fields_read records_read cut_at stretch_bytes
D-stretches = refl

-- D's one tree: 10 g that holds 5 g and -3 g. By the recursion its net is 12.
abbrev root : Amounts
root = record { value = pos 10; floor = pos 0; ceiling = pos 100 }

abbrev below : Forest Amounts
below = tree (record { value = pos 5; floor = pos 0; ceiling = pos 4 }) nil (tree (record { value = negsuc 2; floor = pos 0; ceiling = pos 100 }) nil nil)

D-traversal : write 0 (tree root below nil) ≡ records_read log_d
unfolding le_at bytes_of within in_range accepted whole by_shape read_of records_in records_of fields_read records_read
D-traversal = refl

D-fault : log_fault (records_read log_d) ≡ pass
unfolding le_at bytes_of within in_range accepted whole by_shape read_of records_in records_of joint count ends fields_read records_read
D-fault = refl

D-recursion : Recursion 1 log_d
unfolding le_at bytes_of within in_range accepted whole by_shape read_of records_in records_of mode_of joint count ends log_outcome log_says
D-recursion = record {
  root = root;
  below = below;
  traversal = D-traversal;
  only = λ f e.
      let t = log-tree (mode_of 1).algebra (mode_of 1).laws (records_read log_d) D-fault in
      t.only f e ∙ sym (t.only (tree root below nil) D-traversal);
  figure = refl;
}

-- D with batch 7 in its first record has the answers of D, but for reading, and demand 3 says the same of both.
abbrev D-with-7 : List ℕ
D-with-7 = batch_bytes 0 (pos 10) (pos 0) (pos 100) 7 ++ drop 18 log_d

D-but-7 : SameButBatches log_d D-with-7
unfolding le_at bytes_of within in_range accepted whole by_shape read_of records_in records_of
D-but-7 = batch-given [] (drop 18 log_d) refl refl 0 (pos 10) (pos 0) (pos 100) refl 7 (lit< tt)

D-answers-7 : SameAnswers log_d D-with-7
unfolding bytes_of
D-answers-7 = batches-ignored _ _ D-but-7 (lit≤ tt) (lit≤ tt)

D-claim-7 : SameClaim 1 log_d D-with-7
D-claim-7 = batches-claim _ _ D-but-7 1

-- In mode 5 the same cut and the same list lead to 12: D's second and third record hold nothing, and its first alone is bound.
is-cut-5 : IsCut 5 log_d places buffers
unfolding le_at bytes_of within in_range accepted whole by_shape read_of records_in records_of mode_in_use mode_of joint count cut encode summary_bytes fields_read records_read cut_at stretch_bytes
is-cut-5 = record { mode-in-use = refl; readable = is_cut.readable; between = is_cut.between; each = fits }
  where
    fits : AllChunks 5 (cut_at log_d places) buffers
    fits = (record { short = lit≤ tt; long-enough = lit≤ tt }, (record { short = lit≤ tt; long-enough = lit≤ tt }, (record { short = lit≤ tt; long-enough = lit≤ tt }, (record { short = lit≤ tt; long-enough = lit≤ tt }, (record { short = lit≤ tt; long-enough = lit≤ tt }, tt)))))

are-merges-5 : AreMerges 5 log_d places buffers merges
unfolding le_at bytes_of lift eaten_of store_held read_held within in_range accepted whole by_shape read_of records_in records_of mode_in_use mode_of joint count cut encode decode sum_to nothing_in counted is_stamp all_to layout_fits spoilt_fits levels_fit opened_fits middle_fits records_fit values_fit hill_fits is_summary summary_bytes merge_bytes summarise_outcome merge_outcome fields_read cut_at
are-merges-5 = (record { takes = refl; inside = lit≤ tt }, (record { takes = refl; inside = lit≤ tt }, (record { takes = (lit≤ tt, lit≤ tt); inside = lit≤ tt }, tt)))

D-leads : LeadsToRecursion log_d places buffers merges
D-leads = leads-to-recursion log_d places buffers merges is-cut-5 are-merges-5 ((lowest-log (records_read log_d)).none D-fault)

D-eaten : eaten_trees (tree root below nil) ≡ pos 12
unfolding clamp min_z max_z
D-eaten = refl
