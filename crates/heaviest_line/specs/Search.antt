-- What the pass that looks for the end of the line keeps, and what it finds. Definitions only.
use Rattle.std.specs.Prelude.{◌≡◌, Bool, true, false, ◌⊎◌, List, [], ◌∷◌, ℕ, suc, ◌*◌, ◌≤◌, ◌<◌, ℤ, pos, nat_abs, length, get_or}
use Rattle.modes.specs.FourModes.{Amounts, limit, nothing}
use Rattle.hill.specs.Log.{Record}
use Rattle.hill.specs.Closing.{OpensAt}
use Rattle.log_records.specs.Numbers.{number_at}
use Rattle.log_records.specs.Line.{line_places}
use Rattle.log_records.specs.Claims.{sum_of}
use Rattle.log_records.specs.Formed.{Formed}
use Rattle.log_records.specs.StackLaws.{unwind, OpenStack, StackBefore, Leaf, Lighter}
use Rattle.heaviest_line.specs.declared.ends.Search.{Search}

module _ (xs : List (Record Amounts)) where
  -- The array has, for each open record, what the values from the root to it add to.
  abbrev pub Sums : (sums : List ℤ) (stack : List ℕ) → Type 0
  Sums sums [] = get_or sums 0 (pos 0) ≡ pos 0
  Sums sums (p ∷ ps) = (get_or sums (suc (length ps)) (pos 0) ≡ sum_of xs (p ∷ ps)) × Sums sums ps

  -- Whether an open stands just before place k.
  abbrev pub LastOpens : (k : ℕ) → Bool → Type 0
  LastOpens k true = (j : ℕ) × (d : ℕ) × (k ≡ suc j) × OpensAt xs j d
  LastOpens k false = (j d : ℕ) → k ≡ suc j → OpensAt xs j d → ⊥

  -- No record that holds nothing is closed before place k, ..
  pub record NoEnd (k : ℕ) (s : Search) : Type 0 where
    pub none : (r d : ℕ) → Leaf xs r d → suc r < k → ⊥
    pub nothing_yet : s.sum ≡ nothing

  -- .. or s has the first heaviest of them.
  pub record SomeEnd (k : ℕ) (s : Search) : Type 0 where
    pub place : ℕ
    pub stack : List ℕ
    pub stands : OpenStack xs place stack
    pub leaf : Leaf xs place (length stack)
    pub closed : suc place < k
    pub counted : s.upto ≡ suc (number_at xs place)
    pub deep : s.depth ≡ length stack
    pub adds : s.sum ≡ sum_of xs (place ∷ stack)
    pub lighter : (r d : ℕ) → Leaf xs r d → suc r < k → Lighter xs r place (sum_of xs (place ∷ stack))

  -- Of the log's records xs, k are read.
  pub record Searched (k : ℕ) (s : Search) (sums : List ℤ) : Type 0 where
    pub formed : Formed xs
    pub stack : List ℕ
    pub stands : StackBefore xs k stack
    pub size : length sums ≡ 65
    pub added : Sums sums stack
    pub light : (i : ℕ) → nat_abs (get_or sums i (pos 0)) ≤ limit * i
    pub counted : s.opened ≡ number_at xs k
    pub last : LastOpens k s.opens
    pub best : NoEnd k s ⊎ SomeEnd k s

  -- The record that the line ends with, of this depth, is the last of `upto` opened ones: what is open there is the line.
  pub record IsEnd (upto depth : ℕ) : Type 0 where
    pub formed : Formed xs
    pub place : ℕ
    pub leaf : Leaf xs place depth
    pub counted : upto ≡ suc (number_at xs place)
    pub is-line : (ps : List ℕ) → OpenStack xs place ps → length ps ≡ depth → unwind ps (place ∷ []) ≡ line_places xs
    pub long : length (line_places xs) ≡ suc depth
