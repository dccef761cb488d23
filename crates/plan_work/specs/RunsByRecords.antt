-- What document 01 says of a run, by the records of a cut log: definitions only. Assumes nothing.
use Rattle.std.specs.Prelude.{ℕ, suc, List}
use Rattle.hill.specs.Log.{Record}
use Rattle.hill.specs.Closing.{ClosedBy, Holds}
use Rattle.hill.specs.Row.{joined}
use Rattle.join_plan.specs.ByRecords.{InChunk}

module _ {R : Type 0} (cs : List (List (Record R))) where
  -- The record opened at place p, of depth d, is opened in chunk i and closed in chunk j.
  abbrev pub Links : (i j p d : ℕ) → Type 0
  Links i j p d = (q : ℕ) × InChunk cs i p × InChunk cs j q × ClosedBy (joined cs) p q d

  -- It lies wholly in chunk k.
  abbrev pub Wholly : (k p d : ℕ) → Type 0
  Wholly k p d = Links k k p d

  -- "Those records held directly by its highest-depth record that lie neither wholly in i nor wholly in j": the one opened at q is such a record,
  -- where p is the place of the highest-depth record, of depth d.
  pub record Apart (i j p d q : ℕ) : Type 0 where
    pub held : Holds (joined cs) p q d
    pub not-i : Wholly i q (suc d) → ⊥
    pub not-j : Wholly j q (suc d) → ⊥
