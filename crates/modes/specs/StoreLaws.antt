-- What is stored is read back, and fits 64 bits: figures, and the numbers of a run. Assumes nothing.
use Rattle.std.specs.Prelude.{FitsSigned}
use Rattle.std.specs.Int.{w64}
use Rattle.modes.specs.declared.Run.{Run}

-- ---- runs

pub record RunFits (k : Run) : Type 0 where
  pub first_fits : FitsSigned w64 k.first
  pub second_fits : FitsSigned w64 k.second
  pub third-fits : FitsSigned w64 k.third
  pub fourth-fits : FitsSigned w64 k.fourth
