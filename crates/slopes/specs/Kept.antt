-- The five arrays of slopes as the code holds them. Definitions only.
use Rattle.slopes.specs.Arrays.{Arrays, arrays}
use Rattle.slopes.specs.declared.Slopes.{Slopes}

abbrev pub arrays_of : Slopes → Arrays
arrays_of s = arrays s.left s.amounts.values s.amounts.floors s.amounts.ceilings s.held
