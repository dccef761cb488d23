-- In each mode, figures side by side may be combined in any grouping and order, and nothing held adds nothing. Assumes nothing.
use Rattle.std.proofs.Math.IntN.{+ℤ_assoc, +ℤ_idl, +ℤ_idr}
use Rattle.algebra.specs.Algebra.{Laws}
use Rattle.modes.specs.FourModes.{net}

abbrev pub net_laws : Laws net
net_laws = record { assoc = +ℤ_assoc; unit-l = +ℤ_idl; unit-r = +ℤ_idr }
