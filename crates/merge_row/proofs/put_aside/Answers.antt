-- There is room for any summary, so it is never refused.
use Prim.Native.Nat.{◌≤◌}
use native.Mathlib.Omega.{arith}
use lib.ListN.{length}
use Rattle.summary.specs.Layout.{encode}
use Rattle.summary.proofs.Accepted.{encode-fits}
use Rattle.merge_row.specs.FrontLaws.{front, never-refused}
use Rattle.merge_row.proofs.put_aside.Goals as goal

pub returns-in_default : goal.returns-in_default
returns-in_default c s k =
    let fits : length (encode c.args.mode s) ≤ length c.args.aside.now = omega (arith, encode-fits c.args.mode s k.accepted, c.requires.in_bounds) in
    absurd (never-refused (encode c.args.mode s) c.args.aside.now (c.put.ensures s k) fits c.in_default.is)

pub returns : goal.returns
returns c s k =
    let fits : length (encode c.args.mode s) ≤ length c.args.aside.now = omega (arith, encode-fits c.args.mode s k.accepted, c.requires.in_bounds) in
    front (encode c.args.mode s) c.args.aside.now (c.put.ensures s k) fits c.in-Ok.is
