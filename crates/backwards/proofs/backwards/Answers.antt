-- Question by question: 15 of the bytes, 16 of the mode, 17 of the outer figure.
use Rattle.std.proofs.Common.{sym, ◌∙◌, arith, to_z-of_z}
use Rattle.run_back.proofs.CallLaws.{refused-15, refused-16, way-net, way-stamp}
use Rattle.backwards.specs.Laws.{run_long, six, run-numbers}
use Rattle.backwards.proofs.backwards.Goals as goal

pub returns-then-not-is_run : goal.returns-then-not-is_run
returns-then-not-is_run c = sym (refused-15 c.args.run.now c.args.y (cc))

pub read_u16-mode-requires : goal.read_u16-mode-requires
read_u16-mode-requires c = six _ (cc)

pub read_run-k-requires : goal.read_run-k-requires
read_run-k-requires c = let e = run_long c.args.run.now (cc) in cc

pub back_net-requires : goal.back_net-requires
back_net-requires c = rw c.read_run-k.ensures (run-numbers c.args.run.now (cc) (cc))

pub back_stamp-requires : goal.back_stamp-requires
back_stamp-requires c = rw c.read_run-k.ensures (run-numbers c.args.run.now (cc) (cc))

pub returns-in-1 : goal.returns-in-1
returns-in-1 c =
    (simp (c.read_run-k.ensures, to_z-of_z c.ranges.y) at c.back_net.ensures)
    ∙ sym (way-net c.args.run.now c.args.y (cc) (cc))

pub returns-in-4 : goal.returns-in-4
returns-in-4 c =
    (simp (c.read_run-k.ensures, to_z-of_z c.ranges.y) at c.back_stamp.ensures)
    ∙ sym (way-stamp c.args.run.now c.args.y (cc) (cc))

pub returns-in_default : goal.returns-in_default
returns-in_default c = sym (refused-16 c.args.run.now c.args.y (cc) (λ e. omega arith) (λ e. omega arith))
