-- `work::given::outcomes` meets its contract: one line more at each turn.
use Rattle.work.specs.GivenLaws.{Collected}
use Rattle.work.proofs.given.outcomes.Given as goal

abbrev pub invariant-loop-k : goal.invariant-loop-k
invariant-loop-k l = Collected l.mode l.lines l.outs l.i l.j l.level l.acc l.k
