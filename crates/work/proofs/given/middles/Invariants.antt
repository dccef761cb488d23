-- `work::given::middles` meets its contract: one piece more at each turn.
use Rattle.work.specs.GivenLaws.{Between}
use Rattle.work.proofs.given.middles.Given as goal

abbrev pub invariant-loop-k : goal.invariant-loop-k
invariant-loop-k l = Between l.hills.row.now l.hills.mode l.i l.j l.level l.acc l.k
