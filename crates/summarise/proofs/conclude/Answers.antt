-- What the head and the slopes say is the chunk's summary.
use Rattle.std.proofs.Common.{ap, ◌∙◌}
use Rattle.gate.proofs.Promises.{answer-same}
use Rattle.summary.specs.Layout.{encode}
use Rattle.slopes.specs.Kept.{arrays_of}
use Rattle.summarise.specs.AnsweredLaws.{bytes-are}
use Rattle.summarise.proofs.conclude.Goals as goal

pub put-requires : goal.put-requires
put-requires c = (c.chunk_head-head.ensures (arrays_of c.args.slopes.now) c.requires.0 c.requires.1).writable

pub returns : goal.returns
returns c xs s =
    let h = c.chunk_head-head.ensures (arrays_of c.args.slopes.now) xs s in
    answer-same (ap (encode c.args.mode) h.is ∙ bytes-are c.args.mode xs) c.put.ensures
