-- A further record is added to the tally: `joined` of specs/TallyLaws.antt.
use Rattle.whole_log.specs.TallyLaws.{joined}
use Rattle.whole_log.proofs.passed.Goals as goal

pub returns : goal.returns
returns c xs y s es ee eo =
    let a = c in
    joined y es ee eo a.args.t xs c.with_joint.result c.if-not-t.false c.with_joint.ensures s
