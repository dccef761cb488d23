-- A blank adds nothing, a fault is noted, a hill is loaded.
use Rattle.std.proofs.Common.{sym, ◌∙◌}
use Rattle.merging.specs.SayLaws.{part-said, side-bounds}
use Rattle.merging.specs.KeptLaws.{kept-fault, kept-loads, kept-loaded}
use Rattle.merging.proofs.Merged.add_piece.Goals as goal

pub follow-both-requires : goal.follow-both-requires
follow-both-requires c =
    let m = c.args.mode in
    let k = c.requires.keeps in
    let says = part-said m _ _ (c.side_of.ensures m) c.in-Some.is in
    (side-bounds m k.summary c.args.self.now.side k.kept.says, says.says.bounds)

pub returns-then-is_some : goal.returns-then-is_some
returns-then-is_some c s k =
    let m = c.args.mode in
    let says = part-said m _ _ (c.side_of.ensures m) c.in-Some.is in
    kept-fault m k c.requires.summary_in says (c.follow-both.ensures m s _ k.says says) (sym c.is_some.ensures ∙ c.if-is_some.true)

pub load-self-requires : goal.load-self-requires
load-self-requires c =
    let m = c.args.mode in
    let k = c.requires.keeps.kept in
    let says = part-said m _ _ (c.side_of.ensures m) c.in-Some.is in
    kept-loads m k c.requires.summary_in says (c.follow-both.ensures m c.requires.keeps.summary _ k.says says) (sym c.is_some.ensures ∙ c.if-is_some.false)

pub returns : goal.returns
returns c s k =
    let m = c.args.mode in
    let says = part-said m _ _ (c.side_of.ensures m) c.in-Some.is in
    kept-loaded m k c.requires.summary_in says (c.follow-both.ensures m s _ k.says says) (sym c.is_some.ensures ∙ c.if-is_some.false) c.load-self.ensures
