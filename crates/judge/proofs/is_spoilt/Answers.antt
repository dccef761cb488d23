-- Fewer bytes than 16 are none.
use mathlib.Core.Path.{sym}
use Rattle.judge.proofs.Parts.{short-spoilt}
use Rattle.judge.proofs.is_spoilt.Goals as goal

pub returns-then-b-lt16 : goal.returns-then-b-lt16
returns-then-b-lt16 c = sym (short-spoilt _ c.if-b-lt16.true)
