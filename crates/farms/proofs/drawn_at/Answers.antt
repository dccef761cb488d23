use mathlib.Core.Path.{ap, ◌∙◌}
use Rattle.valley_station.specs.Station.{drawn}
use Rattle.farms.specs.SlotLaws.{held-part}
use Rattle.farms.proofs.drawn_at.Goals as goal

pub returns : goal.returns
returns c = let a = c.args in (c.drawn_by.ensures.0 ∙ ap drawn (held-part a.state.now a.at c.held_end-end.result c.held_end-end.ensures), c.drawn_by.ensures.1)
