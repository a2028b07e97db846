use Rattle.plane_geom.proofs.places.on.Goals as goal

pub returns-in-Line : goal.returns-in-Line
returns-in-Line c = rw c.in-Line.is c.is_along.ensures

pub returns-in-Half : goal.returns-in-Half
returns-in-Half c = rw c.in-Half.is c.is_ahead.ensures
