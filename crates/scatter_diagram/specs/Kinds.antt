-- The kind of a wall as the definitions see it.
use Rattle.scattering.specs.Wall.{WallKind, Line, Outgoing}
use Rattle.scatter_diagram.specs.declared.wall.WallKind.{WallKind as CodeKind}
use Rattle.scatter_diagram.specs.declared.wall.WallKind.TheVariants.{Line as LineKind, Outgoing as OutgoingKind}

abbrev pub kind_of : CodeKind → WallKind
kind_of LineKind = Line
kind_of OutgoingKind = Outgoing
