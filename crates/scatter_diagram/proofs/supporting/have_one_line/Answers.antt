use Rattle.std.proofs.Common.{sym, ◌∙◌}
use Rattle.scattering.specs.SupportingLine.{supporting_line}
use Rattle.scatter_diagram.specs.Shown.{wall_of}
use Rattle.scatter_diagram.proofs.Lines.{one-line, two-lines}
use Rattle.scatter_diagram.proofs.supporting.have_one_line.Goals as goal

pub returns-in-Equal : goal.returns-in-Equal
returns-in-Equal c = sym (one-line (supporting_line (wall_of c.args.u.now)) (supporting_line (wall_of c.args.v.now)) (sym c.in-Equal.ensures))

pub returns-in_default : goal.returns-in_default
returns-in_default c = sym (two-lines (supporting_line (wall_of c.args.u.now)) (supporting_line (wall_of c.args.v.now)) (λ h. c.in_default.not-Equal (c.compare_lines.ensures ∙ h)))
