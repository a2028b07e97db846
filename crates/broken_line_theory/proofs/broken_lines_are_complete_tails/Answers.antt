use Rattle.broken_line_theory.proofs.broken_lines_are_complete_tails.Goals as goal
use Rattle.broken_line_theory.proofs.CompleteTails.{lines-are-tails}
use Rattle.broken_line_theory.proofs.ThetaOfTails.{complete_tails_are_lines, broken_lines_are_listed, theta_sums_tails}

pub returns : goal.returns
returns c = record { lines = lines-are-tails; tails = complete_tails_are_lines; listed = broken_lines_are_listed; sums = theta_sums_tails }
