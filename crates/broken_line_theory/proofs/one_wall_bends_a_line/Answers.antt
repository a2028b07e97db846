use Rattle.broken_line_theory.proofs.one_wall_bends_a_line.Goals as goal
use Rattle.broken_line_theory.proofs.BentLine.{ask_is_of_wall, ask_has_no_fault, tails_are_three, lines_are_two, theta_has_two_terms}

pub returns : goal.returns
returns c = record { of_wall = ask_is_of_wall; free = ask_has_no_fault; tails = tails_are_three; lines = lines_are_two; sums = theta_has_two_terms }
