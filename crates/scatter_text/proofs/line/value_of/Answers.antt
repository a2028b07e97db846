use Rattle.scatter_text.proofs.line.value_of.Goals as goal

pub returns-in-None-2 : goal.returns-in-None-2
returns-in-None-2 c = rw c.in-Powers.is (rw c.in-None-2.is at c.in_ok-powers-in-Powers.ensures)
