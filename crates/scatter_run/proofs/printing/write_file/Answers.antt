use Rattle.scatter_run.proofs.printing.write_file.Goals as goal

pub returns-in-Asks : goal.returns-in-Asks
returns-in-Asks g c = rw c.in-Asks.is c.write_asked.ensures
