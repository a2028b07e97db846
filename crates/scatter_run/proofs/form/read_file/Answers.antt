-- What a reader says is said of the form.
use Rattle.scatter_run.proofs.form.read_file.Goals as goal

pub returns-in-Json-clause-file : goal.returns-in-Json-clause-file
returns-in-Json-clause-file c = rw c.in-Json.is c.json_file.ensures.file

pub returns-in-Text-clause-file : goal.returns-in-Text-clause-file
returns-in-Text-clause-file c = rw c.in-Text.is c.text_file.ensures.file

pub returns-in-Asks-clause-file : goal.returns-in-Asks-clause-file
returns-in-Asks-clause-file c = rw c.in-Asks.is c.text_file-in-Asks.ensures.file
