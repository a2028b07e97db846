use Rattle.scatter_json.proofs.OneReading.{file-or-fault, json-one}
use Rattle.scatter_json.proofs.laws.one_json.Goals as goal

pub returns-clause-file_or_fault : goal.returns-clause-file_or_fault
returns-clause-file_or_fault c = file-or-fault

pub returns-clause-one_file : goal.returns-clause-one_file
returns-clause-one_file c = json-one
