use Rattle.scatter_json.proofs.OneText.{json_text-one}
use Rattle.scatter_json.proofs.laws.one_json_text.Goals as goal

pub returns : goal.returns
returns c = json_text-one
