use Rattle.std.proofs.Common.{rules}
use Rattle.serde_json.specs.Errors.{IsMemory}
use Rattle.scatter_json.proofs.OneReading.{no-value}
use Rattle.scatter_json.proofs.reading.read_json.Goals as goal

pub returns-clause-syntax : goal.returns-clause-syntax
returns-clause-syntax c =
    let other : IsMemory c.in-Err.error → ⊥ = search rules in
    λ is. no-value c.args.bytes.now (c.in-Err.ensures.err other)
