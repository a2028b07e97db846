use Rattle.degree_theory.proofs.products_have_parts.Goals as goal
use Rattle.degree_theory.proofs.PartLaws.{part-of-product, substitution-is-determined}

pub returns : goal.returns
returns c = record { part = part-of-product; determined = substitution-is-determined }
