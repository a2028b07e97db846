use Rattle.std.proofs.Common.{ap, subst, sym}
use Rattle.scatter_text.specs.declared.file.LineRow.{LineRow}
use Rattle.scatter_text.specs.Monomials.{HasMonomials}
use Rattle.scatter_text.proofs.KnownTerms.{monomials-more}
use Rattle.scatter_text.proofs.open_line.OpenLine.with.Goals as goal

pub invariant_of-result : goal.invariant_of-result
invariant_of-result c = record {
  known =
      subst (HasMonomials c.insert.new.self) (sym (ap (λ (l : LineRow). l.terms) c.in_ok-row.ensures))
      (monomials-more c.args.self.monomials c.insert.new.self c.in_ok-monomial.monomial c.args.self.row.terms c.args.term c.args.self.known c.in_ok-monomial.ensures c.in_ok-insert.ensures.updates);
}
