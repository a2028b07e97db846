use Rattle.std.proofs.Common.{◌-◌, List, length, get_or, refl}
use Rattle.std.specs.Prelude.{pos}
use Rattle.std.proofs.lemmas.Result.{err_from_is_err_and}
use Rattle.trunc_series.specs.declared.key.Exp.{Exp as CodeExp}
use Rattle.broken_lines.specs.Tracing.{seen_tracing, roots}
use Rattle.broken_lines.proofs.Pushes.{given-more, given-fault, roots-more}
use Rattle.broken_lines.proofs.tracer.Tracing.push_roots.Goals as goal

abbrev none : CodeExp
none = record { a = pos 0; b = pos 0 }

pub returns-in_err-push_root-clause-fault : goal.returns-in_err-push_root-clause-fault
returns-in_err-push_root-clause-fault c =
    let p = err_from_is_err_and c.from_residual.result c.from_residual.ensures.1 in
    let xs = c.args.reached.now in
    let i = c.loop-i.i in
    rw (p.1, p.2) (given-fault (λ ds. roots c.args.ask.now ds) refl (λ d ds. roots-more c.args.ask.now d ds) xs (length xs) refl (seen_tracing c.args.self.now) i none (get_or xs (length xs - 1 - i) none) (seen_tracing c.loop-i.self) _ c.loop-i-test.true refl c.loop-i.invariant.pushed c.in_err-push_root.ensures.fault)

pub loop-i-preserved : goal.loop-i-preserved
loop-i-preserved c =
    let xs = c.args.reached.now in
    let i = c.loop-i.i in
    record {
      pushed = given-more (λ (ds : List CodeExp). roots c.args.ask.now ds) refl (λ d ds. roots-more c.args.ask.now d ds) xs (length xs) refl (seen_tracing c.args.self.now) i none (get_or xs (length xs - 1 - i) none) (seen_tracing c.loop-i.self) (seen_tracing c.push_root.new.self) c.loop-i-test.true refl c.loop-i.invariant.pushed c.in_ok-push_root.ensures.pushed;
      few = λ l. c.in_ok-push_root.ensures.few (c.loop-i.invariant.few l);
    }
