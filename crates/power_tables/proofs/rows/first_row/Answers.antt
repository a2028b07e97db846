use Rattle.std.proofs.Common.{rules, ℕ, ◌≡◌, ◌-◌, replicate, ◌∙◌, ap, arith, ◌++◌, ◌∷◌, [], List}
use Rattle.std.specs.Prelude.{ℤ, pos}
use Rattle.power_tables.proofs.RowSteps.{replicate-push}
use Rattle.power_tables.proofs.rows.first_row.Goals as goal

pub loop-preserved : goal.loop-preserved
loop-preserved c = record {
  started = omega arith;
  items = c.in_ok-push-2.ensures.items ∙ ap (λ (r : List ℤ). r ++ pos 0 ∷ []) c.loop.invariant.items ∙ replicate-push (pos 1) (pos 0) c.loop.counter c.loop.invariant.started;
}

pub returns : goal.returns
returns c = c.loop.invariant.items ∙ ap (λ (i : ℕ). pos 1 ∷ replicate (i - 1) (pos 0)) (let e : c.loop.counter ≡ 25 = search rules in e)
