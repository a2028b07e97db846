use Rattle.std.proofs.Common.{ℕ, to_z, of_z, ◌≡◌, ◌<◌, ◌≤◌, ◌^◌, ap, ◌∙◌, arith}
use Rattle.std.specs.Prelude.{ℤ, pos, nat_abs}
use Rattle.std.proofs.lemmas.Int.{ints, to_z-of_z, fits_signed_from_abs}
use mir.Syntax.{w128}
use Rattle.scattering.specs.Series.{degree}
use Rattle.trunc_series.specs.Shown.{sum_of}
use Rattle.trunc_series.proofs.Terms.{at, Every-at}
use Rattle.local_product.proofs.OneVariableFunctions.{terms-more}
use Rattle.local_product.proofs.one_variable.terms_in_one_variable.Goals as goal

pub one_variable-requires : goal.one_variable-requires
one_variable-requires c = Every-at (λ t. degree t.0 ≤ 24) c.args.terms.now c.loop-t.t-index (omega arith) c.requires.low

pub size-requires : goal.size-requires
size-requires c = Every-at (λ t. nat_abs t.1 < 2 ^ 127) c.args.terms.now c.loop-t.t-index (omega arith) c.requires.small

-- |c| is kept as it is
kept : (c r : ℤ) → nat_abs c < 2 ^ 127 → r ≡ pos (nat_abs c) → to_z w128 (of_z w128 r) ≡ pos (nat_abs c)
kept c r l e = to_z-of_z w128 r (fits_signed_from_abs w128 r (small r (nat_abs c) e l)) ∙ e
  where
    small : (r : ℤ) (n : ℕ) → r ≡ pos n → n < 2 ^ 127 → nat_abs r < 2 ^ 127
    small r n e l = omega (arith, ints, e, l)

pub loop-t-preserved : goal.loop-t-preserved
loop-t-preserved c =
    ap sum_of c.in_ok-push.ensures.items
    ∙ terms-more c.args.terms.now c.loop-t.out.items c.loop-t.t-index c.one_variable.result (to_z w128 (of_z w128 c.size.result)) (omega arith) c.loop-t.invariant c.one_variable.ensures
    (kept (at c.args.terms.now c.loop-t.t-index).1 c.size.result (Every-at (λ t. nat_abs t.1 < 2 ^ 127) c.args.terms.now c.loop-t.t-index (omega arith) c.requires.small) c.size.ensures)
