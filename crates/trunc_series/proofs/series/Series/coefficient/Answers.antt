use Rattle.std.proofs.Common.{◌≡◌, ◌+◌, ◌-◌, ◌<◌, ◌^◌, ◌/◌, ℕ, arith, ap, sym, ◌∙◌, refl, length}
use Rattle.std.specs.Prelude.{nat_abs}
use Rattle.std.proofs.lemmas.Int.{to_z-of_z, fits_signed_from_abs}
use mir.Syntax.{w128}
use Rattle.scattering.specs.Series.{coef}
use Rattle.trunc_series.specs.Shown.{key_of, sum_of}
use Rattle.trunc_series.proofs.Terms.{at, Every-at, less-before}
use Rattle.trunc_series.proofs.Bisection.{none-before, none-after, found, nowhere, order-greater, order-equal}
use Rattle.trunc_series.proofs.series.Series.coefficient.Goals as goal

pub search-preserved-in-Less : goal.search-preserved-in-Less
search-preserved-in-Less c =
    let m : ℕ = c.search.low + (c.search.high - c.search.low) / 2 in
    let l : m < length c.as_slice-terms.result.now = omega arith in
    record {
      in_order = omega arith;
      in_range = omega arith;
      before = none-before c.as_slice-terms.result.now m (key_of c.args.key.now) (rw c.as_slice-terms.ensures.value c.self.invariant.series.rises) l (less-before (key_of (at c.as_slice-terms.result.now m).0) (key_of c.args.key.now) (sym c.in-Less.ensures));
      after = c.search.invariant.after;
    }

pub search-preserved : goal.search-preserved
search-preserved c =
    let m : ℕ = c.search.low + (c.search.high - c.search.low) / 2 in
    let l : m < length c.as_slice-terms.result.now = omega arith in
    record {
      in_order = omega arith;
      in_range = omega arith;
      before = c.search.invariant.before;
      after = none-after c.as_slice-terms.result.now m (key_of c.args.key.now) (rw c.as_slice-terms.ensures.value c.self.invariant.series.rises) l (order-greater (key_of (at c.as_slice-terms.result.now m).0) (key_of c.args.key.now) (sym c.in-Greater.ensures));
    }

pub returns-in-Equal : goal.returns-in-Equal
returns-in-Equal c =
    let m : ℕ = c.search.low + (c.search.high - c.search.low) / 2 in
    let l : m < length c.as_slice-terms.result.now = omega arith in
    let small : nat_abs (at c.as_slice-terms.result.now m).1 < 2 ^ 127 = Every-at (λ t. nat_abs t.1 < 2 ^ 127) c.as_slice-terms.result.now m l (rw c.as_slice-terms.ensures.value c.self.invariant.small) in
    let e = order-equal (key_of (at c.as_slice-terms.result.now m).0) (key_of c.args.key.now) (sym c.in-Equal.ensures) in
    to_z-of_z w128 _ (fits_signed_from_abs w128 _ small)
    ∙ sym (found c.as_slice-terms.result.now m (rw c.as_slice-terms.ensures.value c.self.invariant.series.rises) l)
    ∙ ap (coef (sum_of c.as_slice-terms.result.now)) e
    ∙ rw (c.as_slice-terms.ensures.value, ← c.self.view_is) refl

pub returns : goal.returns
returns c =
    let e : c.search.low ≡ c.search.high = omega arith in
    sym (rw (← c.self.view_is, ← c.as_slice-terms.ensures.value) (nowhere c.as_slice-terms.result.now c.search.low (key_of c.args.key.now) c.search.invariant.before (rw e c.search.invariant.after)))
