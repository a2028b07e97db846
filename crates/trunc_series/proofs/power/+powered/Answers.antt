use Rattle.std.proofs.Common.{arith, ◌≡◌, subst, ◌/◌, ◌+◌, ℕ}
use Rattle.std.proofs.lemmas.Result.{IfOk-weaker}
use Rattle.scattering.specs.Series.{pow}
use Rattle.trunc_series.specs.Shown.{sum_of}
use Rattle.trunc_series.specs.Reduced.{IsKeptAs}
use Rattle.trunc_series.proofs.PowerLaws.{near-factor, pow-square, pow-more}
use Rattle.trunc_series.proofs.power.+powered.Goals as goal

pub multiplied-requires-clause-left : goal.multiplied-requires-clause-left
multiplied-requires-clause-left t c =
    rw c.as_slice.ensures.value
    (near-factor c.args.rule c.args.order (sum_of c.in_ok-half.half.items) (pow c.args.order (sum_of c.args.f.now) (c.args.n / 2)) c.in_ok-half.ensures (c.requires.powers (c.args.n / 2) (omega arith)))

pub multiplied-requires-clause-right : goal.multiplied-requires-clause-right
multiplied-requires-clause-right t c =
    rw c.as_slice-2.ensures.value
    (near-factor c.args.rule c.args.order (sum_of c.in_ok-half.half.items) (pow c.args.order (sum_of c.args.f.now) (c.args.n / 2)) c.in_ok-half.ensures (c.requires.powers (c.args.n / 2) (omega arith)))

pub returns-then-n-eq0-2 : goal.returns-then-n-eq0-2
returns-then-n-eq0-2 t c =
    let e : c.args.n / 2 + c.args.n / 2 ≡ c.args.n = omega arith in
    subst (λ (i : ℕ). IsKeptAs c.args.rule c.args.order (sum_of c.in_ok-square.square.items) (pow c.args.order (sum_of c.args.f.now) i)) e
    (pow-square c.args.rule c.args.order (sum_of c.args.f.now) c.requires.reduced.keepable (c.args.n / 2) (sum_of c.in_ok-half.half.items) (sum_of c.in_ok-square.square.items) c.in_ok-half.ensures
    (rw (c.as_slice.ensures.value, c.as_slice-2.ensures.value) at c.in_ok-square.ensures))

pub multiplied-requires-2-clause-left : goal.multiplied-requires-2-clause-left
multiplied-requires-2-clause-left t c = near-factor c.args.rule c.args.order (sum_of c.args.f.now) (sum_of c.args.f.now) c.requires.reduced c.requires.near

pub multiplied-requires-2-clause-right : goal.multiplied-requires-2-clause-right
multiplied-requires-2-clause-right t c =
    let m : ℕ = c.args.n / 2 in
    let square : IsKeptAs c.args.rule c.args.order (sum_of c.in_ok-square.square.items) (pow c.args.order (sum_of c.args.f.now) (c.args.n / 2 + c.args.n / 2)) =
    pow-square c.args.rule c.args.order (sum_of c.args.f.now) c.requires.reduced.keepable (c.args.n / 2) (sum_of c.in_ok-half.half.items) (sum_of c.in_ok-square.square.items) c.in_ok-half.ensures
    (rw (c.as_slice.ensures.value, c.as_slice-2.ensures.value) at c.in_ok-square.ensures) in
    rw c.as_slice-3.ensures.value
    (near-factor c.args.rule c.args.order (sum_of c.in_ok-square.square.items) (pow c.args.order (sum_of c.args.f.now) (c.args.n / 2 + c.args.n / 2)) square (c.requires.powers (c.args.n / 2 + c.args.n / 2) (omega arith)))

pub returns : goal.returns
returns t c =
    let square : IsKeptAs c.args.rule c.args.order (sum_of c.in_ok-square.square.items) (pow c.args.order (sum_of c.args.f.now) (c.args.n / 2 + c.args.n / 2)) =
    pow-square c.args.rule c.args.order (sum_of c.args.f.now) c.requires.reduced.keepable (c.args.n / 2) (sum_of c.in_ok-half.half.items) (sum_of c.in_ok-square.square.items) c.in_ok-half.ensures
    (rw (c.as_slice.ensures.value, c.as_slice-2.ensures.value) at c.in_ok-square.ensures) in
    let e : c.args.n / 2 + c.args.n / 2 + 1 ≡ c.args.n = omega arith in
    IfOk-weaker c.multiplied-2.result _ _ (λ r h. subst (λ (i : ℕ). IsKeptAs c.args.rule c.args.order (sum_of r.items) (pow c.args.order (sum_of c.args.f.now) i)) e
    (pow-more c.args.rule c.args.order (sum_of c.args.f.now) c.requires.reduced.keepable (c.args.n / 2 + c.args.n / 2) (sum_of c.args.f.now) (sum_of c.in_ok-square.square.items) (sum_of r.items) c.requires.reduced square (rw c.as_slice-3.ensures.value at h))) c.multiplied-2.ensures
