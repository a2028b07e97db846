use Rattle.std.proofs.Common.{ap, sym, ◌∙◌, arith, ◌∷◌}
use Rattle.std.proofs.lemmas.Int.{ints}
use Rattle.trunc_series.specs.Shown.{exp_of, key_of, term_of}
use Rattle.scattering.specs.Series.{Term, exp_sub}
use Rattle.broken_line_theory.specs.TailValue.{tail_value}
use Rattle.bend_finder.specs.Ahead.{bend_of}
use Rattle.theta_algebra.specs.LineValues.{tail_bends, value_term}
use Rattle.theta_algebra.proofs.LightTails.{later, later-length, later-bends, parted, bend-term, first-bend, bends-small, next-low, next-light, next-bends, taken-small, rest-value, rest-degree, product-fits, product-is}
use Rattle.theta_algebra.proofs.line_values.+value_of_bends.Goals as goal

pub value-requires-clause-small : goal.value-requires-clause-small
value-requires-clause-small t c = bends-small c.args.tracer.now.walls c.args.tracer.now.limit (exp_of c.args.x) (tail_bends c.args.bends.now) c.requires.bends

pub value-requires-clause-degree : goal.value-requires-clause-degree
value-requires-clause-degree t c =
    let f = c.args.tracer.now in
    let h = first-bend f.walls f.limit (exp_of c.args.x) c.args.bends.now c.bend-item.result c.in-len1-up.len_at_least c.bend-item.is c.requires.bends in
    next-low f.walls f.limit (exp_of c.args.x) (bend_of c.bend-item.result) (tail_bends (later c.args.bends.now)) h

pub value-requires-clause-light : goal.value-requires-clause-light
value-requires-clause-light t c =
    let f = c.args.tracer.now in
    let h = first-bend f.walls f.limit (exp_of c.args.x) c.args.bends.now c.bend-item.result c.in-len1-up.len_at_least c.bend-item.is c.requires.bends in
    next-light f.walls f.limit (exp_of c.args.x) (bend_of c.bend-item.result) (tail_bends (later c.args.bends.now)) h

pub overflow_sub-left : goal.overflow_sub-left
overflow_sub-left t c =
    let f = c.args.tracer.now in
    let h = first-bend f.walls f.limit (exp_of c.args.x) c.args.bends.now c.bend-item.result c.in-len1-up.len_at_least c.bend-item.is c.requires.bends in
    let s = (bends-small f.walls f.limit (exp_of c.args.x) (tail_bends c.args.bends.now) c.requires.bends).0 in
    let k = (taken-small f.walls f.limit (exp_of c.args.x) (bend_of c.bend-item.result) (tail_bends (later c.args.bends.now)) h).0 in
    omega (arith, ints, s, k)

pub overflow_sub-left-2 : goal.overflow_sub-left-2
overflow_sub-left-2 t c =
    let f = c.args.tracer.now in
    let h = first-bend f.walls f.limit (exp_of c.args.x) c.args.bends.now c.bend-item.result c.in-len1-up.len_at_least c.bend-item.is c.requires.bends in
    let s = (bends-small f.walls f.limit (exp_of c.args.x) (tail_bends c.args.bends.now) c.requires.bends).1 in
    let k = (taken-small f.walls f.limit (exp_of c.args.x) (bend_of c.bend-item.result) (tail_bends (later c.args.bends.now)) h).1 in
    omega (arith, ints, s, k)

pub value_of_bends-requires : goal.value_of_bends-requires
value_of_bends-requires t c =
    let f = c.args.tracer.now in
    let h = first-bend f.walls f.limit (exp_of c.args.x) c.args.bends.now c.bend-item.result c.in-len1-up.len_at_least c.bend-item.is c.requires.bends in
    let l = later-length c.args.bends.now c.in-len1-up.len_at_least in
    (omega (arith, l), later-bends f c.value.new.self (exp_of c.args.x) (bend_of c.bend-item.result) (tail_bends (later c.args.bends.now)) c.value.ensures.same h)

pub times-requires-clause-degrees : goal.times-requires-clause-degrees
times-requires-clause-degrees t c =
    let f = c.args.tracer.now in
    let b = bend_of c.bend-item.result in
    let cs = tail_bends (later c.args.bends.now) in
    let h = first-bend f.walls f.limit (exp_of c.args.x) c.args.bends.now c.bend-item.result c.in-len1-up.len_at_least c.bend-item.is c.requires.bends in
    let v = rest-value f c.value.new.self (exp_of c.args.x) b cs (term_of c.in_ok-rest.rest) c.value.ensures.same h c.in_ok-rest.ensures.value in
    let r = rest-degree f.walls f.limit (exp_sub (exp_of c.args.x) b.key.exp) cs (term_of c.in_ok-rest.rest) (next-bends f.walls f.limit (exp_of c.args.x) b cs h) v in
    let d = next-low f.walls f.limit (exp_of c.args.x) b cs h in
    let l = h.low in
    omega (arith, r, d, l)

pub overflow_mul-result : goal.overflow_mul-result
overflow_mul-result t c =
    let f = c.args.tracer.now in
    let b = bend_of c.bend-item.result in
    let cs = tail_bends (later c.args.bends.now) in
    let h = first-bend f.walls f.limit (exp_of c.args.x) c.args.bends.now c.bend-item.result c.in-len1-up.len_at_least c.bend-item.is c.requires.bends in
    let v = rest-value f c.value.new.self (exp_of c.args.x) b cs (term_of c.in_ok-rest.rest) c.value.ensures.same h c.in_ok-rest.ensures.value in
    product-fits f.walls f.limit (exp_of c.args.x) b cs h c.in_ok-value.value c.in_ok-rest.rest.1 c.in_ok-value.ensures.value (ap (λ (u : Term). u.1) v)

pub returns-clause-value : goal.returns-clause-value
returns-clause-value t c =
    let f = c.args.tracer.now in
    let b = bend_of c.bend-item.result in
    let cs = tail_bends (later c.args.bends.now) in
    let h = first-bend f.walls f.limit (exp_of c.args.x) c.args.bends.now c.bend-item.result c.in-len1-up.len_at_least c.bend-item.is c.requires.bends in
    let v = rest-value f c.value.new.self (exp_of c.args.x) b cs (term_of c.in_ok-rest.rest) c.value.ensures.same h c.in_ok-rest.ensures.value in
    let p = product-is f.walls f.limit (exp_of c.args.x) b cs h c.in_ok-value.value c.in_ok-rest.rest.1 c.in_ok-value.ensures.value (ap (λ (u : Term). u.1) v) in
    bend-term (key_of c.times.result) (key_of c.in_ok-rest.rest.0) b.key.powers (tail_value f.walls f.limit (exp_sub (exp_of c.args.x) b.key.exp) cs).0 _ (tail_value f.walls f.limit (exp_of c.args.x) (b ∷ cs)).1
    c.times.ensures (ap (λ (u : Term). u.0) v) p
    ∙ ap (λ ds. value_term (tail_value f.walls f.limit (exp_of c.args.x) ds)) (sym (parted c.args.bends.now c.bend-item.result c.in-len1-up.len_at_least c.bend-item.is))
