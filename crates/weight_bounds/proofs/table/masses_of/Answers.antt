use Rattle.std.proofs.Common.{◌<◌, [], length, length-set, get_or, FitsSigned, take_all, rules, arith}
use Rattle.std.specs.Prelude.{ℤ, pos, nat_abs}
use Rattle.std.proofs.lemmas.Int.{to_z-of_z}
use mir.Syntax.{w128}
use Rattle.trunc_series.specs.declared.key.Key.{Key as CodeKey}
use Rattle.weight_bounds.specs.Masses.{IsBound}
use Rattle.weight_bounds.proofs.Terms.{masses-more, masses-same, share-outside}
use Rattle.weight_bounds.proofs.table.masses_of.Goals as goal
use Rattle.weight_bounds.proofs.table.masses_of.Goals.{then-d-gt0+then-d-order, else-d-gt0, else-d-gt0-via-then-d-gt0+else-d-order, else-d-gt0-via-else-d-gt0}

abbrev none : CodeKey × ℤ
none = (record { exp = record { a = pos 0; b = pos 0 }; powers = [] }, pos 0)

pub loop-t-preserved : goal.loop-t-preserved
loop-t-preserved c =
    let l : c.loop-t.t-index < length c.args.terms.now = omega arith in
    let v = c.degree-d.ensures.value in
    elim c.if-d-gt0.branch [
      | then-d-gt0+then-d-order w ↦
          let fits : FitsSigned w128 (get_or c.args.terms.now c.loop-t.t-index none).1 = search rules in
          let low : c.degree-d.result < length c.loop-t.masses = omega (arith, c.loop-t.invariant.length, w.if-d-order.true) in
          let s : IsBound w.unsigned_abs.result (nat_abs (get_or c.args.terms.now c.loop-t.t-index none).1) = λ q.
          let e = rw (to_z-of_z w128 (get_or c.args.terms.now c.loop-t.t-index none).1 fits) at w.unsigned_abs.ensures.value in omega (arith, e) in
          rw w.masses-is
          record {
            length = simp length-set c.loop-t.invariant.length;
            masses =
                masses-more c.args.order c.loop-t.t-index w.sum.result c.degree-d.result none c.args.terms.now c.loop-t.masses v low l c.requires.others
                (λ n b. w.sum.ensures n (nat_abs (get_or c.args.terms.now c.loop-t.t-index none).1) b s) c.loop-t.invariant.masses;
          }
      | else-d-gt0 w ↦
          rw w.masses-is
          record {
            length = c.loop-t.invariant.length;
            masses =
                masses-same c.args.order c.loop-t.t-index none c.args.terms.now c.loop-t.masses l c.requires.others
                (λ i q. share-outside c.args.order i (get_or c.args.terms.now c.loop-t.t-index none) q
                (λ p h.
                elim w.else-d-gt0.branch [
                  | else-d-gt0-via-then-d-gt0+else-d-order w' ↦ (omega (arith, v, h, w'.if-d-order.false))
                  | else-d-gt0-via-else-d-gt0 w' ↦ (omega (arith, v, p, w'.if-d-gt0.false))
                ]))
                c.loop-t.invariant.masses;
          }
    ]

pub returns : goal.returns
returns c i l = rw (← take_all c.loop-t.t-index c.args.terms.now (omega arith)) (c.loop-t.invariant.masses i l)
