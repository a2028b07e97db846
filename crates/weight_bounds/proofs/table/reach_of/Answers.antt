use Rattle.std.proofs.Common.{◌<◌, ◌≤◌, ◌*◌, ◌^◌, ℕ, refl, [], length, length-set, get_or, slice_index, slice_set, arith}
use Rattle.std.specs.Prelude.{ℤ, pos}
use Rattle.trunc_series.specs.declared.key.Key.{Key as CodeKey}
use Rattle.weight_bounds.proofs.Rows.{zeros, slow-more, least-more, max-left, max-right, max-within}
use Rattle.weight_bounds.proofs.Terms.{reached-next, reach-set, all-reached}
use Rattle.weight_bounds.proofs.table.reach_of.Goals as goal
use Rattle.weight_bounds.proofs.table.reach_of.Goals.{then-d-gt0+then-d-order, else-d-gt0, else-d-gt0-via-then-d-gt0+else-d-order, else-d-gt0-via-else-d-gt0}

abbrev none : CodeKey × ℤ
none = (record { exp = record { a = pos 0; b = pos 0 }; powers = [] }, pos 0)

pub loop-t-init : goal.loop-t-init
loop-t-init c = record {
  length = refl;
  slow = λ i. let z = zeros 25 i in omega (arith, z);
  reached = λ j d l. absurd (omega (arith, l));
}

times : (d x : ℕ) → 0 < d → x ≤ 2 ^ 31 → x ≤ 2 ^ 31 * d
times d x p q = omega (arith, p, q)

pub loop-t-preserved : goal.loop-t-preserved
loop-t-preserved c =
    let l : c.loop-t.t-index < length c.args.terms.now = omega arith in
    let v = c.degree-d.ensures.value in
    elim c.if-d-gt0.branch [
      | then-d-gt0+then-d-order w ↦
          let low : c.degree-d.result < length c.loop-t.reach = omega (arith, c.loop-t.invariant.length, w.if-d-order.true) in
          let m : slice_index c.loop-t.reach c.degree-d.result ≤ w.max.result = rw w.max.ensures (max-left (get_or c.loop-t.reach c.degree-d.result 0) w.larger.result) in
          let n : w.larger.result ≤ w.max.result = rw w.max.ensures (max-right (get_or c.loop-t.reach c.degree-d.result 0) w.larger.result) in
          rw w.reach-is
          record {
            length = simp length-set c.loop-t.invariant.length;
            slow = slow-more c.loop-t.reach c.degree-d.result w.max.result low c.loop-t.invariant.slow (rw w.max.ensures (max-within (get_or c.loop-t.reach c.degree-d.result 0) w.larger.result
                (2 ^ 31 * c.degree-d.result) (c.loop-t.invariant.slow c.degree-d.result) (times c.degree-d.result w.larger.result w.if-d-gt0.true w.larger.ensures.small)));
            reached =
                reached-next c.args.order c.loop-t.t-index none c.args.terms.now c.loop-t.reach (slice_set c.loop-t.reach c.degree-d.result w.max.result) l
                (least-more c.loop-t.reach c.loop-t.reach c.degree-d.result w.max.result low (λ j. omega arith) m) c.loop-t.invariant.reached
                (reach-set c.args.order c.degree-d.result w.max.result (get_or c.args.terms.now c.loop-t.t-index none) c.loop-t.reach v low (let a = w.larger.ensures.a in omega (arith, a, n))
                (let b = w.larger.ensures.b in omega (arith, b, n)));
          }
      | else-d-gt0 w ↦
          rw w.reach-is
          record {
            length = c.loop-t.invariant.length;
            slow = c.loop-t.invariant.slow;
            reached =
                reached-next c.args.order c.loop-t.t-index none c.args.terms.now c.loop-t.reach c.loop-t.reach l (λ j. omega arith) c.loop-t.invariant.reached
                (λ p h.
                elim w.else-d-gt0.branch [
                  | else-d-gt0-via-then-d-gt0+else-d-order w' ↦ absurd (omega (arith, v, h, w'.if-d-order.false))
                  | else-d-gt0-via-else-d-gt0 w' ↦ absurd (omega (arith, v, p, w'.if-d-gt0.false))
                ]);
          }
    ]

pub returns-clause-reach : goal.returns-clause-reach
returns-clause-reach c = all-reached c.args.order c.loop-t.reach c.loop-t.t-index c.args.terms.now (omega arith) c.loop-t.invariant.reached c.requires.others
