use Rattle.std.proofs.Common.{◌+◌, ◌∙◌, ap, sym, subst, ℕ, List, length, arith}
use Rattle.local_product.specs.RunLines.{Rise, AreParallels}
use Rattle.local_product.proofs.LineClasses.{one-class-more, ends-within, one-rises, more-rise}
use Rattle.local_product.proofs.parallels.ends_of.Goals.{then-not-is_before+in_ok-push, else-not-is_before, then-begin-lines+in_ok-push-2, else-begin-lines}
use Rattle.local_product.proofs.parallels.ends_of.Goals as goal

pub loop-i-preserved : goal.loop-i-preserved
loop-i-preserved c =
    let ls = c.args.lines.now in
    let v = c.loop-i.invariant in
    elim c.if-not-is_before.branch [
      | then-not-is_before+in_ok-push w ↦
          let b = w.begin-is in
          let es = ap (λ x. x.items) w.ends-is ∙ w.in_ok-push.ensures.items in
          record {
            begin = omega (arith, b);
            rise = subst (λ (x : ℕ). Rise x (c.loop-i.i + 1) ls) (sym b) (one-rises c.loop-i.i ls);
            classes = subst (λ (x : ℕ). AreParallels ls 0 c.if-not-is_before.ends.items x) (sym b)
                (subst (λ (x : List ℕ). AreParallels ls 0 x c.loop-i.i) (sym es) (one-class-more ls 0 c.loop-i.ends.items c.loop-i.begin c.loop-i.i v.classes v.begin (omega arith) v.rise));
          }
      | else-not-is_before w ↦
          let b = w.begin-is in
          let l = v.begin in
          record {
            begin = omega (arith, b, l);
            rise = subst (λ (x : ℕ). Rise x (c.loop-i.i + 1) ls) (sym b)
                (more-rise c.loop-i.begin c.loop-i.i ls c.index-lines-i.result c.index-lines-i-in-loop-i.result (omega (arith, l)) (omega arith) c.index-lines-i.is c.index-lines-i-in-loop-i.is (c.is_before.ensures w.if-not-is_before.false) v.rise);
            classes = subst (λ (x : ℕ). AreParallels ls 0 c.if-not-is_before.ends.items x) (sym b)
                (subst (λ (x : List ℕ). AreParallels ls 0 x c.loop-i.begin) (sym (ap (λ x. x.items) w.ends-is)) v.classes);
          }
    ]

pub returns : goal.returns
returns c =
    let ls = c.args.lines.now in
    let v = c.loop-i.invariant in
    elim c.if-begin-lines.branch [
      | then-begin-lines+in_ok-push-2 w ↦
          let t = c.loop-i-test.false in
          subst (λ (x : List ℕ). AreParallels ls 0 x (length ls)) (sym (ap (λ x. x.items) w.ends-is ∙ w.in_ok-push-2.ensures.items))
          (one-class-more ls 0 c.loop-i.ends.items c.loop-i.begin (length ls) v.classes w.if-begin-lines.true (omega arith) (λ j k l h. v.rise j k l (omega (arith, h, t))))
      | else-begin-lines w ↦
          let e = ends-within ls 0 c.loop-i.ends.items c.loop-i.begin (omega arith) v.classes in
          let f = w.if-begin-lines.false in
          subst (λ (x : List ℕ). AreParallels ls 0 x (length ls)) (sym (ap (λ x. x.items) w.ends-is))
          (subst (λ (n : ℕ). AreParallels ls 0 c.loop-i.ends.items n) (omega (arith, e, f)) v.classes)
    ]
