use Rattle.std.proofs.Common.{◌≡◌, ℕ, ◌+◌, ◌-◌, ◌/◌, ◌∙◌, ap, sym, subst, true, false, arith}
use Rattle.std.specs.Prelude.{◌*ℤ◌}
use Rattle.std.specs.Ordering.{is_lt}
use Rattle.local_product.specs.declared.run_line.RunLine.{RunLine}
use Rattle.local_product.proofs.RunLines.{stands_before, less-is, below-before, above-not, read-as}
use Rattle.local_product.proofs.parallels.first_from.Goals as goal

pub bisect-preserved-then-is_lt : goal.bisect-preserved-then-is_lt
bisect-preserved-then-is_lt c =
    let ls = c.args.lines.now in
    let m = c.args.line.now in
    let r = c.index-lines-middle.result in
    let v = c.bisect.invariant in
    let i : ℕ = c.bisect.low + (c.bisect.high - c.bisect.low) / 2 in
    let t = c.bisect-test.true in
    let f : stands_before r m ≡ true = sym (less-is (r.over *ℤ m.under) (m.over *ℤ r.under)) ∙ ap is_lt (sym c.compare.ensures) ∙ sym c.is_lt.ensures ∙ c.if-is_lt.true in
    record {
      low = omega arith;
      high = omega arith;
      end = v.end;
      before = λ j k l h. below-before c.args.begin c.args.end ls c.requires.rise k m i j l (omega (arith, h)) (omega arith) (subst (λ (x : RunLine). stands_before x m ≡ true) (read-as ls i r k (omega arith) c.index-lines-middle.is) f);
      others = v.others;
    }

pub bisect-preserved : goal.bisect-preserved
bisect-preserved c =
    let ls = c.args.lines.now in
    let m = c.args.line.now in
    let r = c.index-lines-middle.result in
    let v = c.bisect.invariant in
    let i : ℕ = c.bisect.low + (c.bisect.high - c.bisect.low) / 2 in
    let f : stands_before r m ≡ false = sym (less-is (r.over *ℤ m.under) (m.over *ℤ r.under)) ∙ ap is_lt (sym c.compare.ensures) ∙ sym c.is_lt.ensures ∙ c.if-is_lt.false in
    record {
      low = v.low;
      high = omega arith;
      end = omega arith;
      before = v.before;
      others = λ j k l h. above-not c.args.begin c.args.end ls c.requires.rise k m i j (omega arith) l h (subst (λ (x : RunLine). stands_before x m ≡ false) (read-as ls i r k (omega arith) c.index-lines-middle.is) f);
    }
