use Rattle.std.proofs.Common.{◌≡◌, refl, arith}
use Rattle.std.specs.Prelude.{None}
use Rattle.std.specs.BTreeMap.{get}
use Rattle.limits.specs.Limits.{most_reached}
use Rattle.broken_lines.specs.Growth.{exp_cmp}
use Rattle.broken_lines.proofs.Growths.{known-when, absent-when, unknown, full, gains-known, gains-one, one-more}
use Rattle.broken_lines.proofs.growth.Growth.add.Goals as goal

pub returns-then-contains_key-clause-gains : goal.returns-then-contains_key-clause-gains
returns-then-contains_key-clause-gains c = gains-known c.args.self.now c.args.x (known-when (get exp_cmp c.args.self.now.known c.args.x) c.contains_key.result c.if-contains_key.true c.contains_key.ensures)

pub returns-then-contains_key-clause-new : goal.returns-then-contains_key-clause-new
returns-then-contains_key-clause-new c =
    let k = known-when (get exp_cmp c.args.self.now.known c.args.x) c.contains_key.result c.if-contains_key.true c.contains_key.ensures in
    ((λ t. absurd (cc)), λ n. absurd (n k))

pub returns-then-len-ge-MOST_REACHED-clause-fault : goal.returns-then-len-ge-MOST_REACHED-clause-fault
returns-then-len-ge-MOST_REACHED-clause-fault c =
    let e = absent-when (get exp_cmp c.args.self.now.known c.args.x) c.contains_key.result c.if-contains_key.false c.contains_key.ensures in
    let many = c.if-len-ge-MOST_REACHED.true in
    let len = c.len.ensures.len in
    full c.args.self.now c.args.x c.len.ensures.ordered (omega (arith, many, len)) (unknown c.args.self.now c.args.x e)

pub returns-clause-gains : goal.returns-clause-gains
returns-clause-gains c =
    let e : get exp_cmp c.args.self.now.known c.args.x ≡ None = absent-when (get exp_cmp c.args.self.now.known c.args.x) c.contains_key.result c.if-contains_key.false c.contains_key.ensures in
    let few = c.if-len-ge-MOST_REACHED.false in
    let len = c.len.ensures.len in
    gains-one c.args.self.now record { known = c.insert.new.self; level = c.push.new.self; degree = c.args.self.now.degree } c.args.x e c.in_ok-insert.ensures.updates c.in_ok-push.ensures.items refl
    (one-more c.in_ok-insert.field-0 _ _ most_reached c.in_ok-insert.ensures.len (omega (arith, few, len)))
