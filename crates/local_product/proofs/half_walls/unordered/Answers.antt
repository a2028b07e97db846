use Rattle.std.proofs.Common.{ap, ◌∙◌, sym, subst, arith, ◌++◌, ◌<◌, length, get_or, add-one, drop, ℕ}
use Rattle.std.specs.List.{flat_map}
use Rattle.std.proofs.lemmas.List.{get_or_default}
use Rattle.scattering.specs.LocalProduct.{halves}
use Rattle.plane_geom.specs.Shown.{point_of}
use Rattle.local_product.specs.RunLines.{AreParallels}
use Rattle.local_product.specs.Shown.{halves_of}
use Rattle.local_product.specs.Tabled.{HalvesHaveTables, HasTables, tabled_walls}
use Rattle.scattering.specs.Collections.{Every}
use Rattle.local_product.proofs.Local.{run-tables, with-class, without-class, all-runs, as-many}
use Rattle.local_product.proofs.LineClasses.{next-class, no-class}
use Rattle.local_product.proofs.half_walls.unordered.Goals as goal
use Rattle.local_product.proofs.half_walls.unordered.Goals.{in-Some+in_ok-push_run, in_default}

pub bounds-runs-at : goal.bounds-runs-at
bounds-runs-at c =
    let es = c.lines.result.1.now in
    let ls = c.lines.result.0.now in
    let i = c.loop-i.i in
    let e : ℕ = get_or es i 0 in
    let k = next-class ls es i c.loop-i.begin (length ls) e (omega arith) (get_or_default es i 0 e (omega arith)) c.loop-i.invariant.classes in
    let m = as-many c.args.tables.now.diagram c.args.tables.now.order c.runs-runs.result.now c.runs-runs.ensures (point_of c.args.p.now) ls c.lines.ensures.lines in
    let w = c.in-Some.ensures.within in
    omega (arith, k.1, m, w)

pub loop-i-preserved : goal.loop-i-preserved
loop-i-preserved c =
    let d = c.args.tables.now.diagram in
    let n = c.args.tables.now.order in
    let rs = c.runs-runs.result.now in
    let are = c.runs-runs.ensures in
    let p = point_of c.args.p.now in
    let es = c.lines.result.1.now in
    let ls = c.lines.result.0.now in
    let lines = c.lines.ensures.lines in
    let i = c.loop-i.i in
    let b = c.loop-i.begin in
    let e : ℕ = get_or es i 0 in
    let k = next-class ls es i b (length ls) e (omega arith) (get_or_default es i 0 e (omega arith)) c.loop-i.invariant.classes in
    let after = subst (λ (m : ℕ). AreParallels ls e (drop m es) (length ls)) (sym (add-one i)) k.3 in
    let old = halves_of c.loop-i.out.items in
    let new = halves_of c.match-line_through.out.items in
    elim c.match-line_through.branch [
      | in-Some+in_ok-push_run w ↦
          let f = ap (λ v. v.items) w.out-is in
          let v = w.as_slice.ensures.value in
          let s = w.in-Some.ensures in
          let at = w.in-Some.at in
          let r = w.index-runs-at.result in
          let l : at < length rs = let m = as-many d n rs are p ls lines in let u = s.within in omega (arith, k.1, m, u) in
          record {
            halves = with-class d n rs are p ls lines b e k.0 k.1 old new c.loop-i.invariant.halves at r s.within.0 s.within.1 w.index-runs-at.is s.others
                (ap halves_of f ∙ w.in_ok-push_run.ensures.halves ∙ ap (λ (ts : _). old ++ flat_map (halves p) (tabled_walls ts)) v);
            classes = after;
            tables = subst (HalvesHaveTables n) (sym f)
                (w.in_ok-push_run.ensures.tables n (subst (Every (HasTables n)) (sym v) (run-tables d n rs are at r l w.index-runs-at.is)) c.loop-i.invariant.tables);
          }
      | in_default w ↦
          let f = ap (λ v. v.items) w.out-is in
          record {
            halves = without-class d n rs are p ls lines b e k.0 k.1 old new c.loop-i.invariant.halves w.in_default.ensures.others (ap halves_of f);
            classes = after;
            tables = subst (HalvesHaveTables n) (sym f) c.loop-i.invariant.tables;
          }
    ]

pub returns-clause-halves : goal.returns-clause-halves
returns-clause-halves c =
    let t = c.loop-i-test.false in
    let ls = c.lines.result.0.now in
    let b = no-class ls c.lines.result.1.now c.loop-i.i c.loop-i.begin (length ls) (omega arith) c.loop-i.invariant.classes in
    let m = as-many c.args.tables.now.diagram c.args.tables.now.order c.runs-runs.result.now c.runs-runs.ensures (point_of c.args.p.now) ls c.lines.ensures.lines in
    all-runs c.args.tables.now.diagram c.args.tables.now.order c.runs-runs.result.now c.runs-runs.ensures (point_of c.args.p.now) c.loop-i.begin (halves_of c.loop-i.out.items)
    (omega (arith, b, m)) c.loop-i.invariant.halves
