use Rattle.std.proofs.Common.{◌≡◌, ◌∙◌, sym, subst, drop, length, arith, List}
use Rattle.std.specs.Prelude.{OnOk}
use Rattle.scattering.specs.Series.{Sum}
use Rattle.plane_geom.specs.Shown.{vector_of}
use Rattle.wall_auto.specs.Sign.{sign}
use Rattle.wall_auto.specs.ByDegree.{CrossesParts, CrossesWithin}
use Rattle.wall_auto.proofs.Outcomes.{written-back}
use Rattle.wall_auto.proofs.by_degree.SumByDegree.cross.Goals as goal

pub cross_parts-requires-clause-values : goal.cross_parts-requires-clause-values
cross_parts-requires-clause-values c = c.begin.ensures c.args.table.now

pub returns-clause-crosses : goal.returns-clause-crosses
returns-clause-crosses c =
    let o = c.cross_parts.ensures.order in
    let v : c.deref_mut.result.now ≡ c.args.self.now = c.deref_mut.ensures.value ∙ c.self.view_is in
    let n : c.self.inside.parts.len ≡ length c.cross_parts.new.parts = omega (arith, o, c.self.inside.parts.ok.0) in
    subst (λ (ps : List Sum). OnOk c.cross_parts.result (CrossesParts c.args.table.now (vector_of c.args.dir.now) (sign c.args.side) c.args.self.now ps)) (sym (written-back c.cross_parts.new.parts (drop (length c.cross_parts.new.parts) c.self.inside.parts.items) c.self.inside.parts.len n))
    (subst (λ (ps : List Sum). OnOk c.cross_parts.result (CrossesParts c.args.table.now (vector_of c.args.dir.now) (sign c.args.side) ps c.cross_parts.new.parts)) v c.cross_parts.ensures.crosses)

pub returns-clause-within : goal.returns-clause-within
returns-clause-within c =
    let o = c.cross_parts.ensures.order in
    let v : c.deref_mut.result.now ≡ c.args.self.now = c.deref_mut.ensures.value ∙ c.self.view_is in
    let n : c.self.inside.parts.len ≡ length c.cross_parts.new.parts = omega (arith, o, c.self.inside.parts.ok.0) in
    subst (λ (ps : List Sum). OnOk c.cross_parts.result (CrossesWithin c.args.table.now c.args.self.now ps)) (sym (written-back c.cross_parts.new.parts (drop (length c.cross_parts.new.parts) c.self.inside.parts.items) c.self.inside.parts.len n))
    (subst (λ (ps : List Sum). OnOk c.cross_parts.result (CrossesWithin c.args.table.now ps c.cross_parts.new.parts)) v c.cross_parts.ensures.within)
