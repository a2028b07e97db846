-- Each row gives one line more.
use Rattle.std.proofs.Common.{◌≡◌, ◌∙◌, ◌+◌, ◌<◌, ◌≤◌, List, length, take, get_or, ap, sym, subst, rules, arith, ℤ}
use Rattle.std.specs.Prelude.{nat_abs, pos}
use mir.Syntax.{w64}
use Rattle.std.proofs.lemmas.Int.{ints, to_z-of_z}
use Rattle.scatter_diagram.specs.Listed.{SeenInitial}
use Rattle.scatter_diagram.specs.declared.wall.Wall.{Wall as CodeWall}
use Rattle.scatter_text.specs.declared.file.LineRow.{LineRow}
use Rattle.scatter_text.specs.LimitedLines.{IsLimitedLine}
use Rattle.scatter_text.proofs.InitialLines.{AreSaid, limited-line, few-lines, said-more, said-length, said-all}
use Rattle.scatter_text.proofs.WithinLimits.{vars-few}
use Rattle.scatter_text.proofs.initial.initial_of.Goals as goal

pub line_of-requires : goal.line_of-requires
line_of-requires c =
    let l = subst (λ (ls : List LineRow). c.loop-row.row-index < length ls) c.as_slice-rows.ensures c.loop-row-test.true in
    let is : c.row-item.result ≡ get_or c.args.file.now.lines c.loop-row.row-index c.row-item.result = c.row-item.is ∙ ap (λ (ls : List LineRow). get_or ls c.loop-row.row-index c.row-item.result) c.as_slice-rows.ensures in
    subst IsLimitedLine (sym is) (limited-line c.args.file.now c.requires c.loop-row.row-index c.row-item.result l)

pub loop-row-preserved : goal.loop-row-preserved
loop-row-preserved c =
    subst (λ (ws : List CodeWall). AreSaid (take (c.loop-row.row-index + 1) c.as_slice-rows.result.now) ws) (sym c.in_ok-push.ensures.items)
    (said-more c.as_slice-rows.result.now c.loop-row.lines.items c.loop-row.row-index c.row-item.result c.in_ok-line_of.field-0 c.loop-row-test.true c.row-item.is c.loop-row.invariant c.in_ok-line_of.ensures)

pub new-requires-clause-few_vars : goal.new-requires-clause-few_vars
new-requires-clause-few_vars c =
    subst (λ (z : ℤ). nat_abs z ≤ 8) (sym (to_z-of_z w64 c.args.file.now.vars (search rules))) (vars-few c.args.file.now.vars c.requires.vars)

pub new-requires-clause-few_lines : goal.new-requires-clause-few_lines
new-requires-clause-few_lines c =
    let n = said-length c.args.file.now.lines c.loop-row.lines.items (said-all c.args.file.now.lines c.as_slice-rows.result.now c.loop-row.row-index c.loop-row.lines.items c.as_slice-rows.ensures c.loop-row-test.false c.loop-row.invariant) in
    let few = few-lines c.args.file.now.lines c.requires.lines in
    omega (arith, n, few)

pub new-requires-clause-lines : goal.new-requires-clause-lines
new-requires-clause-lines c = c.loop-row.invariant.lines

pub returns : goal.returns
returns c =
    let s = said-all c.args.file.now.lines c.as_slice-rows.result.now c.loop-row.row-index c.loop-row.lines.items c.as_slice-rows.ensures c.loop-row-test.false c.loop-row.invariant in
    let positive = c.args.file.now.variables in
    let whole : c.args.file.now.vars ≡ pos (nat_abs c.args.file.now.vars) = omega (arith, ints, positive) in
    record {
      given = s.given;
      vars = whole ∙ ap (λ (z : ℤ). pos (nat_abs z)) (sym (to_z-of_z w64 c.args.file.now.vars (search rules))) ∙ ap (λ (i : SeenInitial). pos i.vars) (sym c.new.ensures);
      walls = s.says;
      lines = ap (λ (i : SeenInitial). i.lines) c.new.ensures ∙ s.walls;
    }
