use Rattle.std.proofs.Common.{◌≡◌, sym, ap, subst, List, [], ◌∷◌, ◌++◌}
use Rattle.limits.specs.Limits.{highest_order}
use Rattle.scattering.specs.Collections.{Every}
use Rattle.scattering.specs.Wall.{Wall, Line}
use Rattle.scattering.proofs.Lists.{Every-append, map-append}
use Rattle.scatter_diagram.specs.declared.wall.Wall.{Wall as CodeWall}
use Rattle.scatter_diagram.specs.Listed.{AreLines}
use Rattle.scatter_diagram.specs.Shown.{wall_of, walls_of}
use Rattle.broken_line_tests.proofs.tails.parallel_lines.Goals as goal

one-more : (ws : List CodeWall) (w : CodeWall) → AreLines highest_order ws → w.function.order ≡ highest_order → (wall_of w).kind ≡ Line → AreLines highest_order (ws ++ w ∷ [])
one-more ws w h o l = record {
  order = Every-append (λ v. v.function.order ≡ highest_order) ws (w ∷ []) h.order (o, tt);
  lines = subst (λ (vs : List Wall). Every (λ v. v.kind ≡ Line) vs) (sym (map-append wall_of ws (w ∷ []))) (Every-append (λ v. v.kind ≡ Line) (walls_of ws) (wall_of w ∷ []) h.lines (l, tt));
}

pub loop-i-preserved : goal.loop-i-preserved
loop-i-preserved c = subst (AreLines highest_order) (sym c.in_ok-push.ensures.items) (one-more c.loop-i.lines.items c.in_ok-wall.field-0 c.loop-i.invariant c.in_ok-wall.ensures.order (ap (λ (v : Wall). v.kind) c.in_ok-wall.ensures.wall))
