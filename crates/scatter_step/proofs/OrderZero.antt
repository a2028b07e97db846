-- The lines alone are the completion of order 0.
use Rattle.std.proofs.Common.{◌≡◌, ℕ, ◌≤◌, sym, ap, subst, ◌∙◌, List, [], ◌∷◌, length, arith}
use Rattle.std.proofs.lemmas.List.{length-map, length-append}
use Rattle.scattering.specs.Collections.{Every}
use Rattle.scattering.specs.Wall.{Wall, IsWall, cut_wall, cut_walls}
use Rattle.completion_theory.proofs.OrderZero.{starts}
use Rattle.scatter_diagram.specs.Listed.{SeenInitial, SeenDiagram}
use Rattle.scatter_step.specs.Completed.{IsCompleted}
use Rattle.scatter_step.proofs.Lines.{AreLines}

pub cut-lines : (n : ℕ) (given : List Wall) → AreLines given → AreLines (cut_walls n given)
cut-lines n [] h = tt
cut-lines n (w ∷ given) h = (h.0, cut-lines n given h.1)

begun : (i : SeenInitial) → Every (IsWall 24) i.lines → AreLines i.lines → length i.lines ≤ 16
    → IsCompleted (record { initial = i; order = 0; diagram = record { initial = cut_walls 0 i.lines; rays = [] } })
begun i g l f = record {
  order = omega arith;
  given = g;
  lines = l;
  completes = starts i.lines 24 g;
  few = let a = length-append (cut_walls 0 i.lines) [] in let b = length-map i.lines (cut_wall 0) in omega (arith, a, b, f);
}

-- for a copy of the lines, and the diagram that is made of them
pub starts-completed : (i j : SeenInitial) (given cut none : List Wall) (d : SeenDiagram) → given ≡ i.lines → cut ≡ cut_walls 0 given → none ≡ [] → d ≡ record { order = 0; diagram = record { initial = cut; rays = none } } → j ≡ i
    → Every (IsWall 24) i.lines → AreLines given → length given ≤ 16 → IsCompleted (record { initial = j; order = d.order; diagram = d.diagram })
starts-completed i j given cut none d a b o q e g l f =
    subst (λ (x : SeenInitial). IsCompleted (record { initial = x; order = d.order; diagram = d.diagram })) (sym e)
    (subst (λ (y : SeenDiagram). IsCompleted (record { initial = i; order = y.order; diagram = y.diagram })) (sym (q ∙ same)) (begun i g (subst AreLines a l) (subst (λ (ws : List Wall). length ws ≤ 16) a f)))
  where
    both : cut ≡ cut_walls 0 i.lines
    both = b ∙ ap (cut_walls 0) a

    made : List Wall → List Wall → SeenDiagram
    made ls rs = record { order = 0; diagram = record { initial = ls; rays = rs } }

    same : made cut none ≡ made (cut_walls 0 i.lines) []
    same = λ k. made (both k) (o k)
