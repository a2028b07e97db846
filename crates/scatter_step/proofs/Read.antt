-- Order and diagram as a function reads them from a completion.
use Rattle.std.proofs.Common.{◌≡◌, ℕ, ◌+◌, sym, subst, List}
use Rattle.scattering.specs.Wall.{Wall, Diagram, walls}
use Rattle.scatter_diagram.specs.Listed.{SeenDiagram}

pub read-from : (P : ℕ → Diagram → Type 0) (k : ℕ) (e : SeenDiagram) (n : ℕ) (d : Diagram) → k ≡ n → e ≡ record { order = n; diagram = d } → P k e.diagram → P n d
read-from P k e n d q r h = subst (λ (x : SeenDiagram). P n x.diagram) r (subst (λ (m : ℕ). P m e.diagram) q h)

pub read-into : (P : ℕ → Diagram → Type 0) (k : ℕ) (e : SeenDiagram) (n : ℕ) (d : Diagram) → k ≡ n → e ≡ record { order = n; diagram = d } → P n d → P k e.diagram
read-into P k e n d q r h = subst (λ (m : ℕ). P m e.diagram) (sym q) (subst (λ (x : SeenDiagram). P n x.diagram) (sym r) h)

-- of the next order, and the walls
pub read-next : (P : ℕ → List Wall → Type 0) (k : ℕ) (e : SeenDiagram) (n : ℕ) (d : Diagram) → k ≡ n → e ≡ record { order = n; diagram = d } → P (k + 1) (walls e.diagram) → P (n + 1) (walls d)
read-next P k e n d q r h = read-from (λ m f. P (m + 1) (walls f)) k e n d q r h
