-- What the workers found: what stopped one of them, or the corrections in the order of the points.
use Rattle.std.proofs.Common.{◌≡◌, ◌⊎◌, inl, inr, ℕ, ◌≤◌, refl, sym, subst, List, [], ◌∷◌, length, map, Ok, Err, slice_get}
use Rattle.std.specs.Prelude.{All, Contains, Result}
use Rattle.std.specs.List.{AllZip}
use Rattle.limits.specs.Limits.{largest_weight}
use Rattle.scattering.specs.Wall.{walls}
use Rattle.scattering.specs.LocalProduct.{weight}
use Rattle.scattering.specs.Correction.{IsCorrection}
use Rattle.plane_geom.specs.Shown.{point_of}
use Rattle.plane_geom.specs.declared.Point.{Point as CodePoint}
use Rattle.scatter_diagram.specs.Listed.{SeenDiagram}
use Rattle.scatter_diagram.specs.declared.stop.Stop.{Stop}
use Rattle.scatter_diagram.specs.declared.stop.Stop.TheVariants.{Memory}
use Rattle.scatter_step.specs.Orders.{AreCorrectionsAt, IsStoppedByPoint}
use Rattle.joint_board.specs.Seen.{ShownBoard, SeenSeat, SeenKept, new_seats, AreInOrder}
use Rattle.joint_board.proofs.Found as kept
use Rattle.joint_board.proofs.Found.{AreAllKept, zip-beside, all-kept}
use Rattle.joint_workers.specs.Tasks.{Corrected, IsCorrected, IsFoundBy, AreAllFound}

module _ (e : SeenDiagram) (n : ℕ) (ps : List CodePoint) where
  abbrev Found : Type 0
  Found = Result (SeenKept Corrected) Stop

  -- a stop among them
  pub stop-of : (ss : List SeenSeat) (rs : List Found) (s : Stop) → (s ≡ Memory) ⊎ Contains rs (Err s) → AreAllFound e n ps ss rs → IsStoppedByPoint e n ps s
  stop-of ss rs s (inl q) h = subst (IsStoppedByPoint e n ps) (sym q) tt
  stop-of ss rs s (inr c) h = (zip-beside (IsFoundBy e n ps) ss rs (Err s) c h).1.1

  -- none was stopped
  pub none-stopped : (b : ShownBoard) (ss : List SeenSeat) (rs : List Found) (ks : List (SeenKept Corrected)) → ss ≡ new_seats b → map Ok ks ≡ rs → AreAllFound e n ps ss rs → AreAllKept (IsCorrected e n ps) b ks
  none-stopped = all-kept (IsCorrected e n ps) (IsFoundBy e n ps) (λ s k h. (h.0.board, h.0.number, h.0.results))

  -- ---- in the order of the points

  abbrev IsCorrectedAt : CodePoint → Corrected → Type 0
  IsCorrectedAt p r = (point_of r.0 ≡ point_of p) × IsCorrection (walls e.diagram) (point_of p) n r.1 × (weight (walls e.diagram) (point_of p) n ≤ largest_weight)

  corrections : (qs : List CodePoint) (rs : List Corrected) → AllZip IsCorrectedAt qs rs → AreCorrectionsAt e n qs rs
  corrections [] [] h = tt
  corrections [] (r ∷ rs) h = absurd h
  corrections (p ∷ qs) [] h = absurd h
  corrections (p ∷ qs) (r ∷ rs) h = (h.0, corrections qs rs h.1)

  at-point : (p q : CodePoint) (r : Corrected) → q ≡ p → IsCorrectedAt q r → IsCorrectedAt p r
  at-point p q r same h = subst (λ (c : CodePoint). IsCorrectedAt c r) same h

  pub gathered : (found : List (ℕ × Corrected)) (rs : List Corrected) → All (IsCorrected e n ps) found → AreInOrder (length ps) found rs → AreCorrectionsAt e n ps rs
  gathered found rs all h = corrections ps rs (kept.gathered (IsCorrected e n ps) IsCorrectedAt ps (λ i p r a f. at-point p r.0 r (kept.one-item (slice_get ps i) r.0 p f.task a) (refl, f.correction, f.light)) found rs all h)
