-- Of lines nothing is cut at a later order, so a completion of lines is itself what the next order is made from.
use Rattle.std.proofs.Common.{◌≡◌, ℕ, ◌+◌, refl, sym, ap, ◌∙◌, List, [], ◌∷◌, map, cond}
use Rattle.scattering.specs.Collections.{Every}
use Rattle.scattering.specs.Wall.{WallKind, Line, Outgoing, Wall, Diagram, IsInitial, cut_wall, cut_walls}
use Rattle.scattering.specs.ActivePoint.{is_incoming}
use Rattle.scattering.specs.Correction.{raised}
use Rattle.scattering.proofs.Lists.{Every-implies}

abbrev pub AreLines : List Wall → Type 0
AreLines ws = Every (λ w. w.kind ≡ Line) ws

line-outgoing : Line ≡ Outgoing → ⊥
line-outgoing e = cc

pub lines-initial : (given : List Wall) → AreLines given → Every IsInitial given
lines-initial given h = Every-implies (λ (w : Wall). w.kind ≡ Line) IsInitial given (λ w e o. line-outgoing (sym e ∙ o)) h

lines-cut : (given : List Wall) (n : ℕ) → AreLines given → map (λ w. cond (is_incoming w.kind) (cut_wall (n + 1) w) (cut_wall n w)) given ≡ cut_walls n given
lines-cut [] n h = refl
lines-cut (w ∷ given) n h =
    let one : cond (is_incoming w.kind) (cut_wall (n + 1) w) (cut_wall n w) ≡ cut_wall n w = ap (λ (k : WallKind). cond (is_incoming k) (cut_wall (n + 1) w) (cut_wall n w)) h.0 in
    let others = lines-cut given n h.1 in
    λ i. one i ∷ others i

pub raised-lines : (given : List Wall) (n : ℕ) (e : Diagram) → AreLines given → e.initial ≡ cut_walls n given → raised given n e ≡ e
raised-lines given n e h q = let r = lines-cut given n h ∙ sym q in λ i. record { initial = r i; rays = e.rays }
