-- The broken lines are the complete tails.
use Rattle.std.proofs.Common.{◌≡◌, ◌≢◌, ℕ, refl, subst, ◌⊎◌, inl, inr, Bool, true, false, List}
use Rattle.std.specs.Prelude.{Option, Some, None}
use Rattle.std.specs.Bool.{MatchBool}
use Rattle.scattering.specs.Collections.{Every}
use Rattle.scattering.specs.Series.{Exp, origin, exp_eq}
use Rattle.scattering.specs.Plane.{Point, IsPoint}
use Rattle.scattering.specs.Wall.{Wall, IsWall, cut_walls}
use Rattle.scattering.specs.BrokenLine.{IsBrokenLine}
use Rattle.scattering.specs.Tail.{IsTail, backwards}
use Rattle.scattering.specs.Theta.{AskFault, NotGeneric, TooManyReach, TooManyTails, PointTooLarge, WeightTooLarge, IsMet, MeetsNone, TailsFault, is_on_live, IsAskFault}
use Rattle.scattering.proofs.Keys.{exp_eq-same}
use Rattle.broken_line_theory.proofs.Bends.{cut-walls-tame}
use Rattle.broken_line_theory.proofs.LinesAndTails.{IsSafe, line-tail, tail-line, line-moves, tail-moves}
use Rattle.broken_line_theory.proofs.GenericPoints.{off-plain}
use Rattle.broken_line_theory.specs.Laws.{LinesAreTails}

pub none-some : (c : AskFault) → None ≡ Some c → ⊥
none-some c e = cc

pub passes : {A B : Type 0} → A ⊎ B → (A → ⊥) → B
passes (inl h) n = absurd (n h)
passes (inr h) n = h

abbrev nothing : Option AskFault
nothing = None

pub record IsFree (ws : List Wall) (n : ℕ) (m : Exp) (q : Point) : Type 0 where
  pub off : is_on_live (cut_walls n ws) q ≡ false
  pub tails : m ≢ origin → TailsFault ws n m q None

pub free-of : (ws : List Wall) (n : ℕ) (m : Exp) (q : Point) → IsAskFault ws n m q None → IsFree ws n m q
free-of ws n m q h = go (is_on_live (cut_walls n ws) q) refl (exp_eq m origin) refl
  where
    go : (a : Bool) → is_on_live (cut_walls n ws) q ≡ a → (b : Bool) → exp_eq m origin ≡ b → IsFree ws n m q
    go true e b f = absurd (none-some (NotGeneric q) (subst (λ (x : Bool). MatchBool x (nothing ≡ Some (NotGeneric q)) (MatchBool (exp_eq m origin) (nothing ≡ None) (TailsFault ws n m q None))) e h))
    go false e true f = record { off = e; tails = λ ne. absurd (ne (exp_eq-same m origin f)) }
    go false e false f =
        let k = subst (λ (x : Bool). MatchBool x (nothing ≡ Some (NotGeneric q)) (MatchBool (exp_eq m origin) (nothing ≡ None) (TailsFault ws n m q None))) e h in
        record { off = e; tails = λ ne. subst (λ (x : Bool). MatchBool x (nothing ≡ None) (TailsFault ws n m q None)) f k }

pub safe-of : (ws : List Wall) (n k : ℕ) (m : Exp) (q : Point) → Every (IsWall k) ws → IsPoint q → m ≢ origin → IsAskFault ws n m q None → IsSafe ws n m q
safe-of ws n k m q walls point ne h =
    let f = free-of ws n m q h in
    let t = f.tails ne in
    let a = passes t (λ e. none-some TooManyReach e.1) in
    let b = passes a.1 (λ e. none-some TooManyTails e.1) in
    let c = passes b.1 (λ e. none-some PointTooLarge e.1) in
    let d = passes c.1 (λ e. none-some WeightTooLarge e.1) in
    record {
      tame = cut-walls-tame n k ws walls;
      point = point;
      plain = off-plain (cut_walls n ws) q f.off;
      near = c.0;
      met = none d.1;
    }
  where
    none : MeetsNone ws n m q None → (p : Point) → IsMet ws n m q p → ⊥
    none (inl e) = absurd (none-some (NotGeneric e.0) e.2)
    none (inr e) = e.0

pub lines-are-tails : LinesAreTails
lines-are-tails ws n k m q walls point h bends = (forth, back)
  where
    forth : IsBrokenLine ws n m q bends → IsTail ws n m q (backwards m bends)
    forth l = let ne = line-moves ws n (cut-walls-tame n k ws walls) m q bends l in line-tail ws n m q (safe-of ws n k m q walls point ne h) bends ne l

    back : IsTail ws n m q (backwards m bends) → IsBrokenLine ws n m q bends
    back t = let ne = tail-moves ws n (cut-walls-tame n k ws walls) m q bends t in tail-line ws n m q (safe-of ws n k m q walls point ne h) bends ne t
