-- The answer to a query in a diagram, by its walls ws and its order k.
--     Ask                   a query with the number of its reader
--     IsQuery q             the exponents of q are those of an input
--     IsAnswer ws k q a     a answers q: its order is k, and k is too early for q, or a has the series, the family, or the
--                           first fault
--     IsToldAnswer a              a isn't want of memory, which is no answer
use Rattle.std.specs.Prelude.{◌≡◌, ℕ, nat_lt, Bool, false, List, Option, Some, None, Result, Ok, Err}
use Rattle.std.specs.Bool.{MatchBool}
use Rattle.scattering.specs.Series.{Exp}
use Rattle.scattering.specs.Plane.{Point}
use Rattle.scattering.specs.Wall.{Wall}
use Rattle.scattering.specs.Theta.{IsAskFault}
use Rattle.scattering.specs.ThetaProduct.{IsProductFault}
use Rattle.plane_geom.specs.Shown.{point_of}
use Rattle.trunc_series.specs.Shown.{exp_of}
use Rattle.broken_lines.specs.declared.fault.AskFault.{AskFault}
use Rattle.broken_lines.specs.declared.fault.AskFault.TheVariants.{NotYet, Memory}
use Rattle.broken_lines.specs.Traced.{IsFaultBy}
use Rattle.theta_algebra.specs.declared.query.QueryKind.{QueryKind}
use Rattle.theta_algebra.specs.declared.query.QueryKind.TheVariants.{Theta, Product}
use Rattle.theta_algebra.specs.declared.query.Query.{Query}
use Rattle.theta_algebra.specs.declared.query.Reply.{Reply}
use Rattle.theta_algebra.specs.declared.query.Reply.TheVariants.{Series, Family}
use Rattle.theta_algebra.specs.declared.query.Answer.{Answer}
use Rattle.theta_algebra.specs.Thetas.{IsThetaOf}
use Rattle.theta_algebra.specs.Families.{IsFactorExp, IsFamilyOf}

abbrev pub Ask : Type 0
Ask = ℕ × Query

abbrev pub IsKind : QueryKind → Type 0
IsKind (Theta m) = IsFactorExp m
IsKind (Product p r) = IsFactorExp p × IsFactorExp r

abbrev pub IsQuery : Query → Type 0
IsQuery q = IsKind q.kind

-- a later order is wanted
abbrev pub is_early : ℕ → Option ℕ → Bool
is_early k None = false
is_early k (Some least) = nat_lt k least

abbrev pub IsThetaResult : List Wall → ℕ → Exp → Point → Result Reply AskFault → Type 0
IsThetaResult ws k m q (Ok (Series s)) = IsThetaOf ws k m q s × IsAskFault ws k m q None
IsThetaResult ws k m q (Ok (Family ps)) = ⊥
IsThetaResult ws k m q (Err fault) = IsFaultBy (IsAskFault ws k m q) fault

abbrev pub IsProductResult : List Wall → ℕ → Exp → Exp → Point → Result Reply AskFault → Type 0
IsProductResult ws k l r q (Ok (Series s)) = ⊥
IsProductResult ws k l r q (Ok (Family ps)) = IsFamilyOf ws k l r q ps.items × IsProductFault ws k l r q None
IsProductResult ws k l r q (Err fault) = IsFaultBy (IsProductFault ws k l r q) fault

-- what is asked for, in this order
abbrev pub IsResult : List Wall → ℕ → QueryKind → Point → Result Reply AskFault → Type 0
IsResult ws k (Theta m) q result = IsThetaResult ws k (exp_of m) q result
IsResult ws k (Product l r) q result = IsProductResult ws k (exp_of l) (exp_of r) q result

pub record IsAnswer (ws : List Wall) (k : ℕ) (q : Query) (a : Answer) : Type 0 where
  pub order : a.order ≡ k
  pub result : MatchBool (is_early k q.least) (a.result ≡ Err (NotYet k)) (IsResult ws k q.kind (point_of q.at) a.result)

abbrev pub IsToldResult : Result Reply AskFault → Type 0
IsToldResult result = (result ≡ Err Memory) → ⊥

abbrev pub IsToldAnswer : Answer → Type 0
IsToldAnswer a = IsToldResult a.result
