-- The queries that the asks of a file stand for.
--     IsLimitedAsk a              a is an ask of a file within the limits
--     IsQueryOf a q               q is what a asks
--     IsReadersQueryOf a q        likewise, with its reader
use Rattle.std.specs.Prelude.{◌≡◌, ℕ, ◌≤◌, nat_abs, ℤ, pos, false, Option, Some, None}
use Rattle.std.specs.Option.{ForSome}
use Rattle.limits.specs.Limits.{highest_order, largest_given_exponent, most_readers}
use Rattle.scattering.specs.Series.{Exp}
use Rattle.plane_geom.specs.Shown.{point_of}
use Rattle.trunc_series.specs.Shown.{exp_of}
use Rattle.theta_algebra.specs.declared.query.Query.{Query}
use Rattle.theta_algebra.specs.declared.query.QueryKind.{QueryKind}
use Rattle.theta_algebra.specs.declared.query.QueryKind.TheVariants as query
use Rattle.scatter_text.specs.declared.file.AskKind.{AskKind}
use Rattle.scatter_text.specs.declared.file.AskKind.TheVariants.{Theta, Product}
use Rattle.scatter_text.specs.declared.file.AskRow.{AskRow}
use Rattle.scatter_text.specs.Values.{IsAsk}
use Rattle.scatter_text.specs.Limits.{is_far}
use Rattle.scatter_text.specs.LimitedLines.{IsPlace}

-- ---- within the limits

abbrev pub IsGivenSmall : ℤ → Type 0
IsGivenSmall a = nat_abs a ≤ largest_given_exponent

abbrev pub IsKindSmall : AskKind → Type 0
IsKindSmall (Theta a b) = IsGivenSmall a × IsGivenSmall b
IsKindSmall (Product a b c d) = IsGivenSmall a × IsGivenSmall b × IsGivenSmall c × IsGivenSmall d

abbrev pub IsOrderSmall : Option ℤ → Type 0
IsOrderSmall least = ForSome least (λ order. nat_abs order ≤ highest_order)

pub record IsLimitedAsk (a : AskRow) : Type 0 where
  pub valid : IsAsk a
  pub kind : IsKindSmall a.kind
  pub least : IsOrderSmall a.least
  pub reader : nat_abs a.reader ≤ most_readers
  pub near : is_far a.x a.y ≡ false

-- ---- what is asked

abbrev pub exp_given : ℤ → ℤ → Exp
exp_given a b = record { a = a; b = b }

abbrev pub IsKindOf : AskKind → QueryKind → Type 0
IsKindOf (Theta a b) (query.Theta m) = exp_of m ≡ exp_given a b
IsKindOf (Theta a b) (query.Product p q) = ⊥
IsKindOf (Product a b c d) (query.Theta m) = ⊥
IsKindOf (Product a b c d) (query.Product p q) = (exp_of p ≡ exp_given a b) × (exp_of q ≡ exp_given c d)

abbrev pub IsLeastOf : Option ℤ → Option ℕ → Type 0
IsLeastOf None None = Unit {0}
IsLeastOf None (Some n) = ⊥
IsLeastOf (Some order) None = ⊥
IsLeastOf (Some order) (Some n) = order ≡ pos n

pub record IsQueryOf (a : AskRow) (q : Query) : Type 0 where
  pub kind : IsKindOf a.kind q.kind
  pub at : IsPlace a.x a.y (point_of q.at)
  pub least : IsLeastOf a.least q.least

abbrev pub IsReadersQueryOf : AskRow → ℕ × Query → Type 0
IsReadersQueryOf a q = (a.reader ≡ pos q.0) × IsQueryOf a q.1
