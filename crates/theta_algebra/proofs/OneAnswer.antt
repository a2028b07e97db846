-- A query has one answer in a diagram, but for want of memory.
use Rattle.std.proofs.Common.{◌≡◌, ℕ, refl, sym, ap, subst, ◌∙◌, true, false, List}
use Rattle.std.specs.Prelude.{Bool, Option, Some, None, Result, Ok, Err}
use Rattle.std.specs.Bool.{MatchBool}
use Rattle.std.proofs.lemmas.Option.{same_Some}
use Rattle.scattering.specs.Collections.{Every}
use Rattle.scattering.specs.Series.{Exp}
use Rattle.scattering.specs.Plane.{Point, IsPoint}
use Rattle.scattering.specs.Wall.{Wall, IsWall}
use Rattle.scattering.specs.Theta as D
use Rattle.scattering.specs.ThetaProduct.{IsFamily, IsProductFault}
use Rattle.scattering.proofs.Determined.{terms-unique}
use Rattle.plane_geom.specs.Shown.{point_of}
use Rattle.trunc_series.specs.Shown.{exp_of, Seen}
use Rattle.trunc_series.specs.declared.key.Exp.{Exp as CodeExp}
use Rattle.trunc_series.proofs.Unique.{series-terms}
use Rattle.broken_line_theory.proofs.LeadingMonomial.{theta-unique}
use Rattle.broken_line_theory.proofs.UniqueFamily.{family_unique}
use Rattle.broken_line_theory.proofs.UniqueAskFault.{ask-fault-unique}
use Rattle.broken_line_theory.proofs.UniqueProductFault.{product_fault_is_unique}
use Rattle.broken_lines.specs.declared.fault.AskFault.{AskFault}
use Rattle.broken_lines.specs.declared.fault.AskFault.TheVariants.{NotYet, NotGeneric, TooManyReach, TooManyTails, PointTooLarge, WeightTooLarge, Memory}
use Rattle.broken_lines.specs.Traced.{IsFaultBy}
use Rattle.theta_algebra.specs.declared.query.QueryKind.{QueryKind}
use Rattle.theta_algebra.specs.declared.query.QueryKind.TheVariants.{Theta, Product}
use Rattle.theta_algebra.specs.declared.query.Query.{Query}
use Rattle.theta_algebra.specs.declared.query.Reply.{Reply}
use Rattle.theta_algebra.specs.declared.query.Reply.TheVariants.{Series, Family}
use Rattle.theta_algebra.specs.declared.query.Answer.{Answer}
use Rattle.theta_algebra.specs.Families.{family_of}
use Rattle.theta_algebra.specs.Answers.{OneSeries, ManySeries}
use Rattle.theta_algebra.specs.Answering.{is_early, IsThetaResult, IsProductResult, IsResult, IsAnswer, IsToldResult, IsToldAnswer}
use Rattle.theta_algebra.specs.Laws.{Found, plain_fault, plain_result, plain_answer, AnswerIsOne}
use Rattle.theta_algebra.proofs.OneFamily.{parts-one}

-- ---- faults

abbrev IsOne : (Option D.AskFault → Type 0) → Type 0
IsOne F = (f g : Option D.AskFault) → F f → F g → f ≡ g

abbrev IsTold : AskFault → Type 0
IsTold f = f ≡ Memory → ⊥

by-check : (F : Option D.AskFault → Type 0) (f : AskFault) → IsFaultBy F f → IsTold f → (d : D.AskFault) × F (Some d) × (plain_fault f ≡ Found d)
by-check F (NotYet n) h told = absurd h
by-check F (NotGeneric p) h told = (D.NotGeneric (point_of p), h, refl)
by-check F TooManyReach h told = (D.TooManyReach, h, refl)
by-check F TooManyTails h told = (D.TooManyTails, h, refl)
by-check F PointTooLarge h told = (D.PointTooLarge, h, refl)
by-check F WeightTooLarge h told = (D.WeightTooLarge, h, refl)
by-check F Memory h told = absurd (told refl)

faults-one : (F : Option D.AskFault → Type 0) → IsOne F → (f g : AskFault) → IsFaultBy F f → IsFaultBy F g → IsTold f → IsTold g → plain_fault f ≡ plain_fault g
faults-one F one f g a b s t =
    let x = by-check F f a s in
    let y = by-check F g b t in
    x.2 ∙ ap Found (same_Some x.0 y.0 (one (Some x.0) (Some y.0) x.1 y.1)) ∙ sym y.2

none-and-fault : (F : Option D.AskFault → Type 0) → IsOne F → (f : AskFault) → F None → IsFaultBy F f → IsTold f → ⊥
none-and-fault F one f a b t = let x = by-check F f b t in let e : None ≡ Some x.0 = one None (Some x.0) a x.1 in cc

fault-told : (f : AskFault) → IsToldResult (Err f) → IsTold f
fault-told f h e = h (ap Err e)

-- ---- results

module _ (ws : List Wall) (n k : ℕ) (q : Point) (walls : Every (IsWall n) ws) (point : IsPoint q) where
  theta-one : (m : Exp) (r s : Result Reply AskFault) → IsThetaResult ws k m q r → IsThetaResult ws k m q s → IsToldResult r → IsToldResult s → plain_result r ≡ plain_result s
  theta-one m (Ok (Series x)) (Ok (Series y)) a b t u =
      let terms : x.terms ≡ y.terms = series-terms x k k y.terms (record { order = a.0.1; series = a.0.2; same = theta-unique ws k m q x.terms y.terms a.0.0 b.0.0 }) b.0.2 in
      let orders : x.order ≡ y.order = a.0.1 ∙ sym b.0.1 in
      λ i. Ok (OneSeries (record { order = orders i; terms = terms i }))
  theta-one m (Ok (Series x)) (Ok (Family y)) a b t u = absurd b
  theta-one m (Ok (Family x)) s a b t u = absurd a
  theta-one m (Ok (Series x)) (Err g) a b t u = absurd (none-and-fault (D.IsAskFault ws k m q) (ask-fault-unique ws k m q) g a.1 b (fault-told g u))
  theta-one m (Err f) (Ok (Series y)) a b t u = absurd (none-and-fault (D.IsAskFault ws k m q) (ask-fault-unique ws k m q) f b.1 a (fault-told f t))
  theta-one m (Err f) (Ok (Family y)) a b t u = absurd b
  theta-one m (Err f) (Err g) a b t u = ap Err (faults-one (D.IsAskFault ws k m q) (ask-fault-unique ws k m q) f g a b (fault-told f t) (fault-told g u))

  family-terms : (l r : Exp) (ps qs : List (CodeExp × Seen)) → IsFamily ws k l r q (family_of ps) → IsFamily ws k l r q (family_of qs) → family_of ps ≡ family_of qs
  family-terms l r ps qs f g = terms-unique (family_of ps) (family_of qs) f.0.rises g.0.rises f.0.nonzero g.0.nonzero (family_unique ws k n l r q (family_of ps) (family_of qs) walls point f g)

  product-fault-one : (l r : Exp) → IsOne (IsProductFault ws k l r q)
  product-fault-one l r f g a b = product_fault_is_unique ws k n l r q f g walls point a b

  product-one : (l r : Exp) (x y : Result Reply AskFault) → IsProductResult ws k l r q x → IsProductResult ws k l r q y → IsToldResult x → IsToldResult y → plain_result x ≡ plain_result y
  product-one l r (Ok (Family x)) (Ok (Family y)) a b t u =
      let f = a.0 in
      let g = b.0 in
      ap (λ ps. Ok (ManySeries ps)) (parts-one k x.items y.items f.sorted g.sorted f.each g.each (family-terms l r x.items y.items f.family g.family))
  product-one l r (Ok (Series x)) y a b t u = absurd a
  product-one l r (Ok (Family x)) (Ok (Series y)) a b t u = absurd b
  product-one l r (Ok (Family x)) (Err g) a b t u = absurd (none-and-fault (IsProductFault ws k l r q) (product-fault-one l r) g a.1 b (fault-told g u))
  product-one l r (Err f) (Ok (Series y)) a b t u = absurd b
  product-one l r (Err f) (Ok (Family y)) a b t u = absurd (none-and-fault (IsProductFault ws k l r q) (product-fault-one l r) f b.1 a (fault-told f t))
  product-one l r (Err f) (Err g) a b t u = ap Err (faults-one (IsProductFault ws k l r q) (product-fault-one l r) f g a b (fault-told f t) (fault-told g u))

  result-one : (kind : QueryKind) (x y : Result Reply AskFault) → IsResult ws k kind q x → IsResult ws k kind q y → IsToldResult x → IsToldResult y → plain_result x ≡ plain_result y
  result-one (Theta m) x y a b t u = theta-one (exp_of m) x y a b t u
  result-one (Product l r) x y a b t u = product-one (exp_of l) (exp_of r) x y a b t u

  early-one : (early : Bool) (kind : QueryKind) (x y : Result Reply AskFault) → MatchBool early (x ≡ Err (NotYet k)) (IsResult ws k kind q x) → MatchBool early (y ≡ Err (NotYet k)) (IsResult ws k kind q y)
      → IsToldResult x → IsToldResult y → plain_result x ≡ plain_result y
  early-one true kind x y a b t u = ap plain_result (a ∙ sym b)
  early-one false kind x y a b t u = result-one kind x y a b t u

-- ---- answers

-- two queries of one kind, at one point, with one least order
pub answers-one : (ws : List Wall) (n k : ℕ) (p q : Query) (a b : Answer) → Every (IsWall n) ws → p.kind ≡ q.kind → point_of p.at ≡ point_of q.at → p.least ≡ q.least
    → IsAnswer ws k p a → IsAnswer ws k q b → IsToldAnswer a → IsToldAnswer b → plain_answer a ≡ plain_answer b
answers-one ws n k p q a b walls kinds points leasts x y t u =
    let orders : a.order ≡ b.order = x.order ∙ sym y.order in
    let other : MatchBool (is_early k p.least) (b.result ≡ Err (NotYet k)) (IsResult ws k p.kind (point_of p.at) b.result) =
    subst (λ (l : Option ℕ). MatchBool (is_early k l) (b.result ≡ Err (NotYet k)) (IsResult ws k p.kind (point_of p.at) b.result)) (sym leasts)
    (subst (λ (c : QueryKind). MatchBool (is_early k q.least) (b.result ≡ Err (NotYet k)) (IsResult ws k c (point_of p.at) b.result)) (sym kinds)
    (subst (λ (o : Point). MatchBool (is_early k q.least) (b.result ≡ Err (NotYet k)) (IsResult ws k q.kind o b.result)) (sym points) y.result)) in
    let results = early-one ws n k (point_of p.at) walls p.at.reduced (is_early k p.least) p.kind a.result b.result x.result other t u in
    λ i. record { order = orders i; result = results i }

pub answer-one : AnswerIsOne
answer-one ws n k q a b walls x y t u = answers-one ws n k q q a b walls refl refl refl x y t u
