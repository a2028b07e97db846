-- The function of a line within the limits, cut to degree 24, is a proper function of a wall.
use Rattle.std.proofs.Common.{◌≡◌, ◌≢◌, ℕ, refl, sym, subst, ap, ◌∙◌, ◌≤◌, ◌^◌, ◌*◌, Bool, true, false, List, [], ◌∷◌, map, length, arith, ◌⊎◌, inl, inr, ℤ, nat_abs}
use Rattle.std.specs.Prelude.{pos, ◌+ℤ◌, nat_le, IsTrue}
use Rattle.std.proofs.lemmas.List.{length-map}
use Rattle.scattering.specs.Collections.{Every, EveryPair}
use Rattle.scattering.specs.Series.{Exp, Term, Sum, Same, IsSeries, IsMultiple, IsWallFunction, coef, cut, degree, rest, unit, key_eq, key_before, mass_to}
use Rattle.scattering.specs.Plane.{IsDirection}
use Rattle.scattering.proofs.Coefficients.{low-cut}
use Rattle.scattering.proofs.Keys.{key_eq-apart}
use Rattle.scattering.proofs.Lists.{Every-implies, Every-in_order, Every-filter, pairs-filter}
use Rattle.trunc_series.specs.Shown.{Seen, IsSeriesOf, IsTerm as IsTermTo}
use Rattle.trunc_series.proofs.BoundLaws.{least-mass}
use Rattle.plane_geom.specs.Shown.{vector_of}
use Rattle.plane_geom.specs.declared.Direction.{Direction}
use Rattle.scatter_diagram.specs.Proper.{IsTame, IsProper}
use Rattle.scatter_text.specs.declared.file.LineRow.{LineRow}
use Rattle.scattering.specs.Wall.{Wall, IsWall, cut_wall}
use Rattle.scattering.proofs.Coefficients.{coef-none}
use Rattle.scattering.proofs.Determined.{terms-unique}
use Rattle.scatter_text.specs.GivenWalls.{term_given, sum_given, function_of, direction_of, IsWallOf}
use Rattle.scatter_text.specs.LimitedLines.{IsLimitedLine}
use Rattle.scatter_text.proofs.WithinLimits.{exponents-small, coefficients-small}
use Rattle.scatter_text.proofs.OrderedSums.{in_order-rises, in_order-same}
use Rattle.scatter_text.proofs.GivenFunctions.{IsSmall, IsGiven, every-from, every-map, some-degree, sum-apart, sum-each}

pub every-both : {A : Type 0} (P Q R : A → Type 0) (xs : List A) → ((x : A) → P x → Q x → R x) → Every P xs → Every Q xs → Every R xs
every-both P Q R [] i h k = tt
every-both P Q R (x ∷ xs) i h k = (i x h.0 k.0, every-both P Q R xs i h.1 k.1)

mass-small : (n : ℕ) (f : Sum) → Every (λ t. nat_abs t.1 ≤ 2147483647) f → mass_to n (cut n f) ≤ length f * 2147483647
mass-small n [] h = omega arith
mass-small n (t ∷ f) h = go (nat_le (degree t.0) n) refl (mass-small n f h.1)
  where
    go : (b : Bool) → nat_le (degree t.0) n ≡ b → mass_to n (cut n f) ≤ length f * 2147483647 → mass_to n (cut n (t ∷ f)) ≤ length (t ∷ f) * 2147483647
    go true e i = let s = h.0 in rw e (rw e (omega (arith, i, s)))
    go false e i = rw e (omega (arith, i))

rest-given : (d : Exp) (direction : IsDirection d) (g : Sum) → Every (IsGiven d direction) g → Every (λ t. (1 ≤ degree t.0) × IsMultiple d t.0.exp) (rest g)
rest-given d direction [] h = tt
rest-given d direction (t ∷ g) h = go (key_eq t.0 unit) refl (rest-given d direction g h.1)
  where
    other : (t ≡ (unit, pos 1)) ⊎ ((1 ≤ degree t.0) × IsMultiple d t.0.exp) → key_eq t.0 unit ≡ false → (1 ≤ degree t.0) × IsMultiple d t.0.exp
    other (inl e) f = absurd (let same : key_eq t.0 unit ≡ true = ap (λ (u : Term). key_eq u.0 unit) e in cc)
    other (inr p) f = p

    go : (b : Bool) → key_eq t.0 unit ≡ b → Every (λ t. (1 ≤ degree t.0) × IsMultiple d t.0.exp) (rest g) → Every (λ t. (1 ≤ degree t.0) × IsMultiple d t.0.exp) (rest (t ∷ g))
    go true e i = rw e i
    go false e i = rw e (other h.0.form e, i)

module _ (l : LineRow) (h : IsLimitedLine l) where
  f : Sum
  f = sum_given (direction_of l) l.terms

  F : Sum
  F = cut 24 (function_of (direction_of l) l.terms)

  direction : IsDirection (direction_of l)
  direction = h.valid.primitive

  small : Every (IsSmall (direction_of l)) l.terms
  small = every-from (IsSmall (direction_of l)) l.terms (λ k e lt.
      let x = (exponents-small l h.exponents).terms k e lt in
      let n = h.valid.terms.variables k e lt in
      let few = h.few_vars in
      record { term = h.valid.terms.each k e lt; count = omega (arith, n, few); coefficient = coefficients-small l h.coefficients k e lt; x = x.0; y = x.1 })

  apart : EveryPair (λ t u. t.0 ≢ u.0) f
  unfolding f
  apart = sum-apart (direction_of l) direction (nat_abs h.vars) l.terms small h.valid.terms.variables h.valid.terms.different

  each : Every (IsGiven (direction_of l) direction) f
  unfolding f
  each = sum-each (direction_of l) direction l.terms small

  pub low-apart : EveryPair (λ t u. t.0 ≢ u.0) (cut 24 (sum_given (direction_of l) l.terms))
  unfolding f
  low-apart = pairs-filter (λ t u. t.0 ≢ u.0) (λ t. nat_le (degree t.0) 24) f apart

  pub low-terms : Every (IsTermTo 24) (cut 24 (sum_given (direction_of l) l.terms))
  unfolding f
  low-terms = every-both (IsGiven (direction_of l) direction) (λ t. degree t.0 ≤ 24) (IsTermTo 24) (cut 24 f)
      (λ t g low. let s = g.small in (g.nonzero, omega (arith, s), low)) (Every-filter (IsGiven (direction_of l) direction) (λ t. nat_le (degree t.0) 24) f each) (low-cut 24 f)

  all-given : Every (IsGiven (direction_of l) direction) F
  unfolding F f
  all-given = Every-filter (IsGiven (direction_of l) direction) (λ t. nat_le (degree t.0) 24) (function_of (direction_of l) l.terms) (Every-in_order (IsGiven (direction_of l) direction) _ f each)

  series : IsSeries 24 F
  unfolding F f
  series = record {
    rises = pairs-filter (λ t u. IsTrue (key_before t.0 u.0)) (λ t. nat_le (degree t.0) 24) (function_of (direction_of l) l.terms) (in_order-rises f apart);
    nonzero = Every-implies (IsGiven (direction_of l) direction) (λ t. t.1 ≢ pos 0) F (λ t g. g.nonzero) all-given;
    low = low-cut 24 (function_of (direction_of l) l.terms);
  }

  same : Same F (cut 24 f)
  unfolding F f
  same = in_order-same 24 f

  pub made : (s : Seen) → IsSeriesOf s 24 (cut 24 (sum_given (direction_of l) l.terms)) → s ≡ record { order = 24; terms = cut 24 (function_of (direction_of l) l.terms) }
  unfolding F f
  made s is =
      let e : s.terms ≡ F = terms-unique s.terms F is.series.rises series.rises is.series.nonzero series.nonzero (λ k. is.same k ∙ sym (same k)) in
      λ i. record { order = is.order i; terms = e i }

  constant : coef F unit ≡ pos 1
  unfolding F f
  constant = same unit ∙ ap (λ (c : ℤ). pos 1 +ℤ c) none
    where
      none : coef (cut 24 (map (term_given (direction_of l)) l.terms)) unit ≡ pos 0
      none = coef-none (cut 24 (map (term_given (direction_of l)) l.terms)) unit
          (Every-filter (λ t. key_eq t.0 unit ≡ false) (λ t. nat_le (degree t.0) 24) (map (term_given (direction_of l)) l.terms)
          (every-map (λ t. key_eq t.0 unit ≡ false) (IsSmall (direction_of l)) (term_given (direction_of l)) l.terms
          (λ t s. key_eq-apart (term_given (direction_of l) t) unit (λ e. let p = some-degree (direction_of l) direction t s in omega (arith, e, p))) small))

  mass : mass_to 24 F ≤ 2 ^ 127
  unfolding F f
  mass =
      let least = least-mass (record { order = 24; terms = F }) 24 (cut 24 f) (record { order = refl; series = series; same = same }) in
      let most = mass-small 24 f (Every-implies (IsGiven (direction_of l) direction) (λ t. nat_abs t.1 ≤ 2147483647) f (λ t g. g.small) each) in
      let n = length-map l.terms (term_given (direction_of l)) in
      let few = h.few_terms in
      omega (arith, least, most, n, few)

  function : IsWallFunction 24 (direction_of l) F
  unfolding F f
  function = record { series = series; constant = constant; others = rest-given (direction_of l) direction F all-given }

  pub proper : (dir : Direction) (s : Seen) → vector_of dir ≡ direction_of l → s ≡ record { order = 24; terms = cut 24 (function_of (direction_of l) l.terms) } → IsProper dir s
  unfolding F f
  proper dir s e same = subst (IsProper dir) (sym same) (record {
    function = subst (λ (m : Exp). IsWallFunction 24 m F) (sym e) function;
    mass = mass;
    tame = Every-implies (IsGiven (direction_of l) direction) IsTame F (λ t g. g.tame) all-given;
  })

  -- so each wall that the line stands for is one, cut to degree 24
  pub cut-is-wall : (w : Wall) → IsWallOf l w → IsWall 24 (cut_wall 24 w)
  unfolding F f
  cut-is-wall w is = record {
    point = is.point;
    direction = subst IsDirection (sym is.direction) direction;
    function = subst (λ (g : Sum). IsWallFunction 24 w.dir (cut 24 g)) (sym is.function) (subst (λ (m : Exp). IsWallFunction 24 m F) (sym is.direction) function);
  }
