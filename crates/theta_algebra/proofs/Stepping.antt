-- One step as the program takes it: the terms that are read off what is left, each with its theta.
use Rattle.std.proofs.Common.{◌≡◌, ℕ, suc, refl, sym, ap, subst, ◌∙◌, ◌+◌, ◌-◌, ◌<◌, ◌≤◌, inl, inr, List, [], ◌∷◌, ◌++◌, take, drop, length, add-one}
use Rattle.std.specs.Prelude.{ℤ, ◌==◌, filter, Some}
use Rattle.std.proofs.lemmas.List.{take_more, take_all}
use Rattle.limits.specs.Limits.{largest_weight}
use Rattle.scattering.specs.Collections.{In}
use Rattle.scattering.specs.Series.{Term, Sum, degree}
use Rattle.scattering.specs.Wall.{Wall, walls}
use Rattle.scattering.specs.Theta as D
use Rattle.scattering.specs.ThetaProduct.{BeginsAt, of_degree, StepsFault}
use Rattle.scattering.proofs.Lists.{Every-at}
use Rattle.plane_geom.specs.Shown.{point_of}
use Rattle.plane_geom.specs.declared.Point.{Point as CodePoint}
use Rattle.trunc_series.specs.Shown.{exp_of, key_of, term_of, sum_of}
use Rattle.trunc_series.specs.Reduced.{Terms, IsKeptAs, AddsUp}
use Rattle.trunc_series.specs.declared.arithmetic.Arithmetic.TheVariants.{Wrapping}
use Rattle.trunc_series.specs.declared.key.Key.{Key as CodeKey}
use Rattle.trunc_series.proofs.Terms.{no_term, at, sum_of-append, sum_of-halves, sum_of-drop, sum_of-where}
use Rattle.scatter_diagram.specs.Listed.{SeenDiagram}
use Rattle.broken_lines.specs.Traced.{IsFaultBy, IsTailsFault}
use Rattle.broken_lines.specs.declared.fault.AskFault.{AskFault}
use Rattle.broken_lines.specs.declared.fault.AskFault.TheVariants.{NotYet, NotGeneric, TooManyReach, TooManyTails, PointTooLarge, WeightTooLarge, Memory}
use Rattle.theta_algebra.specs.Stages.{GrowsFromFactors, IsLightTerm, IsStage}
use Rattle.theta_algebra.specs.Steps.{IsKnownDiagram, IsAtStage, CanBeTaken, IsTermTaken}
use Rattle.theta_algebra.specs.declared.steps.Steps.{Steps}
use Rattle.theta_algebra.proofs.StepLaws.{new-series, new-light, new-within, old-own, new-own, begins-new}
use Rattle.theta_algebra.proofs.TakenTerms.{IsTaking, TakesOne, taking-none, taking-more, taking-all, too-heavy, theta-fault}

pub one-more : (ts : Terms) (i : ℕ) → i < length ts → sum_of (take (i + 1) ts) ≡ sum_of (take i ts) ++ term_of (at ts i) ∷ []
one-more ts i l = ap sum_of (take_more ts i no_term l) ∙ sum_of-append (take i ts) (at ts i ∷ [])

split : (ts : Terms) (i : ℕ) → i < length ts → sum_of ts ≡ sum_of (take i ts) ++ term_of (at ts i) ∷ sum_of (drop (i + 1) ts)
split ts i l = sum_of-halves ts i ∙ ap (λ (f : Sum). sum_of (take i ts) ++ f) (sum_of-drop ts i l)

in-middle : (u : Sum) (t : Term) (r : Sum) → In t (u ++ t ∷ r)
in-middle [] t r = inl refl
in-middle (v ∷ u) t r = inr (in-middle u t r)

-- the terms `new` of degree d are added to the family, which is `b` then
pub record IsAdded (d : ℕ) (before : Steps) (new b : Terms) : Type 0 where
  pub level : new ≡ filter (λ t. degree (key_of t.0) == d) before.left.items
  pub adds : AddsUp Wrapping before.family.items new b

-- the first i of the new terms were taken
abbrev pub AreTaken : SeenDiagram → ℕ → CodePoint → Steps → Terms → Terms → Sum → ℕ → Steps → Type 0
AreTaken e k q before new b s i now =
    IsTaking (walls e.diagram) k (point_of q) s (sum_of before.family.items) before.weight (sum_of b) (sum_of (take i new)) (sum_of now.left.items) now.weight

module _ (e : SeenDiagram) (k d : ℕ) (q : CodePoint) (given : IsKnownDiagram e k) (le : d ≤ k) (before : Steps) (new b : Terms) (added : IsAdded d before new b)
    (s : Sum) (first : ℕ) (stage : IsAtStage (walls e.diagram) k (point_of q) s first d before) where
  abbrev ws : List Wall
  ws = walls e.diagram

  abbrev a : Sum
  a = sum_of before.family.items

  abbrev left : Sum
  left = sum_of before.left.items

  fresh : sum_of new ≡ of_degree d left
  fresh = ap sum_of added.level ∙ sum_of-where (λ t. degree t.0 == d) before.left.items

  adds : IsKeptAs Wrapping k (sum_of b) (a ++ of_degree d left)
  adds =
      subst (λ (f : Sum). IsKeptAs Wrapping k (sum_of b) (a ++ f)) fresh
      (added.adds k a (sum_of new) (old-own ws k e.order (point_of q) given.proper q.reduced s first d le a left before.weight stage)
      (subst (λ (f : Sum). IsKeptAs Wrapping k f f) (sym fresh) (new-own ws k e.order (point_of q) given.proper q.reduced s first d le a left before.weight stage)))

  here : (i : ℕ) → i < length new → In (term_of (at new i)) (of_degree d left)
  here i l = subst (λ (f : Sum). In (term_of (at new i)) f) (sym (split new i l) ∙ fresh) (in-middle (sum_of (take i new)) (term_of (at new i)) (sum_of (drop (i + 1) new)))

  begun : (i : ℕ) → i < length new → (j : ℕ) × (j ≤ d) × BeginsAt (sum_of b) (exp_of (at new i).0.exp) j
  begun i l = begins-new ws k e.order (point_of q) given.proper q.reduced s first d le a left before.weight stage (sum_of b) adds (term_of (at new i)) (here i l)

  pub can-take : (i : ℕ) → i < length new → (f : Sum) → f ≡ sum_of b → CanBeTaken k f (at new i)
  can-take i l f same = subst (λ (g : Sum). CanBeTaken k g (at new i)) (sym same) record {
    series = adds.series;
    begun = ((begun i l).0, (begun i l).2);
    low = Every-at (λ (t : Term). degree t.0 ≤ k) (of_degree d left) (term_of (at new i)) (new-series ws k e.order (point_of q) given.proper q.reduced s first d le a left before.weight stage).low (here i l);
    small = Every-at IsLightTerm (of_degree d left) (term_of (at new i)) (new-light ws k e.order (point_of q) given.proper q.reduced s first d le a left before.weight stage) (here i l);
    within = Every-at GrowsFromFactors (of_degree d left) (term_of (at new i)) (new-within ws k e.order (point_of q) given.proper q.reduced s first d le a left before.weight stage) (here i l);
  }

  pub takes-none : (now : Steps) → now.left.items ≡ before.left.items → now.weight ≡ before.weight → AreTaken e k q before new b s 0 now
  takes-none now same weight =
      subst (λ (n : ℕ). IsTaking ws k (point_of q) s a before.weight (sum_of b) [] (sum_of now.left.items) n) (sym weight)
      (subst (λ (ts : Terms). IsTaking ws k (point_of q) s a before.weight (sum_of b) [] (sum_of ts) before.weight) (sym same)
      (taking-none ws k e.order (point_of q) given.proper q.reduced s first d le a left before.weight stage (sum_of b) adds))

  takes-one : (t : CodeKey × ℤ) (u : Sum) (now after : Steps) → sum_of now.family.items ≡ sum_of b → IsTaking ws k (point_of q) s a before.weight (sum_of b) u (sum_of now.left.items) now.weight → IsTermTaken ws k (point_of q) t now after
      → TakesOne ws k (point_of q) (sum_of b) (term_of t) (sum_of now.left.items) now.weight (sum_of after.left.items) after.weight
  takes-one t u now after same h taken = record {
    theta = taken.theta;
    weight = taken.weight;
    begun = taken.begun;
    begins = subst (λ (f : Sum). BeginsAt f (exp_of t.0.exp) taken.begun) same taken.begins;
    is = taken.is;
    free = taken.free;
    weighs = taken.weighs;
    grows = taken.grows;
    left = taken.left;
    near = taken.near h.owned h.near;
  }

  pub takes-more : (i : ℕ) → i < length new → (now after : Steps) → sum_of now.family.items ≡ sum_of b → AreTaken e k q before new b s i now → IsTermTaken ws k (point_of q) (at new i) now after → AreTaken e k q before new b s (i + 1) after
  takes-more i l now after same h taken =
      subst (λ (f : Sum). IsTaking ws k (point_of q) s a before.weight (sum_of b) f (sum_of after.left.items) after.weight) (sym (one-more new i l))
      (taking-more ws k e.order (point_of q) given.proper q.reduced s first d le a left before.weight stage (sum_of b) adds
      (sum_of (take i new)) (sum_of now.left.items) (sum_of after.left.items) now.weight after.weight (term_of (at new i)) h
      (takes-one (at new i) (sum_of (take i new)) now after same h taken))

  all : (i : ℕ) (now : Steps) → length new ≤ i → AreTaken e k q before new b s i now → IsTaking ws k (point_of q) s a before.weight (sum_of b) (of_degree d left) (sum_of now.left.items) now.weight
  all i now l h = subst (λ (f : Sum). IsTaking ws k (point_of q) s a before.weight (sum_of b) f (sum_of now.left.items) now.weight) (ap sum_of (take_all i new l) ∙ fresh) h

  pub takes-all : (i : ℕ) (now : Steps) → length new ≤ i → sum_of now.family.items ≡ sum_of b → AreTaken e k q before new b s i now → now.weight ≤ largest_weight → IsAtStage ws k (point_of q) s first (d + 1) now
  takes-all i now l same h light =
      subst (λ (n : ℕ). IsAtStage ws k (point_of q) s first n now) (sym (add-one d))
      (subst (λ (f : Sum). IsStage ws k (point_of q) s first (suc d) f (sum_of now.left.items) now.weight) (sym same)
      (taking-all ws k e.order (point_of q) given.proper q.reduced s first d le a left before.weight stage (sum_of b) adds (sum_of now.left.items) now.weight light (all i now l h)))

  pub heavy : (i : ℕ) (now : Steps) → length new ≤ i → AreTaken e k q before new b s i now → largest_weight < now.weight → IsFaultBy (StepsFault ws k (point_of q) s first) WeightTooLarge
  heavy i now l h more = (d, too-heavy ws k e.order (point_of q) given.proper q.reduced s first d le a left before.weight stage (sum_of b) adds (sum_of now.left.items) now.weight more (all i now l h))

  pub fails : (i : ℕ) → i < length new → (now : Steps) → AreTaken e k q before new b s i now → (f : AskFault)
      → ((j : ℕ) → BeginsAt (sum_of b) (exp_of (at new i).0.exp) j → IsTailsFault ws (k - j) (exp_of (at new i).0.exp) (point_of q) f) → IsFaultBy (StepsFault ws k (point_of q) s first) f
  fails i l now h = go
    where
      first-fault : (f : D.AskFault) → ((j : ℕ) → BeginsAt (sum_of b) (exp_of (at new i).0.exp) j → D.IsAskFault ws (k - j) (exp_of (at new i).0.exp) (point_of q) (Some f)) → StepsFault ws k (point_of q) s first (Some f)
      first-fault f g = (
        d,
        theta-fault ws k e.order (point_of q) given.proper q.reduced s first d le a left before.weight stage (sum_of b) adds (sum_of (take i new)) (sum_of (drop (i + 1) new)) (sum_of now.left.items) now.weight (term_of (at new i)) f
            (sym fresh ∙ split new i l) h (here i l) g,
      )

      go : (f : AskFault) → ((j : ℕ) → BeginsAt (sum_of b) (exp_of (at new i).0.exp) j → IsTailsFault ws (k - j) (exp_of (at new i).0.exp) (point_of q) f) → IsFaultBy (StepsFault ws k (point_of q) s first) f
      go (NotYet n) g = g (begun i l).0 (begun i l).2
      go (NotGeneric p) g = first-fault (D.NotGeneric (point_of p)) g
      go TooManyReach g = first-fault D.TooManyReach g
      go TooManyTails g = first-fault D.TooManyTails g
      go PointTooLarge g = first-fault D.PointTooLarge g
      go WeightTooLarge g = first-fault D.WeightTooLarge g
      go Memory g = tt
