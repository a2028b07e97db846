-- What is known after one exponent more, and after some.
use Rattle.std.proofs.Common.{◌≡◌, ◌≢◌, ℕ, suc, refl, sym, ap, subst, ◌∙◌, ◌+◌, ◌≤◌, ◌<◌, ◌⊎◌, inl, inr, arith, Bool, true, false, cond, List, [], ◌∷◌, ◌++◌, length, take, get_or, ℤ, Option}
use Rattle.std.specs.Prelude.{Some, None, Vec, ◌-◌}
use Rattle.std.specs.BTreeMap.{get, keys, is_at, Updates, IsOrdered}
use Rattle.std.specs.Map.{keys_of, lookup}
use Rattle.std.specs.Option.{is_some}
use Rattle.std.specs.List.{AllByRecursion}
use Rattle.std.specs.List.Sorted.{IsStrictlySortedBy}
use Rattle.std.specs.Ordering.{is_eq, int_cmp, ordering_then, ordering_reverse}
use Rattle.std.specs.declared.cmp.Ordering.{Ordering}
use Rattle.std.specs.declared.cmp.Ordering.TheVariants.{Less, Equal, Greater}
use Rattle.std.proofs.lemmas.Cmp.{int_cmp_total}
use Rattle.std.proofs.lemmas.Map.Lookups.{exact_signed}
use Rattle.limits.specs.Limits.{most_reached}
use Rattle.scattering.specs.Collections.{In, Every, Distinct}
use Rattle.std.proofs.lemmas.List.{get_or_default}
use Rattle.scattering.specs.Series.{Sum, Term, degree, exp_add}
use Rattle.scattering.specs.Wall.{Wall}
use Rattle.scattering.proofs.Lists.{In-append, In-left, In-right, In-map, In-mapped, Every-implies}
use Rattle.joint_finder.proofs.Lists.{In-get, In-more, In-more_old, In-more_same, In-take}
use Rattle.trunc_series.specs.Shown.{exp_of, key_of, term_of, sum_of}
use Rattle.trunc_series.specs.declared.key.Key.{Key as CodeKey}
use Rattle.std.specs.Global.{Global}
use Rattle.trunc_series.specs.declared.key.Exp.{Exp as CodeExp}
use Rattle.broken_lines.specs.declared.growth.Growth.{Growth}
use Rattle.broken_lines.specs.declared.fault.AskFault.{AskFault}
use Rattle.broken_lines.specs.declared.fault.AskFault.TheVariants.{NotYet, NotGeneric, TooManyReach, TooManyTails, PointTooLarge, WeightTooLarge, Memory}
use Rattle.broken_lines.specs.Growth.{exp_cmp, Has, IsKnown, IsNew, IsTracked, Gains, AreTooMany, IsTooMany, AddsSteps, IsShifted, IsStepped, IsTermOf, IsTermOfSome}

-- ---- the order tells exponents apart

pub exact-exp : (x y : CodeExp) → exp_cmp x y ≡ Equal → x ≡ y
exact-exp x y e = go (int_cmp x.a y.a) refl e
  where
    go : (r : Ordering) → int_cmp x.a y.a ≡ r → ordering_then r (int_cmp x.b y.b) ≡ Equal → x ≡ y
    go Less f h = absurd (cc)
    go Equal f h =
        let p : x.a ≡ y.a = exact_signed x.a y.a f in
        let q : x.b ≡ y.b = exact_signed x.b y.b h in
        λ i. record { a = p i; b = q i }
    go Greater f h = absurd (cc)

tied : (x : ℤ) → int_cmp x x ≡ Equal
tied x = own (int_cmp x x) (int_cmp_total.antisymm x x)
  where
    own : (r : Ordering) → r ≡ ordering_reverse r → r ≡ Equal
    own Less e = absurd (cc)
    own Equal e = refl
    own Greater e = absurd (cc)

pub equal-itself : (x : CodeExp) → exp_cmp x x ≡ Equal
equal-itself x = ap (λ r. ordering_then r (int_cmp x.b x.b)) (tied x.a) ∙ tied x.b

-- ---- what a map has

some-none : {A : Type 0} (x : A) → Some x ≡ None → ⊥
some-none x e = cc

-- a key of the entries has a value
pub key-known : (es : List (CodeExp × ℕ)) (x : CodeExp) → In x (keys_of es) → (i : ℕ) × (lookup (is_at (exp_cmp x)) es ≡ Some i)
key-known [] x h = absurd h
key-known (e ∷ es) x h = go (is_at (exp_cmp x) e.0) refl (key-known es x)
  where
    Value : Type 0
    Value = (i : ℕ) × (lookup (is_at (exp_cmp x)) es ≡ Some i)

    later : is_at (exp_cmp x) e.0 ≡ false → (x ≡ e.0) ⊎ In x (keys_of es) → (In x (keys_of es) → Value) → Value
    later f (inl q) k = absurd (let t : is_at (exp_cmp x) e.0 ≡ true = ap is_eq (ap (exp_cmp x) (sym q) ∙ equal-itself x) in cc)
    later f (inr j) k = k j

    go : (b : Bool) → is_at (exp_cmp x) e.0 ≡ b → (In x (keys_of es) → Value) → (i : ℕ) × (lookup (is_at (exp_cmp x)) (e ∷ es) ≡ Some i)
    go true f k = (e.1, rw f refl)
    go false f k = let r = later f h k in (r.0, rw f r.1)

-- and what has a value is a key
pub known-key : (es : List (CodeExp × ℕ)) (x : CodeExp) (i : ℕ) → lookup (is_at (exp_cmp x)) es ≡ Some i → In (x, i) es
known-key [] x i h = absurd (cc)
known-key (e ∷ es) x i h = go (is_at (exp_cmp x) e.0) refl h (known-key es x i)
  where
    equal : (o : Ordering) → is_eq o ≡ true → o ≡ Equal
    equal Less f = absurd (cc)
    equal Equal f = refl
    equal Greater f = absurd (cc)

    go : (b : Bool) → is_at (exp_cmp x) e.0 ≡ b → lookup (is_at (exp_cmp x)) (e ∷ es) ≡ Some i → (lookup (is_at (exp_cmp x)) es ≡ Some i → In (x, i) es) → In (x, i) (e ∷ es)
    go true f k m =
        let v : Some e.1 ≡ Some i = rw f at k in
        let p : x ≡ e.0 = exact-exp x e.0 (equal (exp_cmp x e.0) f) in
        let q : e.1 ≡ i = some-same e.1 i v in
        inl (λ j. (p j, sym q j))
      where
        some-same : (u v : ℕ) → Some u ≡ Some v → u ≡ v
        some-same u v e = cc
    go false f k m = inr (m (rw f at k))

-- keys that ascend are distinct
pub ascend-distinct : (xs : List CodeExp) → IsStrictlySortedBy exp_cmp xs → Distinct xs
unfolding IsStrictlySortedBy
ascend-distinct [] h = tt
ascend-distinct (x ∷ xs) h = (first xs h.0, ascend-distinct xs h.1)
  where
    first : (ys : List CodeExp) → AllByRecursion (λ y. exp_cmp x y ≡ Less) ys → Every (λ (y : CodeExp). x ≢ y) ys
    first [] k = tt
    first (y ∷ ys) k = (λ e. (let t : Equal ≡ Less = sym (equal-itself x) ∙ ap (exp_cmp x) e ∙ k.0 in cc), first ys k.1)

-- ---- one exponent

module _ (old new : Growth) (x : CodeExp) (absent : get exp_cmp old.known x ≡ None) (u : Updates exp_cmp old.known new.known x (Some old.degree)) (level : new.level.items ≡ old.level.items ++ x ∷ []) (same : new.degree ≡ old.degree) (few : length new.known.entries ≤ most_reached) where
  at-itself : Has new x old.degree
  at-itself = u.0 x ∙ ap (λ (b : Bool). cond b (Some old.degree) (get exp_cmp old.known x)) (ap is_eq (equal-itself x))

  elsewhere : (y : CodeExp) (b : Bool) → is_eq (exp_cmp x y) ≡ b → ((x ≡ y) ⊎ (get exp_cmp new.known y ≡ get exp_cmp old.known y))
  elsewhere y true e = inl (exact-exp x y (equal (exp_cmp x y) e))
    where
      equal : (o : Ordering) → is_eq o ≡ true → o ≡ Equal
      equal Less f = absurd (cc)
      equal Equal f = refl
      equal Greater f = absurd (cc)
  elsewhere y false e = inr (u.0 y ∙ ap (λ (b : Bool). cond b (Some old.degree) (get exp_cmp old.known y)) e)

  value-of : (i j : ℕ) → Some i ≡ Some j → i ≡ j
  value-of i j e = cc

  keeps : (y : CodeExp) (i : ℕ) → Has old y i → Has new y i
  keeps y i h = go (elsewhere y (is_eq (exp_cmp x y)) refl)
    where
      go : (x ≡ y) ⊎ (get exp_cmp new.known y ≡ get exp_cmp old.known y) → Has new y i
      go (inl e) = absurd (some-none i (sym h ∙ ap (get exp_cmp old.known) (sym e) ∙ absent))
      go (inr e) = e ∙ h

  each : (y : CodeExp) (i : ℕ) → Has new y i → Has old y i ⊎ ((i ≡ old.degree) × (y ≡ x))
  each y i h = go (elsewhere y (is_eq (exp_cmp x y)) refl)
    where
      go : (x ≡ y) ⊎ (get exp_cmp new.known y ≡ get exp_cmp old.known y) → Has old y i ⊎ ((i ≡ old.degree) × (y ≡ x))
      go (inl e) = inr (value-of i old.degree (sym h ∙ ap (get exp_cmp new.known) (sym e) ∙ at-itself), sym e)
      go (inr e) = inl (sym e ∙ h)

  pub gains-one : Gains (λ y. y ≡ x) old new
  gains-one = record {
    degree = same;
    keeps = keeps;
    each = each;
    all = λ y e. (old.degree, ap (get exp_cmp new.known) e ∙ at-itself);
    tracks = λ t. (
      (λ y i. listed y (In-append old.level.items (x ∷ []) y (subst (In y) level i)) t),
      λ y h. subst (In y) (sym level) (lists y (each y old.degree (subst (Has new y) same h)) t),
    );
    few = λ h. few;
  }
    where
      listed : (y : CodeExp) → In y old.level.items ⊎ In y (x ∷ []) → IsTracked old → Has new y new.degree
      listed y (inl i) t = subst (Has new y) (sym same) (keeps y old.degree (t.0 y i))
      listed y (inr (inl e)) t = subst (Has new y) (sym same) (ap (get exp_cmp new.known) e ∙ at-itself)
      listed y (inr (inr f)) t = absurd f

      lists : (y : CodeExp) → Has old y old.degree ⊎ ((old.degree ≡ old.degree) × (y ≡ x)) → IsTracked old → In y (old.level.items ++ x ∷ [])
      lists y (inl h) t = In-left old.level.items (x ∷ []) y (t.1 y h)
      lists y (inr e) t = In-right old.level.items (x ∷ []) y (inl e.1)

-- one that is known
pub gains-known : (g : Growth) (x : CodeExp) → IsKnown g x → Gains (λ y. y ≡ x) g g
gains-known g x h = record { degree = refl; keeps = λ y i k. k; each = λ y i k. inl k; all = λ y e. (h.0, ap (get exp_cmp g.known) e ∙ h.1); tracks = λ t. t; few = λ h. h }

-- what the test of a key tells
pub known-when : (o : Option ℕ) (b : Bool) → b ≡ true → b ≡ is_some o → (i : ℕ) × (o ≡ Some i)
known-when (Some i) b e f = (i, refl)
known-when None b e f = absurd (let t : true ≡ false = sym e ∙ f in cc)

pub absent-when : (o : Option ℕ) (b : Bool) → b ≡ false → b ≡ is_some o → o ≡ None
absent-when (Some i) b e f = absurd (let t : false ≡ true = sym e ∙ f in cc)
absent-when None b e f = refl

pub unknown : (g : Growth) (x : CodeExp) → get exp_cmp g.known x ≡ None → IsNew g x
unknown g x e h = some-none h.0 (sym h.1 ∙ e)

-- one more entry at most
pub one-more : (o : Option ℕ) (a b n : ℕ) → a ≡ b + cond (is_some o) 0 1 → b < n → a ≤ n
one-more None a b n e l = omega (arith, e, l)
one-more (Some i) a b n e l = omega (arith, e, l)

-- ---- one after another

pub gains-none : (P : CodeExp → Type 0) (g : Growth) → ((x : CodeExp) → P x → ⊥) → Gains P g g
gains-none P g n = record { degree = refl; keeps = λ y i k. k; each = λ y i k. inl k; all = λ y p. absurd (n y p); tracks = λ t. t; few = λ h. h }

pub gains-then : (P Q R : CodeExp → Type 0) (a b c : Growth) → ((x : CodeExp) → P x → R x) → ((x : CodeExp) → Q x → R x) → ((x : CodeExp) → R x → P x ⊎ Q x) → Gains P a b → Gains Q b c → Gains R a c
gains-then P Q R a b c f g s h k = record {
  degree = k.degree ∙ h.degree;
  keeps = λ x i e. k.keeps x i (h.keeps x i e);
  each = λ x i e. second x i (k.each x i e);
  all = λ x r. all x (s x r);
  tracks = λ t. k.tracks (h.tracks t);
  few = λ l. k.few (h.few l);
}
  where
    first : (x : CodeExp) (i : ℕ) → Has a x i ⊎ ((i ≡ a.degree) × P x) → Has a x i ⊎ ((i ≡ a.degree) × R x)
    first x i (inl e) = inl e
    first x i (inr p) = inr (p.0, f x p.1)

    second : (x : CodeExp) (i : ℕ) → Has b x i ⊎ ((i ≡ b.degree) × Q x) → Has a x i ⊎ ((i ≡ a.degree) × R x)
    second x i (inl e) = first x i (h.each x i e)
    second x i (inr q) = inr (q.0 ∙ h.degree, g x q.1)

    all : (x : CodeExp) → P x ⊎ Q x → IsKnown c x
    all x (inl p) = let e = h.all x p in (e.0, k.keeps x e.0 e.1)
    all x (inr q) = k.all x q

pub gains-same : (P Q : CodeExp → Type 0) (a b : Growth) → ((x : CodeExp) → P x → Q x) → ((x : CodeExp) → Q x → P x) → Gains P a b → Gains Q a b
gains-same P Q a b f g h = gains-then P (λ x. ⊥) Q a b b f (λ x e. absurd e) (λ x q. inl (g x q)) h (gains-none (λ x. ⊥) b (λ x e. e))

-- ---- too many

-- where so many are known, one more is too many
pub full : (g : Growth) (x : CodeExp) → IsOrdered exp_cmp g.known → most_reached ≤ length g.known.entries → IsNew g x → AreTooMany (λ y. y ≡ x) g
full g x o l n = (x ∷ keys g.known, (inr refl, each g.known.entries (λ y h. h)), (others g.known.entries (λ y h. h), ascend-distinct (keys g.known) o), many)
  where
    each : (es : List (CodeExp × ℕ)) → ((y : CodeExp) → In y (keys_of es) → In y (keys g.known)) → Every (λ y. IsKnown g y ⊎ (y ≡ x)) (keys_of es)
    each [] f = tt
    each (e ∷ es) f = (inl (key-known g.known.entries e.0 (f e.0 (inl refl))), each es (λ y h. f y (inr h)))

    others : (es : List (CodeExp × ℕ)) → ((y : CodeExp) → In y (keys_of es) → In y (keys g.known)) → Every (λ (y : CodeExp). x ≢ y) (keys_of es)
    others [] f = tt
    others (e ∷ es) f = ((λ q. n (key-known g.known.entries x (subst (λ (y : CodeExp). In y (keys g.known)) (sym q) (f e.0 (inl refl))))), others es (λ y h. f y (inr h)))

    length-keys : (es : List (CodeExp × ℕ)) → length (keys_of es) ≡ length es
    length-keys [] = refl
    length-keys (e ∷ es) = ap suc (length-keys es)

    many : most_reached < length (x ∷ keys g.known)
    many = let e = length-keys g.known.entries in omega (arith, l, e)

pub too-many-with : (P Q : CodeExp → Type 0) (a : Growth) (f : AskFault) → ((x : CodeExp) → P x → Q x) → IsTooMany P a f → IsTooMany Q a f
too-many-with P Q a (NotYet n) g h = h
too-many-with P Q a (NotGeneric p) g h = h
too-many-with P Q a TooManyReach g h = (h.0, Every-implies (λ x. IsKnown a x ⊎ P x) (λ x. IsKnown a x ⊎ Q x) h.0 each h.1, h.2, h.3)
  where
    each : (x : CodeExp) → IsKnown a x ⊎ P x → IsKnown a x ⊎ Q x
    each x (inl k) = inl k
    each x (inr p) = inr (g x p)
too-many-with P Q a TooManyTails g h = h
too-many-with P Q a PointTooLarge g h = h
too-many-with P Q a WeightTooLarge g h = h
too-many-with P Q a Memory g h = h

-- those that were gained before count too
pub too-many-later : (P Q R : CodeExp → Type 0) (a b : Growth) (f : AskFault) → ((x : CodeExp) → P x → R x) → ((x : CodeExp) → Q x → R x) → Gains P a b → IsTooMany Q b f → IsTooMany R a f
too-many-later P Q R a b (NotYet n) g k h t = t
too-many-later P Q R a b (NotGeneric p) g k h t = t
too-many-later P Q R a b TooManyReach g k h t = (t.0, Every-implies (λ x. IsKnown b x ⊎ Q x) (λ x. IsKnown a x ⊎ R x) t.0 each t.1, t.2, t.3)
  where
    known : (x : CodeExp) (i : ℕ) → Has a x i ⊎ ((i ≡ a.degree) × P x) → IsKnown a x ⊎ R x
    known x i (inl e) = inl (i, e)
    known x i (inr p) = inr (g x p.1)

    each : (x : CodeExp) → IsKnown b x ⊎ Q x → IsKnown a x ⊎ R x
    each x (inl e) = known x e.0 (h.each x e.0 e.1)
    each x (inr q) = inr (k x q)
too-many-later P Q R a b TooManyTails g k h t = t
too-many-later P Q R a b PointTooLarge g k h t = t
too-many-later P Q R a b WeightTooLarge g k h t = t
too-many-later P Q R a b Memory g k h t = t

-- ---- some exponents, one after another

exp-same : (x y : CodeExp) → exp_of x ≡ exp_of y → x ≡ y
exp-same x y e = λ i. record { a = (e i).a; b = (e i).b }

pub shifted-more : (step x : CodeExp) (from : List CodeExp) (i : ℕ) (y : CodeExp) (a b c : Growth) → i < length from → x ≡ get_or from i x → exp_of y ≡ exp_add (exp_of step) (exp_of x) → Gains (IsShifted step (take i from)) a b → Gains (λ z. z ≡ y) b c → Gains (IsShifted step (take (i + 1) from)) a c
shifted-more step x from i y a b c lt e s h k =
    gains-then (IsShifted step (take i from)) (λ z. z ≡ y) (IsShifted step (take (i + 1) from)) a b c
    (λ z r. (r.0, In-more_old from i x r.0 lt e r.1, r.2)) (λ z q. (x, In-more_same from i x lt e, ap exp_of q ∙ s)) (λ z r. go z r (In-more from i x r.0 lt e r.1)) h k
  where
    go : (z : CodeExp) (r : IsShifted step (take (i + 1) from) z) → In r.0 (take i from) ⊎ (r.0 ≡ x) → IsShifted step (take i from) z ⊎ (z ≡ y)
    go z r (inl j) = inl (r.0, j, r.2)
    go z r (inr q) = inr (exp-same z y (r.2 ∙ ap (λ (u : CodeExp). exp_add (exp_of step) (exp_of u)) q ∙ sym s))

pub stepped-more : (steps : List (CodeExp × ℕ)) (levels : List (Vec CodeExp Global)) (n i : ℕ) (s : CodeExp × ℕ) (l : Vec CodeExp Global) (a b c : Growth) → i < length steps → s ≡ get_or steps i s → n - s.1 < length levels → l ≡ get_or levels (n - s.1) l → Gains (IsStepped (take i steps) levels n) a b → Gains (IsShifted s.0 l.items) b c → Gains (IsStepped (take (i + 1) steps) levels n) a c
stepped-more steps levels n i s l a b c lt e below f h k =
    gains-then (IsStepped (take i steps) levels n) (IsShifted s.0 l.items) (IsStepped (take (i + 1) steps) levels n) a b c
    (λ z r. (r.0, r.1, In-more_old steps i s r.0 lt e r.2, r.3, r.4)) (λ z r. (s, l, In-more_same steps i s lt e, f, r)) (λ z r. go z r (In-more steps i s r.0 lt e r.2)) h k
  where
    go : (z : CodeExp) (r : IsStepped (take (i + 1) steps) levels n z) → In r.0 (take i steps) ⊎ (r.0 ≡ s) → IsStepped (take i steps) levels n z ⊎ IsShifted s.0 l.items z
    go z r (inl j) = inl (r.0, r.1, j, r.3, r.4)
    go z r (inr q) = inr (subst (λ (u : CodeExp × ℕ). IsShifted u.0 l.items z) q (subst (λ (m : Vec CodeExp Global). IsShifted r.0.0 m.items z) same r.4))
      where
        same : r.1 ≡ l
        same = r.3 ∙ ap (λ (u : CodeExp × ℕ). get_or levels (n - u.1) r.1) q ∙ get_or_default levels (n - s.1) r.1 l below ∙ sym f

-- the terms of a list
pub term-old : (n : ℕ) (ts : List (CodeKey × ℤ)) (i : ℕ) (t : CodeKey × ℤ) (z : CodeExp) → i < length ts → t ≡ get_or ts i t → IsTermOf n (sum_of (take i ts)) z → IsTermOf n (sum_of (take (i + 1) ts)) z
term-old n ts i t z lt e r =
    let m = In-map term_of (take i ts) r.0 r.1 in
    (r.0, subst (λ (u : Term). In u (sum_of (take (i + 1) ts))) (sym m.2) (In-mapped term_of (take (i + 1) ts) m.0 (In-more_old ts i t m.0 lt e m.1)), r.2, r.3)

pub term-new : (n : ℕ) (ts : List (CodeKey × ℤ)) (i : ℕ) (t : CodeKey × ℤ) (z : CodeExp) → i < length ts → t ≡ get_or ts i t → degree (key_of t.0) ≡ n → z ≡ t.0.exp → IsTermOf n (sum_of (take (i + 1) ts)) z
term-new n ts i t z lt e d q = (term_of t, In-mapped term_of (take (i + 1) ts) t (In-more_same ts i t lt e), d, ap exp_of q)

pub term-parts : (n : ℕ) (ts : List (CodeKey × ℤ)) (i : ℕ) (t : CodeKey × ℤ) (z : CodeExp) → i < length ts → t ≡ get_or ts i t → IsTermOf n (sum_of (take (i + 1) ts)) z → IsTermOf n (sum_of (take i ts)) z ⊎ (z ≡ t.0.exp)
term-parts n ts i t z lt e r =
    let m = In-map term_of (take (i + 1) ts) r.0 r.1 in
    go m.0 m.2 (In-more ts i t m.0 lt e m.1)
  where
    go : (u : CodeKey × ℤ) → r.0 ≡ term_of u → In u (take i ts) ⊎ (u ≡ t) → IsTermOf n (sum_of (take i ts)) z ⊎ (z ≡ t.0.exp)
    go u q (inl j) = inl (r.0, subst (λ (v : Term). In v (sum_of (take i ts))) (sym q) (In-mapped term_of (take i ts) u j), r.2, r.3)
    go u q (inr f) = inr (exp-same z t.0.exp (r.3 ∙ ap (λ (v : Term). v.0.exp) q ∙ ap (λ (v : CodeKey × ℤ). exp_of v.0.exp) f))

pub term-more : (n : ℕ) (ts : List (CodeKey × ℤ)) (i : ℕ) (t : CodeKey × ℤ) (a b c : Growth) → i < length ts → t ≡ get_or ts i t → degree (key_of t.0) ≡ n → Gains (IsTermOf n (sum_of (take i ts))) a b → Gains (λ z. z ≡ t.0.exp) b c → Gains (IsTermOf n (sum_of (take (i + 1) ts))) a c
term-more n ts i t a b c lt e d h k =
    gains-then (IsTermOf n (sum_of (take i ts))) (λ z. z ≡ t.0.exp) (IsTermOf n (sum_of (take (i + 1) ts))) a b c (λ z r. term-old n ts i t z lt e r) (λ z q. term-new n ts i t z lt e d q) (λ z r. term-parts n ts i t z lt e r) h k

term-before : (n : ℕ) (ts : List (CodeKey × ℤ)) (i : ℕ) (t : CodeKey × ℤ) (z : CodeExp) → i < length ts → t ≡ get_or ts i t → (degree (key_of t.0) ≡ n → ⊥) → IsTermOf n (sum_of (take (i + 1) ts)) z → IsTermOf n (sum_of (take i ts)) z
term-before n ts i t z lt e d r =
    let m = In-map term_of (take (i + 1) ts) r.0 r.1 in
    go m.0 m.2 (In-more ts i t m.0 lt e m.1)
  where
    go : (u : CodeKey × ℤ) → r.0 ≡ term_of u → In u (take i ts) ⊎ (u ≡ t) → IsTermOf n (sum_of (take i ts)) z
    go u q (inl j) = (r.0, subst (λ (v : Term). In v (sum_of (take i ts))) (sym q) (In-mapped term_of (take i ts) u j), r.2, r.3)
    go u q (inr f) = absurd (d (ap (λ (v : CodeKey × ℤ). degree (key_of v.0)) (sym f) ∙ ap (λ (v : Term). degree v.0) (sym q) ∙ r.2))

-- a term of another degree adds nothing
pub term-passed : (n : ℕ) (ts : List (CodeKey × ℤ)) (i : ℕ) (t : CodeKey × ℤ) (a b : Growth) → i < length ts → t ≡ get_or ts i t → (degree (key_of t.0) ≡ n → ⊥) → Gains (IsTermOf n (sum_of (take i ts))) a b → Gains (IsTermOf n (sum_of (take (i + 1) ts))) a b
term-passed n ts i t a b lt e d h = gains-same (IsTermOf n (sum_of (take i ts))) (IsTermOf n (sum_of (take (i + 1) ts))) a b (λ z r. term-old n ts i t z lt e r) (λ z r. term-before n ts i t z lt e d r) h

-- ---- steps

pub steps-none : (P : CodeExp → Type 0) (g : Growth) (ss : List (CodeExp × ℕ)) → AddsSteps P g g ss ss
steps-none P g ss = record { keeps = λ s i. i; each = λ s i. inl i; all = λ x h. inl h }

pub steps-then : (P Q R : CodeExp → Type 0) (a b c : Growth) (ss ts us : List (CodeExp × ℕ)) → b.degree ≡ a.degree → ((x : CodeExp) → P x → R x) → ((x : CodeExp) → Q x → R x) → AddsSteps P a b ss ts → AddsSteps Q b c ts us → AddsSteps R a c ss us
steps-then P Q R a b c ss ts us d f g h k = record {
  keeps = λ s i. k.keeps s (h.keeps s i);
  each = λ s i. second s (k.each s i);
  all = λ x e. all x (k.all x e);
}
  where
    first : (s : CodeExp × ℕ) → In s ss ⊎ (P s.0 × (s.1 ≡ a.degree)) → In s ss ⊎ (R s.0 × (s.1 ≡ a.degree))
    first s (inl i) = inl i
    first s (inr p) = inr (f s.0 p.0, p.1)

    second : (s : CodeExp × ℕ) → In s ts ⊎ (Q s.0 × (s.1 ≡ b.degree)) → In s ss ⊎ (R s.0 × (s.1 ≡ a.degree))
    second s (inl i) = first s (h.each s i)
    second s (inr q) = inr (g s.0 q.0, q.1 ∙ d)

    all : (x : CodeExp) → IsKnown b x ⊎ In (x, b.degree) us → IsKnown a x ⊎ In (x, a.degree) us
    all x (inr i) = inr (subst (λ (n : ℕ). In (x, n) us) d i)
    all x (inl e) = earlier x (h.all x e)
      where
        earlier : (x : CodeExp) → IsKnown a x ⊎ In (x, a.degree) ts → IsKnown a x ⊎ In (x, a.degree) us
        earlier x (inl j) = inl j
        earlier x (inr i) = inr (k.keeps (x, a.degree) i)

-- the steps of some terms
pub term-steps : (n : ℕ) (ts : List (CodeKey × ℤ)) (i : ℕ) (t : CodeKey × ℤ) (a b c : Growth) (ss us vs : List (CodeExp × ℕ)) → i < length ts → t ≡ get_or ts i t → degree (key_of t.0) ≡ n → b.degree ≡ a.degree → AddsSteps (IsTermOf n (sum_of (take i ts))) a b ss us → AddsSteps (λ z. z ≡ t.0.exp) b c us vs → AddsSteps (IsTermOf n (sum_of (take (i + 1) ts))) a c ss vs
term-steps n ts i t a b c ss us vs lt e d f h k = steps-then (IsTermOf n (sum_of (take i ts))) (λ z. z ≡ t.0.exp) (IsTermOf n (sum_of (take (i + 1) ts))) a b c ss us vs f (λ z r. term-old n ts i t z lt e r) (λ z q. term-new n ts i t z lt e d q) h k

pub term-steps_passed : (n : ℕ) (ts : List (CodeKey × ℤ)) (i : ℕ) (t : CodeKey × ℤ) (a b : Growth) (ss us : List (CodeExp × ℕ)) → i < length ts → t ≡ get_or ts i t → (degree (key_of t.0) ≡ n → ⊥) → AddsSteps (IsTermOf n (sum_of (take i ts))) a b ss us → AddsSteps (IsTermOf n (sum_of (take (i + 1) ts))) a b ss us
term-steps_passed n ts i t a b ss us lt e d h = record { keeps = h.keeps; each = λ s j. go s (h.each s j); all = h.all }
  where
    go : (s : CodeExp × ℕ) → In s ss ⊎ (IsTermOf n (sum_of (take i ts)) s.0 × (s.1 ≡ a.degree)) → In s ss ⊎ (IsTermOf n (sum_of (take (i + 1) ts)) s.0 × (s.1 ≡ a.degree))
    go s (inl j) = inl j
    go s (inr r) = inr (term-old n ts i t s.0 lt e r.0, r.1)

-- what isn't new was known
pub not-new : (a b : Growth) (x : CodeExp) → Gains (λ y. y ≡ x) a b → (IsNew a x → ⊥) → (y : CodeExp) (i : ℕ) → Has b y i → IsKnown a y
not-new a b x h n y i e = go (h.each y i e)
  where
    known : (o : Option ℕ) → get exp_cmp a.known x ≡ o → IsKnown a x
    known (Some j) f = (j, f)
    known None f = absurd (n (unknown a x f))

    go : Has a y i ⊎ ((i ≡ a.degree) × (y ≡ x)) → IsKnown a y
    go (inl k) = (i, k)
    go (inr k) = let r = known (get exp_cmp a.known x) refl in (r.0, ap (get exp_cmp a.known) k.1 ∙ r.1)

-- what was known adds no step
pub steps-same : (P : CodeExp → Type 0) (a b : Growth) (ss : List (CodeExp × ℕ)) → ((x : CodeExp) (i : ℕ) → Has b x i → IsKnown a x) → AddsSteps P a b ss ss
steps-same P a b ss f = record { keeps = λ s i. i; each = λ s i. inl i; all = λ x h. inl (f x h.0 h.1) }

-- one that is new is a step
pub steps-one : (P : CodeExp → Type 0) (a b : Growth) (ss : List (CodeExp × ℕ)) (y : CodeExp) → P y → Gains (λ z. z ≡ y) a b → AddsSteps P a b ss (ss ++ (y, a.degree) ∷ [])
steps-one P a b ss y p h = record {
  keeps = λ s i. In-left ss ((y, a.degree) ∷ []) s i;
  each = λ s i. each s (In-append ss ((y, a.degree) ∷ []) s i);
  all = λ x e. all x (h.each x e.0 e.1);
}
  where
    each : (s : CodeExp × ℕ) → In s ss ⊎ In s ((y, a.degree) ∷ []) → In s ss ⊎ (P s.0 × (s.1 ≡ a.degree))
    each s (inl i) = inl i
    each s (inr (inl e)) = inr (subst P (sym (ap (λ (t : CodeExp × ℕ). t.0) e)) p, ap (λ (t : CodeExp × ℕ). t.1) e)
    each s (inr (inr f)) = absurd f

    all : {i : ℕ} (x : CodeExp) → Has a x i ⊎ ((i ≡ a.degree) × (x ≡ y)) → IsKnown a x ⊎ In (x, a.degree) (ss ++ (y, a.degree) ∷ [])
    all {i} x (inl e) = inl (i, e)
    all {i} x (inr e) = inr (In-right ss ((y, a.degree) ∷ []) (x, a.degree) (inl (ap (λ (z : CodeExp). (z, a.degree)) e.1)))

-- ---- walls

pub some-old : (n : ℕ) (ws : List Wall) (i : ℕ) (w : Wall) (z : CodeExp) → i < length ws → w ≡ get_or ws i w → IsTermOfSome n (take i ws) z → IsTermOfSome n (take (i + 1) ws) z
some-old n ws i w z lt e r = (r.0, In-more_old ws i w r.0 lt e r.1, r.2)

pub some-new : (n : ℕ) (ws : List Wall) (i : ℕ) (w : Wall) (z : CodeExp) → i < length ws → w ≡ get_or ws i w → IsTermOf n w.function z → IsTermOfSome n (take (i + 1) ws) z
some-new n ws i w z lt e r = (w, In-more_same ws i w lt e, r)

pub some-parts : (n : ℕ) (ws : List Wall) (i : ℕ) (w : Wall) (z : CodeExp) → i < length ws → w ≡ get_or ws i w → IsTermOfSome n (take (i + 1) ws) z → IsTermOfSome n (take i ws) z ⊎ IsTermOf n w.function z
some-parts n ws i w z lt e r = go (In-more ws i w r.0 lt e r.1)
  where
    go : In r.0 (take i ws) ⊎ (r.0 ≡ w) → IsTermOfSome n (take i ws) z ⊎ IsTermOf n w.function z
    go (inl j) = inl (r.0, j, r.2)
    go (inr q) = inr (subst (λ (v : Wall). IsTermOf n v.function z) q r.2)

pub some-more : (n : ℕ) (ws : List Wall) (i : ℕ) (w : Wall) (f : Sum) (a b c : Growth) → i < length ws → w ≡ get_or ws i w → f ≡ w.function → Gains (IsTermOfSome n (take i ws)) a b → Gains (IsTermOf n f) b c → Gains (IsTermOfSome n (take (i + 1) ws)) a c
some-more n ws i w f a b c lt e s h k =
    gains-then (IsTermOfSome n (take i ws)) (IsTermOf n f) (IsTermOfSome n (take (i + 1) ws)) a b c
    (λ z r. some-old n ws i w z lt e r) (λ z r. some-new n ws i w z lt e (subst (λ (g : Sum). IsTermOf n g z) s r)) (λ z r. go z (some-parts n ws i w z lt e r)) h k
  where
    go : (z : CodeExp) → IsTermOfSome n (take i ws) z ⊎ IsTermOf n w.function z → IsTermOfSome n (take i ws) z ⊎ IsTermOf n f z
    go z (inl r) = inl r
    go z (inr r) = inr (subst (λ (g : Sum). IsTermOf n g z) (sym s) r)

pub some-steps : (n : ℕ) (ws : List Wall) (i : ℕ) (w : Wall) (f : Sum) (a b c : Growth) (ss ts us : List (CodeExp × ℕ)) → i < length ws → w ≡ get_or ws i w → f ≡ w.function → b.degree ≡ a.degree → AddsSteps (IsTermOfSome n (take i ws)) a b ss ts → AddsSteps (IsTermOf n f) b c ts us → AddsSteps (IsTermOfSome n (take (i + 1) ws)) a c ss us
some-steps n ws i w f a b c ss ts us lt e s d h k =
    steps-then (IsTermOfSome n (take i ws)) (IsTermOf n f) (IsTermOfSome n (take (i + 1) ws)) a b c ss ts us d
    (λ z r. some-old n ws i w z lt e r) (λ z r. some-new n ws i w z lt e (subst (λ (g : Sum). IsTermOf n g z) s r)) h k

-- of two lists of walls
pub joined-old : (n : ℕ) (us vs : List Wall) (z : CodeExp) → IsTermOfSome n us z → IsTermOfSome n (us ++ vs) z
joined-old n us vs z r = (r.0, In-left us vs r.0 r.1, r.2)

pub joined-new : (n : ℕ) (us vs : List Wall) (z : CodeExp) → IsTermOfSome n vs z → IsTermOfSome n (us ++ vs) z
joined-new n us vs z r = (r.0, In-right us vs r.0 r.1, r.2)

pub joined-parts : (n : ℕ) (us vs : List Wall) (z : CodeExp) → IsTermOfSome n (us ++ vs) z → IsTermOfSome n us z ⊎ IsTermOfSome n vs z
joined-parts n us vs z r = go (In-append us vs r.0 r.1)
  where
    go : In r.0 us ⊎ In r.0 vs → IsTermOfSome n us z ⊎ IsTermOfSome n vs z
    go (inl j) = inl (r.0, j, r.2)
    go (inr j) = inr (r.0, j, r.2)

-- an element stands at its place
pub own-place : {A : Type 0} (xs : List A) (i : ℕ) (d : A) → i < length xs → get_or xs i d ≡ get_or xs i (get_or xs i d)
own-place xs i d lt = get_or_default xs i d (get_or xs i d) lt

pub some-fault : (n : ℕ) (ws : List Wall) (i : ℕ) (w : Wall) (f : Sum) (a b : Growth) (q : AskFault) → i < length ws → w ≡ get_or ws i w → f ≡ w.function → Gains (IsTermOfSome n (take i ws)) a b → IsTooMany (IsTermOf n f) b q → IsTooMany (IsTermOfSome n ws) a q
some-fault n ws i w f a b q lt e s h k =
    too-many-later (IsTermOfSome n (take i ws)) (IsTermOf n f) (IsTermOfSome n ws) a b q (λ z r. (r.0, In-take ws i r.0 r.1, r.2)) (λ z r. (w, In-get ws i w lt e, subst (λ (g : Sum). IsTermOf n g z) s r)) h k

pub term-fault : (n : ℕ) (ts : List (CodeKey × ℤ)) (i : ℕ) (t : CodeKey × ℤ) (a b : Growth) (q : AskFault) → i < length ts → t ≡ get_or ts i t → degree (key_of t.0) ≡ n → Gains (IsTermOf n (sum_of (take i ts))) a b → IsTooMany (λ z. z ≡ t.0.exp) b q → IsTooMany (IsTermOf n (sum_of ts)) a q
term-fault n ts i t a b q lt e d h k =
    too-many-later (IsTermOf n (sum_of (take i ts))) (λ z. z ≡ t.0.exp) (IsTermOf n (sum_of ts)) a b q (λ z r. all z r) (λ z r. (term_of t, In-mapped term_of ts t (In-get ts i t lt e), d, ap exp_of r)) h k
  where
    all : (z : CodeExp) → IsTermOf n (sum_of (take i ts)) z → IsTermOf n (sum_of ts) z
    all z r = let m = In-map term_of (take i ts) r.0 r.1 in (r.0, subst (λ (u : Term). In u (sum_of ts)) (sym m.2) (In-mapped term_of ts m.0 (In-take ts i m.0 m.1)), r.2, r.3)

-- ---- in the words of a loop, whose steps have one degree

pub walls-more : (ws : List Wall) (i : ℕ) (w : Wall) (f : Sum) (a b c : Growth) → i < length ws → w ≡ get_or ws i w → f ≡ w.function → Gains (IsTermOfSome a.degree (take i ws)) a b → Gains (IsTermOf b.degree f) b c → Gains (IsTermOfSome a.degree (take (i + 1) ws)) a c
walls-more ws i w f a b c lt e s h k = some-more a.degree ws i w f a b c lt e s h (subst (λ (d : ℕ). Gains (IsTermOf d f) b c) h.degree k)

pub walls-steps : (ws : List Wall) (i : ℕ) (w : Wall) (f : Sum) (a b c : Growth) (ss ts us : List (CodeExp × ℕ)) → i < length ws → w ≡ get_or ws i w → f ≡ w.function → Gains (IsTermOfSome a.degree (take i ws)) a b → AddsSteps (IsTermOfSome a.degree (take i ws)) a b ss ts → AddsSteps (IsTermOf b.degree f) b c ts us → AddsSteps (IsTermOfSome a.degree (take (i + 1) ws)) a c ss us
walls-steps ws i w f a b c ss ts us lt e s g h k = some-steps a.degree ws i w f a b c ss ts us lt e s g.degree h (subst (λ (d : ℕ). AddsSteps (IsTermOf d f) b c ts us) g.degree k)

pub walls-fault : (ws : List Wall) (i : ℕ) (w : Wall) (f : Sum) (a b : Growth) (q : AskFault) → i < length ws → w ≡ get_or ws i w → f ≡ w.function → Gains (IsTermOfSome a.degree (take i ws)) a b → IsTooMany (IsTermOf b.degree f) b q → IsTooMany (IsTermOfSome a.degree ws) a q
walls-fault ws i w f a b q lt e s h k = some-fault a.degree ws i w f a b q lt e s h (subst (λ (d : ℕ). IsTooMany (IsTermOf d f) b q) h.degree k)

pub both-more : (us vs : List Wall) (a b c : Growth) → Gains (IsTermOfSome a.degree us) a b → Gains (IsTermOfSome b.degree vs) b c → Gains (IsTermOfSome a.degree (us ++ vs)) a c
both-more us vs a b c h k =
    gains-then (IsTermOfSome a.degree us) (IsTermOfSome a.degree vs) (IsTermOfSome a.degree (us ++ vs)) a b c (λ z r. joined-old a.degree us vs z r) (λ z r. joined-new a.degree us vs z r) (λ z r. joined-parts a.degree us vs z r) h
    (subst (λ (d : ℕ). Gains (IsTermOfSome d vs) b c) h.degree k)

pub both-steps : (us vs : List Wall) (a b c : Growth) (ss ts ps : List (CodeExp × ℕ)) → b.degree ≡ a.degree → AddsSteps (IsTermOfSome a.degree us) a b ss ts → AddsSteps (IsTermOfSome b.degree vs) b c ts ps → AddsSteps (IsTermOfSome a.degree (us ++ vs)) a c ss ps
both-steps us vs a b c ss ts ps d h k =
    steps-then (IsTermOfSome a.degree us) (IsTermOfSome a.degree vs) (IsTermOfSome a.degree (us ++ vs)) a b c ss ts ps d (λ z r. joined-old a.degree us vs z r) (λ z r. joined-new a.degree us vs z r) h
    (subst (λ (n : ℕ). AddsSteps (IsTermOfSome n vs) b c ts ps) d k)

pub both-fault : (us vs : List Wall) (a b : Growth) (q : AskFault) → Gains (IsTermOfSome a.degree us) a b → IsTooMany (IsTermOfSome b.degree vs) b q → IsTooMany (IsTermOfSome a.degree (us ++ vs)) a q
both-fault us vs a b q h k =
    too-many-later (IsTermOfSome a.degree us) (IsTermOfSome a.degree vs) (IsTermOfSome a.degree (us ++ vs)) a b q (λ z r. joined-old a.degree us vs z r) (λ z r. joined-new a.degree us vs z r) h
    (subst (λ (d : ℕ). IsTooMany (IsTermOfSome d vs) b q) h.degree k)
