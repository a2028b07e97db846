-- One degree after another: what is known after the steps and the terms of a degree.
use Rattle.std.proofs.lemmas.Int.{ints}
use Rattle.std.proofs.lemmas.List.{get_or_default, length-map}
use Rattle.std.proofs.Common.{◌≡◌, ◌≢◌, ℕ, zero, suc, refl, sym, ap, subst, ◌∙◌, ◌+◌, ◌-◌, ◌≤◌, ◌<◌, ◌⊎◌, inl, inr, arith, Bool, true, false, cond, List, [], ◌∷◌, ◌++◌, length, map, get_or, length-append}
use Rattle.std.specs.Prelude.{Vec, Option, Some, None, nat_abs, not, nat_le}
use Rattle.std.specs.Global.{Global}
use Rattle.std.specs.BTreeMap.{BTreeMap, get, is_at, Updates}
use Rattle.std.specs.Map.{lookup}
use Rattle.std.specs.Ordering.{is_eq}
use Rattle.std.specs.declared.cmp.Ordering.{Ordering}
use Rattle.std.specs.declared.cmp.Ordering.TheVariants.{Less, Equal, Greater}
use Rattle.broken_lines.proofs.Growths.{exact-exp, equal-itself}
use Rattle.limits.specs.Limits.{most_reached}
use Rattle.scattering.specs.Collections.{In, Every, Distinct}
use Rattle.scattering.specs.Series.{Exp, Term, origin, exp_add, exp_sub, degree, cut, unit, key_eq}
use Rattle.scattering.specs.Wall.{Wall, cut_wall, cut_walls}
use Rattle.scattering.specs.Tail.{IsWallTerm, IsReachedBy, ReachTo}
use Rattle.scattering.proofs.Lists.{Every-at, Every-from_In, filter-keeps, filter-from, In-map, In-mapped, Every-images, Every-implies}
use Rattle.scattering.proofs.Keys.{key_eq-same, same-exp}
use Rattle.trunc_series.specs.Shown.{exp_of}
use Rattle.trunc_series.specs.declared.key.Exp.{Exp as CodeExp}
use Rattle.broken_line_theory.proofs.Bends.{IsTame, reached-none, reached-add}
use Rattle.broken_line_theory.proofs.TracedBends.{sub-self}
use Rattle.broken_line_theory.proofs.Reach.{IsLeastReach, IsGrown, AreTermsWithin, grows, reached-term, reached-within, nothing}
use Rattle.limits.specs.Limits.{highest_order, largest_exponent, exponent_per_degree}
use Rattle.scatter_diagram.specs.Proper.{AreTameWalls, IsTame as IsTameTerm}
use Rattle.joint_finder.proofs.Lists.{in-at}
use Rattle.broken_lines.specs.declared.growth.Growth.{Growth}
use Rattle.broken_lines.specs.declared.fault.AskFault.{AskFault}
use Rattle.broken_lines.specs.declared.fault.AskFault.TheVariants.{NotYet, NotGeneric, TooManyReach, TooManyTails, PointTooLarge, WeightTooLarge, Memory}
use Rattle.broken_lines.specs.Growth.{AreSteps, AreLevelsSummable, exp_cmp, Has, IsKnown, IsTracked, Gains, AddsSteps, IsStepped, IsTermOfSome, IsTooMany}
use Rattle.broken_lines.specs.Reached.{IsReachMap, IsReachFault, reached_of}

abbrev Known : Type 0
Known = BTreeMap CodeExp ℕ

abbrev Level : Type 0
Level = Vec CodeExp Global

-- a level lists what is known with its degree
abbrev pub ListsDegree : Known → ℕ → Level → Type 0
ListsDegree m i l = (x : CodeExp) → (In x l.items → get exp_cmp m x ≡ Some i) × (get exp_cmp m x ≡ Some i → In x l.items)

-- all that is reached by n is known, level by level, and comes from the steps
pub record IsReachedTo (ws : List Wall) (n : ℕ) (m : Known) (levels : List Level) (steps : List (CodeExp × ℕ)) : Type 0 where
  pub sound : (x : CodeExp) (i : ℕ) → get exp_cmp m x ≡ Some i → (i ≤ n) × IsLeastReach ws (exp_of x) i
  pub all : (y : Exp) (i : ℕ) → i ≤ n → IsReachedBy ws y i → (x : CodeExp) × (j : ℕ) × (exp_of x ≡ y) × (get exp_cmp m x ≡ Some j)
  pub count : length levels ≡ n + 1
  pub listed : (i : ℕ) (l : Level) → i ≤ n → l ≡ get_or levels i l → ListsDegree m i l
  pub sources : (s : CodeExp × ℕ) → In s steps → (1 ≤ s.1) × (s.1 ≤ n) × IsReachedBy ws (exp_of s.0) s.1
  pub grown : (x : CodeExp) (i : ℕ) → get exp_cmp m x ≡ Some i → 1 ≤ i → IsGrown ws (reached_of steps) (exp_of x) i
  pub few : length m.entries ≤ most_reached

-- ---- terms of walls that are cut

pub cut-term : (b n : ℕ) (ws : List Wall) (x : CodeExp) → 1 ≤ n → n ≤ b → IsTermOfSome n ws x → (t : Term) × IsWallTerm (cut_walls b ws) t × (exp_of x ≡ t.0.exp) × (degree t.0 ≡ n)
cut-term b n ws x l le h =
    let w = h.0 in
    let t = h.2.0 in
    (t, (cut_wall b w, In-mapped (cut_wall b) ws w h.1, filter-keeps (λ t. not (key_eq t.0 unit)) (cut b w.function) t (filter-keeps (λ t. nat_le (degree t.0) b) w.function t h.2.1 (small (degree t.0) h.2.2)) (other t h.2.2)), h.2.3, h.2.2)
  where
    small : (d : ℕ) → d ≡ n → nat_le d b ≡ true
    small d e = grind (arith, e, le)

    other : (t : Term) → degree t.0 ≡ n → not (key_eq t.0 unit) ≡ true
    other t e = go (key_eq t.0 unit) refl
      where
        go : (c : Bool) → key_eq t.0 unit ≡ c → not (key_eq t.0 unit) ≡ true
        go false f = rw f refl
        go true f = absurd (let z : degree t.0 ≡ 0 = ap degree (key_eq-same t.0 unit f) in omega (arith, z, e, l))

pub whole-term : (b : ℕ) (ws : List Wall) (t : Term) → IsWallTerm (cut_walls b ws) t → (w : Wall) × In w ws × In t w.function × (degree t.0 ≤ b)
whole-term b ws t h =
    let w = In-map (cut_wall b) ws h.0 h.1 in
    let r = filter-from (λ t. not (key_eq t.0 unit)) h.0.function t h.2 in
    let c = filter-from (λ t. nat_le (degree t.0) b) w.0.function t (subst (λ (v : Wall). In t v.function) w.2 r.0) in
    (w.0, w.1, c.0, small (degree t.0) c.1)
  where
    small : (d : ℕ) → nat_le d b ≡ true → d ≤ b
    small d e = grind (arith, e)

-- ---- exponents of the program and of the definitions

abbrev pub code_of : Exp → CodeExp
code_of y = record { a = y.a; b = y.b }

coded : (x : CodeExp) (y : Exp) → exp_of x ≡ y → x ≡ code_of y
coded x y e = ap code_of e

value-of : (i j : ℕ) → Some i ≡ Some j → i ≡ j
value-of i j e = cc

least-one : (ws : List Wall) (x : Exp) (i j : ℕ) → IsLeastReach ws x i → IsLeastReach ws x j → i ≡ j
least-one ws x i j h k = let a = h.least j k.reached in let b = k.least i h.reached in omega (arith, a, b)

back : (x g y : Exp) → x ≡ exp_add g y → exp_sub x g ≡ y
back x g y e = same-exp _ _ (let p = ap (λ (u : Exp). u.a) e in omega (arith, ints, p)) (let p = ap (λ (u : Exp). u.b) e in omega (arith, ints, p))

forth : (x g y : Exp) → exp_sub x g ≡ y → x ≡ exp_add g y
forth x g y e = same-exp _ _ (let p = ap (λ (u : Exp). u.a) e in omega (arith, ints, p)) (let p = ap (λ (u : Exp). u.b) e in omega (arith, ints, p))

-- ---- the start

pub reached-start : (ws : List Wall) (m : Known) (levels : List Level) (steps : List (CodeExp × ℕ)) → Every IsTame ws → ((x : CodeExp) (i : ℕ) → get exp_cmp m x ≡ Some i → (x ≡ code_of origin) × (i ≡ 0)) → get exp_cmp m (code_of origin) ≡ Some 0 → length m.entries ≤ most_reached
    → (l : Level) → levels ≡ l ∷ [] → l.items ≡ code_of origin ∷ [] → steps ≡ [] → IsReachedTo ws 0 m levels steps
reached-start ws m levels steps tame only has few l ls is none = record {
  sound = λ x i h. let o = only x i h in (omega (arith, o.1), record { reached = subst (IsReachedBy ws (exp_of x)) (sym o.1) (subst (λ (y : CodeExp). IsReachedBy ws (exp_of y) 0) (sym o.0) (reached-none ws)); least = λ j r. omega (arith, o.1) });
  all = λ y i le r. (code_of origin, 0, sym (zero-is y (subst (IsReachedBy ws y) (omega (arith, le)) r)), has);
  count = ap length ls;
  listed = λ i k le e. first i k le e;
  sources = λ s i. absurd (subst (In s) none i);
  grown = λ x i h le. absurd (let o = only x i h in let z = o.1 in omega (arith, z, le));
  few = few;
}
  where
    zero-is : (y : Exp) → IsReachedBy ws y 0 → y ≡ origin
    zero-is y r = sym r.2 ∙ nothing ws tame r.0 r.1 r.3

    lists : ListsDegree m 0 l
    lists x = (listed x, λ h. subst (In x) (sym is) (inl (only x 0 h).0))
      where
        listed : (x : CodeExp) → In x l.items → get exp_cmp m x ≡ Some 0
        listed x i = go (subst (In x) is i)
          where
            go : (x ≡ code_of origin) ⊎ ⊥ → get exp_cmp m x ≡ Some 0
            go (inl e) = ap (get exp_cmp m) e ∙ has
            go (inr f) = absurd f

    first : (i : ℕ) (k : Level) → i ≤ 0 → k ≡ get_or levels i k → ListsDegree m i k
    first i k le e =
        let z : i ≡ 0 = omega (arith, le) in
        let s : k ≡ l = e ∙ ap (λ (n : ℕ). get_or levels n k) z ∙ ap (λ (ks : List Level). get_or ks 0 k) ls in
        subst (λ (n : ℕ). ListsDegree m n k) (sym z) (subst (ListsDegree m 0) (sym s) lists)

-- ---- what is new is reached

module _ (b n : ℕ) (vs : List Wall) (tame : Every IsTame (cut_walls b vs)) (le : n + 1 ≤ b) (m : Known) (levels : List Level) (steps : List (CodeExp × ℕ)) (h : IsReachedTo (cut_walls b vs) n m levels steps) where
  abbrev vs' : List Wall
  vs' = cut_walls b vs

  pub from-step : (x : CodeExp) → IsStepped steps levels (n + 1) x → (s : CodeExp × ℕ) × (j : ℕ) × In s steps × (s.1 + j ≡ n + 1) × IsReachedBy vs' (exp_sub (exp_of x) (exp_of s.0)) j
  from-step x r =
      let s = r.0 in
      let l = r.1 in
      let o = h.sources s r.2 in
      let low = o.0 in
      let high = o.1 in
      let y = r.4.0 in
      let is = h.listed ((n + 1) - s.1) l (omega (arith, low)) r.3 y in
      (s, (n + 1) - s.1, r.2, omega (arith, low, high), subst (λ (z : Exp). IsReachedBy vs' z ((n + 1) - s.1)) (sym (back (exp_of x) (exp_of s.0) (exp_of y) r.4.2)) ((h.sound y ((n + 1) - s.1) (is.0 r.4.1)).1.reached))

  pub step-reached : (x : CodeExp) → IsStepped steps levels (n + 1) x → IsReachedBy vs' (exp_of x) (n + 1)
  step-reached x r =
      let c = from-step x r in
      subst (λ (y : Exp). IsReachedBy vs' y (n + 1)) (sym (forth (exp_of x) (exp_of c.0.0) (exp_sub (exp_of x) (exp_of c.0.0)) refl))
      (subst (IsReachedBy vs' (exp_add (exp_of c.0.0) (exp_sub (exp_of x) (exp_of c.0.0)))) c.3 (reached-add vs' (exp_of c.0.0) (exp_sub (exp_of x) (exp_of c.0.0)) c.0.1 c.1 ((h.sources c.0 c.2).2) c.4))

  pub own-reached : (x : CodeExp) → IsTermOfSome (n + 1) vs x → IsReachedBy vs' (exp_of x) (n + 1)
  own-reached x r =
      let t = cut-term b (n + 1) vs x (omega arith) le r in
      subst (λ (y : Exp). IsReachedBy vs' y (n + 1)) (sym t.2) (subst (IsReachedBy vs' t.0.0.exp) t.3 (reached-term vs' tame t.0 t.1))

-- ---- one degree more

module _ (b n : ℕ) (vs : List Wall) (tame : Every IsTame (cut_walls b vs)) (levels : List Level) (steps after : List (CodeExp × ℕ)) (old mid new : Growth)
    (h : IsReachedTo (cut_walls b vs) n old.known levels steps) (none : old.level.items ≡ []) (is : old.degree ≡ n + 1) (le : n + 1 ≤ b)
    (p : Gains (IsStepped steps levels (n + 1)) old mid) (q : Gains (IsTermOfSome (n + 1) vs) mid new) (more : AddsSteps (IsTermOfSome (n + 1) vs) mid new steps after) where
  abbrev ws : List Wall
  ws = cut_walls b vs

  stepped : (x : CodeExp) → IsStepped steps levels (n + 1) x → (s : CodeExp × ℕ) × (j : ℕ) × In s steps × (s.1 + j ≡ n + 1) × IsReachedBy ws (exp_sub (exp_of x) (exp_of s.0)) j
  stepped x r = from-step b n vs tame le old.known levels steps h x r

  stepped-reached : (x : CodeExp) → IsStepped steps levels (n + 1) x → IsReachedBy ws (exp_of x) (n + 1)
  stepped-reached x r = step-reached b n vs tame le old.known levels steps h x r

  term-reached : (x : CodeExp) → IsTermOfSome (n + 1) vs x → IsReachedBy ws (exp_of x) (n + 1)
  term-reached x r = own-reached b n vs tame le old.known levels steps h x r

  -- where it comes from
  data Origin (x : CodeExp) (i : ℕ) : Type 0 where
    Old : Has old x i → Origin x i
    Stepped : i ≡ n + 1 → IsStepped steps levels (n + 1) x → Origin x i
    Term_of : i ≡ n + 1 → IsTermOfSome (n + 1) vs x → Origin x i

  mid-origin : (x : CodeExp) (i : ℕ) → Has mid x i → Origin x i
  mid-origin x i e = go (p.each x i e)
    where
      go : Has old x i ⊎ ((i ≡ old.degree) × IsStepped steps levels (n + 1) x) → Origin x i
      go (inl k) = Old k
      go (inr k) = Stepped (k.0 ∙ is) k.1

  new-origin : (x : CodeExp) (i : ℕ) → Has new x i → Origin x i
  new-origin x i e = go (q.each x i e)
    where
      go : Has mid x i ⊎ ((i ≡ mid.degree) × IsTermOfSome (n + 1) vs x) → Origin x i
      go (inl k) = mid-origin x i k
      go (inr k) = Term_of (k.0 ∙ p.degree ∙ is) k.1

  kept : (x : CodeExp) (i : ℕ) → Has old x i → Has new x i
  kept x i e = q.keeps x i (p.keeps x i e)

  -- what is new is reached by nothing lower
  unreached : (x : CodeExp) → Has new x (n + 1) → (i : ℕ) → IsReachedBy ws (exp_of x) i → n + 1 ≤ i
  unreached x e i r = go (le_or i)
    where
      le_or : (i : ℕ) → (i ≤ n) ⊎ (n + 1 ≤ i)
      le_or i = split (nat_le i n) refl
        where
          split : (c : Bool) → nat_le i n ≡ c → (i ≤ n) ⊎ (n + 1 ≤ i)
          split true f = inl (grind arith)
          split false f = inr (grind arith)

      go : (i ≤ n) ⊎ (n + 1 ≤ i) → n + 1 ≤ i
      go (inr l) = l
      go (inl l) =
          let k = h.all (exp_of x) i l r in
          let same : k.0 ≡ x = coded k.0 (exp_of x) k.2 in
          let has : Has old x k.1 = subst (λ (y : CodeExp). Has old y k.1) same k.3 in
          let low = (h.sound x k.1 has).0 in
          let one : k.1 ≡ n + 1 = value-of k.1 (n + 1) (sym (kept x k.1 has) ∙ e) in
          absurd (omega (arith, low, one))

  sound : (x : CodeExp) (i : ℕ) → Has new x i → (i ≤ n + 1) × IsLeastReach ws (exp_of x) i
  sound x i e = go (new-origin x i e)
    where
      top : i ≡ n + 1 → IsReachedBy ws (exp_of x) (n + 1) → (i ≤ n + 1) × IsLeastReach ws (exp_of x) i
      top f r = (omega (arith, f), subst (IsLeastReach ws (exp_of x)) (sym f) (record { reached = r; least = unreached x (subst (Has new x) f e) }))

      go : Origin x i → (i ≤ n + 1) × IsLeastReach ws (exp_of x) i
      go (Old k) = let s = h.sound x i k in let l = s.0 in (omega (arith, l), s.1)
      go (Stepped f r) = top f (stepped-reached x r)
      go (Term_of f r) = top f (term-reached x r)

  -- what is known is at its level
  at-level : (x : CodeExp) (j : ℕ) → Has old x j → (l : Level) × (l ≡ get_or levels j l) × In x l.items
  at-level x j e = go levels (let c = h.count in omega (arith, c))
    where
      below : j < length levels
      below = let c = h.count in let low = (h.sound x j e).0 in omega (arith, c, low)

      go : (ls : List Level) → 1 ≤ length ls → (l : Level) × (l ≡ get_or levels j l) × In x l.items
      go [] lt = absurd (omega (arith, lt))
      go (k ∷ ls) lt =
          let l = get_or levels j k in
          let f : l ≡ get_or levels j l = get_or_default levels j k l below in
          (l, f, (h.listed j l (h.sound x j e).0 f x).1 e)

  known-old : (y : Exp) → (j : ℕ) → Has old (code_of y) j → (x : CodeExp) × (i : ℕ) × (exp_of x ≡ y) × Has new x i
  known-old y j e = (code_of y, j, refl, kept (code_of y) j e)

  -- what comes from lower ones does so by the steps
  lower : (y : Exp) (i : ℕ) → 1 ≤ i → i < n + 1 → IsLeastReach ws y i → IsGrown ws (reached_of steps) y i
  lower y i l lt r =
      let k = h.all y i (omega (arith, lt)) r.reached in
      let x = k.0 in
      let one : k.1 ≡ i = least-one ws y k.1 i (subst (λ (z : Exp). IsLeastReach ws z k.1) k.2 (h.sound x k.1 k.3).1) r in
      subst (λ (z : Exp). IsGrown ws (reached_of steps) z i) k.2 (h.grown x i (subst (Has old x) one k.3) l)

  each-step : Every (λ s. IsReachedBy ws s.0 s.1) (reached_of steps)
  each-step = Every-from_In (λ s. IsReachedBy ws s.0 s.1) (reached_of steps) (λ s i.
      let r = In-map (λ (t : CodeExp × ℕ). (exp_of t.0, t.1)) steps s i in
      subst (λ (u : Exp × ℕ). IsReachedBy ws u.0 u.1) (sym r.2) (h.sources r.0 r.1).2)

  all : (y : Exp) (i : ℕ) → i ≤ n + 1 → IsReachedBy ws y i → (x : CodeExp) × (j : ℕ) × (exp_of x ≡ y) × Has new x j
  all y i l r = go (get exp_cmp old.known (code_of y)) refl
    where
      absent-low : get exp_cmp old.known (code_of y) ≡ None → (j : ℕ) → IsReachedBy ws y j → n + 1 ≤ j
      absent-low e j k = split (nat_le j n) refl
        where
          split : (c : Bool) → nat_le j n ≡ c → n + 1 ≤ j
          split false f = grind arith
          split true f =
              let a = h.all y j (grind arith) k in
              let same : a.0 ≡ code_of y = coded a.0 y a.2 in
              let has : Has old (code_of y) a.1 = subst (λ (x : CodeExp). Has old x a.1) same a.3 in
              absurd (let t : Some a.1 ≡ None = sym has ∙ e in cc)

      top : get exp_cmp old.known (code_of y) ≡ None → i ≡ n + 1
      top e = let a = absent-low e i r in omega (arith, a, l)

      least : get exp_cmp old.known (code_of y) ≡ None → IsLeastReach ws y (n + 1)
      least e = record { reached = subst (IsReachedBy ws y) (top e) r; least = absent-low e }

      find : ((s : Exp × ℕ) × (j : ℕ) × In s (reached_of steps) × (s.1 + j ≡ n + 1) × IsLeastReach ws (exp_sub y s.0) j) ⊎ ((t : Term) × IsWallTerm ws t × (t.0.exp ≡ y) × (degree t.0 ≡ n + 1))
          → (x : CodeExp) × (j : ℕ) × (exp_of x ≡ y) × Has new x j
      find (inl f) =
          let m = In-map (λ (t : CodeExp × ℕ). (exp_of t.0, t.1)) steps f.0 f.2 in
          let s = m.0 in
          let d : s.1 ≡ f.0.1 = ap (λ (u : Exp × ℕ). u.1) (sym m.2) in
          let x : exp_of s.0 ≡ f.0.0 = ap (λ (u : Exp × ℕ). u.0) (sym m.2) in
          let o = h.sources s m.1 in
          let low = o.0 in
          let sum = f.3 in
          let a = h.all (exp_sub y f.0.0) f.1 (omega (arith, low, sum, d)) f.4.reached in
          let one : a.1 ≡ f.1 = least-one ws (exp_sub y f.0.0) a.1 f.1 (subst (λ (z : Exp). IsLeastReach ws z a.1) a.2 (h.sound a.0 a.1 a.3).1) f.4 in
          let at = at-level a.0 f.1 (subst (Has old a.0) one a.3) in
          let left : f.1 ≡ (n + 1) - s.1 = omega (arith, sum, d) in
          let sums : exp_of (code_of y) ≡ exp_add (exp_of s.0) (exp_of a.0) = forth y (exp_of s.0) (exp_of a.0) (ap (exp_sub y) x ∙ sym a.2) in
          let g = p.all (code_of y) (s, at.0, m.1, subst (λ (k : ℕ). at.0 ≡ get_or levels k at.0) left at.1, (a.0, at.2, sums)) in
          (code_of y, g.0, refl, q.keeps (code_of y) g.0 g.1)
      find (inr f) =
          let w = whole-term b vs f.0 f.1 in
          let g = q.all (code_of y) (w.0, w.1, (f.0, w.2, f.3, sym f.2)) in
          (code_of y, g.0, refl, g.1)

      go : (o : Option ℕ) → get exp_cmp old.known (code_of y) ≡ o → (x : CodeExp) × (j : ℕ) × (exp_of x ≡ y) × Has new x j
      go (Some j) e = known-old y j e
      go None e = find (grows ws tame (reached_of steps) y (n + 1) each-step lower (omega arith) (least e))

  tracked : IsTracked new
  tracked = q.tracks (p.tracks (
    (λ x i. absurd (subst (In x) none i)),
    λ x e. absurd (let low = (h.sound x old.degree e).0 in omega (arith, low, is)),
  ))

  new-degree : new.degree ≡ n + 1
  new-degree = q.degree ∙ p.degree ∙ is

  high-levels : (i : ℕ) (l : Level) → i ≤ n + 1 → l ≡ get_or (levels ++ new.level ∷ []) i l → ListsDegree new.known i l
  high-levels i l lt e = split (nat_le i n) refl
    where
      old-only : (x : CodeExp) → i ≤ n → Origin x i → Has old x i
      old-only x low (Old k) = k
      old-only x low (Stepped f r) = absurd (omega (arith, low, f))
      old-only x low (Term_of f r) = absurd (omega (arith, low, f))

      last : i ≡ n + 1 → l ≡ new.level
      last f = let c = h.count in e ∙ ap (λ (k : ℕ). get_or (levels ++ new.level ∷ []) k l) (f ∙ sym c) ∙ at-end levels
        where
          at-end : (ls : List Level) → get_or (ls ++ new.level ∷ []) (length ls) l ≡ new.level
          at-end [] = refl
          at-end (k ∷ ls) = at-end ls

      front : i < length levels → get_or (levels ++ new.level ∷ []) i l ≡ get_or levels i l
      front lt = at-front levels i lt
        where
          at-front : (ls : List Level) (k : ℕ) → k < length ls → get_or (ls ++ new.level ∷ []) k l ≡ get_or ls k l
          at-front [] k lt = absurd (omega (arith, lt))
          at-front (m ∷ ls) zero lt = refl
          at-front (m ∷ ls) (suc k) lt = at-front ls k (omega (arith, lt))

      split : (c : Bool) → nat_le i n ≡ c → ListsDegree new.known i l
      split true f =
          let low : i ≤ n = grind arith in
          let c = h.count in
          let k = h.listed i l low (e ∙ front (omega (arith, c, low))) in
          λ x. ((λ j. kept x i ((k x).0 j)), λ g. (k x).1 (old-only x low (new-origin x i g)))
      split false f =
          let top : i ≡ n + 1 = grind (arith, lt) in
          λ x. (
            (λ j. subst (Has new x) (new-degree ∙ sym top) (tracked.0 x (subst (λ (k : Level). In x k.items) (last top) j))),
            λ g. subst (λ (k : Level). In x k.items) (sym (last top)) (tracked.1 x (subst (Has new x) (top ∙ sym new-degree) g)),
          )

  later-steps : (s : CodeExp × ℕ) → In s after → (1 ≤ s.1) × (s.1 ≤ n + 1) × IsReachedBy ws (exp_of s.0) s.1
  later-steps s i = go (more.each s i)
    where
      go : In s steps ⊎ (IsTermOfSome (n + 1) vs s.0 × (s.1 ≡ mid.degree)) → (1 ≤ s.1) × (s.1 ≤ n + 1) × IsReachedBy ws (exp_of s.0) s.1
      go (inl j) = let o = h.sources s j in let high = o.1 in (o.0, omega (arith, high), o.2)
      go (inr t) = let d : s.1 ≡ n + 1 = t.1 ∙ p.degree ∙ is in (omega (arith, d), omega (arith, d), subst (IsReachedBy ws (exp_of s.0)) (sym d) (term-reached s.0 t.0))

  coded-in : (s : CodeExp × ℕ) (ss : List (CodeExp × ℕ)) → In s ss → In (exp_of s.0, s.1) (reached_of ss)
  coded-in s ss i = In-mapped (λ (t : CodeExp × ℕ). (exp_of t.0, t.1)) ss s i

  more-grown : (x : CodeExp) (i : ℕ) → IsGrown ws (reached_of steps) (exp_of x) i → IsGrown ws (reached_of after) (exp_of x) i
  more-grown x i g = let m = In-map (λ (t : CodeExp × ℕ). (exp_of t.0, t.1)) steps g.0 g.2 in (g.0, g.1, subst (λ (u : Exp × ℕ). In u (reached_of after)) (sym m.2) (coded-in m.0 after (more.keeps m.0 m.1)), g.3, g.4)

  grown : (x : CodeExp) (i : ℕ) → Has new x i → 1 ≤ i → IsGrown ws (reached_of after) (exp_of x) i
  grown x i e l = go (new-origin x i e)
    where
      by-step : i ≡ n + 1 → IsStepped steps levels (n + 1) x → IsGrown ws (reached_of after) (exp_of x) i
      by-step f r = let c = stepped x r in ((exp_of c.0.0, c.0.1), c.1, coded-in c.0 after (more.keeps c.0 c.2), c.3 ∙ sym f, c.4)

      early : Origin x i → (i ≡ n + 1 → IsTermOfSome (n + 1) vs x → IsGrown ws (reached_of after) (exp_of x) i) → IsGrown ws (reached_of after) (exp_of x) i
      early (Old k) t = more-grown x i (h.grown x i k l)
      early (Stepped f r) t = by-step f r
      early (Term_of f r) t = t f r

      own : i ≡ n + 1 → IsKnown mid x ⊎ In (x, mid.degree) after → IsGrown ws (reached_of after) (exp_of x) i
      own f (inr j) = ((exp_of x, i), 0, coded-in (x, i) after (subst (λ (k : ℕ). In (x, k) after) (p.degree ∙ is ∙ sym f) j), omega arith, subst (λ (y : Exp). IsReachedBy ws y 0) (sym (sub-self (exp_of x))) (reached-none ws))
      own f (inl k) =
          let one : k.0 ≡ i = value-of k.0 i (sym (q.keeps x k.0 k.1) ∙ e) in
          early (mid-origin x i (subst (Has mid x) one k.1)) (λ g r. twice (subst (Has mid x) one k.1))
        where
          twice : Has mid x i → IsGrown ws (reached_of after) (exp_of x) i
          twice m = again (p.each x i m)
            where
              again : Has old x i ⊎ ((i ≡ old.degree) × IsStepped steps levels (n + 1) x) → IsGrown ws (reached_of after) (exp_of x) i
              again (inl o) = more-grown x i (h.grown x i o l)
              again (inr r) = by-step (r.0 ∙ is) r.1

      go : Origin x i → IsGrown ws (reached_of after) (exp_of x) i
      go o = early o (λ f r. own f (more.all x (i, e)))

  pub reached-next : IsReachedTo ws (n + 1) new.known (levels ++ new.level ∷ []) after
  reached-next = record {
    sound = sound;
    all = all;
    count = let c = h.count in length-append levels (new.level ∷ []) ∙ omega (arith, c);
    listed = high-levels;
    sources = later-steps;
    grown = grown;
    few = q.few (p.few h.few);
  }

-- ---- what a degree needs, and what stops it

module _ (b n : ℕ) (vs : List Wall) (tame : AreTameWalls vs) (low : n ≤ highest_order) (m : Known) (levels : List Level) (steps : List (CodeExp × ℕ)) (h : IsReachedTo (cut_walls b vs) n m levels steps) where
  terms-within : AreTermsWithin exponent_per_degree (cut_walls b vs)
  terms-within t i = let w = whole-term b vs t i in Every-at IsTameTerm w.0.function t (Every-at (λ v. Every IsTameTerm v.function) vs w.0 tame w.1) w.2

  near : (x : Exp) (i : ℕ) → i ≤ n → IsReachedBy (cut_walls b vs) x i → (nat_abs x.a ≤ largest_exponent) × (nat_abs x.b ≤ largest_exponent)
  near x i l r =
      let w = reached-within (cut_walls b vs) exponent_per_degree terms-within x i r in
      let p = w.0 in
      let q = w.1 in
      (omega (arith, p, l, low), omega (arith, q, l, low))

  pub steps-within : AreSteps (n + 1) steps
  steps-within k d lt =
      let s = get_or steps k d in
      let o = h.sources s (in-at steps s (k, lt, sym (get_or_default steps k d s lt) ∙ refl)) in
      let high = o.1 in
      (near (exp_of s.0) s.1 o.1 o.2, o.0, omega (arith, high))

  pub levels-within : AreLevelsSummable levels
  levels-within k d lt k' d' lt' =
      let l = get_or levels k d in
      let x = get_or l.items k' d' in
      let c = h.count in
      let i : k ≤ n = omega (arith, lt, c) in
      let has = (h.listed k l i (get_or_default levels k d l lt) x).0 (in-at l.items x (k', lt', sym (get_or_default l.items k' d' x lt') ∙ refl)) in
      near (exp_of x) k i ((h.sound x k has).1.reached)

-- too many that are reached
pub reach-fault : (b n : ℕ) (vs : List Wall) (g : Growth) (P : CodeExp → Type 0) (f : AskFault) → n ≤ b → ((x : CodeExp) (i : ℕ) → Has g x i → (i ≤ n) × IsReachedBy (cut_walls b vs) (exp_of x) i) → ((x : CodeExp) → P x → IsReachedBy (cut_walls b vs) (exp_of x) n) → IsTooMany P g f → IsReachFault b vs f
reach-fault b n vs g P (NotYet i) le h k t = t
reach-fault b n vs g P (NotGeneric p) le h k t = t
reach-fault b n vs g P TooManyReach le h k t = (map exp_of t.0, Every-images (λ d. ReachTo vs b d b) exp_of t.0 (Every-implies (λ x. IsKnown g x ⊎ P x) (λ x. ReachTo vs b (exp_of x) b) t.0 each t.1), distinct t.0 t.2, subst (λ (i : ℕ). most_reached < i) (sym (length-map t.0 exp_of)) t.3)
  where
    each : (x : CodeExp) → IsKnown g x ⊎ P x → ReachTo vs b (exp_of x) b
    each x (inl q) = let r = h x q.0 q.1 in let l = r.0 in (q.0, omega (arith, l, le), r.1)
    each x (inr p) = (n, le, k x p)

    apart : (x : CodeExp) (xs : List CodeExp) → Every (λ y. x ≢ y) xs → Every (λ (y : Exp). exp_of x ≢ y) (map exp_of xs)
    apart x [] q = tt
    apart x (y ∷ xs) q = ((λ e. q.0 (ap code_of e)), apart x xs q.1)

    distinct : (xs : List CodeExp) → Distinct xs → Distinct (map exp_of xs)
    distinct [] q = tt
    distinct (x ∷ xs) q = (apart x xs q.0, distinct xs q.1)
reach-fault b n vs g P TooManyTails le h k t = t
reach-fault b n vs g P PointTooLarge le h k t = t
reach-fault b n vs g P WeightTooLarge le h k t = t
reach-fault b n vs g P Memory le h k t = t

-- ---- the end

pub reach-map : (b : ℕ) (vs : List Wall) (m : Known) (levels : List Level) (steps : List (CodeExp × ℕ)) → IsReachedTo (cut_walls b vs) b m levels steps → IsReachMap b vs m
reach-map b vs m levels steps h = record {
  each = λ x n e. let s = h.sound x n e in (record { reached = s.1.reached; least = s.1.least }, s.0);
  all = λ d r. let k = h.all d r.0 r.1 r.2 in (k.0, k.1, k.2, k.3);
  few = h.few;
}

-- what was gained by the steps is reached
pub gained-reached : (b n : ℕ) (vs : List Wall) → Every IsTame (cut_walls b vs) → n + 1 ≤ b → (m : Known) (levels : List Level) (steps : List (CodeExp × ℕ)) → IsReachedTo (cut_walls b vs) n m levels steps → (old new : Growth) → old.known ≡ m → old.degree ≡ n + 1 → Gains (IsStepped steps levels (n + 1)) old new
    → (x : CodeExp) (i : ℕ) → Has new x i → (i ≤ n + 1) × IsReachedBy (cut_walls b vs) (exp_of x) i
gained-reached b n vs tame le m levels steps h old new e d g x i k = go (g.each x i k)
  where
    go : Has old x i ⊎ ((i ≡ old.degree) × IsStepped steps levels (n + 1) x) → (i ≤ n + 1) × IsReachedBy (cut_walls b vs) (exp_of x) i
    go (inl o) = let s = h.sound x i (subst (λ (q : Known). get exp_cmp q x ≡ Some i) e o) in let l = s.0 in (omega (arith, l), s.1.reached)
    go (inr r) = let f : i ≡ n + 1 = r.0 ∙ d in (omega (arith, f), subst (IsReachedBy (cut_walls b vs) (exp_of x)) (sym f) (step-reached b n vs tame le m levels steps h x r.1))

-- the map with (0, 0) alone
pub one-entry : (m n : Known) (x : CodeExp) (y : CodeExp) (i : ℕ) → m.entries ≡ [] → Updates exp_cmp m n x (Some 0) → get exp_cmp n y ≡ Some i → (y ≡ x) × (i ≡ 0)
one-entry m n x y i none u e = go (is_eq (exp_cmp x y)) refl
  where
    empty : get exp_cmp m y ≡ None
    empty = ap (λ (es : List (CodeExp × ℕ)). lookup (is_at (exp_cmp y)) es) none

    equal : (o : Ordering) → is_eq o ≡ true → o ≡ Equal
    equal Less f = absurd (cc)
    equal Equal f = refl
    equal Greater f = absurd (cc)

    here : get exp_cmp n x ≡ Some 0
    here = u.0 x ∙ ap (λ (b : Bool). cond b (Some 0) (get exp_cmp m x)) (ap is_eq (equal-itself x))

    go : (b : Bool) → is_eq (exp_cmp x y) ≡ b → (y ≡ x) × (i ≡ 0)
    go true f = let same : x ≡ y = exact-exp x y (equal (exp_cmp x y) f) in (sym same, value-of i 0 (sym e ∙ ap (get exp_cmp n) (sym same) ∙ here))
    go false f = absurd (let t : Some i ≡ None = sym e ∙ u.0 y ∙ ap (λ (b : Bool). cond b (Some 0) (get exp_cmp m y)) f ∙ empty in cc)

pub entry-here : (m n : Known) (x : CodeExp) → Updates exp_cmp m n x (Some 0) → get exp_cmp n x ≡ Some 0
entry-here m n x u = u.0 x ∙ ap (λ (b : Bool). cond b (Some 0) (get exp_cmp m x)) (ap is_eq (equal-itself x))
