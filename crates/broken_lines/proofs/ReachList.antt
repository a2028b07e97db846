-- The exponents of a map, in order, as the definitions list them.
use Rattle.std.proofs.Common.{◌≡◌, ℕ, refl, sym, ap, subst, ◌∙◌, ◌≤◌, ◌⊎◌, inl, inr, arith, Bool, true, false, List, [], ◌∷◌, ℤ}
use Rattle.std.specs.Prelude.{Some, IsTrue, int_lt, ◌&&◌, ◌||◌}
use Rattle.std.proofs.lemmas.Int.{ints}
use Rattle.std.proofs.lemmas.List.{length-map}
use Rattle.std.specs.BTreeMap.{BTreeMap, is_at, IsOrdered}
use Rattle.std.specs.Map.{keys_of, lookup}
use Rattle.std.specs.List.{AllByRecursion}
use Rattle.std.specs.List.Sorted.{IsStrictlySortedBy}
use Rattle.std.specs.Ordering.{is_eq, int_cmp, ordering_then}
use Rattle.std.specs.declared.cmp.Ordering.{Ordering}
use Rattle.std.specs.declared.cmp.Ordering.TheVariants.{Less, Equal, Greater}
use Rattle.scattering.specs.Collections.{In, Every, EveryPair}
use Rattle.scattering.specs.Series.{Exp, exp_before, int_eq}
use Rattle.scattering.specs.Wall.{Wall}
use Rattle.scattering.specs.Tail.{IsReach}
use Rattle.scattering.proofs.Lists.{Every-images, Every-from_In, In-mapped}
use Rattle.trunc_series.specs.Shown.{exp_of}
use Rattle.trunc_series.specs.declared.key.Exp.{Exp as CodeExp}
use Rattle.broken_lines.specs.Growth.{exp_cmp}
use Rattle.broken_lines.specs.Reached.{IsReachMap, AreAllReached, reached_of}
use Rattle.broken_lines.proofs.Growths.{exact-exp, equal-itself, known-key}

-- ---- entries and values

pub key-of : (es : List (CodeExp × ℕ)) (x : CodeExp) (n : ℕ) → In (x, n) es → In x (keys_of es)
key-of [] x n i = absurd i
key-of (e ∷ es) x n (inl q) = inl (ap (λ (f : CodeExp × ℕ). f.0) q)
key-of (e ∷ es) x n (inr i) = inr (key-of es x n i)

less-at : (x y : CodeExp) (ys : List CodeExp) → AllByRecursion (λ z. exp_cmp x z ≡ Less) ys → In y ys → exp_cmp x y ≡ Less
less-at x y [] h i = absurd i
less-at x y (z ∷ ys) h (inl e) = ap (exp_cmp x) e ∙ h.0
less-at x y (z ∷ ys) h (inr i) = less-at x y ys h.1 i

pub entry-value : (es : List (CodeExp × ℕ)) (x : CodeExp) (n : ℕ) → IsStrictlySortedBy exp_cmp (keys_of es) → In (x, n) es → lookup (is_at (exp_cmp x)) es ≡ Some n
unfolding IsStrictlySortedBy
entry-value [] x n s i = absurd i
entry-value (e ∷ es) x n s i = go (is_at (exp_cmp x) e.0) refl i (entry-value es x n s.1)
  where
    equal : (o : Ordering) → is_eq o ≡ true → o ≡ Equal
    equal Less f = absurd (cc)
    equal Equal f = refl
    equal Greater f = absurd (cc)

    go : (b : Bool) → is_at (exp_cmp x) e.0 ≡ b → ((x, n) ≡ e) ⊎ In (x, n) es → (In (x, n) es → lookup (is_at (exp_cmp x)) es ≡ Some n) → lookup (is_at (exp_cmp x)) (e ∷ es) ≡ Some n
    go true f (inl q) r = rw f (ap (λ (g : CodeExp × ℕ). Some g.1) (sym q))
    go true f (inr j) r = absurd (let p : x ≡ e.0 = exact-exp x e.0 (equal (exp_cmp x e.0) f) in let l : exp_cmp e.0 x ≡ Less = less-at e.0 x (keys_of es) s.0 (key-of es x n j) in let t : Equal ≡ Less = sym (equal-itself e.0) ∙ ap (exp_cmp e.0) (sym p) ∙ l in cc)
    go false f (inl q) r = absurd (let t : is_at (exp_cmp x) e.0 ≡ true = ap (λ (g : CodeExp × ℕ). is_eq (exp_cmp x g.0)) (sym q) ∙ ap is_eq (equal-itself x) in cc)
    go false f (inr j) r = rw f (r j)

-- ---- their order

less-before : (a a' b b' : ℤ) → ordering_then (int_cmp a a') (int_cmp b b') ≡ Less → (int_lt a a' || (int_eq a a' && int_lt b b')) ≡ true
less-before a a' b b' e = grind (arith, ints, e)

rising : (es : List (CodeExp × ℕ)) → IsStrictlySortedBy exp_cmp (keys_of es) → EveryPair (λ (r s : Exp × ℕ). IsTrue (exp_before r.0 s.0)) (reached_of es)
unfolding IsStrictlySortedBy
rising [] s = tt
rising (e ∷ es) s = (first es s.0, rising es s.1)
  where
    first : (fs : List (CodeExp × ℕ)) → AllByRecursion (λ z. exp_cmp e.0 z ≡ Less) (keys_of fs) → Every (λ (s : Exp × ℕ). IsTrue (exp_before (exp_of e.0) s.0)) (reached_of fs)
    first [] h = tt
    first (f ∷ fs) h = (less-before e.0.a f.0.a e.0.b f.0.b h.0, first fs h.1)

pub reach-list : (b : ℕ) (ws : List Wall) (m : BTreeMap CodeExp ℕ) → IsReachMap b ws m → IsOrdered exp_cmp m → AreAllReached b ws (reached_of m.entries)
reach-list b ws m h o = record {
  each = Every-images (λ r. IsReach ws b r.0 r.1 × (r.1 ≤ b)) shown m.entries (Every-from_In (λ e. IsReach ws b (exp_of e.0) e.1 × (e.1 ≤ b)) m.entries (λ e i. h.each e.0 e.1 (entry-value m.entries e.0 e.1 o i)));
  all = λ d r. let k = h.all d r in (k.1, subst (λ (x : Exp). In (x, k.1) (reached_of m.entries)) k.2 (In-mapped shown m.entries (k.0, k.1) (known-key m.entries k.0 k.1 k.3)));
  sorted = rising m.entries o;
  few = let e = length-map m.entries shown in let l = h.few in omega (arith, e, l);
}
  where
    shown : CodeExp × ℕ → Exp × ℕ
    shown r = (exp_of r.0, r.1)
