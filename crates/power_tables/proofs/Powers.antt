-- Lists of terms for powers of u, and their terms of one degree.
use Rattle.std.proofs.Common.{◌≡◌, ℕ, zero, suc, ◌+◌, ◌*◌, ◌^◌, ◌<◌, ◌≤◌, ◌/◌, refl, sym, subst, ap, ◌∙◌, List, [], ◌∷◌, ◌++◌, length, take, arith}
use Rattle.std.specs.Prelude.{◌==◌}
use Rattle.std.proofs.lemmas.Nat.{le-div}
use Rattle.std.proofs.Math.Nat.{div-mul-le_self}
use Rattle.std.proofs.lemmas.List.{take_more}
use Rattle.scattering.specs.Collections.{Every}
use Rattle.scattering.specs.Series.{Key, Term, Sum, degree, key_mul, one, mul, pow}
use Rattle.scattering.specs.ThetaProduct.{of_degree}
use Rattle.scattering.proofs.Lists.{Every-implies, Every-append, Every-filter}
use Rattle.trunc_series.specs.declared.arithmetic.Arithmetic.{Arithmetic}
use Rattle.trunc_series.specs.Arithmetic.{kept, IsKeepable}
use Rattle.trunc_series.specs.Reduced.{Terms, IsNearKey, GrowsSlowly}
use Rattle.trunc_series.specs.Shown.{sum_of, term_of}
use Rattle.trunc_series.proofs.Terms.{no_term, at, sum_of-append}
use Rattle.trunc_series.proofs.Congruence.{mul-comm}
use Rattle.trunc_series.proofs.PowerLaws.{mul-every, pow-keepable}
use Rattle.trunc_series.proofs.PowersNear.{tame-near}
use Rattle.trunc_series.proofs.Coefficients.{abs-add}
use Rattle.trunc_series.proofs.Kept.{keepable-one, kept-one}
use Rattle.trunc_series.proofs.Products.{low-mul}
use Rattle.scattering.proofs.ShiftedSums.{degree-mul}
use Rattle.trunc_series.specs.Sums.{AreKeptValues, StandsFor}
use Rattle.trunc_series.proofs.TermLists.{keepable-values, stands-every}
use Rattle.power_tables.specs.declared.table.Part.{Part}
use Rattle.power_tables.specs.Made.{TermVec, IsOthers, IsWithinDegrees, IsPower, ArePowersFrom, AreLevels, HasLevels, AreListed}
use Rattle.power_tables.proofs.Alike.{Alike, alike-refl, alike-mul}

-- ---- the least degree

pub least-more : (ts : Terms) (i least next : ℕ) → i < length ts → next ≤ least → next ≤ degree (term_of (at ts i)).0 → Every (λ t. least ≤ degree t.0) (sum_of (take i ts)) → Every (λ t. next ≤ degree t.0) (sum_of (take (i + 1) ts))
least-more ts i least next h l d e =
    subst (λ (f : Sum). Every (λ t. next ≤ degree t.0) f) (sym (ap sum_of (take_more ts i no_term h) ∙ sum_of-append (take i ts) (at ts i ∷ [])))
    (Every-append (λ t. next ≤ degree t.0) (sum_of (take i ts)) (term_of (at ts i) ∷ []) (Every-implies (λ t. least ≤ degree t.0) (λ t. next ≤ degree t.0) (sum_of (take i ts)) (λ t q. omega (arith, q, l)) e) (d, tt))

-- ---- powers

pub within-mul : (s : ℕ) (k l : Key) → IsWithinDegrees s (degree k) k → IsWithinDegrees s (degree l) l → IsWithinDegrees s (degree (key_mul k l)) (key_mul k l)
within-mul s k l h i =
    let p = h.0 in let q = h.1 in let r = i.0 in let t = i.1 in
    let d = degree-mul k l in
    let a = abs-add k.exp.a l.exp.a in
    let b = abs-add k.exp.b l.exp.b in
    let e : s * (degree k + degree l) ≡ s * degree k + s * degree l = omega arith in
    (rw d (omega (arith, a, p, r, e)), rw d (omega (arith, b, q, t, e)))

module _ (rule : Arithmetic) (k m : ℕ) (u : Sum) (o : IsOthers rule m u) where
  pub others-near : Every (λ t. IsNearKey t.0) u
  others-near = tame-near m u o.high o.tame o.reduced.series.low

  pub no-power : IsPower rule k u 0 one
  no-power = record {
    values = ((kept-one rule, keepable-one rule), tt);
    low = (omega arith, tt);
    grows = λ s h. ((omega arith, omega arith), tt);
    same = λ x. refl;
  }

  pub power-near : (r : ℕ) (p : Sum) → k ≤ 24 → IsPower rule k u r p → Every (λ t. IsNearKey t.0) p
  power-near r p h i =
      tame-near k p h
      (Every-implies (λ (t : Term). IsWithinDegrees (2 ^ 16) (degree t.0) t.0) (λ t. GrowsSlowly t.0) p (λ t q. let a = q.0 in let b = q.1 in (omega (arith, a), omega (arith, b)))
      (i.grows (2 ^ 16) (Every-implies (λ (t : Term). GrowsSlowly t.0) (λ t. IsWithinDegrees (2 ^ 16) (degree t.0) t.0) u (λ t q. let a = q.0 in let b = q.1 in (omega (arith, a), omega (arith, b))) o.tame)))
      i.low

  pub power-next : (r : ℕ) (p q : Sum) → IsPower rule k u r p → StandsFor rule q (mul k p u) → IsPower rule k u (r + 1) q
  power-next r p q i s =
      let e : suc r ≡ r + 1 = omega arith in
      let a : Alike rule p (pow k u r) = record { left = keepable-values rule p i.values; right = pow-keepable rule k u o.reduced.keepable r; same = i.same } in
      subst (λ (n : ℕ). IsPower rule k u n q) e
      record {
        values = s.values;
        low = stands-every rule (λ x. degree x ≤ k) q (mul k p u) s (low-mul k p u);
        grows = λ n h. stands-every rule (λ x. IsWithinDegrees n (degree x) x) q (mul k p u) s (mul-every (λ x. IsWithinDegrees n (degree x) x) (λ x. IsWithinDegrees n (degree x) x) (λ x. IsWithinDegrees n (degree x) x) (within-mul n) k p u (i.grows n h) h);
        same = λ x. s.same x ∙ (alike-mul rule k p (pow k u r) u u a (alike-refl rule u o.reduced.keepable)).same x ∙ ap (kept rule) (mul-comm k (pow k u r) u x);
      }

pub powers-push : (rule : Arithmetic) (k : ℕ) (u : Sum) (r : ℕ) (ps : List TermVec) (p : TermVec) → ArePowersFrom rule k u r ps → IsPower rule k u (r + length ps) (sum_of p.items) → ArePowersFrom rule k u r (ps ++ p ∷ [])
powers-push rule k u r [] p h i = (subst (λ (j : ℕ). IsPower rule k u j (sum_of p.items)) (let e : r + 0 ≡ r = omega arith in e) i, tt)
powers-push rule k u r (q ∷ ps) p h i = (h.0, powers-push rule k u (suc r) ps p h.1 (subst (λ (j : ℕ). IsPower rule k u j (sum_of p.items)) (let e : r + suc (length ps) ≡ suc r + length ps = omega arith in e) i))

-- ---- terms of one degree

pub levels-push : (i : ℕ) (ps qs : List TermVec) (p q : TermVec) → AreLevels i ps qs → sum_of q.items ≡ of_degree i (sum_of p.items) → AreLevels i (ps ++ p ∷ []) (qs ++ q ∷ [])
levels-push i [] [] p q h e = (e, tt)
levels-push i [] (b ∷ qs) p q h e = absurd h
levels-push i (a ∷ ps) [] p q h e = absurd h
levels-push i (a ∷ ps) (b ∷ qs) p q h e = (h.0, levels-push i ps qs p q h.1 e)

pub levels-length : (i : ℕ) (ps qs : List TermVec) → AreLevels i ps qs → length qs ≡ length ps
levels-length i [] [] h = refl
levels-length i [] (q ∷ qs) h = absurd h
levels-length i (p ∷ ps) [] h = absurd h
levels-length i (p ∷ ps) (q ∷ qs) h = ap suc (levels-length i ps qs h.1)

pub levels-values : (rule : Arithmetic) (i : ℕ) (ps qs : List TermVec) → AreLevels i ps qs → Every (λ p. AreKeptValues rule (sum_of p.items)) ps → Every (λ p. AreKeptValues rule (sum_of p.items)) qs
levels-values rule i [] [] h v = tt
levels-values rule i [] (q ∷ qs) h v = absurd h
levels-values rule i (p ∷ ps) [] h v = absurd h
levels-values rule i (p ∷ ps) (q ∷ qs) h v =
    (subst (λ (f : Sum). AreKeptValues rule f) (sym h.0) (Every-filter (λ t. (kept rule t.1 ≡ t.1) × IsKeepable rule t.1) (λ t. degree t.0 == i) (sum_of p.items) v.0), levels-values rule i ps qs h.1 v.1)

pub every-take : {A : Type 0} (P : A → Type 0) (xs : List A) (n : ℕ) → Every P xs → Every P (take n xs)
every-take P [] zero h = tt
every-take P [] (suc n) h = tt
every-take P (x ∷ xs) zero h = tt
every-take P (x ∷ xs) (suc n) h = (h.0, every-take P xs n h.1)

pub length-take : {A : Type 0} (n : ℕ) (xs : List A) → n ≤ length xs → length (take n xs) ≡ n
length-take zero xs h = refl
length-take (suc n) [] h = absurd (omega (arith, h))
length-take (suc n) (x ∷ xs) h = ap suc (length-take n xs (omega (arith, h)))

-- a quotient grows with its numerator
pub quotients : (l i k : ℕ) → 1 ≤ l → i ≤ k → i / l ≤ k / l
quotients l i k p h = le-div (i / l) k l (omega (arith, p)) (let m = div-mul-le_self i l in omega (arith, m, h))

pub some-lists : (l k i : ℕ) (ps ls : List TermVec) → 1 ≤ l → l ≤ i → i ≤ k → length ps ≡ k / l → AreLevels i (take (i / l) ps) ls → 1 ≤ length ls
some-lists l k i ps ls p h b e a =
    let q = quotients l i k p b in
    let t : length (take (i / l) ps) ≡ i / l = length-take (i / l) ps (omega (arith, q, e)) in
    let o : 1 ≤ i / l = le-div 1 i l (omega (arith, p)) (omega (arith, h)) in
    let n = levels-length i (take (i / l) ps) ls a in
    omega (arith, o, n, t)

pub listed-push : (rule : Arithmetic) (ps : List TermVec) (l i j : ℕ) (parts : List Part) (p : Part) → AreListed rule ps l i parts → i + length parts ≡ j → HasLevels rule j (take (j / l) ps) p → AreListed rule ps l i (parts ++ p ∷ [])
listed-push rule ps l i j [] p h e q = (subst (λ (n : ℕ). HasLevels rule n (take (n / l) ps) p) (let w : j ≡ i = omega (arith, e) in w) q, tt)
listed-push rule ps l i j (o ∷ parts) p h e q = (h.0, listed-push rule ps l (suc i) j parts p h.1 (omega (arith, e)) q)

pub powers-values : (rule : Arithmetic) (k : ℕ) (u : Sum) (r : ℕ) (ps : List TermVec) → ArePowersFrom rule k u r ps → Every (λ p. AreKeptValues rule (sum_of p.items)) ps
powers-values rule k u r [] h = tt
powers-values rule k u r (p ∷ ps) h = (h.0.values, powers-values rule k u (suc r) ps h.1)
