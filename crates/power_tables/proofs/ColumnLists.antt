-- Columns of numbers beside a list of keys.
use Rattle.std.proofs.Common.{◌≡◌, ℕ, zero, suc, ◌+◌, ◌<◌, ◌≤◌, ◌⊎◌, inl, inr, refl, sym, subst, ap, ◌∙◌, Bool, true, false, cond, List, [], ◌∷◌, ◌++◌, map, length, get_or, set, take, zip, replicate, append_assoc, arith}
use Rattle.std.specs.Prelude.{ℤ, pos, ◌+ℤ◌}
use Rattle.std.proofs.lemmas.Slice.Zip.{length-zip, get_or-zip}
use Rattle.scattering.specs.Collections.{In, Every}
use Rattle.scattering.specs.Series.{Key, Term, Sum, key_eq, coef}
use Rattle.trunc_series.specs.declared.arithmetic.Arithmetic.{Arithmetic}
use Rattle.trunc_series.specs.declared.key.Key.{Key as CodeKey}
use Rattle.trunc_series.specs.Arithmetic.{kept}
use Rattle.trunc_series.specs.Reduced.{Terms}
use Rattle.trunc_series.specs.Shown.{key_of, term_of, sum_of}
use Rattle.std.proofs.lemmas.List.{take_more, take_all}
use Rattle.scattering.proofs.Pairing.{coef-append}
use Rattle.scattering.proofs.Lists.{Every-push}
use Rattle.trunc_series.proofs.Terms.{no_term, at, sum_of-append}
use Rattle.trunc_series.proofs.Coefficients.{add-zero}
use Rattle.trunc_series.proofs.Kept.{kept-zero, keepable-zero}
use Rattle.trunc_series.specs.Sums.{IsKeptValue, AreKeptValues, StandsFor}
use Rattle.trunc_series.proofs.TermLists.{stands-itself, stands-set, stands-pushed, stands-more}
use Rattle.power_tables.specs.Tables.{column_sum}
use Rattle.power_tables.specs.Made.{TermVec, GetsAt, GetsColumn, IsColumnOf, AreColumnsOf, HasKey}

pub zip-set : (ks : List CodeKey) (c : List ℤ) (i : ℕ) (d : CodeKey) (k : CodeKey) (v : ℤ) → i < length ks → i < length c → get_or ks i d ≡ k → set (zip ks c) i (k, v) ≡ zip ks (set c i v)
zip-set [] c i d k v h l e = absurd (omega (arith, h))
zip-set (x ∷ ks) [] i d k v h l e = absurd (omega (arith, l))
zip-set (x ∷ ks) (y ∷ c) zero d k v h l e = ap (λ (w : CodeKey). (w, v) ∷ zip ks c) (sym e)
zip-set (x ∷ ks) (y ∷ c) (suc i) d k v h l e = ap (λ (r : Terms). (x, y) ∷ r) (zip-set ks c i d k v (omega (arith, h)) (omega (arith, l)) e)

pub zip-push : (ks : List CodeKey) (c : List ℤ) (k : CodeKey) (v : ℤ) → length c ≡ length ks → zip (ks ++ k ∷ []) (c ++ v ∷ []) ≡ zip ks c ++ (k, v) ∷ []
zip-push [] [] k v e = refl
zip-push [] (y ∷ c) k v e = absurd (omega (arith, e))
zip-push (x ∷ ks) [] k v e = absurd (omega (arith, e))
zip-push (x ∷ ks) (y ∷ c) k v e = ap (λ (r : Terms). (x, y) ∷ r) (zip-push ks c k v (omega (arith, e)))

zip-none : (ks : List CodeKey) (c : List ℤ) → length c ≡ 0 → zip ks c ≡ []
zip-none [] [] e = refl
zip-none [] (y ∷ c) e = absurd (omega (arith, e))
zip-none (k ∷ ks) [] e = refl
zip-none (k ∷ ks) (y ∷ c) e = absurd (omega (arith, e))

-- keys behind the end of a column
pub zip-more : (ks more : List CodeKey) (c : List ℤ) → length c ≤ length ks → zip (ks ++ more) c ≡ zip ks c
zip-more [] more [] h = zip-none more [] refl
zip-more [] more (y ∷ c) h = absurd (omega (arith, h))
zip-more (x ∷ ks) more [] h = refl
zip-more (x ∷ ks) more (y ∷ c) h = ap (λ (r : Terms). (x, y) ∷ r) (zip-more ks more c (omega (arith, h)))

length-set : (c : List ℤ) (i : ℕ) (v : ℤ) → length (set c i v) ≡ length c
length-set [] i v = refl
length-set (y ∷ c) zero v = refl
length-set (y ∷ c) (suc i) v = ap suc (length-set c i v)

pub length-append : {A : Type 0} (xs ys : List A) → length (xs ++ ys) ≡ length xs + length ys
length-append [] ys = omega arith
length-append (x ∷ xs) ys = let h = length-append xs ys in omega (arith, h)

pub length-push : {A : Type 0} (xs : List A) (x : A) → length (xs ++ x ∷ []) ≡ length xs + 1
length-push [] x = refl
length-push (y ∷ xs) x = let h = length-push xs x in omega (arith, h)

module _ (rule : Arithmetic) (ks : List CodeKey) (c : List ℤ) (same : length c ≡ length ks) (e : AreKeptValues rule (column_sum ks c)) where
  -- a number more at a place that has the key
  pub gets-set : (i : ℕ) (t : CodeKey × ℤ) → i < length ks → get_or ks i no_term.0 ≡ t.0 → IsKeptValue rule t.1 → GetsAt rule ks ks c (set c i (kept rule (get_or c i (pos 0) +ℤ t.1))) t
  gets-set i t h q v =
      let h' : i < length c = omega (arith, same, h) in
      let z = length-zip ks c in
      let n : i < length (zip ks c) = omega (arith, z, same, h) in
      let a : get_or (zip ks c) i no_term ≡ (get_or ks i no_term.0, get_or c i (pos 0)) = get_or-zip ks c i no_term h h' in
      record {
        lengths = length-set c i _ ∙ same;
        extended = inl refl;
        stands =
            subst (λ (r : Terms). StandsFor rule (sum_of r) (term_of t ∷ column_sum ks c)) (zip-set ks c i no_term.0 t.0 _ h h' q)
            (subst (λ (x : ℤ). StandsFor rule (sum_of (set (zip ks c) i (t.0, kept rule (x +ℤ t.1)))) (term_of t ∷ column_sum ks c)) (ap (λ (u : CodeKey × ℤ). u.1) a)
            (stands-set rule (zip ks c) i no_term t.0 t.1 n (ap (λ (u : CodeKey × ℤ). u.0) a ∙ q) e v));
      }

  -- a key more
  pub gets-push : (t : CodeKey × ℤ) → IsKeptValue rule t.1 → GetsAt rule ks (ks ++ t.0 ∷ []) c (c ++ t.1 ∷ []) t
  gets-push t v = record {
    lengths = length-push c t.1 ∙ ap (λ n. n + 1) same ∙ sym (length-push ks t.0);
    extended = inr refl;
    stands = subst (λ (r : Terms). StandsFor rule (sum_of r) (term_of t ∷ column_sum ks c)) (sym (zip-push ks c t.0 t.1 same)) (stands-pushed rule (zip ks c) t e v);
  }

-- ---- a column that grows

pub get_or-any : {A : Type 0} (xs : List A) (i : ℕ) (d e : A) → i < length xs → get_or xs i d ≡ get_or xs i e
get_or-any [] i d e h = absurd (omega (arith, h))
get_or-any (x ∷ xs) zero d e h = refl
get_or-any (x ∷ xs) (suc i) d e h = get_or-any xs i d e (omega (arith, h))

pub column-value : (rule : Arithmetic) (ks : List CodeKey) (c : List ℤ) (i : ℕ) (d : ℤ) → length c ≡ length ks → i < length c → AreKeptValues rule (column_sum ks c) → IsKeptValue rule (get_or c i d)
column-value rule ks [] i d s h e = absurd (omega (arith, h))
column-value rule [] (y ∷ c) i d s h e = absurd (omega (arith, s))
column-value rule (x ∷ ks) (y ∷ c) zero d s h e = e.0
column-value rule (x ∷ ks) (y ∷ c) (suc i) d s h e = column-value rule ks c i d (omega (arith, s)) (omega (arith, h)) e.1

pub zeros-values : (rule : Arithmetic) (ks : List CodeKey) (n : ℕ) → AreKeptValues rule (column_sum ks (replicate n (pos 0)))
zeros-values rule [] zero = tt
zeros-values rule [] (suc n) = tt
zeros-values rule (k ∷ ks) zero = tt
zeros-values rule (k ∷ ks) (suc n) = ((kept-zero rule, keepable-zero rule), zeros-values rule ks n)

nothing : (b : Bool) (y : ℤ) → y ≡ pos 0 → cond b (pos 0) (pos 0) +ℤ y ≡ pos 0
nothing true y e = ap (λ c. pos 0 +ℤ c) e
nothing false y e = ap (λ c. pos 0 +ℤ c) e

pub zeros-coef : (ks : List CodeKey) (n : ℕ) (x : Key) → coef (column_sum ks (replicate n (pos 0))) x ≡ pos 0
zeros-coef [] zero x = refl
zeros-coef [] (suc n) x = refl
zeros-coef (k ∷ ks) zero x = refl
zeros-coef (k ∷ ks) (suc n) x = nothing (key_eq (key_of k) x) (coef (column_sum ks (replicate n (pos 0))) x) (zeros-coef ks n x)

pub length-zeros : (n : ℕ) → length (replicate n (pos 0)) ≡ n
length-zeros zero = refl
length-zeros (suc n) = ap suc (length-zeros n)

-- the keys ks, which were ks0, and the column of the first i terms
pub record Grows (rule : Arithmetic) (ks0 ks : List CodeKey) (c : List ℤ) (terms : Terms) (i : ℕ) : Type 0 where
  pub lengths : length c ≡ length ks
  pub extended : (more : List CodeKey) × (ks ≡ ks0 ++ more) × Every (λ k. In (key_of k) (map (λ (t : Term). t.0) (sum_of terms))) more
  pub stands : StandsFor rule (column_sum ks c) (sum_of (take i terms) ++ column_sum ks0 (replicate (length ks0) (pos 0)))

append-none : {A : Type 0} (xs : List A) → xs ≡ xs ++ []
append-none [] = refl
append-none (x ∷ xs) = ap (λ r. x ∷ r) (append-none xs)

pub grows-first : (rule : Arithmetic) (ks : List CodeKey) (terms : Terms) → Grows rule ks ks (replicate (length ks) (pos 0)) terms 0
grows-first rule ks terms = record {
  lengths = length-zeros (length ks);
  extended = ([], append-none ks, tt);
  stands = stands-itself rule (column_sum ks (replicate (length ks) (pos 0))) (zeros-values rule ks (length ks));
}

key-in : (terms : Terms) (i : ℕ) → i < length terms → In (key_of (at terms i).0) (map (λ (t : Term). t.0) (sum_of terms))
key-in [] i h = absurd (omega (arith, h))
key-in (t ∷ terms) zero h = inl refl
key-in (t ∷ terms) (suc i) h = inr (key-in terms i (omega (arith, h)))

pub grows-more : (rule : Arithmetic) (ks0 ks ks' : List CodeKey) (c c' : List ℤ) (terms : Terms) (i : ℕ) → i < length terms → IsKeptValue rule (at terms i).1 → Grows rule ks0 ks c terms i → GetsAt rule ks ks' c c' (at terms i) → Grows rule ks0 ks' c' terms (i + 1)
grows-more rule ks0 ks ks' c c' terms i h v g s = record {
  lengths = s.lengths;
  extended = keys s.extended;
  stands =
      subst (λ (f : Sum). StandsFor rule (column_sum ks' c') (f ++ column_sum ks0 (replicate (length ks0) (pos 0)))) (sym (ap sum_of (take_more terms i no_term h) ∙ sum_of-append (take i terms) (at terms i ∷ [])))
      (stands-more rule (column_sum ks c) (column_sum ks' c') (sum_of (take i terms)) (column_sum ks0 (replicate (length ks0) (pos 0))) (term_of (at terms i)) v.1 g.stands
      (subst (λ (y : ℤ). StandsFor rule (column_sum ks' c') ((key_of (at terms i).0, y) ∷ column_sum ks c)) (sym v.0) s.stands));
}
  where
    keys : (ks' ≡ ks) ⊎ (ks' ≡ ks ++ (at terms i).0 ∷ []) → (more : List CodeKey) × (ks' ≡ ks0 ++ more) × Every (λ k. In (key_of k) (map (λ (t : Term). t.0) (sum_of terms))) more
    keys (inl e) = (g.extended.0, e ∙ g.extended.1, g.extended.2)
    keys (inr e) = (
      g.extended.0 ++ (at terms i).0 ∷ [],
      e ∙ ap (λ (r : List CodeKey). r ++ (at terms i).0 ∷ []) g.extended.1 ∙ append_assoc ks0 g.extended.0 ((at terms i).0 ∷ []),
      Every-push (λ k. In (key_of k) (map (λ (t : Term). t.0) (sum_of terms))) g.extended.0 (at terms i).0 g.extended.2 (key-in terms i h),
    )

pub grows-last : (rule : Arithmetic) (ks0 ks : List CodeKey) (c : List ℤ) (terms : Terms) (i : ℕ) → length terms ≤ i → Grows rule ks0 ks c terms i → GetsColumn rule ks0 ks c (sum_of terms)
grows-last rule ks0 ks c terms i h g = record {
  lengths = g.lengths;
  extended = g.extended;
  column = record {
    within = (let e = g.lengths in omega (arith, e));
    values = g.stands.values;
    same = λ x.
        g.stands.same x
        ∙ ap (kept rule)
        (coef-append (sum_of (take i terms)) (column_sum ks0 (replicate (length ks0) (pos 0))) x ∙ ap (λ y. coef (sum_of (take i terms)) x +ℤ y) (zeros-coef ks0 (length ks0) x)
        ∙ add-zero (coef (sum_of (take i terms)) x) ∙ ap (λ (ts : Terms). coef (sum_of ts) x) (take_all i terms h));
  };
}

-- ---- columns of lists

pub column-more : (rule : Arithmetic) (ks more : List CodeKey) (p : Sum) (c : List ℤ) → IsColumnOf rule ks p c → IsColumnOf rule (ks ++ more) p c
column-more rule ks more p c h =
    let e : zip (ks ++ more) c ≡ zip ks c = zip-more ks more c h.within in
    record {
      within = (let l = length-append ks more in let w = h.within in omega (arith, l, w));
      values = subst (λ (r : Terms). AreKeptValues rule (sum_of r)) (sym e) h.values;
      same = λ x. ap (λ (r : Terms). kept rule (coef (sum_of r) x)) e ∙ h.same x;
    }

pub columns-more : (rule : Arithmetic) (ks more : List CodeKey) (ps : List TermVec) (cs : List (List ℤ)) → AreColumnsOf rule ks ps cs → AreColumnsOf rule (ks ++ more) ps cs
columns-more rule ks more [] [] h = tt
columns-more rule ks more [] (c ∷ cs) h = absurd h
columns-more rule ks more (p ∷ ps) [] h = absurd h
columns-more rule ks more (p ∷ ps) (c ∷ cs) h = (column-more rule ks more (sum_of p.items) c h.0, columns-more rule ks more ps cs h.1)

pub columns-push : (rule : Arithmetic) (ks : List CodeKey) (ps : List TermVec) (cs : List (List ℤ)) (p : TermVec) (c : List ℤ) → AreColumnsOf rule ks ps cs → IsColumnOf rule ks (sum_of p.items) c → AreColumnsOf rule ks (ps ++ p ∷ []) (cs ++ c ∷ [])
columns-push rule ks [] [] p c h q = (q, tt)
columns-push rule ks [] (d ∷ cs) p c h q = absurd h
columns-push rule ks (o ∷ ps) [] p c h q = absurd h
columns-push rule ks (o ∷ ps) (d ∷ cs) p c h q = (h.0, columns-push rule ks ps cs p c h.1 q)

has-key : (k : Key) (ps : List TermVec) (r : ℕ) (d : TermVec) → r < length ps → In k (map (λ (t : Term). t.0) (sum_of (get_or ps r d).items)) → HasKey k ps
has-key k [] r d h i = absurd (omega (arith, h))
has-key k (p ∷ ps) zero d h i = inl i
has-key k (p ∷ ps) (suc r) d h i = inr (has-key k ps r d (omega (arith, h)) i)

-- the keys and columns of the first r lists
pub record ColumnsTo (rule : Arithmetic) (ps : List TermVec) (keys : List CodeKey) (first : List ℤ) (higher : List (List ℤ)) (r : ℕ) : Type 0 where
  pub each : Every (λ k. HasKey (key_of k) ps) keys
  pub columns : AreColumnsOf rule keys (take r ps) (first ∷ higher)
  pub count : suc (length higher) ≡ r
  pub alone : length higher ≡ 0 → length first ≡ length keys

each-more : (ps : List TermVec) (ks more : List CodeKey) (r : ℕ) (d : TermVec) → r < length ps → Every (λ k. HasKey (key_of k) ps) ks → Every (λ k. In (key_of k) (map (λ (t : Term). t.0) (sum_of (get_or ps r d).items))) more
    → Every (λ k. HasKey (key_of k) ps) (ks ++ more)
each-more ps [] [] r d h e m = tt
each-more ps [] (k ∷ more) r d h e m = (has-key (key_of k) ps r d h m.0, each-more ps [] more r d h e m.1)
each-more ps (k ∷ ks) more r d h e m = (e.0, each-more ps ks more r d h e.1 m)

pub columns-first : (rule : Arithmetic) (ps : List TermVec) (d : TermVec) (ks : List CodeKey) (c : List ℤ) → 1 ≤ length ps → GetsColumn rule [] ks c (sum_of (get_or ps 0 d).items) → ColumnsTo rule ps ks c [] 1
columns-first rule [] d ks c h g = absurd (omega (arith, h))
columns-first rule (p ∷ ps) d ks c h g = record {
  each = subst (λ (r : List CodeKey). Every (λ k. HasKey (key_of k) (p ∷ ps)) r) (sym g.extended.1) (each-more (p ∷ ps) [] g.extended.0 0 d h tt g.extended.2);
  columns = (g.column, tt);
  count = refl;
  alone = λ e. g.lengths;
}

pub columns-next : (rule : Arithmetic) (ps : List TermVec) (d : TermVec) (ks ks' : List CodeKey) (first c : List ℤ) (higher : List (List ℤ)) (r : ℕ) → r < length ps → ColumnsTo rule ps ks first higher r
    → GetsColumn rule ks ks' c (sum_of (get_or ps r d).items) → ColumnsTo rule ps ks' first (higher ++ c ∷ []) (r + 1)
columns-next rule ps d ks ks' first c higher r h t g = record {
  each = subst (λ (q : List CodeKey). Every (λ k. HasKey (key_of k) ps) q) (sym g.extended.1) (each-more ps ks g.extended.0 r d h t.each g.extended.2);
  columns =
      subst (λ (qs : List TermVec). AreColumnsOf rule ks' qs (first ∷ (higher ++ c ∷ []))) (sym (take_more ps r d h))
      (columns-push rule ks' (take r ps) (first ∷ higher) (get_or ps r d) c (subst (λ (q : List CodeKey). AreColumnsOf rule q (take r ps) (first ∷ higher)) (sym g.extended.1) (columns-more rule ks g.extended.0 (take r ps) (first ∷ higher) t.columns)) g.column);
  count = (let e = length-push higher c in let f = t.count in omega (arith, e, f));
  alone = λ e. absurd (let f = length-push higher c in omega (arith, e, f));
}
