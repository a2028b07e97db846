-- Parts of u alone, made of lists of its terms.
use Rattle.std.proofs.Common.{◌≡◌, ℕ, suc, ◌+◌, ◌<◌, refl, sym, subst, ap, ◌∙◌, List, [], ◌∷◌, ◌++◌, length, take, filter, zip, Bool, true, false, cond, ◌≢◌, arith}
use Rattle.std.specs.Prelude.{ℤ, ◌==◌}
use Rattle.std.proofs.lemmas.List.{take_more, append-nil}
use Rattle.scattering.specs.Series.{Term, Sum, degree}
use Rattle.scattering.specs.ThetaProduct.{of_degree}
use Rattle.trunc_series.specs.declared.key.Key.{Key as CodeKey}
use Rattle.trunc_series.specs.Reduced.{Terms}
use Rattle.trunc_series.specs.Shown.{term_of, sum_of}
use Rattle.trunc_series.proofs.Terms.{no_term, at, sum_of-append}
use Rattle.power_tables.specs.Tables.{column_sum}
use Rattle.power_tables.proofs.ColumnLists.{zip-push}
use Rattle.power_tables.specs.declared.table.Part.{Part}
use Rattle.power_tables.specs.Made.{IsLinearPart, ArePartsBy}

-- ---- terms of one degree, picked one after the other

filter-last : {A : Type 0} (b : A → Bool) (xs : List A) (x : A) → filter b (xs ++ x ∷ []) ≡ filter b xs ++ cond (b x) (x ∷ []) []
filter-last {A = A} b [] x = refl
filter-last {A = A} b (y ∷ xs) x = go (b y) (filter-last b xs x)
  where
    go : (c : Bool) → filter b (xs ++ x ∷ []) ≡ filter b xs ++ cond (b x) (x ∷ []) [] → cond c (y ∷ filter b (xs ++ x ∷ [])) (filter b (xs ++ x ∷ [])) ≡ cond c (y ∷ filter b xs) (filter b xs) ++ cond (b x) (x ∷ []) []
    go true e = ap (λ (r : List A). y ∷ r) e
    go false e = e

degree-last : (d : ℕ) (ts : Terms) (i : ℕ) → i < length ts → of_degree d (sum_of (take (i + 1) ts)) ≡ of_degree d (sum_of (take i ts)) ++ cond (degree (term_of (at ts i)).0 == d) (term_of (at ts i) ∷ []) []
degree-last d ts i h =
    ap (λ (f : Sum). of_degree d f) (ap sum_of (take_more ts i no_term h) ∙ sum_of-append (take i ts) (at ts i ∷ []))
    ∙ filter-last (λ (t : Term). degree t.0 == d) (sum_of (take i ts)) (term_of (at ts i))

pub term-picked : (d e : ℕ) (ts : Terms) (i : ℕ) (ks : List CodeKey) (c : List ℤ) → i < length ts → e ≡ degree (term_of (at ts i)).0 → e ≡ d → length ks ≡ length c → column_sum ks c ≡ of_degree d (sum_of (take i ts))
    → column_sum (ks ++ (at ts i).0 ∷ []) (c ++ (at ts i).1 ∷ []) ≡ of_degree d (sum_of (take (i + 1) ts))
term-picked d e ts i ks c h v q l s =
    ap sum_of (zip-push ks c (at ts i).0 (at ts i).1 (sym l)) ∙ sum_of-append (zip ks c) (((at ts i).0, (at ts i).1) ∷ []) ∙ ap (λ (f : Sum). f ++ term_of (at ts i) ∷ []) s
    ∙ sym (degree-last d ts i h ∙ ap (λ (b : Bool). of_degree d (sum_of (take i ts)) ++ cond b (term_of (at ts i) ∷ []) []) (same (degree (term_of (at ts i)).0) (sym v ∙ q)))
  where
    same : (n : ℕ) → n ≡ d → (n == d) ≡ true
    same n r = grind arith

pub term-passed : (d e : ℕ) (ts : Terms) (i : ℕ) (f : Sum) → i < length ts → e ≡ degree (term_of (at ts i)).0 → e ≢ d → f ≡ of_degree d (sum_of (take i ts)) → f ≡ of_degree d (sum_of (take (i + 1) ts))
term-passed d e ts i f h v o s =
    s ∙ sym (append-nil (of_degree d (sum_of (take i ts))))
    ∙ sym (degree-last d ts i h ∙ ap (λ (b : Bool). of_degree d (sum_of (take i ts)) ++ cond b (term_of (at ts i) ∷ []) []) (other (degree (term_of (at ts i)).0) (λ q. o (v ∙ q))))
  where
    other : (n : ℕ) → n ≢ d → (n == d) ≡ false
    other n r = grind arith

-- ---- lists of parts

pub parts-push : (F : ℕ → Sum) (i j : ℕ) (ps : List Part) (p : Part) → ArePartsBy F i ps → i + length ps ≡ j → IsLinearPart (F j) p → ArePartsBy F i (ps ++ p ∷ [])
parts-push F i j [] p h e q = (subst (λ (n : ℕ). IsLinearPart (F n) p) (let w : j ≡ i = omega (arith, e) in w) q, tt)
parts-push F i j (o ∷ ps) p h e q = (h.0, parts-push F (suc i) j ps p h.1 (omega (arith, e)) q)
