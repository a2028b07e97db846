-- Parts of tables by the lists of terms that they were made of: their columns are the parts of the powers of u.
use Rattle.std.proofs.Common.{◌≡◌, ℕ, zero, suc, ◌+◌, ◌*◌, ◌<◌, ◌≤◌, ◌/◌, ◌⊎◌, inl, inr, ◌≢◌, refl, sym, subst, ap, ◌∙◌, List, [], ◌∷◌, length, take, arith}
use Rattle.std.specs.Prelude.{ℤ, ◌==◌}
use Rattle.std.proofs.Math.Nat.{div-eq_of_lt-le}
use Rattle.scattering.specs.Collections.{In, Every}
use Rattle.scattering.specs.Series.{Key, Term, Sum, degree, coef, one, rest, absolute, pow}
use Rattle.scattering.specs.ThetaProduct.{of_degree}
use Rattle.scattering.proofs.Lists.{Every-from_In, Every-at, In-map, Every-filter}
use Rattle.scattering.proofs.Coefficients.{coef-cut}
use Rattle.scattering.proofs.Tests.{nat_case}
use Rattle.trunc_series.specs.declared.arithmetic.Arithmetic.{Arithmetic}
use Rattle.trunc_series.specs.declared.arithmetic.Arithmetic.TheVariants.{Wrapping, Saturating}
use Rattle.trunc_series.specs.declared.key.Key.{Key as CodeKey}
use Rattle.trunc_series.specs.Arithmetic.{kept, IsKeepable}
use Rattle.trunc_series.specs.Reduced.{absolute_sum}
use Rattle.trunc_series.specs.Shown.{IsValid, key_of, sum_of}
use Rattle.trunc_series.proofs.Rows.{level-degree}
use Rattle.trunc_series.proofs.Congruence.{mul-comm}
use Rattle.trunc_series.proofs.PowerLaws.{one-mul_cut}
use Rattle.trunc_series.proofs.Majorants.{absolute-reduced}
use Rattle.trunc_series.proofs.Inverses.{rest-valid}
use Rattle.trunc_series.specs.Sums.{AreKeptValues}
use Rattle.degree_theory.proofs.PartLaws.{part-is-read}
use Rattle.power_tables.specs.declared.table.Part.{Part}
use Rattle.power_tables.specs.Parts.{GrowsBy}
use Rattle.power_tables.specs.Tables.{column_sum}
use Rattle.power_tables.specs.Made.{TermVec, others, code_others, IsOthers, IsPower, ArePowersFrom, AreLevels, HasLevels, AreListed, HasKey, AreColumnsOf, IsWithinDegrees, IsPowerKey, AreColumns, IsMade, AreMade, IsLinearPart, AreLinearParts}
use Rattle.power_tables.proofs.Alike.{Alike, alike-refl, alike-pow, reduced-alike}
use Rattle.power_tables.proofs.LowerOrders.{pow-to}
use Rattle.power_tables.proofs.Powers.{length-take, levels-length, quotients}
use Rattle.power_tables.proofs.Prepared.{absolute-keys}

-- ---- keys

others-within : (rule : Arithmetic) (f : Sum) (s : ℕ) → GrowsBy s (rest f) → Every (λ t. IsWithinDegrees s (degree t.0) t.0) (code_others rule f)
others-within Wrapping f s g = g
others-within Saturating f s g = absolute-keys (λ x. IsWithinDegrees s (degree x) x) (rest f) g

-- the terms of degree i of a list whose keys grow as those of u
degree-keys : (f : Sum) (i : ℕ) (p : Sum) → ((s : ℕ) → GrowsBy s (rest f) → Every (λ t. IsWithinDegrees s (degree t.0) t.0) p) → Every (λ t. IsPowerKey f i t.0) (of_degree i p)
degree-keys f i p grows = Every-from_In (λ t. IsPowerKey f i t.0) (of_degree i p) each
  where
    each : (t : Term) → In t (of_degree i p) → IsPowerKey f i t.0
    each t q =
        let d : degree t.0 ≡ i = Every-at (λ (t : Term). degree t.0 ≡ i) (of_degree i p) t (level-degree i p) q in
        record {
          at = d;
          within = λ s g. subst (λ (n : ℕ). IsWithinDegrees s n t.0) d
              (Every-at (λ (t : Term). IsWithinDegrees s (degree t.0) t.0) (of_degree i p) t (Every-filter (λ (t : Term). IsWithinDegrees s (degree t.0) t.0) (λ (t : Term). degree t.0 == i) p (grows s g)) q);
        }

power-keys : (rule : Arithmetic) (k : ℕ) (f : Sum) (r i : ℕ) (p : Sum) → IsPower rule k (code_others rule f) r p → Every (λ t. IsPowerKey f i t.0) (of_degree i p)
power-keys rule k f r i p h = degree-keys f i p (λ s g. h.grows s (others-within rule f s g))

-- ---- parts of powers

pub others-alike : (rule : Arithmetic) (m : ℕ) (f : Sum) → IsValid m f → Alike rule (code_others rule f) (others rule f)
others-alike Wrapping m f v = alike-refl Wrapping (rest f) (every-tt (rest f))
  where
    every-tt : (f : Sum) → Every (λ t. IsKeepable Wrapping t.1) f
    every-tt [] = tt
    every-tt (t ∷ f) = (tt, every-tt f)
others-alike Saturating m f v = reduced-alike Saturating m (absolute_sum (rest f)) (absolute (rest f)) (absolute-reduced m (rest f) (rest-valid m f v))

module _ (rule : Arithmetic) (k m : ℕ) (f : Sum) (al : Alike rule (code_others rule f) (others rule f)) where
  pub power-same : (r i : ℕ) (p : Sum) → i ≤ k → IsPower rule k (code_others rule f) r p → (x : Key) → kept rule (coef (of_degree i p) x) ≡ kept rule (coef (of_degree i (pow i (others rule f) r)) x)
  power-same r i p l h x = go (nat_case (degree x) i)
    where
      go : (degree x ≡ i) ⊎ (degree x ≢ i) → kept rule (coef (of_degree i p) x) ≡ kept rule (coef (of_degree i (pow i (others rule f) r)) x)
      go (inl q) =
          ap (kept rule) ((part-is-read i p x).0 q) ∙ h.same x ∙ (alike-pow rule k (code_others rule f) (others rule f) al r).same x
          ∙ ap (kept rule) (pow-to i k (others rule f) (others rule f) l (λ y n. refl) r x (omega (arith, q)) ∙ sym ((part-is-read i (pow i (others rule f) r) x).0 q))
      go (inr o) = ap (kept rule) ((part-is-read i p x).1 o ∙ sym ((part-is-read i (pow i (others rule f) r) x).1 o))

  pub first-same : (i : ℕ) (x : Key) → kept rule (coef (of_degree i (code_others rule f)) x) ≡ kept rule (coef (of_degree i (pow i (others rule f) 1)) x)
  first-same i x = go (nat_case (degree x) i)
    where
      go : (degree x ≡ i) ⊎ (degree x ≢ i) → kept rule (coef (of_degree i (code_others rule f)) x) ≡ kept rule (coef (of_degree i (pow i (others rule f) 1)) x)
      go (inl q) =
          ap (kept rule) ((part-is-read i (code_others rule f) x).0 q) ∙ al.same x
          ∙ ap (kept rule)
          (sym (coef-cut i (others rule f) x (omega (arith, q))) ∙ sym (ap (λ (g : Sum). coef g x) (one-mul_cut i (others rule f))) ∙ mul-comm i one (others rule f) x ∙ sym ((part-is-read i (pow i (others rule f) 1) x).0 q))
      go (inr o) = ap (kept rule) ((part-is-read i (code_others rule f) x).1 o ∙ sym ((part-is-read i (pow i (others rule f) 1) x).1 o))

  pub columns-made : (r i : ℕ) (keys : List CodeKey) (ps ls : List TermVec) (cs : List (List ℤ)) → i ≤ k → ArePowersFrom rule k (code_others rule f) r ps → AreLevels i ps ls → AreColumnsOf rule keys ls cs → AreColumns rule f r i keys cs
  columns-made r i keys ps ls [] l h a c = tt
  columns-made r i keys [] [] (d ∷ cs) l h a c = absurd c
  columns-made r i keys [] (q ∷ ls) (d ∷ cs) l h a c = absurd a
  columns-made r i keys (p ∷ ps) [] (d ∷ cs) l h a c = absurd a
  columns-made r i keys (p ∷ ps) (q ∷ ls) (d ∷ cs) l h a c =
      (record { within = c.0.within; values = c.0.values; same = λ x. c.0.same x ∙ ap (λ (g : Sum). kept rule (coef g x)) a.0 ∙ power-same r i (sum_of p.items) l h.0 x }, columns-made (suc r) i keys ps ls cs l h.1 a.1 c.1)

  key-made : (r i : ℕ) (x : Key) (ps ls : List TermVec) → ArePowersFrom rule k (code_others rule f) r ps → AreLevels i ps ls → HasKey x ls → IsPowerKey f i x
  key-made r i x [] [] h a c = absurd c
  key-made r i x [] (q ∷ ls) h a c = absurd a
  key-made r i x (p ∷ ps) [] h a c = absurd a
  key-made r i x (p ∷ ps) (q ∷ ls) h a (inl c) =
      let w = In-map (λ (t : Term). t.0) (sum_of q.items) x c in
      subst (λ (y : Key). IsPowerKey f i y) (sym w.2)
      (Every-at (λ (t : Term). IsPowerKey f i t.0) (sum_of q.items) w.0 (subst (λ (g : Sum). Every (λ (t : Term). IsPowerKey f i t.0) g) (sym a.0) (power-keys rule k f r i (sum_of p.items) h.0)) w.1)
  key-made r i x (p ∷ ps) (q ∷ ls) h a (inr c) = key-made (suc r) i x ps ls h.1 a.1 c

  keys-made : (i : ℕ) (keys : List CodeKey) (ps ls : List TermVec) → ArePowersFrom rule k (code_others rule f) 1 ps → AreLevels i ps ls → Every (λ x. HasKey (key_of x) ls) keys → Every (λ x. IsPowerKey f i (key_of x)) keys
  keys-made i [] ps ls h a e = tt
  keys-made i (x ∷ keys) ps ls h a e = (key-made 1 i (key_of x) ps ls h a e.0, keys-made i keys ps ls h a e.1)

  powers-take : (r n : ℕ) (ps : List TermVec) → ArePowersFrom rule k (code_others rule f) r ps → ArePowersFrom rule k (code_others rule f) r (take n ps)
  powers-take r zero [] h = tt
  powers-take r (suc n) [] h = tt
  powers-take r zero (p ∷ ps) h = tt
  powers-take r (suc n) (p ∷ ps) h = (h.0, powers-take (suc r) n ps h.1)

  columns-length : (keys : List CodeKey) (ls : List TermVec) (cs : List (List ℤ)) → AreColumnsOf rule keys ls cs → length cs ≡ length ls
  columns-length keys [] [] h = refl
  columns-length keys [] (c ∷ cs) h = absurd h
  columns-length keys (p ∷ ls) [] h = absurd h
  columns-length keys (p ∷ ls) (c ∷ cs) h = ap suc (columns-length keys ls cs h.1)

  pub part-made : (l i : ℕ) (ps : List TermVec) (p : Part) → 1 ≤ l → i ≤ k → length ps ≡ k / l → ArePowersFrom rule k (code_others rule f) 1 ps → HasLevels rule i (take (i / l) ps) p → IsMade rule f l i p
  part-made l i ps p one b e h g =
      let t = powers-take 1 (i / l) ps h in
      let q = quotients l i k one b in
      let n : length (take (i / l) ps) ≡ i / l = length-take (i / l) ps (omega (arith, q, e)) in
      let c = columns-length p.keys.items g.lists (p.first.items ∷ p.higher.items) g.has.columns in
      let a = levels-length i (take (i / l) ps) g.lists g.levels in
      record {
        keys = keys-made i p.keys.items (take (i / l) ps) g.lists t g.levels g.has.each;
        columns = columns-made 1 i p.keys.items (take (i / l) ps) g.lists (p.first.items ∷ p.higher.items) b t g.levels g.has.columns;
        count = omega (arith, n, c, a);
        alone = g.has.alone;
      }

  pub listed-made : (l i : ℕ) (ps : List TermVec) (parts : List Part) → 1 ≤ l → i + length parts ≡ k + 1 → length ps ≡ k / l → ArePowersFrom rule k (code_others rule f) 1 ps → AreListed rule ps l i parts → AreMade rule f l i parts
  listed-made l i ps [] one n e h g = tt
  listed-made l i ps (p ∷ parts) one n e h g = (part-made l i ps p one (omega (arith, n)) e h g.0, listed-made l (suc i) ps parts one (omega (arith, n)) e h g.1)

  -- ---- u alone

  pub linear-made : (l i : ℕ) (p : Part) → IsOthers rule m (code_others rule f) → 1 ≤ l → l ≤ i → i < 2 * l → IsLinearPart (of_degree i (code_others rule f)) p → IsMade rule f l i p
  linear-made l i p o one a b h =
      let e = h.terms in
      record {
        keys = keys-from (λ x. IsPowerKey f i x) p.keys.items p.first.items h.lengths (subst (λ (g : Sum). Every (λ (t : Term). IsPowerKey f i t.0) g) (sym h.terms) (degree-keys f i (code_others rule f) (others-within rule f)));
        columns = (
          record {
            within = (let q = h.lengths in omega (arith, q));
            values = subst (λ (g : Sum). AreKeptValues rule g) (sym h.terms) (Every-filter (λ (t : Term). (kept rule t.1 ≡ t.1) × IsKeepable rule t.1) (λ (t : Term). degree t.0 == i) (code_others rule f) o.reduced.keeps);
            same = λ x. ap (λ (g : Sum). kept rule (coef g x)) h.terms ∙ first-same i x;
          },
          none-made p.higher.items h.alone,
        );
        count = (let q : i / l ≡ 1 = div-eq_of_lt-le l (omega (arith, a)) (omega (arith, b)) in let z = h.alone in omega (arith, q, z));
        alone = λ z. sym h.lengths;
      }
    where
      keys-from : (P : Key → Type 0) (ks : List CodeKey) (vs : List ℤ) → length ks ≡ length vs → Every (λ t. P t.0) (column_sum ks vs) → Every (λ x. P (key_of x)) ks
      keys-from P [] vs n e = tt
      keys-from P (x ∷ ks) [] n e = absurd (omega (arith, n))
      keys-from P (x ∷ ks) (v ∷ vs) n e = (e.0, keys-from P ks vs (omega (arith, n)) e.1)

      none-made : (cs : List (List ℤ)) → length cs ≡ 0 → AreColumns rule f 2 i p.keys.items cs
      none-made [] z = tt
      none-made (c ∷ cs) z = absurd (omega (arith, z))

  pub linears-made : (l i : ℕ) (parts : List Part) → IsOthers rule m (code_others rule f) → 1 ≤ l → l ≤ i → k < 2 * l → i + length parts ≡ k + 1 → AreLinearParts (code_others rule f) i parts → AreMade rule f l i parts
  linears-made l i [] o one a b n h = tt
  linears-made l i (p ∷ parts) o one a b n h = (linear-made l i p o one a (omega (arith, n, b)) h.0, linears-made l (suc i) parts o one (omega (arith, a)) b (omega (arith, n)) h.1)
