-- Tables made of parts of powers: what they say of a wall's function.
use Rattle.std.proofs.Common.{◌≡◌, ℕ, zero, suc, ◌+◌, ◌-◌, ◌*◌, ◌<◌, ◌≤◌, ◌/◌, ◌^◌, ◌⊎◌, inl, inr, refl, sym, subst, ap, ◌∙◌, List, [], ◌∷◌, map, length, slice_index_or, arith}
use Rattle.std.specs.Prelude.{ℤ, pos, ◌*ℤ◌, ◌-ℤ◌, nat_abs}
use Rattle.std.proofs.lemmas.Int.{ints}
use Rattle.std.proofs.Math.Nat.{div-le_self, div-mul-le_self}
use Rattle.scattering.proofs.Lists.{Every-filter}
use Rattle.scattering.specs.Collections.{Every}
use Rattle.scattering.specs.Series.{Exp, Key, Term, Sum, IsWallFunction, degree, coef, rest, absolute, geometric}
use Rattle.scattering.proofs.Pairing.{coef-append}
use Rattle.trunc_series.specs.declared.arithmetic.Arithmetic.{Arithmetic}
use Rattle.trunc_series.specs.declared.arithmetic.Arithmetic.TheVariants.{Wrapping, Saturating}
use Rattle.trunc_series.specs.declared.key.Key.{Key as CodeKey}
use Rattle.trunc_series.specs.Arithmetic.{kept, IsKeepable}
use Rattle.trunc_series.specs.Reduced.{IsNearKey, absolute_sum}
use Rattle.trunc_series.specs.Shown.{HasNearTerms, key_of}
use Rattle.trunc_series.proofs.Coefficients.{add-zero}
use Rattle.trunc_series.proofs.PowerLaws.{pow-keepable}
use Rattle.trunc_series.proofs.Inverses.{powers-keepable}
use Rattle.trunc_series.proofs.Majorants.{absolute-whole}
use Rattle.trunc_series.specs.Sums.{AreKeptValues}
use Rattle.degree_theory.specs.Parts.{choose, multichoose, scaled}
use Rattle.degree_theory.proofs.Binomials.{row-is-products, choose-zero}
use Rattle.degree_theory.proofs.PartLaws.{part-is-read}
use Rattle.power_tables.specs.declared.table.Part.{Part}
use Rattle.power_tables.specs.Parts.{IsPartOf, GrowsBy, multiplier}
use Rattle.power_tables.specs.Kept.{seen_part, AreKeepable, IsSoundPart, IsSound}
use Rattle.power_tables.specs.Tables.{SeenPart, SeenTable, part_at, factor, first_factor, column_sum, column_combination, IsTableOf}
use Rattle.power_tables.specs.Made.{others, code_others, IsPowerKey, AreColumns, IsMade, AreMade}
use Rattle.power_tables.proofs.Combinations.{combined-same, coef-scaled}

-- ---- what every table keeps

sound-column : (rule : Arithmetic) (ks : List CodeKey) (c : List ℤ) → length c ≤ length ks → AreKeptValues rule (column_sum ks c) → AreKeepable rule c
sound-column rule ks [] l h = tt
sound-column rule [] (y ∷ c) l h = absurd (omega (arith, l))
sound-column rule (k ∷ ks) (y ∷ c) l h = (h.0.1, sound-column rule ks c (omega (arith, l)) h.1)

sound-higher : (rule : Arithmetic) (f : Sum) (r i : ℕ) (ks : List CodeKey) (cs : List (List ℤ)) → AreColumns rule f r i ks cs → Every (AreKeepable rule) cs × Every (λ c. length c ≤ length ks) cs
sound-higher rule f r i ks [] h = (tt, tt)
sound-higher rule f r i ks (c ∷ cs) h =
    let g = sound-higher rule f (suc r) i ks cs h.1 in
    ((sound-column rule ks c h.0.within h.0.values, g.0), (h.0.within, g.1))

sound-part : (rule : Arithmetic) (f : Sum) (l i : ℕ) (p : Part) → i ≤ 24 → IsMade rule f l i p → IsSoundPart rule p
sound-part rule f l i p b h =
    let g = sound-higher rule f 2 i p.keys.items p.higher.items h.columns.1 in
    record {
      first = sound-column rule p.keys.items p.first.items h.columns.0.within h.columns.0.values;
      within = h.columns.0.within;
      higher = g.0;
      lengths = g.1;
      count = (let c = h.count in let q = div-le_self i l in omega (arith, c, q, b));
    }

sound-parts : (rule : Arithmetic) (f : Sum) (l i k : ℕ) (parts : List Part) → k ≤ 24 → i + length parts ≡ k + 1 → AreMade rule f l i parts → Every (IsSoundPart rule) parts
sound-parts rule f l i k [] b n h = tt
sound-parts rule f l i k (p ∷ parts) b n h = (sound-part rule f l i p (omega (arith, n, b)) h.0, sound-parts rule f l (suc i) k parts b (omega (arith, n)) h.1)

alone : (l i q : ℕ) → 1 ≤ l → i < 2 * l → suc q ≡ i / l → q ≡ 0
alone l i q one h e =
    let d = div-mul-le_self i l in
    let m : suc q * l ≤ i = subst (λ (n : ℕ). n * l ≤ i) (sym e) d in
    go q one m
  where
    go : (q : ℕ) → 1 ≤ l → suc q * l ≤ i → q ≡ 0
    go zero one m = refl
    go (suc q) one m =
        let t : suc (suc q) * l ≡ 2 * l + q * l = omega arith in
        absurd (omega (arith, t, m, h))

sound-linear : (rule : Arithmetic) (f : Sum) (l i k : ℕ) (parts : List Part) → 1 ≤ l → k < 2 * l → i + length parts ≡ k + 1 → AreMade rule f l i parts → Every (λ p. length p.higher.items ≡ 0) parts
sound-linear rule f l i k [] one b n h = tt
sound-linear rule f l i k (p ∷ parts) one b n h = (alone l i (length p.higher.items) one (omega (arith, n, b)) h.0.count, sound-linear rule f l (suc i) k parts one b (omega (arith, n)) h.1)

pub table-sound : (rule : Arithmetic) (f : Sum) (k l : ℕ) (parts : List Part) → k ≤ 24 → 1 ≤ l → l ≤ k + 1 → length parts ≡ k + 1 - l → AreMade rule f l l parts → IsSound rule k l parts
table-sound rule f k l parts b one within n h = record {
  high = b;
  positive = one;
  most = omega (arith, within, b);
  each = sound-parts rule f l l k parts b (omega (arith, n, within)) h;
  count = n;
  linear = λ q. sound-linear rule f l l k parts one q (omega (arith, n, within)) h;
}

-- ---- parts that are read

-- a part that was made, or none
part-read : (rule : Arithmetic) (f : Sum) (l j n : ℕ) (parts : List Part) → AreMade rule f l j parts
    → ((p : Part) × IsMade rule f l (j + n) p × (n < length parts) × (slice_index_or (map seen_part parts) n (record { keys = []; columns = [] }) ≡ seen_part p)) ⊎ ((length parts ≤ n) × (slice_index_or (map seen_part parts) n (record { keys = []; columns = [] }) ≡ record { keys = []; columns = [] }))
part-read rule f l j n [] h = inr (omega arith, refl)
part-read rule f l j zero (p ∷ parts) h = inl (p, subst (λ (i : ℕ). IsMade rule f l i p) (let e : j ≡ j + 0 = omega arith in e) h.0, omega arith, refl)
part-read rule f l j (suc n) (p ∷ parts) h = go (part-read rule f l (suc j) n parts h.1)
  where
    go : ((q : Part) × IsMade rule f l (suc j + n) q × (n < length parts) × (slice_index_or (map seen_part parts) n (record { keys = []; columns = [] }) ≡ seen_part q)) ⊎ ((length parts ≤ n) × (slice_index_or (map seen_part parts) n (record { keys = []; columns = [] }) ≡ record { keys = []; columns = [] }))
        → ((q : Part) × IsMade rule f l (j + suc n) q × (suc n < length (p ∷ parts)) × (slice_index_or (map seen_part parts) n (record { keys = []; columns = [] }) ≡ seen_part q)) ⊎ ((length (p ∷ parts) ≤ suc n) × (slice_index_or (map seen_part parts) n (record { keys = []; columns = [] }) ≡ record { keys = []; columns = [] }))
    go (inl g) = inl (g.0, subst (λ (i : ℕ). IsMade rule f l i g.0) (let e : suc j + n ≡ j + suc n = omega arith in e) g.1, (let b = g.2 in omega (arith, b)), g.3)
    go (inr g) = inr ((let b = g.0 in omega (arith, b)), g.1)

-- ---- numbers

choose-one : (n : ℤ) → choose n 1 ≡ n
choose-one n = ones (choose n 1) n (choose n 0) (row-is-products n 0) (choose-zero n)
  where
    ones : (a b c : ℤ) → pos 1 *ℤ a ≡ (b -ℤ pos 0) *ℤ c → c ≡ pos 1 → a ≡ b
    ones a b c h e =
        let g : pos 1 *ℤ a ≡ (b -ℤ pos 0) *ℤ pos 1 = h ∙ ap (λ x. (b -ℤ pos 0) *ℤ x) e in
        omega (arith, ints, g)

multichoose-one : (n : ℕ) → multichoose n 1 ≡ n
multichoose-one zero = refl
multichoose-one (suc n) = let h = multichoose-one n in omega (arith, h)

first-is : (rule : Arithmetic) (n : ℤ) → factor rule n 1 ≡ first_factor rule n
first-is Wrapping n = choose-one n
first-is Saturating n = ap pos (multichoose-one (nat_abs n))

multiplier-keepable : (rule : Arithmetic) (k : ℕ) (f : Sum) (n : ℤ) → Every (λ t. IsKeepable rule t.1) (multiplier rule k f n)
multiplier-keepable Wrapping k f n = each (multiplier Wrapping k f n)
  where
    each : (g : Sum) → Every (λ t. IsKeepable Wrapping t.1) g
    each [] = tt
    each (t ∷ g) = (tt, each g)
multiplier-keepable Saturating k f n = pow-keepable Saturating k (geometric k f) (powers-keepable Saturating k (absolute (rest f)) (absolute-whole (rest f)) k) (nat_abs n)

-- ---- keys

key-columns : (P : Key → Type 0) (ks : List CodeKey) (vs : List ℤ) → Every (λ x. P (key_of x)) ks → Every (λ t. P t.0) (column_sum ks vs)
key-columns P [] vs h = tt
key-columns P (k ∷ ks) [] h = tt
key-columns P (k ∷ ks) (v ∷ vs) h = (h.0, key-columns P ks vs h.1)

keys-implied : (P Q : CodeKey → Type 0) → ((x : CodeKey) → P x → Q x) → (ks : List CodeKey) → Every P ks → Every Q ks
keys-implied P Q g [] h = tt
keys-implied P Q g (k ∷ ks) h = (g k h.0, keys-implied P Q g ks h.1)

every-or : {A : Type 0} (P : A → Type 0) (xs : List A) (n : ℕ) (d : A) → Every P xs → P d → P (slice_index_or xs n d)
every-or P [] n d h e = e
every-or P (x ∷ xs) zero d h e = h.0
every-or P (x ∷ xs) (suc n) d h e = every-or P xs n d h.1 e

-- ---- the law

module _ (rule : Arithmetic) (k m l : ℕ) (d : Exp) (f : Sum) (w : IsWallFunction m d f) (positive : Every (λ t. 1 ≤ degree t.0) (rest f)) (whole : Every (λ t. IsKeepable rule t.1) (others rule f)) (near : GrowsBy (2 ^ 16) (rest f))
    (high : k ≤ 24) (one : 1 ≤ l) (least : Every (λ t. l ≤ degree t.0) (rest f)) (least_others : Every (λ t. l ≤ degree t.0) (others rule f)) (parts : List Part) (made : AreMade rule f l l parts) (count : length parts ≡ k + 1 - l) where
  abbrev table : SeenTable
  table = record { rule = rule; order = k; least = l; parts = map seen_part parts }

  -- what holds of each part and of none holds at each degree
  read-part : (Q : ℕ → SeenPart → Type 0) → ((i : ℕ) (p : Part) → l ≤ i → i ≤ k → IsMade rule f l i p → Q i (seen_part p)) → ((i : ℕ) → k < i → Q i (record { keys = []; columns = [] })) → (i : ℕ) → l ≤ i → Q i (part_at table i)
  read-part Q g h i a = go (part-read rule f l l (i - l) parts made)
    where
      go : ((p : Part) × IsMade rule f l (l + (i - l)) p × (i - l < length parts) × (slice_index_or (map seen_part parts) (i - l) (record { keys = []; columns = [] }) ≡ seen_part p)) ⊎ ((length parts ≤ i - l) × (slice_index_or (map seen_part parts) (i - l) (record { keys = []; columns = [] }) ≡ record { keys = []; columns = [] }))
          → Q i (slice_index_or (map seen_part parts) (i - l) (record { keys = []; columns = [] }))
      go (inl p) =
          let b = p.2 in
          subst (λ (s : SeenPart). Q i s) (sym p.3) (g i p.0 a (omega (arith, b, count, a)) (subst (λ (j : ℕ). IsMade rule f l j p.0) (let e : l + (i - l) ≡ i = omega (arith, a) in e) p.1))
      go (inr p) = let b = p.0 in subst (λ (s : SeenPart). Q i s) (sym p.1) (h i (omega (arith, b, count, a)))

  near-key : (i : ℕ) (x : CodeKey) → i ≤ k → IsPowerKey f i (key_of x) → IsNearKey (key_of x)
  near-key i x b h = let g = h.within (2 ^ 16) near in let p = g.0 in let q = g.1 in (omega (arith, p, b, high), omega (arith, q, b, high))

  part-law : (n : ℤ) (i : ℕ) (p : Part) (vs : List ℤ) → l ≤ i → i ≤ k → IsMade rule f l i p → AreKeptValues rule (column_sum p.keys.items vs)
      → ((x : Key) → kept rule (coef (column_sum p.keys.items vs) x) ≡ kept rule (coef (column_combination rule n p.keys.items 1 (p.first.items ∷ p.higher.items)) x))
      → IsPartOf rule i (column_sum p.keys.items vs) (multiplier rule i f n)
  part-law n i p vs a b h v s = record {
    values = v;
    degrees = key-columns (λ x. degree x ≡ i) p.keys.items vs (keys-implied (λ x. IsPowerKey f i (key_of x)) (λ x. degree (key_of x) ≡ i) (λ x q. q.at) p.keys.items h.keys);
    keepable = multiplier-keepable rule i f n;
    same = λ x q.
        s x
        ∙ combined-same rule m d f w positive whole l one least_others n i p.keys.items (p.first.items ∷ p.higher.items) (omega (arith, a, one)) (let c = h.count in omega (arith, c)) h.columns x
        ∙ ap (kept rule) ((part-is-read i (multiplier rule i f n) x).0 q);
  }

  linear-law : (i : ℕ) (p : Part) → l ≤ i → i ≤ k → IsMade rule f l i p → length p.higher.items ≡ 0 → (n : ℤ) (x : Key) → degree x ≡ i
      → kept rule (first_factor rule n *ℤ coef (column_sum p.keys.items p.first.items) x) ≡ kept rule (coef (multiplier rule i f n) x)
  linear-law i p a b h z n x q =
      ap (λ y. kept rule (y *ℤ coef (column_sum p.keys.items p.first.items) x)) (sym (first-is rule n))
      ∙ ap (kept rule) (sym (coef-scaled (factor rule n 1) (column_sum p.keys.items p.first.items) x) ∙ sym (alone-column p.higher.items z))
      ∙ combined-same rule m d f w positive whole l one least_others n i p.keys.items (p.first.items ∷ p.higher.items) (omega (arith, a, one)) (let c = h.count in omega (arith, c)) h.columns x
      ∙ ap (kept rule) ((part-is-read i (multiplier rule i f n) x).0 q)
    where
      alone-column : (cs : List (List ℤ)) → length cs ≡ 0 → coef (column_combination rule n p.keys.items 1 (p.first.items ∷ cs)) x ≡ coef (scaled (factor rule n 1) (column_sum p.keys.items p.first.items)) x
      alone-column [] e = coef-append (scaled (factor rule n 1) (column_sum p.keys.items p.first.items)) [] x ∙ add-zero (coef (scaled (factor rule n 1) (column_sum p.keys.items p.first.items)) x)
      alone-column (c ∷ cs) e = absurd (omega (arith, e))

  higher-none : (p : Part) → length (p.first.items ∷ p.higher.items) ≤ 1 → length p.higher.items ≡ 0
  higher-none p u = omega (arith, u)

  pub table-law : IsTableOf rule k f table
  table-law = record {
    arithmetic = refl;
    reach = refl;
    least = least;
    degrees = read-part (λ i s. Every (λ x. degree (key_of x) ≡ i) s.keys) (λ i p a b h. keys-implied (λ x. IsPowerKey f i (key_of x)) (λ x. degree (key_of x) ≡ i) (λ x q. q.at) p.keys.items h.keys) (λ i c. tt);
    near = read-part (λ i s. Every (λ x. IsNearKey (key_of x)) s.keys) (λ i p a b h. keys-implied (λ x. IsPowerKey f i (key_of x)) (λ x. IsNearKey (key_of x)) (λ x q. near-key i x b q) p.keys.items h.keys) (λ i c. tt);
    growth = λ s g. read-part (λ i t. Every (λ x. (nat_abs x.exp.a ≤ s * i) × (nat_abs x.exp.b ≤ s * i)) t.keys)
        (λ i p a b h. keys-implied (λ x. IsPowerKey f i (key_of x)) (λ x. (nat_abs x.exp.a ≤ s * i) × (nat_abs x.exp.b ≤ s * i)) (λ x q. q.within s g) p.keys.items h.keys) (λ i c. tt);
    parts = λ n i vs a b v. read-part (λ j s. j ≤ k → AreKeptValues rule (column_sum s.keys vs) → ((x : Key) → kept rule (coef (column_sum s.keys vs) x) ≡ kept rule (coef (column_combination rule n s.keys 1 s.columns) x)) → IsPartOf rule j (column_sum s.keys vs) (multiplier rule j f n))
        (λ j p c e h q u z. part-law n j p vs c q h u z) (λ j c q u z. absurd (omega (arith, c, q))) i a b v.values v.same;
    linear = λ z i a b.
        let r = read-part (λ j s. j ≤ k → length s.columns ≤ 1 → (length (slice_index_or s.columns 0 []) ≡ length s.keys) × AreKeptValues rule (column_sum s.keys (slice_index_or s.columns 0 []))
        × ((n : ℤ) (x : Key) → degree x ≡ j → kept rule (first_factor rule n *ℤ coef (column_sum s.keys (slice_index_or s.columns 0 [])) x) ≡ kept rule (coef (multiplier rule j f n) x)))
        (λ j p c e h q u. (h.alone (higher-none p u), h.columns.0.values, linear-law j p c q h (higher-none p u)))
        (λ j c q u. absurd (omega (arith, c, q))) i a b (every-or (λ s. length s.columns ≤ 1) (map seen_part parts) (i - l) (record { keys = []; columns = [] }) z (omega arith)) in
        record { lengths = r.0; values = r.1; keepable = λ n. multiplier-keepable rule i f n; same = r.2 };
  }

-- ---- u, and f - 1

others-every : (P : Key → Type 0) (f : Sum) → Every (λ t. P t.0) (absolute_sum f) → Every (λ t. P t.0) f
others-every P [] h = tt
others-every P (t ∷ f) h = (h.0, others-every P f h.1)

absolutes-every : (P : Key → Type 0) (f : Sum) → Every (λ t. P t.0) f → Every (λ t. P t.0) (absolute f)
absolutes-every P [] h = tt
absolutes-every P (t ∷ f) h = (h.0, absolutes-every P f h.1)

pub least-rest : (rule : Arithmetic) (l : ℕ) (f : Sum) → Every (λ t. l ≤ degree t.0) (code_others rule f) → Every (λ t. l ≤ degree t.0) (rest f)
least-rest Wrapping l f h = h
least-rest Saturating l f h = others-every (λ x. l ≤ degree x) (rest f) h

pub least-others : (rule : Arithmetic) (l : ℕ) (f : Sum) → Every (λ t. l ≤ degree t.0) (rest f) → Every (λ t. l ≤ degree t.0) (others rule f)
least-others Wrapping l f h = h
least-others Saturating l f h = absolutes-every (λ x. l ≤ degree x) (rest f) h

pub near-grows : (f : Sum) → HasNearTerms f → Every (λ t. 1 ≤ degree t.0) (rest f) → GrowsBy (2 ^ 16) (rest f)
near-grows f h p = both (rest f) (Every-filter (λ (t : Term). (nat_abs t.0.exp.a ≤ 2 ^ 16) × (nat_abs t.0.exp.b ≤ 2 ^ 16)) _ f h) p
  where
    both : (g : Sum) → Every (λ (t : Term). (nat_abs t.0.exp.a ≤ 2 ^ 16) × (nat_abs t.0.exp.b ≤ 2 ^ 16)) g → Every (λ (t : Term). 1 ≤ degree t.0) g → GrowsBy (2 ^ 16) g
    both [] h p = tt
    both (t ∷ g) h p = (let a = h.0.0 in let b = h.0.1 in let d = p.0 in (omega (arith, a, d), omega (arith, b, d)), both g h.1 p.1)
