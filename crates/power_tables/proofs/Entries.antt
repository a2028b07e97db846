-- Values that are kept by exponent.
use Rattle.std.proofs.Common.{◌≡◌, ℕ, zero, suc, ◌+◌, ◌-◌, ◌<◌, ◌≤◌, refl, sym, subst, ap, ◌∙◌, List, [], ◌∷◌, ◌++◌, map, length, get_or, set, slice_index_or, Vec, arith}
use Rattle.std.proofs.Math.Decide.{dec_le}
use Rattle.std.specs.Prelude.{ℤ, pos}
use Rattle.std.specs.Global.{Global}
use Rattle.scattering.specs.Collections.{Every}
use Rattle.trunc_series.specs.declared.arithmetic.Arithmetic.{Arithmetic}
use Rattle.power_tables.specs.declared.table.Part.{Part}
use Rattle.power_tables.specs.declared.values.Entry.{Entry}
use Rattle.power_tables.specs.Kept.{numbers_of, seen_part}
use Rattle.power_tables.specs.Rows.{AreCombined}
use Rattle.power_tables.specs.Tables.{SeenPart, SeenTable, ArePowerValues}
use Rattle.power_tables.specs.Values.{AreOf, AreReached}
use Rattle.power_tables.specs.Entries.{seen_values, AreCombinedParts, AreEntries}

-- room for the values of one part more
pub room-more : (values : List (Vec ℤ Global)) (part : Vec ℤ Global) (j : ℕ) → length part.items ≡ 0 → slice_index_or (map numbers_of (values ++ part ∷ [])) j [] ≡ slice_index_or (map numbers_of values) j []
room-more [] part zero e = none part.items e
  where
    none : (vs : List ℤ) → length vs ≡ 0 → vs ≡ []
    none [] e = refl
    none (v ∷ vs) e = absurd (omega (arith, e))
room-more [] part (suc j) e = refl
room-more (v ∷ values) part zero e = refl
room-more (v ∷ values) part (suc j) e = room-more values part j e

values-set : (values : List (Vec ℤ Global)) (i : ℕ) (part : Vec ℤ Global) → i < length values → slice_index_or (map numbers_of (set values i part)) i [] ≡ numbers_of part
values-set [] i part l = absurd (omega (arith, l))
values-set (v ∷ values) zero part l = refl
values-set (v ∷ values) (suc i) part l = values-set values i part (omega (arith, l))

values-other : (values : List (Vec ℤ Global)) (i j : ℕ) (part : Vec ℤ Global) → j < i → slice_index_or (map numbers_of (set values i part)) j [] ≡ slice_index_or (map numbers_of values) j []
values-other [] i j part l = refl
values-other (v ∷ values) zero j part l = absurd (omega (arith, l))
values-other (v ∷ values) (suc i) zero part l = refl
values-other (v ∷ values) (suc i) (suc j) part l = values-other values i j part (omega (arith, l))

seen-at : (parts : List Part) (j : ℕ) (d : Part) → j < length parts → slice_index_or (map seen_part parts) j (record { keys = []; columns = [] }) ≡ seen_part (get_or parts j d)
seen-at [] j d l = absurd (omega (arith, l))
seen-at (p ∷ parts) zero d l = refl
seen-at (p ∷ parts) (suc j) d l = seen-at parts j d (omega (arith, l))

-- the values of one part more
pub parts-set : (rule : Arithmetic) (n : ℤ) (parts : List Part) (values : List (Vec ℤ Global)) (i : ℕ) (d : Part) (part : Vec ℤ Global) → i < length parts → i < length values → d ≡ get_or parts i d → AreCombinedParts rule n parts i values → AreCombined rule n (seen_part d) (numbers_of part)
    → AreCombinedParts rule n parts (i + 1) (set values i part)
parts-set rule n parts values i d part l r q h c j k = elim (dec_le i j) [
  | no o ↦
      subst (λ (vs : List ℤ). AreCombined rule n (slice_index_or (map seen_part parts) j (record { keys = []; columns = [] })) vs) (sym (values-other values i j part (omega (arith, o)))) (h j (omega (arith, o)))
  | yes m ↦
      let e : i ≡ j = omega (arith, k, m) in
      subst (λ (w : ℕ). AreCombined rule n (slice_index_or (map seen_part parts) w (record { keys = []; columns = [] })) (slice_index_or (map numbers_of (set values i part)) w [])) e
      (subst (λ (s : SeenPart). AreCombined rule n s (slice_index_or (map numbers_of (set values i part)) i [])) (sym (seen-at parts i d l ∙ ap seen_part (sym q)))
      (subst (λ (vs : List ℤ). AreCombined rule n (seen_part d) vs) (sym (values-set values i part r)) c))
]

-- other values that are the same as far as they go
pub parts-same : (rule : Arithmetic) (n : ℤ) (parts : List Part) (filled : ℕ) (values new : List (Vec ℤ Global)) → ((j : ℕ) → slice_index_or (map numbers_of new) j [] ≡ slice_index_or (map numbers_of values) j []) → AreCombinedParts rule n parts filled values
    → AreCombinedParts rule n parts filled new
parts-same rule n parts filled values new e h j l =
    subst (λ (vs : List ℤ). AreCombined rule n (slice_index_or (map seen_part parts) j (record { keys = []; columns = [] })) vs) (sym (e j)) (h j l)

-- ---- sets at their places

pub every-set : {A : Type 0} (P : A → Type 0) (xs : List A) (i : ℕ) (x : A) → Every P xs → P x → Every P (set xs i x)
every-set P [] i x e h = e
every-set P (y ∷ xs) zero x e h = (h, e.1)
every-set P (y ∷ xs) (suc i) x e h = (e.0, every-set P xs i x e.1 h)

pub get-set : {A : Type 0} (xs : List A) (i : ℕ) (x d : A) → i < length xs → get_or (set xs i x) i d ≡ x
get-set [] i x d l = absurd (omega (arith, l))
get-set (y ∷ xs) zero x d l = refl
get-set (y ∷ xs) (suc i) x d l = get-set xs i x d (omega (arith, l))

pub set-length : {A : Type 0} (xs : List A) (i : ℕ) (x : A) → length (set xs i x) ≡ length xs
set-length [] i x = refl
set-length (y ∷ xs) zero x = refl
set-length (y ∷ xs) (suc i) x = ap suc (set-length xs i x)

-- sets that are not filled are those of any table
pub none-filled : (t : SeenTable) (es : List Entry) → Every (λ e. e.filled ≡ 0) es → AreOf t (map seen_values es)
none-filled t [] h = tt
none-filled t (e ∷ es) h = (λ j l. absurd (let z = h.0 in omega (arith, l, z)), none-filled t es h.1)

-- ---- in the words of tables

module _ (t : SeenTable) (parts : List Part) (seen : map seen_part parts ≡ t.parts) where
  part-is : (j : ℕ) → slice_index_or (map seen_part parts) j (record { keys = []; columns = [] }) ≡ slice_index_or t.parts (t.least + j - t.least) (record { keys = []; columns = [] })
  part-is j = ap (λ (ps : List SeenPart). slice_index_or ps j (record { keys = []; columns = [] })) seen ∙ ap (λ (i : ℕ). slice_index_or t.parts i (record { keys = []; columns = [] })) (let e : j ≡ t.least + j - t.least = omega arith in e)

  to-combined : (n : ℤ) (j : ℕ) (vs : List ℤ) → ArePowerValues t n (t.least + j) vs → AreCombined t.rule n (slice_index_or (map seen_part parts) j (record { keys = []; columns = [] })) vs
  to-combined n j vs h = subst (λ (s : SeenPart). AreCombined t.rule n s vs) (sym (part-is j)) record { lengths = h.lengths; values = h.values; same = h.same }

  from-combined : (n : ℤ) (j : ℕ) (vs : List ℤ) → AreCombined t.rule n (slice_index_or (map seen_part parts) j (record { keys = []; columns = [] })) vs → ArePowerValues t n (t.least + j) vs
  from-combined n j vs h = let g = subst (λ (s : SeenPart). AreCombined t.rule n s vs) (part-is j) h in record { lengths = g.lengths; values = g.values; same = g.same }

  pub to-entries : (es : List Entry) → AreOf t (map seen_values es) → AreEntries t.rule parts es
  to-entries [] h = tt
  to-entries (e ∷ es) h = (λ j l. to-combined e.exponent j _ (h.0 j l), to-entries es h.1)

  pub from-entries : (es : List Entry) → AreEntries t.rule parts es → AreOf t (map seen_values es)
  from-entries [] h = tt
  from-entries (e ∷ es) h = (λ j l. from-combined e.exponent j _ (h.0 j l), from-entries es h.1)

  entry-seen : (es : List Entry) (i : ℕ) (d : Entry) → i < length es → slice_index_or (map seen_values es) i (record { exponent = pos 0; filled = 0; parts = [] }) ≡ seen_values (get_or es i d)
  entry-seen [] i d l = absurd (omega (arith, l))
  entry-seen (e ∷ es) zero d l = refl
  entry-seen (e ∷ es) (suc i) d l = entry-seen es i d (omega (arith, l))

  -- what is read of an entry that is filled far enough
  pub reached : (es : List Entry) (place : ℕ) (e : Entry) (n : ℤ) (top : ℕ) → place < length es → get_or es place e ≡ e → e.exponent ≡ n → AreCombinedParts t.rule e.exponent parts e.filled e.parts.items → top + 1 - t.least ≤ e.filled → AreReached (map seen_values es) t n top place
  reached es place e n top l q x h b i a c =
      subst (λ (vs : List ℤ). ArePowerValues t n i vs) (sym (ap (λ s. slice_index_or s.parts (i - t.least) []) (entry-seen es place e l ∙ ap seen_values q)))
      (subst (λ (j : ℕ). ArePowerValues t n j (slice_index_or (map numbers_of e.parts.items) (i - t.least) [])) (let z : t.least + (i - t.least) ≡ i = omega (arith, a) in z)
      (subst (λ (m : ℤ). ArePowerValues t m (t.least + (i - t.least)) (slice_index_or (map numbers_of e.parts.items) (i - t.least) [])) x
      (from-combined e.exponent (i - t.least) (slice_index_or (map numbers_of e.parts.items) (i - t.least) []) (h (i - t.least) (omega (arith, a, b, c))))))
