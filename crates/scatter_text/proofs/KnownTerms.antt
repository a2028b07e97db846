-- A set of monomials with one term more, and what it tells of a term.
use Rattle.std.proofs.Common.{◌≡◌, ◌≢◌, ◌↔◌, suc, List, [], ◌∷◌, ◌++◌, Bool, true, false, cond, not, refl, arith, sym, ◌∙◌, ap, ℤ, All, get_or, drop, zero}
use Rattle.std.specs.Prelude.{IsTrue}
use Rattle.std.specs.BTreeSet.{BTreeSet, contains, Updates}
use Rattle.std.specs.Cmp.Lexicographic.{slice_cmp}
use Rattle.std.specs.Ordering.{is_eq, int_cmp, ordering_then, ordering_reverse}
use Rattle.std.specs.declared.cmp.Ordering.{Ordering}
use Rattle.std.specs.declared.cmp.Ordering.TheVariants.{Less, Equal, Greater}
use Rattle.std.proofs.lemmas.Cmp.{int_cmp_total}
use Rattle.std.proofs.lemmas.Map.Lookups.{CmpEqualImpliesEq, exact_signed}
use Rattle.std.proofs.lemmas.List.Elements.{All-push}
use Rattle.bend_finder.proofs.KeptMaps.{both-equal}
use Rattle.scatter_text.specs.declared.file.TermRow.{TermRow}
use Rattle.scatter_text.specs.Monomials.{exponents, Exponents, exponents_cmp, HasMonomials}
use Rattle.scatter_text.specs.Values.{AreAlike}

-- ---- the order tells lists apart

exact-lists : CmpEqualImpliesEq (slice_cmp int_cmp)
exact-lists [] [] e = refl
exact-lists [] (y ∷ ys) e = absurd (cc)
exact-lists (x ∷ xs) [] e = absurd (cc)
exact-lists (x ∷ xs) (y ∷ ys) e =
    let both = both-equal (int_cmp x y) (slice_cmp int_cmp xs ys) e in
    let first : x ≡ y = exact_signed x y both.0 in
    let rest : xs ≡ ys = exact-lists xs ys both.1 in
    λ i. first i ∷ rest i

equal-itself : (xs : List ℤ) → slice_cmp int_cmp xs xs ≡ Equal
equal-itself [] = refl
equal-itself (x ∷ xs) = ap (λ r. ordering_then r (slice_cmp int_cmp xs xs)) (tied x) ∙ equal-itself xs
  where
    tied : (x : ℤ) → int_cmp x x ≡ Equal
    tied x = own (int_cmp x x) (int_cmp_total.antisymm x x)
      where
        own : (r : Ordering) → r ≡ ordering_reverse r → r ≡ Equal
        own Less e = absurd (cc)
        own Equal e = refl
        own Greater e = absurd (cc)

-- ---- one term more

at-end : (P : TermRow → Type 0) (xs : List TermRow) (x : TermRow) → All P (xs ++ x ∷ []) → P x
at-end P [] x h = h 0 x (omega arith)
at-end P (y ∷ xs) x h = at-end P xs x (λ k d l. h (suc k) d (omega (arith, l)))

before-end : (P : TermRow → Type 0) (xs : List TermRow) (x : TermRow) → All P (xs ++ x ∷ []) → All P xs
before-end P [] x h = λ k d l. absurd (omega (arith, l))
before-end P (y ∷ xs) x h = before-more P y xs (h 0 y (omega arith)) (before-end P xs x (λ k d l. h (suc k) d (omega (arith, l))))
  where
    before-more : (P : TermRow → Type 0) (y : TermRow) (xs : List TermRow) → P y → All P xs → All P (y ∷ xs)
    before-more P y xs p h zero d l = p
    before-more P y xs p h (suc k) d l = h k d (omega (arith, l))

module _ (s n : BTreeSet Exponents) (key : Exponents) (terms : List TermRow) (t : TermRow) (h : HasMonomials s terms) (is : key.items ≡ exponents t) (u : Updates exponents_cmp s n key true) where
  abbrev Avoids : Exponents → TermRow → Type 0
  Avoids q = λ t. exponents t ≢ q.items

  missing-more : (q : Exponents) → contains exponents_cmp n q ≡ false → All (Avoids q) (terms ++ t ∷ [])
  missing-more q e = go (is_eq (exponents_cmp key q)) refl
    where
      go : (b : Bool) → is_eq (exponents_cmp key q) ≡ b → All (Avoids q) (terms ++ t ∷ [])
      go true f = absurd (let k : true ≡ false = sym (u.0 q ∙ ap (λ (b : Bool). cond b true (contains exponents_cmp s q)) f) ∙ e in cc)
      go false f =
          let same : contains exponents_cmp n q ≡ contains exponents_cmp s q = u.0 q ∙ ap (λ (b : Bool). cond b true (contains exponents_cmp s q)) f in
          All-push (Avoids q) terms t (h.missing q (sym same ∙ e)) (λ g. apart (is ∙ g) f)
        where
          apart : key.items ≡ q.items → is_eq (exponents_cmp key q) ≡ false → ⊥
          apart g f = let k : is_eq (exponents_cmp key q) ≡ true = ap is_eq (ap (λ (xs : List ℤ). slice_cmp int_cmp xs q.items) g ∙ equal-itself q.items) in cc

  other-more : (q : Exponents) → All (Avoids q) (terms ++ t ∷ []) → contains exponents_cmp n q ≡ false
  other-more q all = go (exponents_cmp key q) refl
    where
      apart : (r : Ordering) → exponents_cmp key q ≡ r → is_eq r ≡ false → contains exponents_cmp n q ≡ false
      apart r e f = u.0 q ∙ ap (λ (b : Bool). cond b true (contains exponents_cmp s q)) (ap is_eq e ∙ f) ∙ h.other q (before-end (Avoids q) terms t all)

      go : (r : Ordering) → exponents_cmp key q ≡ r → contains exponents_cmp n q ≡ false
      go Less e = apart Less e refl
      go Equal e = absurd (at-end (Avoids q) terms t all (sym is ∙ exact-lists key.items q.items e))
      go Greater e = apart Greater e refl

  pub monomials-more : HasMonomials n (terms ++ t ∷ [])
  monomials-more = record { missing = missing-more; other = other-more }

-- ---- what the set tells

alike-exponents : (s t : TermRow) → exponents s ≡ exponents t → AreAlike s t
alike-exponents s t e = (ap (λ (xs : List ℤ). get_or xs 0 s.j) e, ap (λ (xs : List ℤ). drop 1 xs) e)

pub lacks-decided : (s : BTreeSet Exponents) (key : Exponents) (terms : List TermRow) (t : TermRow) (r : Bool) → HasMonomials s terms → key.items ≡ exponents t → r ≡ contains exponents_cmp s key → IsTrue (not r) ↔ All (λ earlier. ¬ AreAlike earlier t) terms
lacks-decided s key terms t r h is e = (
  λ new k d l alike. h.missing key (sym e ∙ absent r new) k d l (exponents-alike (get_or terms k d) t alike ∙ sym is),
  λ all. present r (e ∙ h.other key (λ k d l same. all k d l (alike-exponents (get_or terms k d) t (same ∙ is)))),
)
  where
    absent : (r : Bool) → IsTrue (not r) → r ≡ false
    absent true x = absurd (let e : false ≡ true = x in cc)
    absent false x = refl

    present : (r : Bool) → r ≡ false → IsTrue (not r)
    present true x = absurd (cc)
    present false x = refl

    exponents-alike : (s t : TermRow) → AreAlike s t → exponents s ≡ exponents t
    exponents-alike s t a = let j = a.0 in let powers = a.1 in λ i. j i ∷ powers i

pub monomials-none : (s : BTreeSet Exponents) → s.keys ≡ [] → HasMonomials s []
monomials-none s e = record {
  missing = λ q f k d l. absurd (omega (arith, l));
  other = λ q all. ap (λ (ks : List Exponents). contains exponents_cmp record { keys = ks } q) e;
}
