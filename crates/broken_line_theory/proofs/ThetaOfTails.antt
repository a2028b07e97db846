-- The theta is the sum over the complete tails.
use Rattle.std.proofs.Common.{◌≡◌, ◌≢◌, ℕ, refl, sym, ap, subst, ◌∙◌, inl, inr, Bool, true, false, List, [], ◌∷◌, ◌++◌, map}
use Rattle.std.specs.Prelude.{reverse, None, filter}
use Rattle.std.proofs.lemmas.List.{reverse-reverse}
use Rattle.scattering.specs.Collections.{In, Every, Distinct, Lists}
use Rattle.scattering.specs.Series.{Exp, origin, exp_eq, exp_add, exp_sub}
use Rattle.scattering.specs.Plane.{Point, IsPoint}
use Rattle.scattering.specs.Wall.{Wall, IsWall}
use Rattle.scattering.specs.BrokenLine.{Bend, IsBrokenLine, value}
use Rattle.scattering.specs.Tail.{Tail, IsTail, last, backwards, end_exp, IsComplete, is_complete}
use Rattle.scattering.specs.Theta.{IsAskFault, IsTheta}
use Rattle.scattering.proofs.Lists.{filter-keeps, Every-from_In, Every-at, filter-from, pairs-filter}
use Rattle.scattering.proofs.Keys.{exp_eq-same, exp_eq-refl}
use Rattle.broken_line_theory.proofs.TracedBends.{reverse-cons, sub-add, last-end}
use Rattle.broken_line_theory.proofs.CompleteTails.{lines-are-tails}
use Rattle.broken_line_theory.specs.Laws.{CompleteTailsAreLines, BrokenLinesAreListed, ThetaSumsCompleteTails}

-- ---- lists of what has a fact, along a map that tells them apart
module _ {A B : Type 0} (f : A → B) where
  In-map : (x : A) (xs : List A) → In x xs → In (f x) (map f xs)
  In-map x [] h = absurd h
  In-map x (y ∷ xs) (inl e) = inl (ap f e)
  In-map x (y ∷ xs) (inr h) = inr (In-map x xs h)

  Every-map : (P : A → Type 0) (Q : B → Type 0) (xs : List A) → ((x : A) → P x → Q (f x)) → Every P xs → Every Q (map f xs)
  Every-map P Q [] h k = tt
  Every-map P Q (x ∷ xs) h k = (h x k.0, Every-map P Q xs h k.1)

  apart : (P : A → Type 0) (x : A) (xs : List A) → P x → ((y : A) → P x → P y → f x ≡ f y → x ≡ y) → Every P xs → Every (λ y. x ≢ y) xs → Every (λ y. f x ≢ y) (map f xs)
  apart P x [] p inj k d = tt
  apart P x (y ∷ xs) p inj k d = (λ e. d.0 (inj y p k.0 e), apart P x xs p inj k.1 d.1)

  distinct : (P : A → Type 0) (xs : List A) → ((x y : A) → P x → P y → f x ≡ f y → x ≡ y) → Every P xs → Distinct xs → Distinct (map f xs)
  distinct P [] inj k d = tt
  distinct P (x ∷ xs) inj k d = (apart P x xs k.0 (inj x) k.1 d.0, distinct P xs inj k.1 d.1)

  pub Lists-map : (P : A → Type 0) (Q : B → Type 0) (xs : List A) → ((x : A) → P x → Q (f x)) → ((x y : A) → P x → P y → f x ≡ f y → x ≡ y) → ((y : B) → Q y → (x : A) × P x × (f x ≡ y)) → Lists P xs → Lists Q (map f xs)
  Lists-map P Q xs h inj back l = record {
    each = Every-map P Q xs h l.each;
    all = λ y q. let r = back y q in subst (λ (z : B). In z (map f xs)) r.2 (In-map r.0 xs (l.all r.0 r.1));
    once = distinct P xs inj l.each l.once;
  }

pub Lists-filter : {A : Type 0} (P : A → Type 0) (t : A → Bool) (xs : List A) → Lists P xs → Lists (λ x. P x × (t x ≡ true)) (filter t xs)
Lists-filter P t xs l = record {
  each = Every-from_In (λ x. P x × (t x ≡ true)) (filter t xs) (λ x i. let r = filter-from t xs x i in (Every-at P xs x l.each r.0, r.1));
  all = λ x h. filter-keeps t xs x (l.all x h.0) h.1;
  once = pairs-filter (λ x y. x ≢ y) t xs l.once;
}

-- ---- tails read forwards
abbrev pub forwards : Tail → List Bend
forwards t = reverse t.bends

end-snoc : (x : Exp) (cs : List Bend) (c : Bend) → end_exp x (cs ++ (c ∷ [])) ≡ exp_add (end_exp x cs) c.key.exp
end-snoc x [] c = refl
end-snoc x (d ∷ cs) c = end-snoc (exp_add x d.key.exp) cs c

end-last : (x : Exp) (cs : List Bend) → end_exp (last x cs) (reverse cs) ≡ x
end-last x [] = refl
end-last x (c ∷ cs) =
    ap (end_exp (last (exp_sub x c.key.exp) cs)) (reverse-cons c cs) ∙ end-snoc (last (exp_sub x c.key.exp) cs) (reverse cs) c
    ∙ ap (λ e. exp_add e c.key.exp) (end-last (exp_sub x c.key.exp) cs) ∙ sub-add x c.key.exp

pub same-tail : (s t : Tail) → s.root ≡ t.root → s.bends ≡ t.bends → s ≡ t
same-tail s t p q = λ i. record { root = p i; bends = q i }

-- a complete tail is the line of its bends read backwards
complete-back : (m : Exp) (t : Tail) → last t.root t.bends ≡ m → backwards m (forwards t) ≡ t
complete-back m t e =
    same-tail (backwards m (forwards t)) t
    (ap (λ x. end_exp x (reverse t.bends)) (sym e) ∙ end-last t.root t.bends) (reverse-reverse t.bends)

module _ (ws : List Wall) (n k : ℕ) (m : Exp) (q : Point) (walls : Every (IsWall k) ws) (point : IsPoint q) (free : IsAskFault ws n m q None) where
  abbrev IsWhole : Tail → Type 0
  IsWhole t = IsTail ws n m q t × (is_complete m t ≡ true)

  forth : (t : Tail) → IsWhole t → IsBrokenLine ws n m q (forwards t)
  forth t h = (lines-are-tails ws n k m q walls point free (forwards t)).1 (subst (IsTail ws n m q) (sym (complete-back m t (exp_eq-same (last t.root t.bends) m h.1))) h.0)

  inject : (s t : Tail) → IsWhole s → IsWhole t → forwards s ≡ forwards t → s ≡ t
  inject s t h i e =
      sym (complete-back m s (exp_eq-same (last s.root s.bends) m h.1)) ∙ ap (backwards m) e
      ∙ complete-back m t (exp_eq-same (last t.root t.bends) m i.1)

  reach : (bends : List Bend) → IsBrokenLine ws n m q bends → (t : Tail) × IsWhole t × (forwards t ≡ bends)
  reach bends l =
      (backwards m bends, ((lines-are-tails ws n k m q walls point free bends).0 l, rw (last-end m bends) (exp_eq-refl m)), reverse-reverse bends)

  -- the broken lines are the complete tails, each once
  pub lines-listed : (ts : List Tail) → Lists (IsTail ws n m q) ts → Lists (IsBrokenLine ws n m q) (map forwards (filter (is_complete m) ts))
  lines-listed ts l = Lists-map forwards IsWhole (IsBrokenLine ws n m q) (filter (is_complete m) ts) forth inject reach (Lists-filter (IsTail ws n m q) (is_complete m) ts l)

  -- and the theta is the sum of their values
  pub theta-of-tails : (ts : List Tail) → exp_eq m origin ≡ false → Lists (IsTail ws n m q) ts → IsTheta ws n m q (map (value ws n m) (map forwards (filter (is_complete m) ts)))
  theta-of-tails ts ne l = rw ne (map forwards (filter (is_complete m) ts), lines-listed ts l, λ k. refl)

-- ---- the laws

pub complete_tails_are_lines : CompleteTailsAreLines
complete_tails_are_lines ws n k m q walls point free t = (there, back)
  where
    there : IsTail ws n m q t × IsComplete m t → (bends : List Bend) × IsBrokenLine ws n m q bends × (t ≡ backwards m bends)
    there h = (forwards t, forth ws n k m q walls point free t (h.0, rw h.1 (exp_eq-refl m)), sym (complete-back m t h.1))

    back : (bends : List Bend) × IsBrokenLine ws n m q bends × (t ≡ backwards m bends) → IsTail ws n m q t × IsComplete m t
    back l =
        subst (λ (u : Tail). IsTail ws n m q u × IsComplete m u) (sym l.2)
        ((lines-are-tails ws n k m q walls point free l.0).0 l.1, last-end m l.0)

pub broken_lines_are_listed : BrokenLinesAreListed
broken_lines_are_listed ws n k m q ts walls point free l = lines-listed ws n k m q walls point free ts l

pub theta_sums_tails : ThetaSumsCompleteTails
theta_sums_tails ws n k m q ts walls point free moves l = theta-of-tails ws n k m q walls point free ts (not-true (exp_eq m origin) (λ e. moves (exp_eq-same m origin e))) l
  where
    not-true : (b : Bool) → (b ≡ true → ⊥) → b ≡ false
    not-true true h = absurd (h refl)
    not-true false h = refl
