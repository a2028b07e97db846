-- The value of a broken line, read off its tail from the root on.
use Rattle.std.proofs.Common.{◌≡◌, ℕ, refl, sym, ap, ◌∙◌, ◌+◌, arith, List, [], ◌∷◌, ◌++◌, map}
use Rattle.std.specs.Prelude.{ℤ, pos, ◌*ℤ◌, reverse, IsFalse}
use Rattle.std.proofs.lemmas.Int.{ints}
use Rattle.scattering.specs.Collections.{Every}
use Rattle.scattering.specs.Series.{Exp, Powers, Term, exp_add, exp_sub, det, powers_add, no_powers, coef, degree, pow}
use Rattle.scattering.specs.Plane.{Point}
use Rattle.scattering.specs.Wall.{Wall, cut_walls}
use Rattle.scattering.specs.ActivePoint.{is_special}
use Rattle.scattering.specs.BrokenLine.{Bend, IsBend, bend_series, live_on, product, final, value}
use Rattle.scattering.specs.Tail.{IsTraced, Tail, IsTail, last}
use Rattle.scattering.proofs.Ring.{dif-up, dif-add, dif-neg, dif-mul, dif-same}
use Rattle.scattering.proofs.Keys.{same-powers}
use Rattle.broken_line_theory.specs.TailValue.{tail_value}
use Rattle.broken_line_theory.proofs.Bends.{IsTame}
use Rattle.broken_line_theory.proofs.BendWalls.{bend-wall}
use Rattle.broken_line_theory.proofs.LinesAndTails.{det-bent}
use Rattle.broken_line_theory.proofs.TracedBends.{reverse-cons, sub-add}

-- one more bend at the end of a broken line
abbrev further : ℕ → List Wall → Bend → Term → Term
further n ws c t =
    (record { powers = powers_add t.0.powers c.key.powers; exp = exp_add t.0.exp c.key.exp }, t.1 *ℤ coef (bend_series n ws c.at t.0.exp) c.key)

final-snoc : (n : ℕ) (ws : List Wall) (x : Exp) (p : Powers) (a : ℤ) (bs : List Bend) (c : Bend) → final n ws x p a (bs ++ (c ∷ [])) ≡ further n ws c (final n ws x p a bs)
final-snoc n ws x p a [] c = refl
final-snoc n ws x p a (b ∷ bs) c = final-snoc n ws (exp_add x b.key.exp) (powers_add p b.key.powers) (a *ℤ coef (bend_series n ws b.at x) b.key) bs c

-- the power at a bend is the same before and after it
same-series : (ws : List Wall) (n : ℕ) (x : Exp) (c : Bend) → Every IsTame (cut_walls n ws) → IsFalse (is_special (cut_walls n ws) c.at) → IsBend n (cut_walls n ws) x c
    → bend_series n (cut_walls n ws) c.at (exp_sub x c.key.exp) ≡ bend_series n (cut_walls n ws) c.at x
same-series ws n x c tame plain h =
    let w = bend-wall n (cut_walls n ws) c.at x c.key tame plain h.degree h.key in
    let e : det w.wall.dir (exp_sub x c.key.exp) ≡ det w.wall.dir x =
    sym (det-bent w.wall.dir (exp_sub x c.key.exp) c.key.exp w.along) ∙ ap (det w.wall.dir) (sub-add x c.key.exp) in
    ap (pow n (product n (map (λ v. v.function) (live_on (cut_walls n ws) c.at)))) (w.as_far (exp_sub x c.key.exp) e)

one-factor : (a : ℤ) → a *ℤ pos 1 ≡ a
one-factor a = omega (arith, ints)

three-factors : (a b c : ℤ) → (a *ℤ b) *ℤ c ≡ a *ℤ (c *ℤ b)
three-factors a b c = rw (dif-up a, dif-up b, dif-up c) (simp (dif-mul, dif-add, dif-neg) (dif-same _ _ _ _ (omega arith)))

no-powers : (p : Powers) → powers_add p no_powers ≡ p
no-powers p = same-powers _ _ (omega arith) (omega arith) (omega arith) (omega arith) (omega arith) (omega arith) (omega arith) (omega arith)

three-powers : (p q r : Powers) → powers_add (powers_add p q) r ≡ powers_add p (powers_add r q)
three-powers p q r = same-powers _ _ (omega arith) (omega arith) (omega arith) (omega arith) (omega arith) (omega arith) (omega arith) (omega arith)

abbrev valued : Powers → ℤ → Exp → Powers × ℤ → Term
valued p a x v = (record { powers = powers_add p v.0; exp = x }, a *ℤ v.1)

abbrev term : Powers → Exp → ℤ → Term
term p x a = (record { powers = p; exp = x }, a)

same-term : (p q : Powers) (x y : Exp) (a b : ℤ) → p ≡ q → x ≡ y → a ≡ b → term p x a ≡ term q y b
same-term p q x y a b e f g = λ i. term (e i) (f i) (g i)

module _ (ws : List Wall) (n : ℕ) (m : Exp) (tame : Every IsTame (cut_walls n ws)) where
  -- from m forwards along the bends of a tail below a node
  pub final-value : (q : Point) (x : Exp) (used : ℕ) (p : Powers) (a : ℤ) (cs : List Bend) → IsTraced ws n m q x used cs → last x cs ≡ m
      → final n (cut_walls n ws) m p a (reverse cs) ≡ valued p a x (tail_value ws n x cs)
  final-value q x used p a [] h e = same-term p (powers_add p no_powers) m x a (a *ℤ pos 1) (sym (no-powers p)) (sym e) (sym (one-factor a))
  final-value q x used p a (c ∷ cs) h e =
      ap (final n (cut_walls n ws) m p a) (reverse-cons c cs)
      ∙ final-snoc n (cut_walls n ws) m p a (reverse cs) c
      ∙ ap (further n (cut_walls n ws) c) (final-value c.at y (used + degree c.key) p a cs h.2 e)
      ∙ same-term (powers_add (powers_add p v.0) c.key.powers) (powers_add p (powers_add c.key.powers v.0)) (exp_add y c.key.exp) x
      ((a *ℤ v.1) *ℤ coef (bend_series n (cut_walls n ws) c.at y) c.key) (a *ℤ (coef (bend_series n (cut_walls n ws) c.at x) c.key *ℤ v.1))
      (three-powers p v.0 c.key.powers) (sub-add x c.key.exp)
      (ap (λ f. (a *ℤ v.1) *ℤ coef f c.key) (same-series ws n x c tame h.1.plain h.1.bend) ∙ three-factors a v.1 (coef (bend_series n (cut_walls n ws) c.at x) c.key))
    where
      y : Exp
      y = exp_sub x c.key.exp

      v : Powers × ℤ
      v = tail_value ws n y cs

  none-before : (p : Powers) → powers_add no_powers p ≡ p
  none-before p = same-powers _ _ (omega arith) (omega arith) (omega arith) (omega arith) (omega arith) (omega arith) (omega arith) (omega arith)

  one-before : (a : ℤ) → pos 1 *ℤ a ≡ a
  one-before a = omega (arith, ints)

  -- the value of a complete tail's broken line
  pub complete-value : (q : Point) (t : Tail) → IsTail ws n m q t → last t.root t.bends ≡ m
      → value ws n m (reverse t.bends) ≡ (record { powers = (tail_value ws n t.root t.bends).0; exp = t.root }, (tail_value ws n t.root t.bends).1)
  complete-value q t h e =
      final-value q t.root 0 no_powers (pos 1) t.bends h.traced e
      ∙ same-term _ _ t.root t.root _ _ (none-before (tail_value ws n t.root t.bends).0) refl (one-before (tail_value ws n t.root t.bends).1)
