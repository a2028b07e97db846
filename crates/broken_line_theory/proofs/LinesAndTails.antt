-- Where nothing fails, broken lines are complete tails read backwards.
use Rattle.std.proofs.Common.{◌≡◌, ◌≢◌, ℕ, refl, sym, ap, subst, ◌∙◌, ◌+◌, ◌≤◌, ◌⊎◌, inl, inr, arith, List, [], ◌∷◌, ◌++◌}
use Rattle.std.specs.Prelude.{ℤ, pos, ◌+ℤ◌, ◌-ℤ◌, ◌*ℤ◌, reverse, IsFalse, Option, Some, None}
use Rattle.std.proofs.lemmas.Int.{ints}
use Rattle.scattering.specs.Collections.{Every}
use Rattle.scattering.specs.Series.{Exp, origin, exp_add, exp_sub, det, degree, coef}
use Rattle.scattering.specs.Plane.{Point, IsPoint, IsNear, FromOn, Beyond}
use Rattle.scattering.specs.Wall.{Wall, cut_walls}
use Rattle.scattering.specs.ActivePoint.{is_special}
use Rattle.scattering.specs.BrokenLine.{Bend, IsBend, degrees, Reaches, IsStretch, Travels, IsBrokenLine}
use Rattle.scattering.specs.Tail.{IsReachedBy, IsInReach, Extends, IsTraced, Tail, IsTail, last, last_point, end_exp, backwards}
use Rattle.scattering.specs.Theta.{IsHit, IsMet}
use Rattle.scattering.proofs.Ring.{dif-up, dif-add, dif-neg, dif-mul, dif-same}
use Rattle.scattering.proofs.Lists.{not-true}
use Rattle.plane_theory.proofs.Points.{beyond-back, beyond-forth, beyond-from, from-itself}
use Rattle.plane_theory.proofs.LowestTerms.{from-splits}
use Rattle.broken_line_theory.proofs.Bends.{IsTame, reached-none, reached-add, bend-reached}
use Rattle.broken_line_theory.proofs.BendWalls.{bend-wall}
use Rattle.broken_line_theory.proofs.TracedBends.{add-sub, sub-moved, sub-self, reverse-cons, last_point-snoc, degrees-reverse, last-end, traced-snoc, traced-front, traced-last, traced-used, traced-point}

-- what no fault says
pub record IsSafe (ws : List Wall) (n : ℕ) (m : Exp) (q : Point) : Type 0 where
  pub tame : Every IsTame (cut_walls n ws)
  pub point : IsPoint q
  pub plain : IsFalse (is_special (cut_walls n ws) q)
  pub near : (p : Point) → IsHit ws n m q p → IsNear p
  pub met : (p : Point) → IsMet ws n m q p → ⊥

pub det-origin : (d : Exp) → det d origin ≡ pos 0
det-origin d = omega (arith, ints)

-- det d (x + k) = det d x where det d k = 0
det-added : (a b c d e f : ℤ) → a *ℤ f -ℤ b *ℤ e ≡ pos 0 → a *ℤ (d +ℤ f) -ℤ b *ℤ (c +ℤ e) ≡ a *ℤ d -ℤ b *ℤ c
det-added a b c d e f h = let s = split a b c d e f in omega (arith, ints, s, h)
  where
    split : (a b c d e f : ℤ) → a *ℤ (d +ℤ f) -ℤ b *ℤ (c +ℤ e) ≡ (a *ℤ d -ℤ b *ℤ c) +ℤ (a *ℤ f -ℤ b *ℤ e)
    split a b c d e f = rw (dif-up a, dif-up b, dif-up c, dif-up d, dif-up e, dif-up f) (simp (dif-mul, dif-add, dif-neg) (dif-same _ _ _ _ (omega arith)))

pub det-bent : (d x k : Exp) → det d k ≡ pos 0 → det d (exp_add x k) ≡ det d x
det-bent d x k h = det-added d.a d.b x.a x.b k.a k.b h

module _ (ws : List Wall) (n : ℕ) (tame : Every IsTame (cut_walls n ws)) where
  -- a bend seen from the other side
  forth-bend : (x : Exp) (c : Bend) → IsFalse (is_special (cut_walls n ws) c.at) → IsBend n (cut_walls n ws) x c → IsBend n (cut_walls n ws) (exp_add x c.key.exp) c
  forth-bend x c plain h =
      let w = bend-wall n (cut_walls n ws) c.at x c.key tame plain h.degree h.key in
      record { point = h.point; degree = h.degree; key = λ z. h.key (ap (λ f. coef f c.key) (sym (w.same (exp_add x c.key.exp) (det-bent w.wall.dir x c.key.exp w.along))) ∙ z) }

  back-bend : (x : Exp) (c : Bend) → IsFalse (is_special (cut_walls n ws) c.at) → IsBend n (cut_walls n ws) (exp_add x c.key.exp) c → IsBend n (cut_walls n ws) x c
  back-bend x c plain h =
      let w = bend-wall n (cut_walls n ws) c.at (exp_add x c.key.exp) c.key tame plain h.degree h.key in
      record { point = h.point; degree = h.degree; key = λ z. h.key (ap (λ f. coef f c.key) (sym (w.same x (sym (det-bent w.wall.dir x c.key.exp w.along)))) ∙ z) }

  moves : (x : Exp) (c : Bend) → IsFalse (is_special (cut_walls n ws) c.at) → IsBend n (cut_walls n ws) x c → x ≢ origin
  moves x c plain h e =
      let w = bend-wall n (cut_walls n ws) c.at x c.key tame plain h.degree h.key in
      w.crosses (ap (det w.wall.dir) e ∙ det-origin w.wall.dir)

  -- no line and no tail leads from the exponent (0, 0)
  pub line-moves : (m : Exp) (q : Point) (bends : List Bend) → IsBrokenLine ws n m q bends → m ≢ origin
  line-moves m q [] h = h.travels.moves
  line-moves m q (c ∷ cs) h = h.travels.0.moves

  pub tail-moves : (m : Exp) (q : Point) (bends : List Bend) → IsTail ws n m q (backwards m bends) → m ≢ origin
  tail-moves m q [] h = h.moves
  tail-moves m q (c ∷ cs) h =
      let top = end_exp (exp_add m c.key.exp) cs in
      let e : Extends ws n (last_point q (reverse cs)) (exp_add m c.key.exp) c = rw (last-end (exp_add m c.key.exp) cs) at (traced-last ws n m q top 0 (reverse cs) c (rw (← reverse-cons c cs) h.traced)) in
      moves m c e.plain (back-bend m c e.plain e.bend)

module _ (ws : List Wall) (n : ℕ) (m : Exp) (q : Point) (safe : IsSafe ws n m q) where
  -- ---- from a line to a tail
  pub record Found (from : Option Point) (x : Exp) (bends : List Bend) : Type 0 where
    pub moves : end_exp x bends ≢ origin
    pub traced : IsTraced ws n m q (end_exp x bends) 0 (reverse bends)
    pub stretch : IsStretch (cut_walls n ws) from x (last_point q (reverse bends))

  met-here : (from : Option Point) (x : Exp) (p : Point) → IsPoint p → ((o : Point) → from ≡ Some o → IsPoint o) → IsStretch (cut_walls n ws) from x p → IsFalse (is_special (cut_walls n ws) p)
  met-here None x p i j s = s.clear p i (from-itself p x i.below) tt
  met-here (Some o) x p i j s = s.clear p i (from-itself p x i.below) (beyond-from p x o (beyond-back o x p (j o refl).below i.below s.reaches))

  pub line-traced : (from : Option Point) (x : Exp) (bends : List Bend) (i : ℕ) → ((o : Point) → from ≡ Some o → IsPoint o) → i + degrees bends ≤ n → IsReachedBy (cut_walls n ws) (exp_sub x m) i
      → Travels n (cut_walls n ws) from x bends q → Found from x bends
  line-traced from x [] i j le r t = record { moves = t.moves; traced = (i, omega (arith, le), r); stretch = t }
  line-traced from x (c ∷ cs) i j le r t =
      let plain = met-here from x c.at t.1.point j t.0 in
      let reach : IsReachedBy (cut_walls n ws) (exp_sub (exp_add x c.key.exp) m) (i + degree c.key) =
      rw (← sub-moved x c.key.exp m) (reached-add (cut_walls n ws) (exp_sub x m) c.key.exp i (degree c.key) r (bend-reached n (cut_walls n ws) c.at x c.key t.1.key)) in
      let f : Found (Some c.at) (exp_add x c.key.exp) cs = line-traced (Some c.at) (exp_add x c.key.exp) cs (i + degree c.key) (λ o e. some-point c.at o t.1.point e) (omega (arith, le)) reach t.2 in
      let root = end_exp (exp_add x c.key.exp) cs in
      let end : last root (reverse cs) ≡ exp_add x c.key.exp = last-end (exp_add x c.key.exp) cs in
      let p = last_point q (reverse cs) in
      let ip : IsPoint p = traced-point ws n m q root 0 (reverse cs) safe.point f.traced in
      let bend = forth-bend ws n safe.tame x c plain t.1 in
      let ahead : Beyond p (exp_add x c.key.exp) c.at = beyond-back c.at (exp_add x c.key.exp) p t.1.point.below ip.below f.stretch.reaches in
      let w = bend-wall n (cut_walls n ws) c.at (exp_add x c.key.exp) c.key safe.tame plain bend.degree bend.key in
      let hit : IsHit ws n m q c.at = (t.1.point, (record { root = root; bends = reverse cs }, w.wall, record { moves = f.moves; traced = f.traced }, rw end ahead, w.on, rw end w.crosses)) in
      let e : Extends ws n p (last root (reverse cs)) c = rw end (record { ahead = ahead; near = safe.near c.at hit; plain = plain; bend = bend }) in
      let d = degrees-reverse cs in
      let reached : IsInReach ws n m (exp_sub (last root (reverse cs)) c.key.exp) (0 + degrees (reverse cs) + degree c.key) =
      subst (λ (u : Exp). IsInReach ws n m u (0 + degrees (reverse cs) + degree c.key)) (sym (ap (λ e. exp_sub e c.key.exp) end ∙ add-sub x c.key.exp)) (i, omega (arith, le, d), r) in
      record {
        moves = f.moves;
        traced = rw (reverse-cons c cs) (traced-snoc ws n m q root 0 (reverse cs) c f.traced e reached);
        stretch = rw (reverse-cons c cs, last_point-snoc q (reverse cs) c) t.0;
      }
    where
      some-point : (p o : Point) → IsPoint p → Some p ≡ Some o → IsPoint o
      some-point p o i e = subst IsPoint (some-same p o e) i
        where
          some-same : (p o : Point) → Some p ≡ Some o → p ≡ o
          some-same p o e = cc

  -- ---- from a tail to a line
  clear-ahead : (t : Tail) → IsTail ws n m q t → IsPoint (last_point q t.bends) → last t.root t.bends ≢ origin → IsFalse (is_special (cut_walls n ws) (last_point q t.bends))
      → (p : Point) → IsPoint p → FromOn (last_point q t.bends) (last t.root t.bends) p → IsFalse (is_special (cut_walls n ws) p)
  clear-ahead t h i ne plain p ip f = go (from-splits (last_point q t.bends) (last t.root t.bends) p i ip ne f)
    where
      go : (last_point q t.bends ≡ p) ⊎ Beyond (last_point q t.bends) (last t.root t.bends) p → IsFalse (is_special (cut_walls n ws) p)
      go (inl e) = subst (λ (r : Point). IsFalse (is_special (cut_walls n ws) r)) e plain
      go (inr b) = not-true (is_special (cut_walls n ws) p) (λ s. safe.met p ((ip, (t, h, b)), s))

  pub traced-line : (from : Option Point) (x : Exp) (bends : List Bend) → x ≢ origin → end_exp x bends ≢ origin → IsTraced ws n m q (end_exp x bends) 0 (reverse bends)
      → Reaches from x (last_point q (reverse bends)) → Travels n (cut_walls n ws) from x bends q
  traced-line from x [] ne root t r =
      record { moves = ne; reaches = r; clear = λ p i f _. clear-ahead (record { root = x; bends = [] }) (record { moves = ne; traced = t }) safe.point ne safe.plain p i f }
  traced-line from x (c ∷ cs) ne root t r =
      let y = exp_add x c.key.exp in
      let top = end_exp y cs in
      let end : last top (reverse cs) ≡ y = last-end y cs in
      let whole : last top (reverse (c ∷ cs)) ≡ x = last-end x (c ∷ cs) in
      let point : last_point q (reverse (c ∷ cs)) ≡ c.at = ap (last_point q) (reverse-cons c cs) ∙ last_point-snoc q (reverse cs) c in
      let u : IsTraced ws n m q top 0 (reverse cs ++ (c ∷ [])) = rw (← reverse-cons c cs) t in
      let front = traced-front ws n m q top 0 (reverse cs) c u in
      let p = last_point q (reverse cs) in
      let ip : IsPoint p = traced-point ws n m q top 0 (reverse cs) safe.point front in
      let e : Extends ws n p y c = rw end at (traced-last ws n m q top 0 (reverse cs) c u) in
      let clear : (s : Point) → IsPoint s → FromOn c.at x s → IsFalse (is_special (cut_walls n ws) s) =
      rw (point, whole) at (clear-ahead (record { root = top; bends = reverse (c ∷ cs) }) (record { moves = root; traced = t }) (rw point e.bend.point) (rw whole ne) (rw point e.plain)) in (
        record { moves = ne; reaches = rw point at r; clear = λ s i f _. clear s i f },
        back-bend ws n safe.tame x c e.plain e.bend,
        traced-line (Some c.at) y cs (moves ws n safe.tame y c e.plain e.bend) root front (beyond-forth p y c.at ip.below e.bend.point.below e.ahead),
      )

  -- ---- both, for a line from infinity
  pub line-tail : (bends : List Bend) → m ≢ origin → IsBrokenLine ws n m q bends → IsTail ws n m q (backwards m bends)
  line-tail bends ne h =
      let f = line-traced None m bends 0 (λ o e. absurd (none-some o e)) (let k = h.degrees in omega (arith, k)) (subst (λ (u : Exp). IsReachedBy (cut_walls n ws) u 0) (sym (sub-self m)) (reached-none (cut_walls n ws))) h.travels in
      record { moves = f.moves; traced = f.traced }
    where
      none-some : (o : Point) → None ≡ Some o → ⊥
      none-some o e = cc

  pub tail-line : (bends : List Bend) → m ≢ origin → IsTail ws n m q (backwards m bends) → IsBrokenLine ws n m q bends
  tail-line bends ne h = record {
    travels = traced-line None m bends ne h.moves h.traced tt;
    degrees = let k = traced-used ws n m q (end_exp m bends) 0 (reverse bends) h.traced in let d = degrees-reverse bends in omega (arith, k, d);
  }
