-- Classes of parallel lines, and the lines of one run more.
use Rattle.std.proofs.Common.{◌≡◌, ℕ, zero, suc, ◌+◌, ◌-◌, ◌<◌, ◌≤◌, refl, sym, subst, ap, ◌∙◌, List, [], ◌∷◌, ◌++◌, length, get_or, take, drop, arith}
use native.Mathlib.Decide.{dec_le}
use Rattle.std.proofs.lemmas.List.{take_more, get_or_default}
use Rattle.scattering.specs.SupportingLine.{supporting_line}
use Rattle.scattering.specs.Wall.{Wall}
use Rattle.scatter_diagram.specs.declared.wall.Wall.{Wall as CodeWall}
use Rattle.scatter_diagram.specs.Shown.{wall_of, walls_of}
use Rattle.local_product.specs.declared.run_line.RunLine.{RunLine}
use Rattle.local_product.specs.RunLines.{seen_line, IsLineOfFirst, AreLinesOf, IsBefore, Rise, AreParallels}

-- ---- classes

pub one-class-more : (ls : List RunLine) (b : ℕ) (es : List ℕ) (n e : ℕ) → AreParallels ls b es n → n < e → e ≤ length ls → Rise n e ls → AreParallels ls b (es ++ e ∷ []) e
one-class-more ls b [] n e h l m r = (subst (λ (x : ℕ). x < e) (sym h) l, m, subst (λ (x : ℕ). Rise x e ls) (sym h) r, refl)
one-class-more ls b (f ∷ es) n e h l m r = (h.0, h.1, h.2, one-class-more ls f es n e h.3 l m r)

pub ends-within : (ls : List RunLine) (b : ℕ) (es : List ℕ) (n : ℕ) → b ≤ length ls → AreParallels ls b es n → n ≤ length ls
ends-within ls b [] n l h = subst (λ (x : ℕ). x ≤ length ls) h l
ends-within ls b (e ∷ es) n l h = ends-within ls e es n h.1 h.3

-- the class that is next, and those after it
pub next-class : (ls : List RunLine) (es : List ℕ) (i b n e : ℕ) → i < length es → e ≡ get_or es i e → AreParallels ls b (drop i es) n → (b < e) × (e ≤ length ls) × Rise b e ls × AreParallels ls e (drop (suc i) es) n
next-class ls [] i b n e l q h = absurd (omega (arith, l))
next-class ls (f ∷ es) zero b n e l q h = subst (λ (x : ℕ). (b < x) × (x ≤ length ls) × Rise b x ls × AreParallels ls x es n) (sym q) h
next-class ls (f ∷ es) (suc i) b n e l q h = next-class ls es i b n e (omega (arith, l)) q h

pub no-class : (ls : List RunLine) (es : List ℕ) (i b n : ℕ) → length es ≤ i → AreParallels ls b (drop i es) n → b ≡ n
no-class ls [] zero b n l h = h
no-class ls [] (suc i) b n l h = h
no-class ls (f ∷ es) zero b n l h = absurd (omega (arith, l))
no-class ls (f ∷ es) (suc i) b n l h = no-class ls es i b n (omega (arith, l)) h

-- a class of one line
pub one-rises : (i : ℕ) (ls : List RunLine) → Rise i (i + 1) ls
one-rises i ls = λ j k l h. absurd (omega (arith, l, h))

pub more-rise : (b i : ℕ) (ls : List RunLine) (k m : RunLine) → 1 ≤ i → i < length ls → k ≡ get_or ls (i - 1) k → m ≡ get_or ls i m → IsBefore k m → Rise b i ls → Rise b (i + 1) ls
more-rise b i ls k m o l e f h r = λ j d p q. elim (dec_le i (j + 1)) [
  | no n ↦ r j d p (omega (arith, n))
  | yes y ↦
      let s : i - 1 ≡ j = omega (arith, y, q, o) in
      let t : i ≡ j + 1 = omega (arith, y, q) in
      let a : k ≡ get_or ls j d = e ∙ ap (λ n. get_or ls n k) s ∙ get_or_default ls j k d (omega (arith, l, t)) in
      let c : m ≡ get_or ls (j + 1) d = f ∙ ap (λ n. get_or ls n m) t ∙ get_or_default ls (j + 1) m d (omega (arith, l, t)) in
      subst (IsBefore (get_or ls j d)) c (subst (λ (x : RunLine). IsBefore x m) a h)
]

-- ---- the lines of runs

pub lines-length : (gs : List (List Wall)) (ls : List RunLine) → AreLinesOf gs ls → length ls ≡ length gs
lines-length [] [] h = refl
lines-length [] (k ∷ ls) h = absurd h
lines-length (g ∷ gs) [] h = absurd h
lines-length (g ∷ gs) (k ∷ ls) h = ap suc (lines-length gs ls h.1)

line-added : (gs : List (List Wall)) (ls : List RunLine) (g : List Wall) (k : RunLine) → IsLineOfFirst g k → AreLinesOf gs ls → AreLinesOf (gs ++ g ∷ []) (ls ++ k ∷ [])
line-added [] [] g k h hs = (h, tt)
line-added [] (m ∷ ls) g k h hs = absurd hs
line-added (q ∷ gs) [] g k h hs = absurd hs
line-added (q ∷ gs) (m ∷ ls) g k h hs = (hs.0, line-added gs ls g k h hs.1)

first-line : (ws : List CodeWall) (w : CodeWall) (k : RunLine) → 0 < length ws → w ≡ get_or ws 0 w → seen_line k ≡ supporting_line (wall_of w) → IsLineOfFirst (walls_of ws) k
first-line [] w k l f h = absurd (omega (arith, l))
first-line (v ∷ ws) w k l f h = h ∙ ap (λ u. supporting_line (wall_of u)) f

pub lines-more : (gs : List (List Wall)) (ls more : List RunLine) (i : ℕ) (ws : List CodeWall) (w : CodeWall) (k : RunLine) → i < length gs → walls_of ws ≡ get_or gs i (walls_of ws) → 0 < length ws → w ≡ get_or ws 0 w
    → seen_line k ≡ supporting_line (wall_of w) → more ≡ ls ++ k ∷ [] → AreLinesOf (take i gs) ls → AreLinesOf (take (i + 1) gs) more
lines-more gs ls more i ws w k l e s f h q hs =
    subst (AreLinesOf (take (i + 1) gs)) (sym q)
    (subst (λ (x : List (List Wall)). AreLinesOf x (ls ++ k ∷ [])) (ap (λ g. take i gs ++ g ∷ []) e ∙ sym (take_more gs i (walls_of ws) l))
    (line-added (take i gs) ls (walls_of ws) k (first-line ws w k s f h) hs))
