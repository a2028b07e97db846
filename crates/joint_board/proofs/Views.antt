-- Views in a list that one step changes.
use Rattle.std.proofs.Common.{◌≡◌, ◌≢◌, ◌⊎◌, ℕ, zero, suc, ◌+◌, ◌<◌, true, false, true≢false, List, [], ◌∷◌, ◌++◌, length, set, refl, sym, ap, ◌∙◌, subst, ⊎_elim, inl, inr, arith}
use mathlib.Core.Option.{some, some-injective, some-ne-none}
use lib.ListN.{get_elem?}
use Rattle.atomic_table.proofs.Lists.{at_set}
use Rattle.joint_board.specs.declared.view.View.{View}
use Rattle.joint_board.specs.Rule.{Fits, IsLive}

pub not_true : false ≡ true → ⊥
not_true e = true≢false (sym e)

-- w stands for the seat that v stood for
pub record Stays (v w : View) : Type 0 where
  pub number : w.number ≡ v.number
  pub live : w.spent ≡ v.spent

pub stays : (v : View) → Stays v v
stays v = record { number = refl; live = refl }

-- each view after the step stands for the seat for which one stood before
pub before : (views : List View) (i : ℕ) (v w : View) → get_elem? views i ≡ some v → Stays v w
    → (j : ℕ) (a : View) → get_elem? (set views i w) j ≡ some a
    → (b : View) × (get_elem? views j ≡ some b) × Stays b a
before views i v w at same j a e = ⊎_elim
    (λ (t : (j ≡ i) × (w ≡ a)). (
      v,
      subst (λ (z : ℕ). get_elem? views z ≡ some v) (sym t.0) at,
      subst (Stays v) t.1 same,
    ))
    (λ (t : (j ≢ i) × (get_elem? views j ≡ some a)). (a, t.1, stays a))
    (at_set views i j w a e)

pub each_set : (P : View → Type 0) (views : List View) (i : ℕ) (w : View)
    → ((j : ℕ) (u : View) → get_elem? views j ≡ some u → P u) → P w
    → (j : ℕ) (u : View) → get_elem? (set views i w) j ≡ some u → P u
each_set P views i w h mine j u e = ⊎_elim
    (λ (t : (j ≡ i) × (w ≡ u)). subst P t.1 mine)
    (λ (t : (j ≢ i) × (get_elem? views j ≡ some u)). h j u t.1)
    (at_set views i j w u e)

-- the view that the step writes
pub set_first : (P : View → Type 0) (views : List View) (w : View) → P w
    → (u : View) → get_elem? (set views 0 w) 0 ≡ some u → P u
set_first P views w mine u e = ⊎_elim
    (λ (t : (0 ≡ 0) × (w ≡ u)). subst P t.1 mine)
    (λ (t : (0 ≢ 0) × (get_elem? views 0 ≡ some u)). absurd (t.0 refl))
    (at_set views 0 0 w u e)

pub at_end : (l : List View) (a : View) (j : ℕ) (b : View) → get_elem? (l ++ a ∷ []) j ≡ some b
    → (get_elem? l j ≡ some b) ⊎ ((j ≡ length l) × (a ≡ b))
at_end [] a zero b e = inr (refl, some-injective a b e)
at_end [] a (suc j) b e = absurd (some-ne-none b (sym e))
at_end (x ∷ xs) a zero b e = inl e
at_end (x ∷ xs) a (suc j) b e = ⊎_elim
    (λ t. inl t)
    (λ (t : (j ≡ length xs) × (a ≡ b)). inr (ap suc t.0, t.1))
    (at_end xs a j b e)

pub first_of : (l : List View) → 0 < length l → (x : View) × (get_elem? l 0 ≡ some x)
first_of [] h = absurd (omega arith)
first_of (x ∷ xs) h = (x, refl)

pub fits_live : (tasks made : ℕ) (joined : List ℕ) (v : View) → v.spent ≡ false
    → IsLive tasks made joined v → Fits tasks made joined v
fits_live tasks made joined v alive live = ((λ s. absurd (not_true (sym alive ∙ s))), (λ s. live))

pub fits_more : (tasks made : ℕ) (joined : List ℕ) (v : View) → Fits tasks made joined v
    → Fits tasks (made + 1) joined v
fits_more tasks made joined v f = (
  f.0,
  (λ s.
      let g = f.1 s in
      record {
        tasks_are = g.tasks_are;
        below = let l = g.below in omega arith;
        apart = g.apart;
        late = g.late;
      }),
)
