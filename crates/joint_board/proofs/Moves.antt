-- Each step keeps the rule of the table.
use Rattle.std.proofs.Common.{◌≡◌, ◌≢◌, ℕ, zero, suc, ◌+◌, ◌%◌, ◌^◌, ◌<◌, ◌≤◌, nat_lt, Bool, true, false, true≢false, cond, not, List, [], ◌∷◌, ◌++◌, length, length-set, length-append, set, refl, sym, ap, ◌∙◌, subst, ⊎_elim, arith, sum_by}
use mathlib.Core.Option.{some}
use lib.ListN.{get_elem?}
use Rattle.atomic_table.proofs.Lists.{at_set}
use Rattle.limits.specs.Limits.{most_workers}
use Rattle.std.proofs.lemmas.Bool.{ltb-true}
use Rattle.joint_board.specs.declared.view.View.{View}
use Rattle.joint_board.specs.Rule.{times_in, has_late, ended, after_split, fresh_view, after_claim, both_views, spent_view, IsAbove, IsFull, IsLive, Fits, Heads, IsBoard}
use Rattle.joint_board.proofs.Sums.{sum_set, sum_snoc, part_of_sum, sum_ended, sum_alone, times-append, times_else, here_or_there, once_suc, once_here, below_of_once, late_snoc, late_append, late_one_of}
use Rattle.joint_board.proofs.Views.{Stays, before, each_set, set_first, at_end, first_of, fits_live, fits_more}

-- ---- a claim

late_bound : (b : Bool) (t n task : ℕ) → (b ≡ true → n < task) → n ≤ task + t
    → n + 1 ≤ task + (t + cond (not b) 1 0)
late_bound true t n task lt le = let l = lt refl in omega arith
late_bound false t n task lt le = omega arith

pub claims : (tasks id : ℕ) (v : View) → v.done ≡ false → v.spent ≡ false → (n : ℕ) (views : List View)
    → IsBoard tasks n views → get_elem? views id ≡ some v
    → IsBoard tasks (n + 1) (set views id (after_claim v n))
claims tasks id v idle alive n views b at =
    let w = after_claim v n in
    let fits = (b.each id v at).1 alive in
    let none : has_late tasks v.drawn ≡ false = sym fits.late ∙ idle in
    let same : nat_lt n v.tasks ≡ nat_lt n tasks = ap (nat_lt n) fits.tasks_are in
    let live : IsLive tasks b.made b.joined w = record {
      tasks_are = fits.tasks_are;
      below = fits.below;
      apart = fits.apart;
      late = ap not same ∙ sym (late_snoc tasks v.drawn n none);
    } in
    let back = before views id v w at (record { number = refl; live = refl }) in
    let heads : (u : View) → get_elem? (set views id w) 0 ≡ some u → Heads b.made b.joined u = λ u e. ⊎_elim
    (λ (t : (0 ≡ id) × (w ≡ u)).
    let h = b.head_is v (subst (λ (k : ℕ). get_elem? views k ≡ some v) (sym t.0) at) in
    subst (Heads b.made b.joined) t.1 (record { number = h.number; live = h.live; made_is = h.made_is; joined_is = h.joined_is }))
    (λ (t : (0 ≢ id) × (get_elem? views 0 ≡ some u)). b.head_is u t.1)
    (at_set views id 0 w u e) in record {
      made = b.made;
      joined = b.joined;
      small = b.small;
      head_is = heads;
      made_is = length-set views id w ∙ b.made_is;
      few = b.few;
      each = each_set (Fits tasks b.made b.joined) views id w b.each (fits_live tasks b.made b.joined w alive live);
      gone = b.gone;
      apart = λ i j x y ex ey sx sy num.
          let p = back i x ex in
          let q = back j y ey in
          b.apart i j p.0 q.0 p.1 q.1 (sym p.2.live ∙ sx) (sym q.2.live ∙ sy) (sym p.2.number ∙ (num ∙ q.2.number));
      once = λ x. omega (
        arith,
        sum_set (λ u. times_in x u.drawn) views id v w at,
        b.once x,
        times-append x v.drawn (n ∷ []),
        once_suc x n,
      );
      bound =
          let s = sum_set ended views id v w at in
          let mine : ended v ≡ 0 = ap (λ (d : Bool). cond d 1 0) idle in
          let this : ended w ≡ cond (not (nat_lt n tasks)) 1 0 = ap (λ (d : Bool). cond (not d) 1 0) same in
          let late = late_bound (nat_lt n tasks) (sum_by ended views) n tasks (ltb-true n tasks) b.bound in
          omega arith;
    }

-- the word does not wrap
pub no_wrap : (tasks n : ℕ) (views : List View) → IsBoard tasks n views → (n + 1) % 2 ^ 64 ≡ n + 1
no_wrap tasks n views b = omega (arith, sum_ended views, b.small, b.made_is, b.few, b.bound)

-- what a seat drew is below the word
pub drawn_below : (tasks n : ℕ) (views : List View) (id : ℕ) (v : View) → IsBoard tasks n views
    → get_elem? views id ≡ some v → IsAbove v.drawn n
drawn_below tasks n views id v b at x h =
    let t = part_of_sum (λ u. times_in x u.drawn) views id v at in
    let o = b.once x in
    below_of_once x n (omega arith)

-- ---- the first seat makes another one

no_more : (t : ℕ) → (0 < t → ⊥) → t ≡ 0
no_more zero h = refl
no_more (suc t) h = absurd (h (omega arith))

splits : (tasks : ℕ) (v : View) → v.spent ≡ false → v.done ≡ false → v.made < most_workers
    → (n : ℕ) (views : List View) → IsBoard tasks n views → get_elem? views 0 ≡ some v
    → IsBoard tasks n (set views 0 (after_split v) ++ fresh_view v ∷ [])
splits tasks v alive idle few n views b at =
    let w = after_split v in
    let new = fresh_view v in
    let mid = set views 0 w in
    let head = b.head_is v at in
    let fits = (b.each 0 v at).1 alive in
    let more : v.made ≡ b.made = head.made_is in
    let long : length mid ≡ b.made = length-set views 0 w ∙ b.made_is in
    let unused : times_in v.made b.joined ≡ 0 = no_more (times_in v.made b.joined) (λ h. let g = (b.gone v.made h).1 in omega arith) in
    let live : IsLive tasks (b.made + 1) b.joined new =
    record { tasks_are = fits.tasks_are; below = omega arith; apart = unused; late = refl } in
    let mine = (fits_more tasks b.made b.joined v (b.each 0 v at)).1 alive in
    let mine' : IsLive tasks (b.made + 1) b.joined w =
    record { tasks_are = mine.tasks_are; below = mine.below; apart = mine.apart; late = mine.late } in
    let old = each_set (Fits tasks (b.made + 1) b.joined) views 0 w
    (λ j u e. fits_more tasks b.made b.joined u (b.each j u e))
    (fits_live tasks (b.made + 1) b.joined w alive mine') in
    let first : Heads (b.made + 1) b.joined w =
    record { number = head.number; live = head.live; made_is = ap (λ (k : ℕ). k + 1) head.made_is; joined_is = head.joined_is } in
    let back = before views 0 v w at (record { number = refl; live = refl }) in
    let smaller : (j : ℕ) (u : View) → get_elem? mid j ≡ some u → u.spent ≡ false → u.number < b.made = λ j u e s.
    let p = back j u e in
    let f = (b.each j p.0 p.1).1 (sym p.2.live ∙ s) in
    subst (λ (k : ℕ). k < b.made) (sym p.2.number) f.below in
    let other : (j : ℕ) (x y : View) → get_elem? mid j ≡ some x → x.spent ≡ false → new ≡ y → x.number ≢ y.number = λ j x y e s q num.
    let l = smaller j x e s in
    let z : v.made ≡ y.number = ap (λ (u : View). u.number) q in
    absurd (omega arith) in record {
      made = b.made + 1;
      joined = b.joined;
      small = b.small;
      head_is = λ u e. ⊎_elim
          (λ (t : get_elem? mid 0 ≡ some u). set_first (Heads (b.made + 1) b.joined) views w first u t)
          (λ (t : (0 ≡ length mid) × (new ≡ u)). let l = fits.below in let z = t.0 in absurd (omega arith))
          (at_end mid new 0 u e);
      made_is = omega (arith, length-append mid (new ∷ []));
      few = omega arith;
      each = λ j u e. ⊎_elim
          (λ (t : get_elem? mid j ≡ some u). old j u t)
          (λ (t : (j ≡ length mid) × (new ≡ u)).
          subst (Fits tasks (b.made + 1) b.joined) t.1 (fits_live tasks (b.made + 1) b.joined new refl live))
          (at_end mid new j u e);
      gone = λ k h. let g = b.gone k h in (g.0, (let l = g.1 in omega arith));
      apart = λ i j x y ex ey sx sy num. ⊎_elim
          (λ (p : get_elem? mid i ≡ some x). ⊎_elim
          (λ (q : get_elem? mid j ≡ some y).
          let a = back i x p in
          let c = back j y q in
          b.apart i j a.0 c.0 a.1 c.1 (sym a.2.live ∙ sx) (sym c.2.live ∙ sy) (sym a.2.number ∙ (num ∙ c.2.number)))
          (λ (q : (j ≡ length mid) × (new ≡ y)). absurd (other i x y p sx q.1 num))
          (at_end mid new j y ey))
          (λ (p : (i ≡ length mid) × (new ≡ x)). ⊎_elim
          (λ (q : get_elem? mid j ≡ some y). absurd (other j y x q sy p.1 (sym num)))
          (λ (q : (j ≡ length mid) × (new ≡ y)). p.0 ∙ sym q.0)
          (at_end mid new j y ey))
          (at_end mid new i x ex);
      once = λ x. let f : View → ℕ = λ u. times_in x u.drawn in omega (
        arith,
        sum_set f views 0 v w at,
        sum_snoc f mid new,
        b.once x,
      );
      bound = omega (arith, sum_set ended views 0 v w at, sum_snoc ended mid new, b.bound);
    }

pub splits_at : (tasks id : ℕ) → id ≡ 0 → (v : View) → v.spent ≡ false → v.done ≡ false
    → v.made < most_workers → (n : ℕ) (views : List View) → IsBoard tasks n views
    → get_elem? views id ≡ some v
    → IsBoard tasks n (set views id (after_split v) ++ fresh_view v ∷ [])
splits_at tasks id none v alive idle few n views b at =
    let first = subst (λ (k : ℕ). get_elem? views k ≡ some v) none at in
    subst (λ (k : ℕ). IsBoard tasks n (set views k (after_split v) ++ fresh_view v ∷ [])) (sym none)
    (splits tasks v alive idle few n views b first)

-- ---- the first seat takes in another one

-- the seat with the number 0 is the first one
first_place : (tasks n id : ℕ) (v : View) (views : List View) → IsBoard tasks n views
    → get_elem? views id ≡ some v → v.spent ≡ false → v.number ≡ 0 → 0 ≡ id
first_place tasks n id v views b at alive none =
    let fits = (b.each id v at).1 alive in
    let pos : 0 < length views = let l = fits.below in let m = b.made_is in omega arith in
    let top = first_of views pos in
    let head = b.head_is top.0 top.1 in
    b.apart 0 id top.0 v top.1 at head.live alive (head.number ∙ sym none)

pub joins : (tasks id other : ℕ) (v w : View) → v.spent ≡ false → v.done ≡ true → v.number ≡ 0
    → w.spent ≡ false → w.done ≡ true → (n : ℕ) (views : List View) → IsBoard tasks n views
    → get_elem? views id ≡ some v → (other ≡ id → ⊥)
    → get_elem? (set views id (both_views v w)) other ≡ some w
    → IsBoard tasks n (set (set views id (both_views v w)) other spent_view)
joins tasks id other v w alive over none alive' over' n views b at differs there =
    let both = both_views v w in
    let mid = set views id both in
    let last = set mid other spent_view in
    let was : get_elem? views other ≡ some w = ⊎_elim
    (λ (t : (other ≡ id) × (both ≡ w)). absurd (differs t.0))
    (λ (t : (other ≢ id) × (get_elem? views other ≡ some w)). t.1)
    (at_set views id other both w there) in
    let fits = (b.each id v at).1 alive in
    let fits' = (b.each other w was).1 alive' in
    let id0 = first_place tasks n id v views b at alive none in
    let head = b.head_is v (subst (λ (k : ℕ). get_elem? views k ≡ some v) (sym id0) at) in
    let away : w.number ≢ 0 = λ e. differs (b.apart other id w v was at alive' alive (e ∙ sym none)) in
    let J = w.number ∷ b.joined in
    let back = before views id v both at (record { number = refl; live = refl }) in
    let live : IsLive tasks b.made J both = record {
      tasks_are = fits.tasks_are;
      below = fits.below;
      apart = times_else v.number w.number b.joined (λ e. away (sym e ∙ none)) fits.apart;
      late = over ∙ sym (late_append tasks v.drawn w.drawn (sym fits.late ∙ over));
    } in
    let first : Heads b.made J both = record {
      number = head.number;
      live = head.live;
      made_is = head.made_is;
      joined_is = ap (λ (l : List ℕ). w.number ∷ l) head.joined_is;
    } in
    let fits_mid : (j : ℕ) (u : View) → j ≢ other → get_elem? mid j ≡ some u → Fits tasks b.made J u = λ j u far e. ⊎_elim
    (λ (t : (j ≡ id) × (both ≡ u)). subst (Fits tasks b.made J) t.1 (fits_live tasks b.made J both alive live))
    (λ (t : (j ≢ id) × (get_elem? views j ≡ some u)).
    let f = b.each j u t.1 in (
      f.0,
      (λ s. let g = f.1 s in record {
        tasks_are = g.tasks_are;
        below = g.below;
        apart = times_else u.number w.number b.joined (λ q. far (b.apart j other u w t.1 was s alive' q)) g.apart;
        late = g.late;
      }),
    ))
    (at_set views id j both u e) in
    let left : (j : ℕ) (u : View) → get_elem? last j ≡ some u → u.spent ≡ false
    → (a : View) × (get_elem? views j ≡ some a) × Stays a u = λ j u e s. ⊎_elim
    (λ (t : (j ≡ other) × (spent_view ≡ u)). absurd (true≢false (ap (λ (x : View). x.spent) t.1 ∙ s)))
    (λ (t : (j ≢ other) × (get_elem? mid j ≡ some u)). back j u t.1)
    (at_set mid other j spent_view u e) in record {
      made = b.made;
      joined = J;
      small = b.small;
      head_is = λ u e. ⊎_elim
          (λ (t : (0 ≡ other) × (spent_view ≡ u)). absurd (differs (sym t.0 ∙ id0)))
          (λ (t : (0 ≢ other) × (get_elem? mid 0 ≡ some u)). ⊎_elim
          (λ (q : (0 ≡ id) × (both ≡ u)). subst (Heads b.made J) q.1 first)
          (λ (q : (0 ≢ id) × (get_elem? views 0 ≡ some u)). absurd (q.0 id0))
          (at_set views id 0 both u t.1))
          (at_set mid other 0 spent_view u e);
      made_is = length-set mid other spent_view ∙ (length-set views id both ∙ b.made_is);
      few = b.few;
      each = λ j u e. ⊎_elim
          (λ (t : (j ≡ other) × (spent_view ≡ u)).
          subst (Fits tasks b.made J) t.1 ((λ s. refl), (λ s. absurd (true≢false s))))
          (λ (t : (j ≢ other) × (get_elem? mid j ≡ some u)). fits_mid j u t.0 t.1)
          (at_set mid other j spent_view u e);
      gone = λ k h. ⊎_elim
          (λ (e : k ≡ w.number).
          let l = fits'.below in
          let z : k ≢ 0 = λ q. away (sym e ∙ q) in
          (omega arith, subst (λ (m : ℕ). m < b.made) (sym e) l))
          (λ (t : 0 < times_in k b.joined). b.gone k t)
          (here_or_there k w.number b.joined h);
      apart = λ i j x y ex ey sx sy num.
          let p = left i x ex sx in
          let q = left j y ey sy in
          b.apart i j p.0 q.0 p.1 q.1 (sym p.2.live ∙ sx) (sym q.2.live ∙ sy) (sym p.2.number ∙ (num ∙ q.2.number));
      once = λ x. let f : View → ℕ = λ u. times_in x u.drawn in omega (
        arith,
        sum_set f views id v both at,
        sum_set f mid other w spent_view there,
        b.once x,
        times-append x v.drawn w.drawn,
      );
      bound =
          let d : ended w ≡ 1 = ap (λ (z : Bool). cond z 1 0) over' in
          omega (arith, sum_set ended views id v both at, sum_set ended mid other w spent_view there, b.bound);
    }

-- ---- all seats are joined

-- once all were joined into it, the first seat drew each task once
pub settles : (tasks id : ℕ) (v : View) → v.spent ≡ false → v.done ≡ true → v.number ≡ 0 → IsFull v
    → (n : ℕ) (views : List View) → IsBoard tasks n views → get_elem? views id ≡ some v
    → (x : ℕ) → x < v.tasks → times_in x v.drawn ≡ 1
settles tasks id v alive over none full n views b at x less =
    let fits = (b.each id v at).1 alive in
    let id0 = first_place tasks n id v views b at alive none in
    let at0 : get_elem? views 0 ≡ some v = subst (λ (k : ℕ). get_elem? views k ≡ some v) (sym id0) at in
    let head = b.head_is v at0 in
    let f : View → ℕ = λ u. times_in x u.drawn in
    let gone : (j : ℕ) (u : View) → 0 < j → get_elem? views j ≡ some u → (s : Bool) → u.spent ≡ s → f u ≡ 0 = λ j u far e s. elim s as (λ k. u.spent ≡ k → times_in x u.drawn ≡ 0) [
      | true ↦ λ is. ap (times_in x) ((b.each j u e).0 is)
      | false ↦ λ is.
          let g = (b.each j u e).1 is in
          let other : u.number ≢ 0 = λ q. let z = b.apart j 0 u v e at0 is alive (q ∙ sym none) in absurd (omega arith) in
          let met : 0 < times_in u.number b.joined = subst (λ (l : List ℕ). 0 < times_in u.number l) head.joined_is
          (full u.number (omega arith) (let m = head.made_is in let l = g.below in omega arith)) in
          absurd (let q = g.apart in omega arith)
    ] in
    let only = sum_alone f v views at0 (λ j u far e. gone j u far e u.spent refl) in
    let late = late_one_of tasks v.drawn (sym fits.late ∙ over) in
    let below = drawn_below tasks n views id v b at late.0 late.2 in
    let here = once_here x n (let t = fits.tasks_are in let l = late.1 in omega arith) in
    sym only ∙ (b.once x ∙ here)
