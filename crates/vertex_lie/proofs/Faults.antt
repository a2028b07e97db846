-- What a fraction that is there or not says of the numbers, and how a fault is passed on.
use Rattle.std.proofs.Common.{◌≡◌, refl, sym, subst, ◌∙◌}
use Rattle.std.specs.Prelude.{Option, Some, None, Result, Ok, Err, IsSome, IfSome, MatchResult, ◌↔◌}
use Rattle.std.specs.Result.{IsErrAnd}
use Rattle.std.specs.Option.{ok_or}
use Rattle.vertex_lie.specs.declared.fault.LieFault.{LieFault}
use Rattle.vertex_lie.specs.RationalBracket.{IsFaultOf}

module _ {T : Type 0} (e : LieFault) where
  pub unfit : (o : Option T) (f : LieFault) (P : Type 0) → ok_or o e ≡ Err f → IsSome o ↔ P → P → ⊥
  unfit (Some x) f P q h p = absurd (cc)
  unfit None f P q h p = let s = h.1 p in absurd (cc)

  pub fit : (o : Option T) (v : T) (P : Type 0) → ok_or o e ≡ Ok v → IsSome o ↔ P → P
  fit (Some x) v P q h = h.0 refl
  fit None v P q h = absurd (cc)

  pub value-of : (o : Option T) (v : T) (Q : T → Type 0) → ok_or o e ≡ Ok v → IfSome o Q → Q v
  value-of (Some x) v Q q h = subst Q (inside q) h
    where
      inside : ◌≡◌ {A = Result T LieFault} (Ok x) (Ok v) → x ≡ v
      inside p = cc
  value-of None v Q q h = absurd (cc)

pub passed : {T : Type 0} (r : Result T LieFault) (P : T → Type 0) (Q R : Type 0) (e : LieFault) → IsErrAnd r (λ f. f ≡ e) → (Q → R) → IsFaultOf R e → MatchResult r P (IsFaultOf Q)
passed (Ok x) P Q R e h i n = absurd h
passed (Err f) P Q R e h i n = λ g q. n (sym h ∙ g) (i q)

pub refused : {T : Type 0} (r : Result T LieFault) (P : T → Type 0) (Q : Type 0) (E : LieFault → Type 0) → IsErrAnd r E → (Q → ⊥) → MatchResult r P (IsFaultOf Q)
refused (Ok x) P Q E h n = absurd h
refused (Err f) P Q E h n = λ g q. n q
