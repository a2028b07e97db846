use Rattle.std.proofs.Common.{rules, sym, subst, Ok, Err}
use Rattle.std.specs.Prelude.{Result, OnOk}
use Rattle.std.proofs.lemmas.Fn.{filter_same}
use Rattle.trunc_series.specs.Found.{counts, StandsForOld}
use Rattle.trunc_series.specs.Reduced.{Terms}
use Rattle.trunc_series.proofs.TermLists.{stands-itself, stands-counted}
use Rattle.trunc_series.proofs.adding.make_room.Goals as goal

pub returns-then-has_room : goal.returns-then-has_room
returns-then-has_room c = λ rule h. stands-itself rule _ h

on_ok : {A E : Type 0} {P : Type 0} (r : Result A E) → P → OnOk r P
on_ok (Ok x) p = p
on_ok (Err e) p = tt

pub returns : goal.returns
returns c =
    on_ok c.note_all.result
    (subst (λ (ts : Terms). StandsForOld c.args.terms.now.items ts) (sym (filter_same _ counts _ (λ x b f k. search rules) c.args.terms.now.items c.retain.new.self.items c.retain.ensures.filtered))
    (stands-counted c.args.terms.now.items))
