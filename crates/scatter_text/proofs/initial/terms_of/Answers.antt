-- One term more, where its degree is low.
use Rattle.std.proofs.Common.{rules, ◌≡◌, ◌∙◌, ◌<◌, List, length, get_or, ap, sym, subst}
use mir.Syntax.{w64, w128}
use Rattle.std.proofs.lemmas.Int.{to_z-of_z}
use Rattle.scatter_text.specs.declared.file.TermRow.{TermRow}
use Rattle.scatter_text.specs.GivenWalls.{direction_of}
use Rattle.scatter_text.specs.LimitedLines.{IsLimitedTerm}
use Rattle.scatter_text.proofs.LimitedTerms.{limited-term, low-more}
use Rattle.scatter_text.proofs.initial.terms_of.Goals as goal

pub key_of-requires : goal.key_of-requires
key_of-requires c =
    let l = subst (λ (ts : List TermRow). c.loop-term.term-index < length ts) c.as_slice-term-items.ensures c.loop-term-test.true in
    let is : c.term-item.result ≡ get_or c.args.line.now.terms c.loop-term.term-index c.term-item.result = c.term-item.is ∙ ap (λ (ts : List TermRow). get_or ts c.loop-term.term-index c.term-item.result) c.as_slice-term-items.ensures in
    subst (IsLimitedTerm c.args.line.now.dx c.args.line.now.dy) (sym is) (limited-term c.args.line.now c.requires c.loop-term.term-index c.term-item.result l)

pub loop-term-preserved : goal.loop-term-preserved
loop-term-preserved c =
    let l = subst (λ (ts : List TermRow). c.loop-term.term-index < length ts) c.as_slice-term-items.ensures c.loop-term-test.true in
    let is : c.term-item.result ≡ get_or c.args.line.now.terms c.loop-term.term-index c.term-item.result = c.term-item.is ∙ ap (λ (ts : List TermRow). get_or ts c.loop-term.term-index c.term-item.result) c.as_slice-term-items.ensures in
    low-more c.loop-term.out.items c.push_low.new.out.items (direction_of c.args.line.now) c.args.line.now.terms c.loop-term.term-index c.term-item.result _ c.key_of.result _ l is c.key_of.ensures
    (to_z-of_z w128 c.from.result (search rules) ∙ c.from.ensures ∙ to_z-of_z w64 c.term-item.result.c (search rules)) c.in_ok-push_low.ensures c.loop-term.invariant
