use Rattle.order_tests.proofs.merges.merge.Goals as goal

pub merged-requires-clause-within : goal.merged-requires-clause-within
merged-requires-clause-within c = c.requires.fit.within c.args.e.now.diagram.rays c.requires.light
