use Rattle.std.proofs.Common.{◌∙◌}
use Rattle.am_routes.proofs.ChildIndexes.{none-of_routes}
use Rattle.am_routes.proofs.matching.search.Goals as goal

pub ask-requires-clause-leaf : goal.ask-requires-clause-leaf
ask-requires-clause-leaf c = c.is_empty.ensures ∙ none-of_routes c.as_slice.result.now c.args.root.now.children c.as_slice.ensures
