use Rattle.std.proofs.Common.{◌++◌, List, Vec, Global, ap, ◌∙◌}
use Rattle.am_routes.specs.declared.route_id.RouteId.{RouteId}
use Rattle.am_routes.specs.RouteAnswers.{answer_of}
use Rattle.am_routes.specs.inside.Searches.{nodes_in, ids_of}
use Rattle.am_routes.proofs.RouteAnswers.{are-answer}
use Rattle.am_routes.proofs.matching.PreparedTree.matches_into.Goals as goal

pub returns-clause-answer : goal.returns-clause-answer
returns-clause-answer c =
    are-answer c.args.labels.now c.args.self.now _ _ (c.in_ok-search_anew.ensures.found ∙ ap (answer_of c.args.labels.now 0) c.self.view_is)
    (ap (λ (v : Vec RouteId Global). v.items) c.swap.ensures.x_after
    ∙ (c.in_ok-add_ids.ensures ∙ ap (λ (l : List RouteId). l ++ ids_of (nodes_in c.search_anew.new.found.routes.items)) c.clear.ensures.items))
