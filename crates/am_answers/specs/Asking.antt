-- What is answered of the routing tree. Nothing changes.
use Rattle.std.specs.Prelude.{List, [], ◌∷◌, map}
use Rattle.am_labels.specs.LabelSets.{Labels}
use Rattle.am_config.specs.Routes.{Forest}
use Rattle.am_routes.specs.Listings.{listing, AreMatchedBy}
use Rattle.am_routes.specs.declared.matched_route.MatchedRoute.{MatchedRoute}
use Rattle.am_script.specs.declared.command.Verb.TheVariants as verb
use Rattle.am_answers.specs.declared.answer.Answer.{Answer}
use Rattle.am_answers.specs.declared.answer.Answer.TheVariants as answer

-- a tree is shown: its routes in pre-order, each with its answer, or it is out of memory
pub data ShowsTree (tree : Forest) : List Answer → Type 0 where
  shown : ShowsTree tree (map answer.Route (listing tree))
  none_shown : ShowsTree tree (answer.OutOfMemory verb.Routes ∷ [])

-- a tree is asked which of its routes a label set matches: it answers them in their order, or it is out of
-- memory
pub data AsksTree (labels : Labels) (tree : Forest) : List Answer → Type 0 where
  found : {routes : List MatchedRoute} → AreMatchedBy labels tree routes
      → AsksTree labels tree (map answer.Matched routes)
  none_found : AsksTree labels tree (answer.OutOfMemory verb.Route ∷ [])
