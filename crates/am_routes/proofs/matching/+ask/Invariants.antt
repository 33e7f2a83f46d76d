use Rattle.std.proofs.Common.{◌≡◌, ◌++◌, ◌+◌, ◌*◌, min}
use Rattle.std.specs.Option.{IfSome}
use Rattle.am_config.specs.Routes.{count_of}
use Rattle.am_routes.specs.RouteAnswers.{answer_of}
use Rattle.am_routes.specs.Looking.{looked_from}
use Rattle.am_routes.specs.inside.Searches.{nodes_in}
use Rattle.am_routes.proofs.Searching.{pending_answer, pending_looked, pending_count, IsPending}
use Rattle.am_routes.proofs.matching.+ask.Given as goal

abbrev pub decreases-ask : goal.decreases-ask
decreases-ask l = 2 * count_of l.route.now.children + 1

abbrev pub decreases-ask_below : goal.decreases-ask_below
decreases-ask_below l = 2 * count_of l.route.now.children

-- what was found, with what the routes that are left answer, is the whole answer, and so is what was looked at
abbrev pub invariant-ask_below-loop-next : goal.invariant-ask_below-loop-next
invariant-ask_below-loop-next l = record {
  pending : IsPending l.labels l.route.children l.next;
  left : IfSome l.next (λ child. l.candidates ≡ record { labels = l.labels; from = child.at + 1; routes = l.route.children });
  found : nodes_in l.found.routes.items ++ pending_answer l.labels l.number l.route.children l.next
      ≡ nodes_in l.initial.found.routes.items ++ answer_of l.labels (l.number + 1) l.route.children;
  looked : min (l.found.looked + pending_looked l.labels l.route.children l.next) 18446744073709551615
      ≡ min (l.initial.found.looked + looked_from l.labels l.route.children) 18446744073709551615;
  same : l.others ≡ l.fn.others;
}

abbrev pub decreases-ask_below-loop-next : goal.decreases-ask_below-loop-next
decreases-ask_below-loop-next l = pending_count l.route.children l.next
