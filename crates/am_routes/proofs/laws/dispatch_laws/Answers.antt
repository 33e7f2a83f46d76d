use Rattle.am_routes.proofs.RouteAnswers.{answer-meets, answer-only}
use Rattle.am_routes.proofs.Groups.{groups-go-on}
use Rattle.am_routes.proofs.Listings.{listed-of, numbers-listed}
use Rattle.am_routes.proofs.laws.dispatch_laws.Goals as goal

pub returns-clause-each : goal.returns-clause-each
returns-clause-each c = λ labels number routes. answer-meets labels number routes

pub returns-clause-once : goal.returns-clause-once
returns-clause-once c = λ labels number routes found given. answer-only labels given

pub returns-clause-numbers : goal.returns-clause-numbers
returns-clause-numbers c = λ tree. numbers-listed 0 0 tree

pub returns-clause-listed : goal.returns-clause-listed
returns-clause-listed c = λ labels tree nodes node given has. listed-of labels given 0 node has

pub returns-clause-groups : goal.returns-clause-groups
returns-clause-groups c = λ tree one other event same. groups-go-on tree one other event same
