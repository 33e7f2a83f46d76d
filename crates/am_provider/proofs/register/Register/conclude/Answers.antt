use Rattle.std.proofs.Common.{◌≡◌, ◌∙◌, List, subst, rules, map-id}
use mathlib.Core.List.{IsPrefix}
use Rattle.std.specs.List.{All}
use Rattle.std.proofs.lemmas.Iterator.Adapters.{YieldsList-from_vec}
use Rattle.std.proofs.lemmas.Iterator.Consumers.{YieldsList-end}
use Rattle.am_history.specs.Fronts.{FrontView}
use Rattle.am_provider.specs.Histories.{EntryView}
use Rattle.am_provider.proofs.Turns.{all_more}
use Rattle.am_provider.proofs.register.Register.conclude.Goals as goal

pub loop-one-preserved : goal.loop-one-preserved
loop-one-preserved g c =
    let turns = c.into_inner.result.turns in
    let begins = subst (λ (l : List (FrontView EntryView)). IsPrefix c.in-Some.one.seen l) c.loop-one.invariant.1 c.show.ensures.seen in
    (all_more (λ one. IsPrefix one.seen turns) c.loop-one.yielded c.in-Some.one c.loop-one.invariant.0 begins, c.show.ensures.same ∙ c.loop-one.invariant.1)

pub returns : goal.returns
returns g c =
    let turns = c.into_inner.result.turns in
    let end = YieldsList-end (YieldsList-from_vec {s = c.into_iter-one-iterator.result} c.args.seen.items (search rules) (search rules)) c.loop-one.yielded c.loop-one.one-iterator c.loop-one.yielded_by c.next.result c.next.new.self c.in-None.is c.next.ensures.steps in
    let all : c.loop-one.yielded ≡ c.args.seen.items = search (rules, map-id) in
    (turns, subst (λ seen. All (λ one. IsPrefix one.seen turns) seen) all c.loop-one.invariant.0)
