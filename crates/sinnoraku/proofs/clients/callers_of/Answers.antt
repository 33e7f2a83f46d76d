use Rattle.std.proofs.Common.{rules, ◌≡◌, [], arith}
use Rattle.std.specs.Vec.Iter.{into_iter_items, into_iter_len}
use Rattle.am_provider.proofs.Lists.{empty}
use Rattle.sinnoraku.proofs.Outcomes.{ended}
use Rattle.sinnoraku.proofs.clients.callers_of.Goals as goal

pub returns : goal.returns
returns g c =
    let none : into_iter_len c.loop-client.client-iterator ≡ 0 = search rules in
    let nil : into_iter_items c.loop-client.client-iterator ≡ [] = empty _ (omega (arith, none, c.loop-client.invariant.left)) in
    ended (λ client. client.caller) _ (into_iter_items c.loop-client.client-iterator) _ nil c.loop-client.invariant.done
