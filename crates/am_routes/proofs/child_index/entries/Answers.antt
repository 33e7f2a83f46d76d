use Rattle.std.proofs.Common.{◌≡◌, ◌<◌, length, get_or, sym, ap, ◌∙◌, arith, rules}
use Rattle.std.proofs.lemmas.List.{take_all, take_more, get_or_default}
use Rattle.am_config.specs.RouteLists.{forest_of}
use Rattle.am_routes.specs.inside.ChildIndexes.{entries_from, offsets_from}
use Rattle.am_routes.proofs.ChildIndexes.{entry-at, length-entries, length-offsets}
use Rattle.am_routes.proofs.child_index.entries.Goals as goal

pub bounds-offsets-at : goal.bounds-offsets-at
bounds-offsets-at c = omega (arith, ap length c.requires, length-offsets 1 c.args.routes.now)

pub loop-at-preserved : goal.loop-at-preserved
loop-at-preserved c =
    let rs = c.args.routes.now in
    let i = c.loop-at.at in
    let r = c.index-routes-at.result in
    let offsets = c.args.offsets.now in
    let all = entries_from 1 (forest_of rs) in
    let early : i < length rs = omega arith in
    let long : i < length all = omega (arith, length-entries 1 rs) in
    let within : i < length offsets = omega (arith, ap length c.requires, length-offsets 1 rs) in
    let own = get_or offsets i 0 in
    let comes : own ≡ get_or (offsets_from 1 (forest_of rs)) i own = get_or_default offsets i 0 own within ∙ ap (λ l. get_or l i own) c.requires in
    let is : c.of.result ≡ get_or all i c.of.result =
    c.of.ensures ∙ sym (entry-at 1 rs i r own c.of.result early c.index-routes-at.is comes) in
    search (rules, take_more)

pub returns : goal.returns
returns c =
    let rs = c.args.routes.now in
    c.loop-at.invariant ∙ take_all c.loop-at.at (entries_from 1 (forest_of rs)) (omega (arith, length-entries 1 rs))
