use Rattle.std.proofs.Common.{◌≡◌, ◌++◌, [], ap, sym, ◌∙◌, filter, rules}
use Rattle.am_alert.specs.Merging.{is_resolved_at}
use Rattle.am_store.specs.AlertMaps.{stored_in}
use Rattle.am_store.specs.Shared.{alerts_in}
use Rattle.am_store.proofs.Entries.{values_stored}
use Rattle.am_store.proofs.store.Store.share_resolved.Goals as goal

pub loop-alert-init : goal.loop-alert-init
loop-alert-init c =
    let view : c.args.self.now ≡ c.self.inside.alerts.entries = search rules in
    let all : alerts_in c.into_iter-alert-iterator.result ≡ stored_in c.self.inside.alerts.entries = search (rules, values_stored) in
    let start : c.new-resolved.result.items ≡ [] = search rules in
    ap (λ front. alerts_in front ++ filter (is_resolved_at c.args.now) (alerts_in c.into_iter-alert-iterator.result)) start ∙ ap (filter (is_resolved_at c.args.now)) (all ∙ ap stored_in (sym view))
