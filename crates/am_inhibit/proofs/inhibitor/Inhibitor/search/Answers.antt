use Rattle.std.proofs.Common.{◌≡◌, min, sym, ap, subst, ◌∙◌, arith}
use Rattle.std.proofs.lemmas.Grind.{common_steps}
use Rattle.std.proofs.lemmas.List.Elements.{All-from_recursion}
use Rattle.am_inhibit.specs.Inhibitors.{InhibitorView, having_looked}
use Rattle.am_inhibit.specs.LastAlerts.{last_alerts}
use Rattle.am_inhibit.specs.inside.Indexes.{rules_indexed}
use Rattle.am_inhibit.proofs.RuleSearch.{muted_among, seen_among}
use Rattle.am_inhibit.proofs.KeptAlerts.{last_alerts-distinct}
use Rattle.am_inhibit.proofs.inhibitor.Inhibitor.search.Goals as goal

pub search_all-requires : goal.search_all-requires
search_all-requires c = grind (arith, common_steps, All-from_recursion)

-- the rules that are searched
rules_are : (c : goal.After-self-2-1) → rules_indexed c.deref_mut.result.now ≡ c.args.self.now.rules
rules_are c = grind (arith, common_steps)

-- and the alerts
alerts_are : (c : goal.After-self-2-1) → c.as_slice.result.now ≡ c.args.self.now.alerts
alerts_are c = c.as_slice.ensures.values ∙ ap (λ (i : InhibitorView). i.alerts) c.self.view_is

last_are : (c : goal.After-self-2-1) → last_alerts c.args.self.now.alerts ≡ c.args.self.now.alerts
last_are c = subst (λ l. last_alerts l ≡ l) (ap (λ (i : InhibitorView). i.alerts) c.self.view_is) (last_alerts-distinct _ c.as_slice.ensures.distinct)

pub returns-clause-muted : goal.returns-clause-muted
returns-clause-muted c =
    let all = c.in_ok-search.ensures.muting in
    muted_among c.args.self.now.alerts c.args.self.now.rules c.args.labels.now c.args.now c.in_ok-search.search.muting (last_are c) (rw (← rules_are c, ← alerts_are c) all)

pub returns-clause-looked : goal.returns-clause-looked
returns-clause-looked c =
    let seen = seen_among c.args.self.now.alerts c.args.self.now.rules c.args.labels.now c.args.now (last_are c) in
    let all = rw (rules_are c, alerts_are c) at c.in_ok-search.ensures.looked in
    ap (having_looked c.in_ok-search.search.looked) c.self.view_is ∙ ap (λ n. having_looked n c.args.self.now) (all ∙ sym (ap (λ n. min n 18446744073709551615) seen))
