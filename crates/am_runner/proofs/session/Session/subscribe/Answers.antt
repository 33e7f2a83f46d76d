use Rattle.std.proofs.Common.{◌≡◌, ◌∙◌, ◌∷◌, ◌++◌, [], List, Ok, ap, sym, subst, length}
use Rattle.am_config.specs.declared.config.Config.{Config}
use Rattle.am_provider.specs.Callers.{SeesCall}
use Rattle.am_provider.specs.Headline.{AnswersSubscribe}
use Rattle.am_provider.specs.Subscriptions.{SubscriptionView}
use Rattle.am_answers.specs.Consuming.{HasTaken, fresh_consumer}
use Rattle.am_runner.specs.Reading.{OpenView}
use Rattle.am_runner.specs.Sessions.{SessionView, Does, subscribe_refused}
use Rattle.am_answers.specs.declared.answer.Answer.TheVariants.{Subscribed, SubscribeRefused}
use Rattle.am_answers.specs.Consumers.{ConsumerView}
use Rattle.am_script.specs.declared.command.Command.TheVariants.{Subscribe}
use Rattle.am_runner.proofs.Named.{fresh_took, subscribed_so}
use Rattle.am_runner.proofs.session.Session.subscribe.Goals as goal

pub begin-requires-in-Ok-clause-fresh : goal.begin-requires-in-Ok-clause-fresh
begin-requires-in-Ok-clause-fresh g c =
    subst (λ (made : ConsumerView). HasTaken [] made) (sym c.in_ok-consumer.ensures) (fresh_took c.config.result.now c.args.kind)

pub begin-requires-in-Ok-clause-unread : goal.begin-requires-in-Ok-clause-unread
begin-requires-in-Ok-clause-unread g c = c.in-Ok.ensures.sees.answers.fresh.0

pub returns-in-Ok-clause-does : goal.returns-in-Ok-clause-does
returns-in-Ok-clause-does g c setting =
    let made = c.begin-in-Ok.result in
    let view : SessionView = record { pass = c.self.inside.caller.pass; front = c.self.inside.caller.front; opened = c.self.inside.opened.items } in
    let now : SessionView = record { pass = c.subscribe.new.caller.pass; front = c.subscribe.new.caller.front; opened = c.push_reserved.new.self.items } in
    let named : made.name ≡ c.args.name.now = ap (λ (o : OpenView). o.name) c.begin-in-Ok.ensures ∙ c.in_ok-name.ensures in
    let reads : made.subscription ≡ c.in-Ok.subscription = ap (λ (o : OpenView). o.subscription) c.begin-in-Ok.ensures in
    let sees : SeesCall view.front now.front (AnswersSubscribe (Ok made.subscription)) = subst (λ (s : SubscriptionView). SeesCall view.front now.front (AnswersSubscribe (Ok s))) (sym reads) c.in-Ok.ensures.sees in
    let fresh : made.consumer ≡ fresh_consumer c.args.context.now.config c.args.kind = ap (λ (o : OpenView). o.consumer) c.begin-in-Ok.ensures ∙ (c.in_ok-consumer.ensures ∙ ap (λ (config : Config). fresh_consumer config c.args.kind) c.config.ensures) in
    let items : c.push_reserved.new.self.items ≡ c.self.inside.opened.items ++ made ∷ [] = c.push_reserved.ensures.items ∙ ap (λ (front : List OpenView). front ++ made ∷ []) c.in_ok-reserve.ensures.items in
    subst (λ (old : SessionView). Does c.args.context.now.config setting old (Subscribe c.args.name.now c.args.kind) (Subscribed c.lane.result c.opening.result ∷ []) now) c.self.view_is
    (subscribed_so c.args.context.now.config setting view now c.args.name.now c.args.kind made c.lane.result c.opening.result named sees fresh
    (c.lane.ensures ∙ ap (λ (s : SubscriptionView). s.cursor.lane.number) (sym reads))
    (c.opening.ensures ∙ ap (λ (s : SubscriptionView). length s.opening) (sym reads))
    (λ i. record { pass = c.in-Ok.ensures.pass i; front = c.subscribe.new.caller.front; opened = items i }))

pub returns-in-Err-clause-does : goal.returns-in-Err-clause-does
returns-in-Err-clause-does g c setting =
    let items : c.reserve.new.self.items ≡ c.self.inside.opened.items = c.in_ok-reserve.ensures.items in
    let command = Subscribe c.args.name.now c.args.kind in
    let then : SessionView = record { pass = c.self.inside.caller.pass; front = c.subscribe.new.caller.front; opened = c.self.inside.opened.items } in
    let now : SessionView = record { pass = c.subscribe.new.caller.pass; front = c.subscribe.new.caller.front; opened = c.reserve.new.self.items } in
    let same : now ≡ then = λ i. record { pass = c.in-Err.ensures.pass i; front = c.subscribe.new.caller.front; opened = items i } in
    subst (λ (old : SessionView). Does c.args.context.now.config setting old command (SubscribeRefused c.in-Err.why ∷ []) now) c.self.view_is
    (subst (λ (session : SessionView). Does c.args.context.now.config setting (record { pass = c.self.inside.caller.pass; front = c.self.inside.caller.front; opened = c.self.inside.opened.items }) command (SubscribeRefused c.in-Err.why ∷ []) session) (sym same)
    (subscribe_refused c.in-Err.ensures.sees))
