use Rattle.std.proofs.Common.{◌∷◌, [], List, Ok, Err, sym, subst}
use Rattle.am_posts.specs.FromParts.{IsPostOfAlerts}
use Rattle.am_alert.specs.declared.alert.Alert.{Alert}
use Rattle.am_runner.specs.Sessions.{SessionView, Does, put, put_refused, posted_answers, setting_of}
use Rattle.am_answers.specs.declared.answer.Answer.{Answer}
use Rattle.am_answers.specs.declared.answer.Answer.TheVariants.{PostRefused}
use Rattle.am_script.specs.declared.command.Command.TheVariants.{Put}
use Rattle.am_runner.proofs.Putting.{read_as}
use Rattle.am_runner.proofs.Results.{if_ok_map}
use Rattle.am_runner.proofs.session.Session.put.Goals as goal

pub returns-in-Err : goal.returns-in-Err
returns-in-Err g c =
    let setting = setting_of g.N.Recorded.places g.N.Recorded.policy c.args.context.now.provider.now.resolve_timeout in
    let now : SessionView = record { pass = c.put_read.new.caller.pass; front = c.put_read.new.caller.front; opened = c.self.inside.opened.items } in
    let is_post = subst (λ (alerts : List Alert). IsPostOfAlerts alerts c.post_from_alerts-read.result) c.as_slice.ensures c.post_from_alerts-read.ensures in
    let refused = read_as (IsPostOfAlerts c.args.alerts.now) c.post_from_alerts-read.result is_post setting.policy setting.places c.args.at c.self.inside.caller.pass c.put_read.new.caller.pass c.self.inside.caller.front c.put_read.new.caller.front (Err c.in-Err.why) c.in-Err.ensures in
    if_ok_map c.one.result c.one.ensures (λ answers are config.
    subst (λ (given : List Answer). Does config setting c.args.self.now (Put c.args.at c.args.alerts.now) given now) (sym are)
    (subst (λ (old : SessionView). Does config setting old (Put c.args.at c.args.alerts.now) (PostRefused c.in-Err.why ∷ []) now) c.self.view_is
    (put_refused refused)))

pub returns : goal.returns
returns g c =
    let setting = setting_of g.N.Recorded.places g.N.Recorded.policy c.args.context.now.provider.now.resolve_timeout in
    let now : SessionView = record { pass = c.put_read.new.caller.pass; front = c.put_read.new.caller.front; opened = c.self.inside.opened.items } in
    let is_post = subst (λ (alerts : List Alert). IsPostOfAlerts alerts c.post_from_alerts-read.result) c.as_slice.ensures c.post_from_alerts-read.ensures in
    let done = read_as (IsPostOfAlerts c.args.alerts.now) c.post_from_alerts-read.result is_post setting.policy setting.places c.args.at c.self.inside.caller.pass c.put_read.new.caller.pass c.self.inside.caller.front c.put_read.new.caller.front (Ok c.in-Ok.posted) c.in-Ok.ensures in
    if_ok_map c.posted_answers.result c.posted_answers.ensures (λ answers are config.
    subst (λ (given : List Answer). Does config setting c.args.self.now (Put c.args.at c.args.alerts.now) given now) (sym are)
    (subst (λ (old : SessionView). Does config setting old (Put c.args.at c.args.alerts.now) (posted_answers c.in-Ok.posted) now) c.self.view_is
    (put done)))
