use Rattle.std.proofs.Common.{◌∷◌, [], List, Ok, Err, sym, subst}
use Rattle.std.specs.Duration.{as_nanos}
use Rattle.std.specs.declared.time.Duration.{Duration}
use Rattle.am_posts.specs.Bodies.{IsPostOfBody}
use Rattle.am_runner.specs.Sessions.{SessionView, Does, posted, post_refused, posted_answers, setting_of}
use Rattle.am_answers.specs.declared.answer.Answer.{Answer}
use Rattle.am_answers.specs.declared.answer.Answer.TheVariants.{PostRefused}
use Rattle.am_script.specs.declared.command.Command.TheVariants.{Post}
use Rattle.am_runner.proofs.Putting.{read_as}
use Rattle.am_runner.proofs.Results.{if_ok_map}
use Rattle.am_runner.proofs.session.Session.post.Goals as goal

pub returns-in-Err : goal.returns-in-Err
returns-in-Err g c =
    let setting = setting_of g.N.Recorded.places g.N.Recorded.policy c.args.context.now.provider.now.resolve_timeout in
    let reads : IsPostOfBody c.args.at setting.timeout c.args.body.now c.read-read.result =
    subst (λ (t : Duration). IsPostOfBody c.args.at (as_nanos t) c.args.body.now c.read-read.result) c.resolve_timeout.ensures c.read-read.ensures in
    let now : SessionView = record { pass = c.put_read.new.caller.pass; front = c.put_read.new.caller.front; opened = c.self.inside.opened.items } in
    let refused = read_as (IsPostOfBody c.args.at setting.timeout c.args.body.now) c.read-read.result reads setting.policy setting.places c.args.at c.self.inside.caller.pass c.put_read.new.caller.pass c.self.inside.caller.front c.put_read.new.caller.front (Err c.in-Err.why) c.in-Err.ensures in
    if_ok_map c.one.result c.one.ensures (λ answers are config.
    subst (λ (given : List Answer). Does config setting c.args.self.now (Post c.args.at c.args.body.now) given now) (sym are)
    (subst (λ (old : SessionView). Does config setting old (Post c.args.at c.args.body.now) (PostRefused c.in-Err.why ∷ []) now) c.self.view_is
    (post_refused refused)))

pub returns : goal.returns
returns g c =
    let setting = setting_of g.N.Recorded.places g.N.Recorded.policy c.args.context.now.provider.now.resolve_timeout in
    let reads : IsPostOfBody c.args.at setting.timeout c.args.body.now c.read-read.result =
    subst (λ (t : Duration). IsPostOfBody c.args.at (as_nanos t) c.args.body.now c.read-read.result) c.resolve_timeout.ensures c.read-read.ensures in
    let now : SessionView = record { pass = c.put_read.new.caller.pass; front = c.put_read.new.caller.front; opened = c.self.inside.opened.items } in
    let put = read_as (IsPostOfBody c.args.at setting.timeout c.args.body.now) c.read-read.result reads setting.policy setting.places c.args.at c.self.inside.caller.pass c.put_read.new.caller.pass c.self.inside.caller.front c.put_read.new.caller.front (Ok c.in-Ok.posted) c.in-Ok.ensures in
    if_ok_map c.posted_answers.result c.posted_answers.ensures (λ answers are config.
    subst (λ (given : List Answer). Does config setting c.args.self.now (Post c.args.at c.args.body.now) given now) (sym are)
    (subst (λ (old : SessionView). Does config setting old (Post c.args.at c.args.body.now) (posted_answers c.in-Ok.posted) now) c.self.view_is
    (posted put)))
