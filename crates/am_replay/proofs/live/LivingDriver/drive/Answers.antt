use Rattle.std.proofs.Common.{rules, ◌≡◌, ◌∙◌, ◌++◌, ◌∷◌, [], map, refl, ap, subst}
use Rattle.am_provider.specs.Callers.{IsNewCaller}
use Rattle.am_runner.specs.Sessions.{setting_of}
use Rattle.am_replay.specs.Live.{IsServedAs, is_following}
use Rattle.am_replay.proofs.Lives.{last_holds, none_before, same_setting, served_as}
use Rattle.am_replay.proofs.live.LivingDriver.drive.Goals as goal

pub returns : goal.returns
returns g c =
    let me = c.args.self.now in
    let limits = c.args._limits in
    let setting = setting_of limits.places limits.policy limits.resolve_timeout in
    let left = c.pop.new.self.items in
    let caller = c.in-Some.caller in
    let back = c.serve_all-served.result.1 in
    let none : left ≡ [] = none_before left caller c.args.callers.items c.in-Some.ensures.items (c.requires.count ∙ c.requires.fits) in
    let new : IsNewCaller caller.pass caller.front = last_holds (λ one. IsNewCaller one.pass one.front) left caller c.args.callers.items c.in-Some.ensures.items none c.requires.fresh in
    let all : c.push_reserved.new.self.items ≡ back ∷ [] = c.push_reserved.ensures.items ∙ ap (λ l. l ++ back ∷ []) none in
    let follows : c.eq.result ≡ is_following me.arguments.mode = search rules in (
      refl,
      subst (λ goes_on. IsServedAs me.config.now setting me.arguments.form goes_on (g.I.Read.remaining me.input.now) (g.I.Read.remaining c.serve_all-served.new.input) (g.O.Write.contents me.out.now) (g.O.Write.contents c.serve_all-served.new.out) (map (λ one. one.pass) c.push_reserved.new.self.items) (map (λ one. one.front) c.push_reserved.new.self.items) c.serve_all-served.result.0) follows
          (served_as me.config.now setting _ me.arguments.form c.eq.result (g.I.Read.remaining me.input.now) (g.I.Read.remaining c.serve_all-served.new.input) (g.O.Write.contents me.out.now) (g.O.Write.contents c.serve_all-served.new.out) caller.pass back.pass caller.front back.front _ _ c.serve_all-served.result.0
          (same_setting limits.places _ limits.policy _ limits.resolve_timeout _ c.requires.limits.0 c.requires.limits.1 c.requires.limits.2) new (ap (map (λ one. one.pass)) all) (ap (map (λ one. one.front)) all)
          c.serve_all-served.ensures.served c.serve_all-served.ensures.err),
    )
