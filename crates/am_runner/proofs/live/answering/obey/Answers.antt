use Rattle.std.proofs.Common.{rules, ◌≡◌, List, ℕ, false, string_bytes, sym, subst}
use Rattle.std.proofs.lemmas.Result.{IfOk-weaker}
use Rattle.am_runner.specs.Sessions.{setting_of}
use Rattle.am_runner.specs.live.Answering.{Obeys, bad_moment, bad_name, has_free_name, has_moment_if_needed}
use Rattle.am_runner.proofs.live.answering.obey.Goals as goal

pub returns-then-not-has_free_name-clause-obeys : goal.returns-then-not-has_free_name-clause-obeys
returns-then-not-has_free_name-clause-obeys g c =
    let taken : has_free_name c.args.command.now c.args.run.now.session.opened ≡ false = search rules in
    IfOk-weaker c.refused.result _ _ (λ text is.
    subst (λ (printed : List ℕ). Obeys c.args.context.now.config (setting_of g.N.Recorded.places g.N.Recorded.policy c.args.context.now.provider.now.resolve_timeout) c.args.form c.args.number c.args.command.now c.args.run.now printed c.args.run.now) (sym is) (bad_name taken)) c.refused.ensures

pub returns-then-not-has_moment_if_needed-clause-obeys : goal.returns-then-not-has_moment_if_needed-clause-obeys
returns-then-not-has_moment_if_needed-clause-obeys g c =
    let unread : has_moment_if_needed c.args.command.now c.args.run.now.session.opened ≡ false = search rules in
    IfOk-weaker c.refused-then-not-has_moment_if_needed.result _ _ (λ text is.
    subst (λ (printed : List ℕ). Obeys c.args.context.now.config (setting_of g.N.Recorded.places g.N.Recorded.policy c.args.context.now.provider.now.resolve_timeout) c.args.form c.args.number c.args.command.now c.args.run.now printed c.args.run.now) (sym is) (bad_moment unread)) c.refused-then-not-has_moment_if_needed.ensures
