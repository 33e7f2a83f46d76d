use Rattle.std.proofs.Common.{◌≡◌, [], List, Err, sym, subst, ◌∙◌, rules}
use Rattle.am_script.specs.declared.command.Line.{Line}
use Rattle.am_script.specs.inside.Following.{FollowsEach}
use Rattle.am_script.proofs.Parts.{text_fits, text_refused}
use Rattle.am_script.proofs.part.ScriptPart.into_lines.Goals as goal

pub returns-in_err-and-clause-refused : goal.returns-in_err-and-clause-refused
returns-in_err-and-clause-refused c =
    let part = c.args.self in
    let fault = c.in_err-and.field-0.0 in
    let refused : c.from_residual.result ≡ Err fault = search rules in
    let follows = subst (λ (ls : List Line). FollowsEach [] ls c.follow_each.result) c.deref.ensures.value c.follow_each.ensures in
    rw refused (λ text reads. text_refused text part.lines.items part.end c.follow_each.result reads follows fault (sym c.and.ensures ∙ c.in_err-and.was))

pub returns-clause-read : goal.returns-clause-read
returns-clause-read c =
    let part = c.args.self in
    let follows = subst (λ (ls : List Line). FollowsEach [] ls c.follow_each.result) c.deref.ensures.value c.follow_each.ensures in
    λ text reads. text_fits text part.lines.items part.end c.follow_each.result reads follows (sym c.and.ensures ∙ c.in_ok-and.was)
