use Rattle.std.proofs.Common.{ap, []}
use Rattle.serde_json.specs.View.{view}
use Rattle.am_posts.specs.declared.body.Body.TheVariants.{Text}
use Rattle.am_script.specs.Commands.{command_for}
use Rattle.am_script.proofs.line_reader.command_for.Goals as goal

pub returns-in-Close : goal.returns-in-Close
unfolding command_for
returns-in-Close c = (tt, ap (λ v. command_for (Text []) (view c.args.value) v) c.in-Close.is)

pub returns-in-Trim : goal.returns-in-Trim
unfolding command_for
returns-in-Trim c = (tt, ap (λ v. command_for (Text []) (view c.args.value) v) c.in-Trim.is)

pub returns-in-Compact : goal.returns-in-Compact
unfolding command_for
returns-in-Compact c = (tt, ap (λ v. command_for (Text []) (view c.args.value) v) c.in-Compact.is)

pub returns-in-Routes : goal.returns-in-Routes
unfolding command_for
returns-in-Routes c = (tt, ap (λ v. command_for (Text []) (view c.args.value) v) c.in-Routes.is)
