use Rattle.std.proofs.Common.{◌≡◌, Bool, true, Some, cond, codes, is_some, rules, subst, sym}
use Rattle.serde_json.specs.Find.{get}
use Rattle.serde_json.specs.View.{view}
use Rattle.am_script.specs.Commands.{command_for, page_of, ReadsCommand}
use Rattle.am_script.specs.declared.command.Command.TheVariants.{Stored}
use Rattle.am_script.proofs.line_reader.stored_of.Goals as goal

pub returns-in-Some : goal.returns-in-Some
unfolding command_for
returns-in-Some c =
    let d = view c.args.value.now in
    let there : is_some (get (codes "max") d) ≡ true = search rules in
    subst (λ (given : Bool). ReadsCommand d c.page_of.result (λ body. cond given (page_of d) (Some Stored))) (sym there) c.page_of.ensures
