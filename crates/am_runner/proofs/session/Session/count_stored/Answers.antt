use Rattle.std.proofs.Common.{◌∷◌, [], sym, subst}
use Rattle.am_runner.specs.Sessions.{SessionView, Does, paged, page_refused, page_answers}
use Rattle.am_answers.specs.declared.answer.Answer.TheVariants.{OutOfMemory}
use Rattle.am_script.specs.declared.command.Command.TheVariants.{StoredPage}
use Rattle.am_script.specs.declared.command.Verb.TheVariants as verb
use Rattle.am_runner.proofs.session.Session.count_stored.Goals as goal

pub returns-in-Ok : goal.returns-in-Ok
returns-in-Ok g c config setting = (
  page_answers 0 c.in-Ok.page,
  subst (λ (now : SessionView). Does config setting c.args.self.now (StoredPage 0 0) (page_answers 0 c.in-Ok.page) now) (sym c.in-Ok.ensures.same) (paged c.in-Ok.ensures.sees),
)

pub returns-in-Err : goal.returns-in-Err
returns-in-Err g c config setting = (
  OutOfMemory verb.Stored ∷ [],
  subst (λ (now : SessionView). Does config setting c.args.self.now (StoredPage 0 0) (OutOfMemory verb.Stored ∷ []) now) (sym c.in-Err.ensures.same) (page_refused c.in-Err.ensures.sees),
)
