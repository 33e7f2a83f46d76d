use Rattle.std.proofs.Common.{◌≡◌, ◌∙◌, ◌++◌, ◌∷◌, [], true, List, ap}
use Rattle.am_answers.specs.declared.answer.Answer.{Answer}
use Rattle.am_script.specs.declared.command.Verb.TheVariants as verb
use Rattle.am_answers.specs.declared.answer.Answer.TheVariants.{OutOfMemory, Pending}
use Rattle.am_runner.proofs.Reading.{last_pending}
use Rattle.am_runner.proofs.Taking.{took_shown, read_one, missed_read}
use Rattle.am_runner.proofs.open_subscription.read_beside.Goals as goal

pub returns-in_err-push-in-Ok-take_shown-clause-took : goal.returns-in_err-push-in-Ok-take_shown-clause-took
returns-in_err-push-in-Ok-take_shown-clause-took g c took none =
    took_shown c.args.subscription.now c.next_answer.new.subscription c.args.consumer.now c.take_shown.new.consumer c.args.missed.now c.in-Ok-take_shown.goes_on c.kept_laws.ensures.go_on c.in-Ok.answer c.in-Ok.ensures.next c.in-Ok-take_shown.ensures.taken took none

pub returns-in_ok-push-in-Ok-take_shown-clause-took : goal.returns-in_ok-push-in-Ok-take_shown-clause-took
returns-in_ok-push-in-Ok-take_shown-clause-took g c took none =
    took_shown c.args.subscription.now c.next_answer.new.subscription c.args.consumer.now c.take_shown.new.consumer c.args.missed.now c.in-Ok-take_shown.goes_on c.kept_laws.ensures.go_on c.in-Ok.answer c.in-Ok.ensures.next c.in-Ok-take_shown.ensures.taken took none

pub returns-in_ok-push-in-Ok-take_shown-clause-reads : goal.returns-in_ok-push-in-Ok-take_shown-clause-reads
returns-in_ok-push-in-Ok-take_shown-clause-reads g c name =
    read_one c.args.subscription.now c.next_answer.new.subscription c.args.consumer.now c.take_shown.new.consumer c.args.missed.now c.in-Ok-take_shown.goes_on name c.args.answers.now.items _ c.in-Ok.answer c.in-Ok.ensures.next c.in-Ok-take_shown.ensures.taken
    c.in_ok-push-in-Ok-take_shown.ensures.items

pub returns-in_ok-push-in-Err-take_shown-2-clause-reads : goal.returns-in_ok-push-in-Err-take_shown-2-clause-reads
returns-in_ok-push-in-Err-take_shown-2-clause-reads g c name =
    missed_read c.args.subscription.now c.next_answer.new.subscription c.args.consumer.now c.take_shown.new.consumer c.args.missed.now true name c.args.answers.now.items _ c.in-Ok.answer c.in-Err-take_shown.ensures.err.0 c.in-Ok.ensures.next c.in-Err-take_shown.ensures.err.1
    (c.in_ok-push-in-Err-take_shown-2.ensures.items ∙ ap (λ (all : List Answer). all ++ OutOfMemory verb.Take ∷ []) c.in_ok-push-in-Err-take_shown.ensures.items)

pub returns-in_ok-push-in-Ok-take_shown-clause-past : goal.returns-in_ok-push-in-Ok-take_shown-clause-past
returns-in_ok-push-in-Ok-take_shown-clause-past g c = λ ends.
    c.in-Ok.ensures.past (last_pending c.args.answers.now.items _ c.in-Ok.answer c.in_ok-push-in-Ok-take_shown.ensures.items ends)

pub returns-in_ok-push-in-Err-take_shown-2-clause-past : goal.returns-in_ok-push-in-Err-take_shown-2-clause-past
returns-in_ok-push-in-Err-take_shown-2-clause-past g c = λ ends.
    let no : OutOfMemory verb.Take ≡ Pending = last_pending _ _ (OutOfMemory verb.Take) c.in_ok-push-in-Err-take_shown-2.ensures.items ends in cc
