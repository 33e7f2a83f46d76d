use Rattle.std.proofs.Common.{◌∙◌, ◌∷◌, [], List, ap, sym, subst}
use Rattle.std.specs.List.{slice_set}
use Rattle.am_answers.specs.Consuming.{sweep_word}
use Rattle.am_runner.specs.Sessions.{SweepsNamed, SweepsOne, IsOne, just, none_named}
use Rattle.am_answers.specs.declared.answer.Answer.{Answer}
use Rattle.am_answers.specs.declared.answer.Answer.TheVariants.{NotOpen}
use Rattle.am_script.specs.declared.command.Verb.{Verb}
use Rattle.am_runner.proofs.Named.{on_index}
use Rattle.am_runner.proofs.Results.{if_ok_map}
use Rattle.am_runner.proofs.session.consumer.sweep_named.Goals as goal

pub returns-in_ok-make-in-Some-clause-sweeps : goal.returns-in_ok-make-in-Some-clause-sweeps
returns-in_ok-make-in-Some-clause-sweeps g c =
    subst (λ (given : List Answer). SweepsNamed c.args.half c.args.name.now c.args.at c.args.opened.now given (slice_set c.args.opened.now c.in-Some.index c.sweep.new.self)) (sym c.filled.ensures)
    (on_index c.args.name.now (sweep_word c.args.half) (λ before given after. IsOne (λ one. SweepsOne c.args.half c.args.at before one after) given) c.args.opened.now c.in-Some.index c.index-opened-index.result c.sweep.new.self (_ ∷ [])
    (sym c.index_named.ensures ∙ c.in-Some.is) (just c.sweep.ensures))

pub returns-in-None-clause-sweeps : goal.returns-in-None-clause-sweeps
returns-in-None-clause-sweeps g c =
    if_ok_map c.one.result c.one.ensures (λ answers are. subst (λ (given : List Answer). SweepsNamed c.args.half c.args.name.now c.args.at c.args.opened.now given c.args.opened.now) (sym (are ∙ ap (λ (word : Verb). NotOpen word ∷ []) c.sweep_word.ensures)) (none_named (sym c.index_named.ensures ∙ c.in-None.is)))
