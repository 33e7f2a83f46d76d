use Rattle.std.proofs.Common.{refl, true}
use Rattle.am_steps.specs.declared.event.Event.TheVariants as does
use Rattle.am_steps.specs.States.{core_of}
use Rattle.am_steps.specs.Steps.{close}
use Rattle.am_steps.specs.inside.Fields.{fields_view}
use Rattle.am_steps.proofs.Answers.{grows_applies}
use Rattle.am_steps.proofs.state.State.close.Goals as goal

pub returns : goal.returns
returns c = let s = fields_view c.self.inside in let t = record s { closed = true } in
    grows_applies s c.args.self.now c.self.view_is does.Close t (close (core_of s) (core_of t) c.if-self.false
    (record { places = refl; log = refl; closed = refl; lanes = refl; posters = refl; lane = λ l. refl; poster = λ p. refl }))
