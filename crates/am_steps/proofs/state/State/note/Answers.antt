use Rattle.std.proofs.Common.{◌<◌, refl, subst, arith, length, IfOk, IsSome, OnErr}
use Rattle.am_steps.specs.Steps.{MayOwn}
use Rattle.am_steps.specs.inside.LaneRows.{DoesNote}
use Rattle.am_steps.specs.inside.Fields.{fields_view}
use Rattle.am_steps.proofs.Common.{len_is}
use Rattle.am_steps.proofs.Answers.{noted_maybe, note_possible}
use Rattle.am_steps.proofs.state.State.note.Goals as goal

pub invariant_of-self : goal.invariant_of-self
invariant_of-self c = let s = fields_view c.self.inside in let p = c.args.poster in let fits = c.if-poster-len.false in let inside : p < length c.self.inside.posters.items = omega (arith, fits, c.len.ensures, len_is c.self.inside.posters) in
    let old = c.index_mut.result.now in let new = c.note.new.self in
    (noted_maybe s s refl p c.args.own old new c.note.result c.self.invariant inside c.index_mut.ensures.value (subst (λ log. IfOk c.note.result (DoesNote log c.args.own old new)) c.as_slice.ensures.value c.note.ensures.noted) c.note.ensures.err).1

pub returns-clause-applies : goal.returns-clause-applies
returns-clause-applies c = let s = fields_view c.self.inside in let p = c.args.poster in let fits = c.if-poster-len.false in let inside : p < length c.self.inside.posters.items = omega (arith, fits, c.len.ensures, len_is c.self.inside.posters) in
    let old = c.index_mut.result.now in let new = c.note.new.self in
    (noted_maybe s c.args.self.now c.self.view_is p c.args.own old new c.note.result c.self.invariant inside c.index_mut.ensures.value (subst (λ log. IfOk c.note.result (DoesNote log c.args.own old new)) c.as_slice.ensures.value c.note.ensures.noted) c.note.ensures.err).0

pub returns-clause-possible : goal.returns-clause-possible
returns-clause-possible c = let s = fields_view c.self.inside in let p = c.args.poster in let fits = c.if-poster-len.false in let inside : p < length c.self.inside.posters.items = omega (arith, fits, c.len.ensures, len_is c.self.inside.posters) in
    let old = c.index_mut.result.now in
    note_possible s c.args.self.now c.self.view_is p c.args.own old c.note.result inside c.index_mut.ensures.value (subst (λ log. OnErr c.note.result (IsSome c.args.own × MayOwn log old c.args.own)) c.as_slice.ensures.value c.note.ensures.possible)
