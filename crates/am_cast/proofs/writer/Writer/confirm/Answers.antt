use Rattle.std.proofs.Common.{◌≡◌, ◌∙◌, List, sym, ap, subst, arith}
use mathlib.Core.List.{IsPrefix}
use Rattle.am_segment.specs.Segments.{KeyView}
use Rattle.am_cast.specs.declared.batch_view.BatchView.{BatchView}
use Rattle.am_cast.specs.declared.views.Own.{Own}
use Rattle.am_cast.specs.inside.WriterStates.{WriterStateView}
use Rattle.am_cast.specs.Changes.{AreInLog}
use Rattle.am_cast.specs.Posters.{PassView}
use Rattle.am_cast.specs.Steps.{SeatState}
use Rattle.am_cast.proofs.Slots.{prefix_at}
use Rattle.am_cast.proofs.writer.Writer.confirm.Goals as goal

-- what stands in a front of the log stands in the log
stand_further : {B : Type 0} (own : List (Own B)) (front log : List B) → IsPrefix front log → AreInLog own front → AreInLog own log
stand_further own front log begins stand k o got = prefix_at front log o.place o.batch begins (stand k o got)

pub returns-clause-stand : goal.returns-clause-stand
returns-clause-stand g c =
    let N = BatchView g.row.T.Denot g.row.P.Denot in
    let K = KeyView g.row.T.Denot in
    let is = c.pass.view_is ∙ c.weigh.ensures.same in
    let own : c.pass.inside.seat.me.0.own ≡ c.note.new.self.own = ap (λ (v : PassView g.row.T.Denot g.row.P.Denot). v.own) is in
    let noted : c.pass.inside.seat.me.0.noted ≡ c.note.new.self.noted = ap (λ (v : PassView g.row.T.Denot g.row.P.Denot). v.noted) is in
    let here : AreInLog c.pass.inside.seat.me.0.own c.pass.inside.seat.me.0.noted = subst (λ o. AreInLog o c.pass.inside.seat.me.0.noted) (sym own) (subst (AreInLog c.note.new.self.own) (sym noted) c.note.ensures.noted.1) in
    let log : c.hear.new.self.known.tail.log ≡ c.self.inside.state.known.tail.log = ap (λ (b : WriterStateView g.row.T.Denot g.row.P.Denot g.row.A.Denot). b.known.tail.log) c.hear.ensures.same in
    let other : c.hear.new.other.me.0.own ≡ c.pass.inside.seat.me.0.own = ap (λ (m : SeatState N K g.row.A.Denot). m.0.own) c.hear.ensures.other.1 in
    subst (λ o. AreInLog o c.hear.new.self.known.tail.log) (sym other)
    (stand_further c.pass.inside.seat.me.0.own c.pass.inside.seat.me.0.noted c.hear.new.self.known.tail.log (subst (IsPrefix c.pass.inside.seat.me.0.noted) (sym log) c.hear.ensures.begins) here)

pub returns-clause-known : goal.returns-clause-known
returns-clause-known g c = grind arith
