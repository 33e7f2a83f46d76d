use Rattle.std.proofs.Common.{ap, sym, subst, drop, length, Option}
use mathlib.Core.List.{IsPrefix}
use Rattle.am_segment.specs.Segments.{KeyView}
use Rattle.am_cast.specs.declared.batch_view.BatchView.{BatchView}
use Rattle.am_cast.specs.declared.views.LaneView.{LaneView}
use Rattle.am_cast.specs.declared.views.WriterView.{WriterView}
use Rattle.am_cast.specs.Cursors.{shown_items}
use Rattle.am_cast.specs.Rule.{Sound, first_lane}
use Rattle.am_cast.specs.Seats.{account_of, some_or}
use Rattle.am_cast.specs.Keys.{all_items}
use Rattle.am_cast.specs.Changes.{left}
use Rattle.am_cast.specs.Writers.{IsCalm}
use Rattle.am_cast.specs.declared.views.Account.{Account}
use Rattle.am_cast.proofs.Writers.{calm_only, calm_emptied}
use Rattle.am_cast.proofs.Cursors.{taken_home}
use Rattle.am_cast.proofs.writer.Writer.retire.Goals as goal

pub invariant_of-self : goal.invariant_of-self
invariant_of-self g c = let w = c.bring_home.ensures.writer in let lane = c.into_seat-lane.result.0 in let q = c.self.inside.state.known in let small = c.into_seat-lane.ensures.same.2 in
    calm_only q c.bring_home.new.self.known lane w.0 w.3 small c.self.invariant w.1 (subst (λ (b : Account (KeyView g.row.T.Denot) g.row.A.Denot). IsCalm (length q.tail.log) q.tail.places b) (sym w.2) (calm_emptied (length q.tail.log) q.tail.places (account_of q lane) (c.self.invariant.1 lane small)))

pub returns-clause-taken : goal.returns-clause-taken
returns-clause-taken g c = subst (λ (q : WriterView (BatchView g.row.T.Denot g.row.P.Denot) (KeyView g.row.T.Denot) g.row.A.Denot). IsPrefix (shown_items c.args.cursor) (all_items (drop c.args.cursor.lane.start q.tail.log))) c.self.view_is
    (taken_home c.self.inside.state.known.tail (account_of c.self.inside.state.known c.into_seat-lane.result.0) c.args.cursor c.into_seat-lane.result.0
    (subst (λ (v : LaneView (BatchView g.row.T.Denot g.row.P.Denot) g.row.A.Denot). Sound c.self.inside.state.known.tail (account_of c.self.inside.state.known c.into_seat-lane.result.0) (left v) c.into_seat-lane.result.0)
    (ap (λ (o : Option (LaneView (BatchView g.row.T.Denot g.row.P.Denot) g.row.A.Denot)). some_or (first_lane 0 0) o) c.into_seat-lane.ensures.seat.2) c.bring_home.ensures.sound.0))
