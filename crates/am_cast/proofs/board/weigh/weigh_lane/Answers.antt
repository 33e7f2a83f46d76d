use Rattle.std.proofs.Common.{arith, ◌≡◌, ◌∙◌, Option, Some, ap}
use Rattle.am_cast.specs.declared.views.WriterView.{WriterView}
use Rattle.am_cast.specs.declared.views.LaneView.{LaneView}
use Rattle.am_cast.specs.Changes.{either_one}
use Rattle.am_cast.specs.Seats.{writer_of, lane_of, account_of}
use Rattle.am_cast.proofs.Accounts.{knows_of}
use Rattle.am_cast.proofs.Seats.{deals, hears}
use Rattle.am_cast.proofs.board.weigh.weigh_lane.Goals as goal

pub split_seat-lane-requires : goal.split_seat-lane-requires
split_seat-lane-requires g c = let t = c.requires.table in (t.1, omega arith, deals g.R.Keyed.key _ _ (lane_of c.args.reader.now.me.0) c.requires.reader.0)

pub join_seat-requires : goal.join_seat-requires
join_seat-requires g c = let t = c.requires.table in let s = c.split_seat-lane.ensures in (t.0, s.3 ∙ t.1, ap (λ m. m.1) s.4, omega arith, hears g.R.Keyed.key _ _ _ _)

pub split_seat-back-requires : goal.split_seat-back-requires
split_seat-back-requires g c =
    let t = c.requires.table in
    let lane_came : c.join_seat.new.seat.me.0.lane ≡ Some (lane_of c.args.reader.now.me.0) =
    ap (λ m. m.0.lane) c.join_seat.ensures.2
    ∙ (ap (λ (o : Option (LaneView g.row.B.Denot g.row.A.Denot)). either_one o c.split_seat-lane.result.me.0.lane) c.requires.writer.2
    ∙ (ap (λ m. m.0.lane) c.split_seat-lane.ensures.4 ∙ c.requires.reader.0)) in
    (c.weigh_view.ensures.same.0 ∙ (c.join_seat.ensures.0 ∙ t.0), omega arith, deals g.R.Keyed.key _ _ (lane_of c.args.reader.now.me.0) (ap (λ w. w.lane) c.weigh_view.ensures.same.1 ∙ lane_came))

pub join_seat-requires-2 : goal.join_seat-requires-2
join_seat-requires-2 g c =
    let t = c.requires.table in
    let s = c.split_seat-back.ensures in
    (c.split_seat-lane.ensures.0 ∙ t.1, s.3 ∙ (c.weigh_view.ensures.same.0 ∙ (c.join_seat.ensures.0 ∙ t.0)), ap (λ m. m.1) s.4, omega arith, hears g.R.Keyed.key _ _ _ _)

pub returns-clause-sound : goal.returns-clause-sound
returns-clause-sound g c =
    let q : WriterView g.row.B.Denot g.row.K.Denot g.row.A.Denot = writer_of c.args.writer.now.me.0 in
    let v : LaneView g.row.B.Denot g.row.A.Denot = lane_of c.args.reader.now.me.0 in
    let lane_came : c.join_seat.new.seat.me.0.lane ≡ Some (lane_of c.args.reader.now.me.0) =
    ap (λ m. m.0.lane) c.join_seat.ensures.2
    ∙ (ap (λ (o : Option (LaneView g.row.B.Denot g.row.A.Denot)). either_one o c.split_seat-lane.result.me.0.lane) c.requires.writer.2
    ∙ (ap (λ m. m.0.lane) c.split_seat-lane.ensures.4 ∙ c.requires.reader.0)) in
    let small = c.requires.reader.1 in
    let all = c.requires.writer.1 in
    let writer_is : c.join_seat.new.seat.me.0.writer ≡ Some q =
    ap (λ m. m.0.writer) c.join_seat.ensures.2 ∙ ap (λ (o : Option (WriterView g.row.B.Denot g.row.K.Denot g.row.A.Denot)). either_one o c.split_seat-lane.result.me.0.writer) c.requires.writer.0 in
    c.weigh_view.ensures.weighed.lane v q (account_of q v.number) lane_came (knows_of c.join_seat.new.seat.me.0 q v.number writer_is (omega arith))
