use Rattle.std.proofs.Common.{arith, Option, Some, length, refl, sym, ap, ◌∙◌}
use Rattle.am_cast.specs.declared.views.WriterView.{WriterView}
use Rattle.am_cast.specs.declared.views.LaneView.{LaneView}
use Rattle.am_cast.specs.declared.views.View.{View}
use Rattle.am_cast.specs.Changes.{with_account, without_lane, only_lane, new_lane, given_out}
use Rattle.am_cast.specs.Seats.{writer_of, account_of}
use Rattle.am_cast.proofs.Accounts.{knows_of}
use Rattle.am_cast.proofs.steps.Admit.{admits}
use Rattle.am_cast.proofs.Seats.{deals}
use Rattle.am_cast.proofs.board.admit.admit_lane.Goals as goal

pub store-requires : goal.store-requires
store-requires g c = let t = c.requires.table in let d = c.requires.writer in let b = c.requires.account in let q = writer_of c.args.seat.now.me.0 in let all = d.1 in let n = d.3 in
    (t.0, omega arith, admits g.R.Keyed.key g.X.HasNote.note _ _ c.args.seat.now.me c.args.lane q (account_of q c.args.lane) _ (knows_of c.args.seat.now.me.0 q c.args.lane d.0.0 (omega arith)) d.2 b.0 b.1 b.2 b.3 (omega arith))

pub split_seat-requires : goal.split_seat-requires
split_seat-requires g c = let t = c.requires.table in let d = c.requires.writer in let q : WriterView g.row.B.Denot g.row.K.Denot g.row.A.Denot = writer_of c.args.seat.now.me.0 in let all = d.1 in
    let e = c.store.ensures.2.1 c.args.lane q (account_of q c.args.lane) refl (knows_of c.args.seat.now.me.0 q c.args.lane d.0.0 (omega arith)) in
    (c.store.ensures.0 ∙ t.0, omega arith, deals g.R.Keyed.key _ _ (new_lane g.X.HasNote.note c.args.lane q.tail (account_of q c.args.lane)) (ap (λ (w : View g.row.B.Denot g.row.K.Denot g.row.A.Denot). w.lane) e))

pub returns-clause-writer : goal.returns-clause-writer
returns-clause-writer g c = let d = c.requires.writer in let q : WriterView g.row.B.Denot g.row.K.Denot g.row.A.Denot = writer_of c.args.seat.now.me.0 in let all = d.1 in
    let e = c.store.ensures.2.1 c.args.lane q (account_of q c.args.lane) refl (knows_of c.args.seat.now.me.0 q c.args.lane d.0.0 (omega arith)) in
    ap (λ m. m.0) c.split_seat.ensures.2 ∙ ap (λ (w : View g.row.B.Denot g.row.K.Denot g.row.A.Denot). without_lane w) e
    ∙ ap (λ (o : Option (LaneView g.row.B.Denot g.row.A.Denot)). let w : View g.row.B.Denot g.row.K.Denot g.row.A.Denot = record c.args.seat.now.me.0 { writer = Some (with_account c.args.lane (given_out g.X.HasNote.note (length q.tail.log) (account_of q c.args.lane)) q); lane = o } in w) (sym d.4)

pub returns-clause-lane : goal.returns-clause-lane
returns-clause-lane g c = let d = c.requires.writer in let q : WriterView g.row.B.Denot g.row.K.Denot g.row.A.Denot = writer_of c.args.seat.now.me.0 in let all = d.1 in
    let e = c.store.ensures.2.1 c.args.lane q (account_of q c.args.lane) refl (knows_of c.args.seat.now.me.0 q c.args.lane d.0.0 (omega arith)) in let s = c.split_seat.ensures in
    (s.3 ∙ c.store.ensures.0, ap (λ m. m.1) s.4, ap (λ m. m.0) s.4 ∙ ap (λ (w : View g.row.B.Denot g.row.K.Denot g.row.A.Denot). only_lane w) e)
