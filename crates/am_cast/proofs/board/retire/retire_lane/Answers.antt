use Rattle.std.proofs.Common.{arith, ℕ, Option, Some, sym, refl, ap, ◌∙◌, subst}
use Rattle.am_cast.specs.declared.views.WriterView.{WriterView}
use Rattle.am_cast.specs.declared.views.LaneView.{LaneView}
use Rattle.am_cast.specs.declared.views.View.{View}
use Rattle.am_cast.specs.Changes.{with_account, retired, both_of}
use Rattle.am_cast.specs.Rule.{Sound}
use Rattle.am_cast.specs.Steps.{KnowsOf}
use Rattle.am_cast.specs.Seats.{writer_of, lane_of, account_of}
use Rattle.am_cast.proofs.Accounts.{knows_of}
use Rattle.am_cast.proofs.steps.Leave.{none_left}
use Rattle.am_cast.proofs.steps.Retire.{retires, takes_both}
use Rattle.am_cast.proofs.board.retire.retire_lane.Goals as goal

pub store-requires : goal.store-requires
store-requires g c = let t = c.requires.table in let o = c.requires.other in let d = c.requires.writer in let b = c.requires.account in let l = c.requires.lane in let all = d.1 in let w = c.replace-writer.ensures in let e = c.take_in.ensures.seat in
    let q : WriterView g.row.B.Denot g.row.K.Denot g.row.A.Denot = writer_of c.args.seat.now.me.0 in let v : LaneView g.row.B.Denot g.row.A.Denot = lane_of c.args.other.me.0 in
    let both = takes_both g.R.Keyed.key c.args.seat.now.me c.args.other.me c.take_in.new.seat.me v q d.0.0 d.2 l.0 o.1 o.2 l.3 (e.2 ∙ (λ i. both_of (w.after i).me.0 (w.value i).me.0)) (e.1 ∙ ap (λ s. s.me.1) w.after) in
    let k : KnowsOf c.take_in.new.seat.me.0 c.args.lane q (account_of q c.args.lane) = knows_of c.take_in.new.seat.me.0 q c.args.lane both.writer (omega arith) in
    (e.0 ∙ (ap (λ s. s.table_id) w.after ∙ o.0), omega arith, rw (sym l.1) (retires g.R.Keyed.key _ _ c.take_in.new.seat.me v q (account_of q c.args.lane) _ both.lane (subst (λ (n : ℕ). KnowsOf c.take_in.new.seat.me.0 n q (account_of q c.args.lane)) (sym l.1) k) l.2 both.hand b.0 b.1 b.2 refl))

pub returns-clause-same : goal.returns-clause-same
returns-clause-same g c = let t = c.requires.table in let o = c.requires.other in let d = c.requires.writer in let l = c.requires.lane in let all = d.1 in let w = c.replace-writer.ensures in let e = c.take_in.ensures.seat in
    let q : WriterView g.row.B.Denot g.row.K.Denot g.row.A.Denot = writer_of c.args.seat.now.me.0 in let v : LaneView g.row.B.Denot g.row.A.Denot = lane_of c.args.other.me.0 in
    let both = takes_both g.R.Keyed.key c.args.seat.now.me c.args.other.me c.take_in.new.seat.me v q d.0.0 d.2 l.0 o.1 o.2 l.3 (e.2 ∙ (λ i. both_of (w.after i).me.0 (w.value i).me.0)) (e.1 ∙ ap (λ s. s.me.1) w.after) in
    let done = c.store.ensures.2 v q (account_of q c.args.lane) both.lane (subst (λ (n : ℕ). KnowsOf c.take_in.new.seat.me.0 n q (account_of q c.args.lane)) (sym l.1) (knows_of c.take_in.new.seat.me.0 q c.args.lane both.writer (omega arith))) in
    (c.store.ensures.0 ∙ (e.0 ∙ (ap (λ s. s.table_id) w.after ∙ (o.0 ∙ sym t.0))), done.2 ∙ none_left g.R.Keyed.key c.take_in.new.seat.me v v.held both.hand)

pub returns-clause-writer : goal.returns-clause-writer
returns-clause-writer g c = let t = c.requires.table in let o = c.requires.other in let d = c.requires.writer in let l = c.requires.lane in let all = d.1 in let w = c.replace-writer.ensures in let e = c.take_in.ensures.seat in
    let q : WriterView g.row.B.Denot g.row.K.Denot g.row.A.Denot = writer_of c.args.seat.now.me.0 in let v : LaneView g.row.B.Denot g.row.A.Denot = lane_of c.args.other.me.0 in
    let both = takes_both g.R.Keyed.key c.args.seat.now.me c.args.other.me c.take_in.new.seat.me v q d.0.0 d.2 l.0 o.1 o.2 l.3 (e.2 ∙ (λ i. both_of (w.after i).me.0 (w.value i).me.0)) (e.1 ∙ ap (λ s. s.me.1) w.after) in
    let done = c.store.ensures.2 v q (account_of q c.args.lane) both.lane (subst (λ (n : ℕ). KnowsOf c.take_in.new.seat.me.0 n q (account_of q c.args.lane)) (sym l.1) (knows_of c.take_in.new.seat.me.0 q c.args.lane both.writer (omega arith))) in
    (ap (λ (w : View g.row.B.Denot g.row.K.Denot g.row.A.Denot). w.writer) done.3 ∙ ap (λ (n : ℕ). let o : Option (WriterView g.row.B.Denot g.row.K.Denot g.row.A.Denot) = Some (with_account n (retired (account_of q c.args.lane)) q) in o) l.1, ap (λ (w : View g.row.B.Denot g.row.K.Denot g.row.A.Denot). w.lane) done.3, ap (λ (w : View g.row.B.Denot g.row.K.Denot g.row.A.Denot). w.own) done.3 ∙ both.own)

pub returns-clause-sound : goal.returns-clause-sound
returns-clause-sound g c = let t = c.requires.table in let o = c.requires.other in let d = c.requires.writer in let l = c.requires.lane in let all = d.1 in let w = c.replace-writer.ensures in let e = c.take_in.ensures.seat in
    let q : WriterView g.row.B.Denot g.row.K.Denot g.row.A.Denot = writer_of c.args.seat.now.me.0 in let v : LaneView g.row.B.Denot g.row.A.Denot = lane_of c.args.other.me.0 in
    let both = takes_both g.R.Keyed.key c.args.seat.now.me c.args.other.me c.take_in.new.seat.me v q d.0.0 d.2 l.0 o.1 o.2 l.3 (e.2 ∙ (λ i. both_of (w.after i).me.0 (w.value i).me.0)) (e.1 ∙ ap (λ s. s.me.1) w.after) in
    let done = c.store.ensures.2 v q (account_of q c.args.lane) both.lane (subst (λ (n : ℕ). KnowsOf c.take_in.new.seat.me.0 n q (account_of q c.args.lane)) (sym l.1) (knows_of c.take_in.new.seat.me.0 q c.args.lane both.writer (omega arith))) in
    (subst (λ (n : ℕ). Sound q.tail (account_of q c.args.lane) v n) l.1 done.0, done.1)
