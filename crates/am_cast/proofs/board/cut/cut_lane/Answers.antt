use Rattle.std.proofs.Common.{arith, refl}
use Rattle.am_cast.specs.Seats.{writer_of, account_of}
use Rattle.am_cast.proofs.Accounts.{knows_of}
use Rattle.am_cast.proofs.steps.Cut.{cuts}
use Rattle.am_cast.proofs.board.cut.cut_lane.Goals as goal

pub compare_exchange-requires : goal.compare_exchange-requires
compare_exchange-requires g c = let t = c.requires.table in let d = c.requires.writer in let b = c.requires.account in let q = writer_of c.args.seat.now.me.0 in let all = d.1 in let less = t.3 in
    (t.0, omega arith, cuts g.R.Keyed.key _ _ c.args.seat.now.me c.args.lane q (account_of q c.args.lane) c.args.old _ (knows_of c.args.seat.now.me.0 q c.args.lane d.0.0 (omega arith)) b.0 b.1 b.2 b.3 b.4 (λ e. omega arith) b.5 b.6 refl)

pub returns-clause-cut : goal.returns-clause-cut
returns-clause-cut g c e = let t = c.requires.table in let d = c.requires.writer in let q = writer_of c.args.seat.now.me.0 in let all = d.1 in
    (c.compare_exchange.ensures.2.1 c.args.lane q (account_of q c.args.lane) refl (knows_of c.args.seat.now.me.0 q c.args.lane d.0.0 (omega arith))).0 e

pub returns-clause-moved : goal.returns-clause-moved
returns-clause-moved g c e = let t = c.requires.table in let d = c.requires.writer in let q = writer_of c.args.seat.now.me.0 in let all = d.1 in
    (c.compare_exchange.ensures.2.1 c.args.lane q (account_of q c.args.lane) refl (knows_of c.args.seat.now.me.0 q c.args.lane d.0.0 (omega arith))).1 e
