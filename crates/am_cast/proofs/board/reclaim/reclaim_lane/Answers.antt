use Rattle.std.proofs.Common.{arith, refl}
use Rattle.std.proofs.lemmas.Bool.{eqb-true, eqb-false}
use Rattle.am_cast.specs.Seats.{writer_of, account_of}
use Rattle.am_cast.proofs.Accounts.{knows_of}
use Rattle.am_cast.proofs.steps.Reclaim.{reclaims}
use Rattle.am_cast.proofs.board.reclaim.reclaim_lane.Goals as goal

pub load-requires : goal.load-requires
load-requires g c = let t = c.requires.table in let d = c.requires.writer in let b = c.requires.account in let q = writer_of c.args.seat.now.me.0 in let all = d.1 in
    (t.0, omega arith, reclaims g.R.Keyed.key _ _ c.args.seat.now.me c.args.lane q (account_of q c.args.lane) (knows_of c.args.seat.now.me.0 q c.args.lane d.0.0 (omega arith)) b.0 b.1 b.2 b.3)

pub returns-clause-gone : goal.returns-clause-gone
returns-clause-gone g c e = let d = c.requires.writer in let q = writer_of c.args.seat.now.me.0 in let all = d.1 in
    (c.load.ensures.2.1 c.args.lane q (account_of q c.args.lane) refl (knows_of c.args.seat.now.me.0 q c.args.lane d.0.0 (omega arith))).0 (eqb-true c.load.result 18446744073709551615 e)

pub returns-clause-here : goal.returns-clause-here
returns-clause-here g c e = let d = c.requires.writer in let q = writer_of c.args.seat.now.me.0 in let all = d.1 in
    (c.load.ensures.2.1 c.args.lane q (account_of q c.args.lane) refl (knows_of c.args.seat.now.me.0 q c.args.lane d.0.0 (omega arith))).1 (eqb-false c.load.result 18446744073709551615 e)
