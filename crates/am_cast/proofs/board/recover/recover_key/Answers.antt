use Rattle.std.proofs.Common.{arith, refl}
use Rattle.am_cast.specs.Seats.{writer_of, account_of}
use Rattle.am_cast.proofs.Accounts.{knows_of}
use Rattle.am_cast.proofs.steps.Recover.{recovers}
use Rattle.am_cast.proofs.board.recover.recover_key.Goals as goal

pub load-requires : goal.load-requires
load-requires g c = let t = c.requires.table in let d = c.requires.writer in let b = c.requires.account in let q = writer_of c.args.seat.now.me.0 in let all = d.1 in
    (t.0, omega arith, recovers g.R.Keyed.key _ _ c.args.seat.now.me c.args.lane q (account_of q c.args.lane) (knows_of c.args.seat.now.me.0 q c.args.lane d.0.0 (omega arith)) b.0 b.1 b.2 b.3)

pub returns-clause-back : goal.returns-clause-back
returns-clause-back g c e = let t = c.requires.table in let d = c.requires.writer in let q = writer_of c.args.seat.now.me.0 in let all = d.1 in
    (c.load.ensures.2.1 c.args.lane q (account_of q c.args.lane) refl (knows_of c.args.seat.now.me.0 q c.args.lane d.0.0 (omega arith))).0 e

pub returns-clause-away : goal.returns-clause-away
returns-clause-away g c e = let t = c.requires.table in let d = c.requires.writer in let q = writer_of c.args.seat.now.me.0 in let all = d.1 in
    (c.load.ensures.2.1 c.args.lane q (account_of q c.args.lane) refl (knows_of c.args.seat.now.me.0 q c.args.lane d.0.0 (omega arith))).1 e
