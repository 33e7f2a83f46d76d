use Rattle.std.proofs.Common.{arith, refl}
use Rattle.am_cast.specs.Seats.{writer_of, account_of}
use Rattle.am_cast.proofs.Accounts.{knows_of}
use Rattle.am_cast.proofs.steps.Harvest.{harvests}
use Rattle.am_cast.proofs.board.harvest.find_word.Goals as goal

pub load-requires : goal.load-requires
load-requires g c = let t = c.requires.table in let d = c.requires.writer in let q = writer_of c.args.seat.now.me.0 in let all = d.1 in
    (t.0, omega arith, harvests g.R.Keyed.key _ _ c.args.seat.now.me c.args.lane q (account_of q c.args.lane) (knows_of c.args.seat.now.me.0 q c.args.lane d.0.0 (omega arith)) d.2 d.3)

pub returns-clause-found : goal.returns-clause-found
returns-clause-found g c = let t = c.requires.table in let d = c.requires.writer in let q = writer_of c.args.seat.now.me.0 in let all = d.1 in
    c.load.ensures.2.1 c.args.lane q (account_of q c.args.lane) refl (knows_of c.args.seat.now.me.0 q c.args.lane d.0.0 (omega arith))
