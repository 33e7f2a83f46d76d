use Rattle.std.proofs.Common.{arith}
use Rattle.am_cast.specs.Seats.{writer_of}
use Rattle.am_cast.proofs.steps.Close.{closes}
use Rattle.am_cast.proofs.board.close.close_log.Goals as goal

pub store-requires : goal.store-requires
store-requires g c = let t = c.requires.table in let d = c.requires.writer in let q = writer_of c.args.seat.now.me.0 in let n = d.2 in
    (t.0, omega arith, closes g.R.Keyed.key _ _ c.args.seat.now.me q _ d.0.0 d.1 (omega arith))
