use Rattle.std.proofs.Common.{sym}
use Rattle.am_runner.proofs.session.post.put_read.Goals as goal

pub returns-in-Ok-put : goal.returns-in-Ok-put
returns-in-Ok-put g c = (c.in-Ok.post, sym c.in-Ok.is, c.in-Ok-put.ensures.sees, c.in-Ok-put.ensures.own)

pub returns-in-Err-put : goal.returns-in-Err-put
returns-in-Err-put g c = (c.in-Ok.post, sym c.in-Ok.is, c.in-Err-put.ensures.sees, c.in-Err-put.ensures.err)
