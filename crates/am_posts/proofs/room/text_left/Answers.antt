use Rattle.std.proofs.Common.{rules}
use Rattle.am_posts.proofs.Rooms.{quoted_short}
use Rattle.am_posts.proofs.room.text_left.Goals as goal

pub returns : goal.returns
returns c = let short = quoted_short c.args.text.now in search (rules, short)
