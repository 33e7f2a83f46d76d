use Rattle.am_script.proofs.LineFeeds.{first_feed}
use Rattle.am_script.proofs.line_feed.line_feed.Goals as goal

pub returns : goal.returns
returns c = first_feed c.args.bytes.now c.memchr.result c.memchr.ensures
