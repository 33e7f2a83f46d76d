use Rattle.std.proofs.Common.{◌≡◌, ◌∷◌, ◌+◌, ◌-◌, ◌≤◌, arith, rules}
use Rattle.json.specs.Token.{begin_object}
use Rattle.am_posts.specs.inside.Streams.{ArePairsOf}
use Rattle.am_posts.proofs.Rooms.{object_fits}
use Rattle.am_posts.proofs.Tokens.{object_read}
use Rattle.am_posts.proofs.draft_reader.read_texts.Goals as goal

pub returns-clause-read : goal.returns-clause-read
returns-clause-read c taken =
    let is : c.args.reader.now ≡ begin_object ∷ c.next.new.self = grind arith in
    let less = c.take.new.self.left in
    let left = c.read_pairs.new.room.left in
    let room : less + 1 ≤ c.args.room.now.left = search rules in
    let pairs : ArePairsOf (c.args.depth - 1) c.next.new.self c.read_pairs.new.reader less left c.read_pairs.new.pairs = search rules in
    (pairs.0, object_read c.args.depth c.args.reader.now c.next.new.self c.read_pairs.new.reader pairs.0 is (omega arith) pairs.1, object_fits pairs.0 c.args.room.now.left less left room pairs.2, pairs.3)
