use Rattle.std.proofs.Common.{◌≡◌, ◌∷◌, ◌+◌, ◌-◌, ◌≤◌, arith, rules}
use Rattle.json.specs.Token.{begin_object}
use Rattle.am_posts.specs.inside.Streams.{AreMembersOf}
use Rattle.am_posts.proofs.Rooms.{object_fits}
use Rattle.am_posts.proofs.Tokens.{object_read}
use Rattle.am_posts.proofs.draft_reader.read_draft.Goals as goal

pub returns-clause-read : goal.returns-clause-read
returns-clause-read c =
    let is : c.args.reader.now ≡ begin_object ∷ c.next.new.self = grind arith in
    let less = c.take.new.self.left in
    let left = c.read_members.new.room.left in
    let room : less + 1 ≤ c.args.room.now.left = search rules in
    let members : AreMembersOf (c.args.depth - 1) c.next.new.self c.read_members.new.reader less left c.in-Some.draft = search rules in
    (members.0, object_read c.args.depth c.args.reader.now c.next.new.self c.read_members.new.reader members.0 is (omega arith) members.1, object_fits members.0 c.args.room.now.left less left room members.2, members.3)
