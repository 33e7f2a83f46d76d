use Rattle.std.proofs.Common.{◌≡◌, ◌+◌, ◌<◌, ◌≤◌, Some, None, length, arith, rules}
use Rattle.std.proofs.lemmas.Grind.{common_steps}
use Rattle.json.specs.Json.{members, read_key, value}
use Rattle.json.specs.Print.{quoted}
use Rattle.json.proofs.Grammar.{read_key-shorter}
use Rattle.serde_json.specs.Data.{put}
use Rattle.am_posts.specs.inside.Streams.{TakesMember}
use Rattle.am_posts.proofs.Rooms.{none_fit, one_more_fits, wider}
use Rattle.am_posts.proofs.Tokens.{all_members, no_member_yet, one_more_member}
use Rattle.am_posts.proofs.draft_reader.read_members.Goals as goal

pub members-init : goal.members-init
members-init c = grind (arith, common_steps, no_member_yet, none_fit)

pub returns-in_default-key-clause-read : goal.returns-in_default-key-clause-read
returns-in_default-key-clause-read c =
    let l = c.members in
    let less = c.take.new.self.left in
    let room : less + 1 ≤ c.args.room.now.left = search rules in
    let ended : read_key l.reader ≡ Some (None, c.next_key.new.self) = grind arith in
    (l.invariant.0, all_members c.args.depth c.args.reader.now l.reader c.next_key.new.self l.invariant.0 l.invariant.1 ended, wider l.invariant.0 (less + 1) c.args.room.now.left l.room.left room l.invariant.3, l.invariant.2)

pub members-preserved : goal.members-preserved
members-preserved c =
    let l = c.members in
    let p = value c.args.depth in
    let name = c.in-Some.name.now in
    let s = c.next_key.new.self in
    let r = c.read_member.new.reader in
    let named : read_key l.reader ≡ Some (Some name, s) = grind arith in
    let after_name = c.take_name.new.self.left in
    let after = c.read_member.new.room.left in
    let takes : TakesMember c.args.depth name s r after_name after l.draft c.read_member.new.draft = search rules in
    let name_fits : length (quoted name) + after_name + 2 ≤ l.room.left = search rules in
    let shorter : length r < length s = search rules in
    let less = read_key-shorter l.reader (Some name) s named in (
      put name takes.0 l.invariant.0,
      one_more_member p (members p (length c.args.reader.now) c.args.reader.now) l.reader s r l.invariant.0 name takes.1.0 takes.0 l.invariant.1 named takes.1.1 takes.1.2 (omega arith),
      takes.3 l.invariant.0 l.invariant.2,
      one_more_fits name takes.0 l.invariant.0 (c.take.new.self.left + 1) l.room.left after_name after l.invariant.3 name_fits takes.2,
      omega arith,
    )
