use Rattle.std.proofs.Common.{◌≡◌, ◌<◌, Some, None, length, arith, refl, rules}
use Rattle.json.specs.Json.{members, read_key, value}
use Rattle.json.proofs.Grammar.{read_key-shorter}
use Rattle.serde_json.specs.Data.{no_members, put}
use Rattle.am_posts.proofs.Tokens.{all_members, no_member_yet, one_more_member}
use Rattle.am_script.specs.inside.LineMembers.{AddsMember}
use Rattle.am_script.proofs.line_members.read_members.Goals as goal

pub members-init : goal.members-init
members-init c =
    let p = value 126 in
    (no_members, no_member_yet p (members p (length c.args.reader.now) c.args.reader.now) c.args.reader.now refl, c.new-line.ensures)

pub returns-in_default-key : goal.returns-in_default-key
returns-in_default-key c =
    let l = c.members in
    let ended : read_key l.reader ≡ Some (None, c.next_key.new.self) = grind arith in
    (l.invariant.0, all_members 126 c.args.reader.now l.reader c.next_key.new.self l.invariant.0 l.invariant.1 ended, l.invariant.2)

pub members-preserved : goal.members-preserved
members-preserved c =
    let l = c.members in
    let p = value 126 in
    let name = c.in-Some.name.now in
    let s = c.next_key.new.self in
    let r = c.read_member.new.reader in
    let named : read_key l.reader ≡ Some (Some name, s) = grind arith in
    let takes : AddsMember 126 name s r l.line c.read_member.new.self = search rules in
    let shorter : length r < length s = search rules in
    let less = read_key-shorter l.reader (Some name) s named in (
      put name takes.0 l.invariant.0,
      one_more_member p (members p (length c.args.reader.now) c.args.reader.now) l.reader s r l.invariant.0 name takes.1.0 takes.0 l.invariant.1 named takes.1.1 takes.1.2 (omega arith),
      takes.2 l.invariant.0 l.invariant.2,
    )
