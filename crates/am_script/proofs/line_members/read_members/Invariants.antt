use Rattle.std.proofs.Common.{length}
use Rattle.json.specs.Json.{members, value}
use Rattle.serde_json.specs.Data.{Members}
use Rattle.am_posts.proofs.Tokens.{Members-so-far}
use Rattle.am_script.specs.inside.LineMembers.{AreMembersOfLine}
use Rattle.am_script.proofs.line_members.read_members.Given as goal

-- the line has what the members so far give
abbrev pub invariant-members : goal.invariant-members
invariant-members l = (found : Members)
    × Members-so-far (value 126) (members (value 126) (length l.initial.reader) l.initial.reader) l.reader found
    × AreMembersOfLine l.line found

abbrev pub decreases-members : goal.decreases-members
decreases-members l = length l.reader
