use Rattle.std.proofs.Common.{◌+◌, ◌≤◌, length}
use Rattle.json.specs.Json.{members, value}
use Rattle.serde_json.specs.Data.{Members}
use Rattle.am_posts.specs.inside.Drafts.{IsDraftOf}
use Rattle.am_posts.specs.inside.Rooms.{MembersHaveRoom}
use Rattle.am_posts.proofs.Tokens.{Members-so-far}
use Rattle.am_posts.proofs.draft_reader.read_members.Given as goal

-- the draft has what the members so far give
abbrev pub invariant-members : goal.invariant-members
invariant-members l = (found : Members)
    × Members-so-far (value l.depth) (members (value l.depth) (length l.initial.reader) l.initial.reader) l.reader found
    × IsDraftOf l.draft found
    × MembersHaveRoom found (l.initial.room.left + 1) l.room.left
    × (length l.reader ≤ length l.initial.reader)

abbrev pub decreases-members : goal.decreases-members
decreases-members l = length l.reader
