use Rattle.std.proofs.Common.{◌≡◌, ◌+◌, ◌≤◌, ℕ, List, [], length}
use Rattle.std.specs.Prelude.{MatchOption}
use Rattle.json.specs.Json.{members, value}
use Rattle.am_posts.specs.inside.Rooms.{MembersHaveRoom}
use Rattle.am_posts.specs.inside.Streams.{IsBefore}
use Rattle.am_posts.proofs.Streams.{AreBefore, text_members}
use Rattle.am_posts.proofs.Tokens.{Members-so-far}
use Rattle.am_posts.proofs.draft_reader.read_pairs.Given as goal

-- the members so far are the pairs, and what is after the last name is after all of them
abbrev pub invariant-pairs : goal.invariant-pairs
invariant-pairs l =
    Members-so-far (value l.depth) (members (value l.depth) (length l.initial.reader) l.initial.reader) l.reader (text_members l.pairs)
    × MatchOption l.last (l.pairs ≡ []) (λ last. (name : List ℕ) → IsBefore last.now name → AreBefore name l.pairs)
    × MembersHaveRoom (text_members l.pairs) (l.initial.room.left + 1) l.room.left
    × (length l.reader ≤ length l.initial.reader)

abbrev pub decreases-pairs : goal.decreases-pairs
decreases-pairs l = length l.reader
