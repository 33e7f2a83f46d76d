use Rattle.std.proofs.Common.{◌+◌, ◌≤◌, length}
use Rattle.json.specs.Json.{items, value}
use Rattle.serde_json.specs.Data.{Items}
use Rattle.am_alert.specs.declared.post.TheConstants.{MAX_ALERTS}
use Rattle.am_posts.proofs.Streams.{Elements-so-far}
use Rattle.am_posts.proofs.Tokens.{Items-so-far}
use Rattle.am_posts.proofs.array_reader.read_elements.Given as goal

-- the elements so far are those of the tokens so far
abbrev pub invariant-elements : goal.invariant-elements
invariant-elements l = (values : Items → Items)
    × Items-so-far (value l.depth) (items (value l.depth) (length l.initial.reader) l.initial.reader) l.reader values
    × Elements-so-far values l.elements.items (l.initial.room.left + 1) l.room.left
    × (length l.elements.items ≤ MAX_ALERTS)
    × (length l.reader ≤ length l.initial.reader)

abbrev pub decreases-elements : goal.decreases-elements
decreases-elements l = length l.reader
