use Rattle.std.proofs.Common.{◌≡◌, ◌+◌, drop, length}
use Rattle.std.specs.Duration.{as_nanos}
use Rattle.am_posts.specs.Posts.{entries_of}
use Rattle.am_posts.proofs.Arrays.{with_front}
use Rattle.am_posts.proofs.elements.Elements.post.Given as goal

-- what is left is read from the number of those before it on
abbrev pub invariant-loop-element : goal.invariant-loop-element
invariant-loop-element l =
    (length l.valid.items + length l.faults.items ≡ l.element-index)
    × (with_front (l.valid.items, l.faults.items) (entries_of l.now (as_nanos l.resolve_timeout) l.element-index (drop l.element-index l.element-items)) ≡ entries_of l.now (as_nanos l.resolve_timeout) 0 l.element-items)
