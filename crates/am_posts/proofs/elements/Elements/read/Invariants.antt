use Rattle.std.proofs.Common.{◌≡◌, ◌+◌, ◌++◌, length}
use Rattle.std.specs.Vec.Iter.{into_iter_items, into_iter_len}
use Rattle.serde_json.specs.View.{items_view}
use Rattle.am_posts.specs.Posts.{postables_of}
use Rattle.am_posts.proofs.elements.Elements.read.Given as goal

-- the elements so far, with those of the values that are left, are those of all values
abbrev pub invariant-loop-value : goal.invariant-loop-value
invariant-loop-value l =
    (l.elements.items ++ postables_of (items_view (into_iter_items l.value-iterator)) ≡ postables_of (items_view l.fn.values.items))
    × (length l.elements.items + into_iter_len l.value-iterator ≡ length l.fn.values.items)
    × (into_iter_len l.value-iterator ≡ length (into_iter_items l.value-iterator))
