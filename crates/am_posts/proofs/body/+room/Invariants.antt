use Rattle.std.proofs.Common.{◌≡◌, ◌+◌, ◌≤◌, true, length, drop}
use Rattle.serde_json.specs.View.{items_view, members_view}
use Rattle.serde_json.specs.Written.{items_have_float, items_text, members_have_float, members_text}
use Rattle.am_posts.proofs.body.+room.Given as goal

-- what is left has room with the items that are left; none before them has a float
abbrev pub invariant-items_left-loop-item : goal.invariant-items_left-loop-item
invariant-items_left-loop-item l =
    (items_have_float (items_view (drop l.item-index l.items)) ≡ items_have_float (items_view l.items))
    × (length (items_text true (items_view l.items)) + l.left + 1 ≤ length (items_text true (items_view (drop l.item-index l.items))) + l.room)

abbrev pub invariant-members_left-loop-name : goal.invariant-members_left-loop-name
invariant-members_left-loop-name l =
    (members_have_float (members_view l.name-iterator) ≡ members_have_float (members_view l.members.entries))
    × (length (members_text true (members_view l.members.entries)) + l.left + 1 ≤ length (members_text true (members_view l.name-iterator)) + l.room)
