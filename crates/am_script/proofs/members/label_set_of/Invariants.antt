use Rattle.std.proofs.Common.{◌≡◌, ◌++◌}
use Rattle.std.specs.Prelude.{option_map, filter}
use Rattle.serde_json.specs.View.{members_view}
use Rattle.am_posts.specs.Postables.{has_value, pairs_of}
use Rattle.am_script.proofs.members.label_set_of.Given as goal

-- the pairs so far, with those that come of the members that are left, are those of all members
abbrev pub invariant-loop-name : goal.invariant-loop-name
invariant-loop-name l = option_map (λ rest. l.pairs.items ++ filter has_value rest) (pairs_of (members_view l.name-iterator)) ≡ option_map (filter has_value) (pairs_of (members_view l.members.entries))
