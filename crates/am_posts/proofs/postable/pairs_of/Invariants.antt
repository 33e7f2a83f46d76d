use Rattle.std.proofs.Common.{◌≡◌, ◌++◌}
use Rattle.std.specs.Prelude.{option_map}
use Rattle.serde_json.specs.View.{members_view}
use Rattle.am_posts.specs.Postables.{pairs_of}
use Rattle.am_posts.proofs.postable.pairs_of.Given as goal

abbrev pub invariant-loop-name : goal.invariant-loop-name
invariant-loop-name l = option_map (λ rest. l.pairs.items ++ rest) (pairs_of (members_view l.name-iterator)) ≡ pairs_of (members_view l.fn.members.entries)
