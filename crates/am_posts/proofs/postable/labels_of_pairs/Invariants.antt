use Rattle.std.proofs.Common.{◌≡◌, ◌++◌, filter}
use Rattle.am_posts.specs.Postables.{has_value}
use Rattle.am_posts.proofs.postable.labels_of_pairs.Given as goal

-- those that are kept, and after them those with a value that are left
abbrev pub invariant-loop-name : goal.invariant-loop-name
invariant-loop-name l =
    (goal.iterator-loop-name).can_next l.name-iterator ×
    (goal.iterator-loop-name).is_finite l.name-iterator ×
    (filter has_value l.pairs ≡ l.kept ++ filter has_value l.name-iterator)
