use Rattle.std.proofs.Common.{◌≡◌}
use Rattle.std.specs.List.{list_all}
use Rattle.am_posts.specs.Postables.{has_value}
use Rattle.am_posts.proofs.postable.have_values.Given as goal

-- all have a value if those that are left have
abbrev pub invariant-loop-value : goal.invariant-loop-value
invariant-loop-value l =
    (goal.iterator-loop-value).can_next l.value-iterator ×
    (goal.iterator-loop-value).is_finite l.value-iterator ×
    (list_all has_value l.fn.pairs ≡ list_all has_value l.value-iterator)
