use Rattle.std.proofs.Common.{◌≡◌, ◌++◌, map}
use Rattle.std.specs.Vec.Iter.{into_iter_items}
use Rattle.am_posts.specs.FromParts.{alert_of}
use Rattle.am_posts.proofs.alert_parts.unjudged.Given as goal

-- the alerts so far, with those of the parts that are left, are those of all parts
abbrev pub invariant-loop-one : goal.invariant-loop-one
invariant-loop-one l = l.alerts.items ++ map alert_of (into_iter_items l.one-iterator) ≡ map alert_of l.fn.parts.items
