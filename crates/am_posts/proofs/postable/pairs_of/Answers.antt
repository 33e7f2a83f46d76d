use Rattle.std.proofs.Common.{◌≡◌, ◌++◌, ◌∙◌, Some, ap, sym}
use Rattle.std.specs.Prelude.{option_map, string_bytes}
use Rattle.serde_json.specs.View.{view, members_view}
use Rattle.serde_json.specs.Find.{as_str}
use Rattle.am_posts.proofs.MemberPairs.{pair_joins, string_read}
use Rattle.am_posts.specs.Postables.{pairs_of}
use Rattle.am_posts.proofs.postable.pairs_of.Goals as goal

pub loop-name-preserved : goal.loop-name-preserved
loop-name-preserved c =
    let reads : as_str (view c.in-Some.value) ≡ Some (string_bytes c.in-String.value) =
    ap (λ one. as_str (view one)) c.in-String.is ∙ string_read c.in-String.value in
    pair_joins c.loop-name.pairs.items c.push_pair.new.pairs.items (string_bytes c.in-Some.name) (string_bytes c.in-String.value) (view c.in-Some.value) (members_view c.next.new.self)
    (pairs_of (members_view c.args.members.entries)) c.in_ok-push_pair.ensures reads
    (ap (λ entries. option_map (λ rest. c.loop-name.pairs.items ++ rest) (pairs_of (members_view entries))) (sym c.in-Some.ensures.steps) ∙ c.loop-name.invariant)
