use Rattle.std.proofs.Common.{◌≡◌, ◌++◌, true, Some, sym, ap, ◌∙◌, rules}
use Rattle.std.specs.Prelude.{option_map, filter, string_bytes}
use Rattle.serde_json.specs.View.{view, members_view}
use Rattle.serde_json.specs.Find.{as_str}
use Rattle.am_posts.specs.Postables.{has_value, pairs_of}
use Rattle.am_script.proofs.Labels.{label_kept, value_is_there}
use Rattle.am_script.proofs.members.label_set_of.Goals as goal

pub loop-name-preserved-in_ok-push : goal.loop-name-preserved-in_ok-push
loop-name-preserved-in_ok-push c =
    let target = option_map (filter has_value) (pairs_of (members_view c.args.members.now.entries)) in
    let reads : as_str (view c.in-Some.member.now) ≡ Some c.in-Some-as_str.text.now = sym c.in-Some-as_str.ensures in
    let has : has_value (string_bytes c.in-Some.name.now, c.in-Some-as_str.text.now) ≡ true = value_is_there (string_bytes c.in-Some.name.now) c.in-Some-as_str.text.now (search rules) in
    label_kept c.loop-name.pairs.items c.push.new.self.items (string_bytes c.in-Some.name.now) c.in-Some-as_str.text.now (view c.in-Some.member.now) (members_view c.next.new.self) target
    (search rules) reads has
    (ap (λ entries. option_map (λ rest. c.loop-name.pairs.items ++ filter has_value rest) (pairs_of (members_view entries))) (sym c.in-Some.ensures.steps) ∙ c.loop-name.invariant)
