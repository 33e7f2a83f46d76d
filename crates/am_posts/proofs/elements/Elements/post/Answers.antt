use Rattle.std.proofs.Common.{◌≡◌, ◌≤◌, ◌∙◌, drop, length, List, Option, ap, sym, rules, arith}
use Rattle.std.proofs.lemmas.Grind.{common_steps}
use Rattle.std.specs.Duration.{as_nanos}
use Rattle.std.proofs.lemmas.List.{drop_all}
use Rattle.std.proofs.lemmas.List.Elements.{All-weaker}
use Rattle.am_posts.specs.Posts.{entries_of, postables_of}
use Rattle.am_posts.specs.declared.postable.Postable.{Postable}
use Rattle.am_posts.proofs.Arrays.{all_read, as_many}
use Rattle.am_posts.proofs.ValidAlerts.{are_told}
use Rattle.am_posts.proofs.elements.Elements.post.Goals as goal

pub invariant_of-result : goal.invariant_of-result
invariant_of-result c =
    let timeout = as_nanos c.args.resolve_timeout in
    let valid = c.loop-element.valid.items in
    let faults = c.loop-element.faults.items in
    let elements = c.deref-element-items.result.now in
    let rest = drop c.loop-element.element-index elements in
    let ds = c.self.invariant.1.0 in
    let all : elements ≡ postables_of ds = search rules in
    let late : length elements ≤ c.loop-element.element-index = search rules in
    let none = ap length (drop_all c.loop-element.element-index elements late) in
    let reads = all_read c.args.now timeout c.loop-element.element-index rest _ valid faults none c.loop-element.invariant.1 in
    let same = ap (λ (given : List (Option Postable)). entries_of c.args.now timeout 0 given) all in
    let told = are_told c.args.now timeout 0 ds (valid, faults) (sym same ∙ reads) in
    let many = as_many ds in
    grind (arith, common_steps, All-weaker)
