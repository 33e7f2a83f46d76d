use Rattle.std.proofs.Common.{◌≡◌, length, sym, ap, ◌∙◌, arith, rules, vec_len}
use Rattle.std.proofs.lemmas.Grind.{common_steps}
use Rattle.std.proofs.lemmas.List.{length-map}
use Rattle.serde_json.specs.Find.{as_array}
use Rattle.serde_json.specs.View.{view}
use Rattle.serde_json.proofs.Views.{view-Array}
use Rattle.am_posts.proofs.Arrays.{some_bytes, post_many, post_ok, post_err}
use Rattle.am_posts.proofs.post_reader.read_as_value.Goals as goal

pub returns-then-len-gt-MAX_ALERTS : goal.returns-then-len-gt-MAX_ALERTS
returns-then-len-gt-MAX_ALERTS c =
    let values = c.in-Array.elements in
    let long : vec_len values ≡ length values.items = search rules in
    let array = sym (ap (λ value. as_array (view value)) c.in-Array.is ∙ ap as_array (view-Array values)) in
    grind (arith, common_steps, post_many, length-map)

pub returns-in-Ok-read_elements : goal.returns-in-Ok-read_elements
returns-in-Ok-read_elements c =
    let values = c.in-Array.elements in
    let long : vec_len values ≡ length values.items = search rules in
    let array = sym (ap (λ value. as_array (view value)) c.in-Array.is ∙ ap as_array (view-Array values)) in
    grind (arith, common_steps, post_ok, length-map)

pub returns-in-Err-read_elements : goal.returns-in-Err-read_elements
returns-in-Err-read_elements c =
    let values = c.in-Array.elements in
    let long : vec_len values ≡ length values.items = search rules in
    let array = sym (ap (λ value. as_array (view value)) c.in-Array.is ∙ ap as_array (view-Array values)) in
    grind (arith, common_steps, post_err, some_bytes, length-map)
