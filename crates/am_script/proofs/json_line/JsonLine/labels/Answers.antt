use Rattle.std.proofs.Common.{rules, ◌≡◌, ◌∷◌, ◌∙◌, [], List, ap, flat_map, ◌++◌}
use Rattle.std.specs.FinMap.{entries}
use Rattle.std.proofs.lemmas.Result.{IfOk-weaker}
use Rattle.json.specs.Json.{string}
use Rattle.json.specs.Token.{Token, key, begin_object, end_object}
use Rattle.am_script.specs.JsonLines.{named}
use Rattle.am_script.proofs.JsonLines.{and_then, tokens_of_pairs}
use Rattle.am_script.proofs.json_line.JsonLine.labels.Goals as goal

pub returns : goal.returns
returns c =
    let pairs = entries c.args.labels.now in
    let tokens : List Token = flat_map (λ pair. named pair.0 (string pair.1)) pairs in
    let written : c.pairs.new.self ≡ c.open.new.self ++ tokens = search rules in
    IfOk-weaker c.close.result _ _ (λ _ closed. closed ∙ (and_then c.open.new.self c.pairs.new.self tokens (end_object ∷ []) written
    ∙ (ap (λ (more : List Token). c.open.new.self ++ more) (tokens_of_pairs pairs)
    ∙ and_then c.args.self.now c.open.new.self (key c.args.name.now ∷ begin_object ∷ []) _ c.in_ok-open.ensures))) c.close.ensures
