use Rattle.std.proofs.Common.{◌≡◌, ◌∙◌, ◌∷◌, ◌++◌, [], List, codes}
use Rattle.std.proofs.lemmas.Result.{IfOk-weaker}
use Rattle.json.specs.Json.{boolean, string}
use Rattle.json.specs.Token.{Token, key, begin_object}
use Rattle.am_script.specs.JsonLines.{labels_json, named}
use Rattle.am_script.specs.inside.AlertTokens.{moments_tokens}
use Rattle.am_script.proofs.JsonLines.{and_then}
use Rattle.am_script.proofs.json_line.JsonLine.alert.Goals as goal

pub returns : goal.returns
returns c =
    let alert = c.args.alert.now in
    let labels : List Token = named (codes "labels") (labels_json alert.labels) in
    let annotations : List Token = named (codes "annotations") (labels_json alert.annotations) in
    let flag : List Token = named (codes "timeout") (boolean alert.timeout) in
    let generator : List Token = named (codes "generatorURL") (string alert.generator) in
    let last : c.text.new.self ≡ c.flag.new.self ++ generator = rw c.as_str.ensures at c.in_ok-text.ensures in
    IfOk-weaker c.close.result _ _ (λ _ closed. closed ∙ (and_then c.flag.new.self c.text.new.self generator _ last
    ∙ (and_then c.moments.new.self c.flag.new.self flag _ c.in_ok-flag.ensures
    ∙ (and_then c.labels-2.new.self c.moments.new.self (moments_tokens alert) _ c.in_ok-moments.ensures
    ∙ (and_then c.labels.new.self c.labels-2.new.self annotations _ c.in_ok-labels-2.ensures
    ∙ (and_then c.open.new.self c.labels.new.self labels _ c.in_ok-labels.ensures
    ∙ and_then c.args.self.now c.open.new.self (key c.args.name.now ∷ begin_object ∷ []) _ c.in_ok-open.ensures)))))) c.close.ensures
