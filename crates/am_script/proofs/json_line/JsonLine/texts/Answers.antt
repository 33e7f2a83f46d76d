use Rattle.std.proofs.Common.{◌∷◌, ◌∙◌, [], List, ap, map, ◌++◌}
use Rattle.std.proofs.lemmas.Result.{IfOk-weaker}
use Rattle.json.specs.Token.{Token, key, begin_array, end_array}
use Rattle.json.specs.Token as token
use Rattle.am_script.proofs.JsonLines.{and_then, tokens_of_texts}
use Rattle.am_script.proofs.json_line.JsonLine.texts.Goals as goal

pub returns : goal.returns
returns c =
    let texts = c.args.texts.now in
    let tokens : List Token = map token.string texts in
    IfOk-weaker c.close_array.result _ _ (λ _ closed. closed ∙ (and_then c.open_array.new.self c.elements.new.self tokens (end_array ∷ []) c.in_ok-elements.ensures
    ∙ (ap (λ (more : List Token). c.open_array.new.self ++ more) (tokens_of_texts texts)
    ∙ and_then c.args.self.now c.open_array.new.self (key c.args.name.now ∷ begin_array ∷ []) _ c.in_ok-open_array.ensures))) c.close_array.ensures
