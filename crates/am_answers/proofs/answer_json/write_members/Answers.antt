use Rattle.std.proofs.Common.{◌∙◌, ◌++◌, ◌∷◌, [], List, ap, codes, sym}
use Rattle.std.proofs.lemmas.Result.{IfOk-weaker}
use Rattle.json.specs.Json.{string}
use Rattle.json.specs.Token.{Token, end_object}
use Rattle.json.specs.Tree.{members_tokens}
use Rattle.am_script.specs.JsonLines.{named}
use Rattle.am_script.proofs.JsonLines.{and_then}
use Rattle.am_answers.specs.declared.answer.Answer.{Answer}
use Rattle.am_answers.specs.PrintingJson.{answer_members}
use Rattle.am_answers.proofs.answer_json.write_members.Goals as goal

pub returns-in-Item : goal.returns-in-Item
returns-in-Item c =
    IfOk-weaker c.write_alert.result _ _ (λ _ all. all ∙ ap (λ (answer : Answer). c.args.line.now ++ members_tokens (answer_members answer)) (sym c.in-Item.is)) c.write_alert.ensures

pub returns-in-Member : goal.returns-in-Member
returns-in-Member c =
    IfOk-weaker c.write_alert-in-Member.result _ _ (λ _ all. all ∙ ap (λ (answer : Answer). c.args.line.now ++ members_tokens (answer_members answer)) (sym c.in-Member.is)) c.write_alert-in-Member.ensures

pub returns-in-StoredAlert : goal.returns-in-StoredAlert
returns-in-StoredAlert c =
    IfOk-weaker c.write_alert-in-StoredAlert.result _ _ (λ _ all. all ∙ ap (λ (answer : Answer). c.args.line.now ++ members_tokens (answer_members answer)) (sym c.in-StoredAlert.is)) c.write_alert-in-StoredAlert.ensures

pub returns-in-Page : goal.returns-in-Page
returns-in-Page c =
    IfOk-weaker c.write_page.result _ _ (λ _ all. all ∙ ap (λ (answer : Answer). c.args.line.now ++ members_tokens (answer_members answer)) (sym c.in-Page.is)) c.write_page.ensures

pub returns-in-NotMuted : goal.returns-in-NotMuted
returns-in-NotMuted c =
    let part-0 : List Token = named (codes "answer") (string (codes "not_muted")) in
    IfOk-weaker c.text-in-NotMuted.result _ _ (λ _ last. and_then c.args.line.now c.text-in-NotMuted.new.self part-0 (end_object ∷ []) last
    ∙ ap (λ (answer : Answer). c.args.line.now ++ members_tokens (answer_members answer)) (sym c.in-NotMuted.is)) c.text-in-NotMuted.ensures
