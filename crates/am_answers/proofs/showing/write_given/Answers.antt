use Rattle.std.proofs.Common.{◌∙◌, ◌++◌, Bool, true, None, length, ap, append_assoc, subst, sym}
use Rattle.std.proofs.lemmas.Result.{on_ok_weaker}
use Rattle.am_script.specs.JsonLines.{about_line, object_line}
use Rattle.am_answers.specs.Forms.{answers_printed}
use Rattle.am_answers.specs.PrintingJson.{count_members}
use Rattle.am_script.specs.declared.form.Form.{Form}
use Rattle.am_answers.specs.Showing.{AnswersArePrinted, plain, words, objects, shown_text}
use Rattle.am_answers.proofs.showing.write_given.Goals as goal

pub returns-then-not-follows : goal.returns-then-not-follows
returns-then-not-follows c =
    let printed = answers_printed c.args.form c.args.number c.args.given.now in
    on_ok_weaker c.write_answers.result (λ is. (
      printed,
      is,
      subst (λ (follows : Bool). AnswersArePrinted c.args.number c.args.known.now.entries c.args.given.now follows c.args.form printed) (sym c.if-not-follows.true) plain,
    )) c.write_answers.ensures

pub returns-in-Text : goal.returns-in-Text
returns-in-Text c =
    let printed = answers_printed c.args.form c.args.number c.args.given.now in
    on_ok_weaker c.write_answers-in-Text.result (λ is. (
      printed,
      is,
      subst (λ (shape : Form). AnswersArePrinted c.args.number c.args.known.now.entries c.args.given.now c.args.follows shape (answers_printed shape c.args.number c.args.given.now)) (sym c.in-Text.is) words,
    )) c.write_answers-in-Text.ensures

pub returns-in_ok-write_by_place-in-Json : goal.returns-in_ok-write_by_place-in-Json
returns-in_ok-write_by_place-in-Json c =
    let so = c.in_ok-write_by_place-in-Json.ensures in
    let shown = shown_text c.args.number None 0 c.args.given.now so.0 in
    let last = object_line (about_line c.args.number (count_members (length c.args.given.now))) in
    on_ok_weaker c.write_count.result (λ is. (
      shown ++ last,
      is ∙ (ap (λ text. text ++ last) so.2 ∙ append_assoc _ shown last),
      subst (λ (follows : Bool). AnswersArePrinted c.args.number c.args.known.now.entries c.args.given.now follows c.args.form (shown ++ last)) (sym c.if-not-follows.false)
          (subst (λ (shape : Form). AnswersArePrinted c.args.number c.args.known.now.entries c.args.given.now true shape (shown ++ last)) (sym c.in-Json.is) (objects so.0 so.1)),
    )) c.write_count.ensures
