use Rattle.std.proofs.Common.{Some, flat_map, subst, sym}
use Rattle.std.proofs.lemmas.Result.{on_ok_weaker}
use Rattle.am_script.specs.declared.form.Form.{Form}
use Rattle.am_answers.specs.Showing.{CameIsPrinted, came_words, words, objects, shown_text}
use Rattle.am_answers.proofs.showing.write_came.Goals as goal

pub returns-in-Text : goal.returns-in-Text
returns-in-Text c =
    let came = flat_map (came_words c.args.number c.args.name.now) c.args.given.now in
    on_ok_weaker c.write_all_words.result (λ is. (came, is, subst (λ (form : Form). CameIsPrinted c.args.number c.args.name.now c.args.known.now.entries c.args.given.now form came) (sym c.in-Text.is) words)) c.write_all_words.ensures

pub returns-in-Json : goal.returns-in-Json
returns-in-Json c =
    on_ok_weaker c.write_by_place.result (λ so.
    let came = shown_text c.args.number (Some c.args.name.now) 0 c.args.given.now so.0 in
    (came, so.2, subst (λ (form : Form). CameIsPrinted c.args.number c.args.name.now c.args.known.now.entries c.args.given.now form came) (sym c.in-Json.is) (objects so.0 so.1))) c.write_by_place.ensures
