use Rattle.std.proofs.Common.{◌∙◌, List, codes}
use Rattle.std.proofs.lemmas.Result.{IfOk-weaker}
use Rattle.json.specs.Json.{string}
use Rattle.json.specs.Token.{Token}
use Rattle.am_alert.specs.Printing.{moment_text}
use Rattle.am_script.specs.JsonLines.{named}
use Rattle.am_script.proofs.JsonLines.{and_then}
use Rattle.am_script.proofs.json_line.JsonLine.moments.Goals as goal

pub returns : goal.returns
returns c =
    let start : List Token = named (codes "startsAt") (string (moment_text c.args.alert.now.start)) in
    let finish : List Token = named (codes "endsAt") (string (moment_text c.args.alert.now.end)) in
    IfOk-weaker c.moment-3.result _ _ (λ _ last. last ∙ (and_then c.moment.new.self c.moment-2.new.self finish _ c.in_ok-moment-2.ensures
    ∙ and_then c.args.self.now c.moment.new.self start _ c.in_ok-moment.ensures)) c.moment-3.ensures
