use Rattle.std.proofs.Common.{◌≡◌, ◌∷◌, arith}
use Rattle.json.specs.Token as token
use Rattle.am_script.proofs.LineMembers.{moment_next}
use Rattle.am_script.proofs.line_members.next_moment.Goals as goal

pub returns-in-Ok-clause-read : goal.returns-in-Ok-clause-read
returns-in-Ok-clause-read c =
    let text = c.in-Some-String.text.now in
    let is : c.args.reader.now ≡ token.string text ∷ c.next.new.self = grind arith in
    moment_next c.args.reader.now c.next.new.self text c.in-Ok.moment is c.in-Ok.ensures
