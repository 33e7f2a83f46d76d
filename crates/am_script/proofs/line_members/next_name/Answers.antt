use Rattle.std.proofs.Common.{◌≡◌, ◌<◌, ◌∷◌, length, arith, rules}
use Rattle.json.specs.Token as token
use Rattle.am_script.proofs.LineMembers.{name_next}
use Rattle.am_script.proofs.line_members.next_name.Goals as goal

pub returns-in_ok-from_str-in-Some-String-clause-read : goal.returns-in_ok-from_str-in-Some-String-clause-read
returns-in_ok-from_str-in-Some-String-clause-read c =
    let text = c.in-Some-String.text.now in
    let is : c.args.reader.now ≡ token.string text ∷ c.next.new.self = grind arith in
    let some : 0 < length text = search rules in
    name_next c.args.reader.now c.next.new.self text c.in_ok-from_str-in-Some-String.field-0 is some c.in_ok-from_str-in-Some-String.ensures
