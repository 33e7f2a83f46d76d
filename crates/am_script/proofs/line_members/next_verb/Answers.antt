use Rattle.std.proofs.Common.{◌≡◌, ◌∷◌, arith}
use Rattle.json.specs.Token as token
use Rattle.am_script.specs.Commands.{verb_of}
use Rattle.am_script.proofs.LineMembers.{text_next}
use Rattle.am_script.proofs.line_members.next_verb.Goals as goal

pub returns-in-Some-String-clause-read : goal.returns-in-Some-String-clause-read
returns-in-Some-String-clause-read c =
    let word = c.in-Some-String.word.now in
    let is : c.args.reader.now ≡ token.string word ∷ c.next.new.self = grind arith in
    text_next verb_of c.args.reader.now c.next.new.self word c.verb_of.result is c.verb_of.ensures
