use Rattle.std.proofs.Common.{◌≡◌, ◌∷◌, arith}
use Rattle.json.specs.Token as token
use Rattle.am_script.proofs.LineMembers.{thread_next}
use Rattle.am_script.proofs.line_members.next_thread.Goals as goal

pub returns-in-Some-clause-read : goal.returns-in-Some-clause-read
returns-in-Some-clause-read c =
    let text = c.in-Some-Number.text.now in
    let is : c.args.reader.now ≡ token.number text ∷ c.next.new.self = grind arith in
    thread_next c.args.reader.now c.next.new.self text c.in-Some.digit c.new.result is c.in-Some.ensures c.if-digit-lt8.true c.new.ensures
