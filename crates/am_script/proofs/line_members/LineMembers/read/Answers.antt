use Rattle.std.proofs.Common.{◌≡◌, ◌∷◌, [], List, subst, arith, rules}
use Rattle.json.specs.Lex.{tokens}
use Rattle.json.specs.Token.{Token, begin_object}
use Rattle.serde_json.specs.Data.{object}
use Rattle.am_posts.specs.Tokens.{AreMembers}
use Rattle.am_posts.proofs.Tokens.{object_read, value_read}
use Rattle.am_script.specs.inside.LineMembers.{AreAhead}
use Rattle.am_script.proofs.line_members.LineMembers.read.Goals as goal

pub returns-in-None : goal.returns-in-None
returns-in-None c =
    let inner = c.next.new.self in
    let is : tokens c.args.text.now ≡ begin_object ∷ inner = grind arith in
    let read : AreAhead 126 inner c.read_members.new.reader c.in-Some.members = search rules in
    let none : c.read_members.new.reader ≡ [] = grind arith in
    let members = subst (λ (left : List Token). AreMembers 126 inner left read.0) none read.1 in
    (read.0, value_read c.args.text.now (object read.0) (object_read 127 (tokens c.args.text.now) inner [] read.0 is (omega arith) members), read.2)
