use Rattle.std.proofs.Common.{◌≡◌, ◌∷◌, [], List, subst, arith, rules}
use Rattle.json.specs.Lex.{tokens}
use Rattle.json.specs.Token.{Token, begin_array}
use Rattle.am_posts.specs.inside.Streams.{AreElementsOf, AreItems}
use Rattle.am_posts.proofs.Tokens.{array_next, value_read}
use Rattle.serde_json.specs.Data.{array}
use Rattle.am_posts.proofs.array_reader.read_array.Goals as goal

pub returns-in-None : goal.returns-in-None
returns-in-None c =
    let inner = c.next.new.self in
    let is : tokens c.args.text.now ≡ begin_array ∷ inner = grind arith in
    let read : AreElementsOf 126 inner c.read_elements.new.reader c.new-room.result.left c.read_elements.new.room.left c.in-Some.elements = search rules in
    let none : c.read_elements.new.reader ≡ [] = grind arith in
    let items = subst (λ (left : List Token). AreItems 126 inner left read.0) none read.1 in
    (read.0, value_read c.args.text.now (array read.0) (array_next 127 (tokens c.args.text.now) inner [] read.0 is (omega arith) items), read.2, read.3)
