use Rattle.std.proofs.Common.{◌≡◌, ◌∷◌, ◌-◌, refl, arith, rules}
use Rattle.json.specs.Token as token
use Rattle.serde_json.specs.Data.{array, string}
use Rattle.am_posts.specs.inside.Streams.{AreElementsOf}
use Rattle.am_posts.proofs.Rooms.{items_first}
use Rattle.am_posts.proofs.Tokens.{array_next, text_read}
use Rattle.am_posts.proofs.body.Body.read_next.Goals as goal

pub returns-in_ok-from_str-in-Some-String-clause-read : goal.returns-in_ok-from_str-in-Some-String-clause-read
returns-in_ok-from_str-in-Some-String-clause-read c =
    let text = c.in-Some-String.text.now in
    let is : c.args.reader.now ≡ token.string text ∷ c.next.new.self = grind arith in
    (string text, text_read c.args.depth c.args.reader.now c.next.new.self text is, search rules)

pub returns-in-Some-clause-read : goal.returns-in-Some-clause-read
returns-in-Some-clause-read c =
    let inner = c.next.new.self in
    let new = c.read_elements.new.reader in
    let is : c.args.reader.now ≡ token.begin_array ∷ inner = grind arith in
    let read : AreElementsOf (c.args.depth - 1) inner new c.new-room.result.left c.read_elements.new.room.left c.in-Some.elements = search rules in
    let first = items_first read.0 in
    let room : c.new-room.result.left ≡ 4194303 = search rules in (
      array read.0,
      array_next c.args.depth c.args.reader.now inner new read.0 is (omega arith) read.1,
      (read.0, refl, read.3, read.2, read.4.0, omega (arith, first, read.4.1, room)),
    )
