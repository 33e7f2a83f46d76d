use Rattle.std.proofs.Common.{◌≡◌, ◌∷◌, ◌+◌, ◌≤◌, length, refl, arith, rules}
use Rattle.json.specs.Print.{quoted}
use Rattle.json.specs.Token as token
use Rattle.serde_json.specs.Data.{boolean, string}
use Rattle.am_posts.specs.inside.Drafts.{TakesFlag, TakesText}
use Rattle.am_posts.proofs.Rooms.{flag_fits}
use Rattle.am_posts.proofs.Tokens.{flag_read, text_read}
use Rattle.am_posts.proofs.draft_reader.read_plain.Goals as goal

pub returns-else-not-branch-clause-read : goal.returns-else-not-branch-clause-read
returns-else-not-branch-clause-read c taken depth =
    let text = c.in-Some-String.text.now in
    let is : c.args.reader.now ≡ token.string text ∷ c.next.new.self = grind arith in
    let fits : length (quoted text) + c.take_text.new.self.left ≤ c.args.room.now.left = search rules in
    let takes : TakesText c.args.name.now text c.args.draft.now c.take.new.self = search rules in
    (string text, text_read depth c.args.reader.now c.next.new.self text is, (refl, fits), takes)

pub returns-then-take-clause-read : goal.returns-then-take-clause-read
returns-then-take-clause-read c taken depth =
    let flag = c.in-Some-Bool.flag in
    let is : c.args.reader.now ≡ token.boolean flag ∷ c.next.new.self = grind arith in
    let left = c.take-in-Some-Bool.new.self.left in
    let room : left + 5 ≤ c.args.room.now.left = search rules in
    let takes : TakesFlag c.args.name.now flag c.args.draft.now c.take_flag.new.self = search rules in
    (boolean flag, flag_read depth c.args.reader.now c.next.new.self flag is, flag_fits flag c.args.room.now.left left room, takes)
