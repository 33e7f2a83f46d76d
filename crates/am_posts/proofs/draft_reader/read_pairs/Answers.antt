use Rattle.std.proofs.Common.{◌≡◌, ◌++◌, ◌∷◌, ◌∙◌, ◌+◌, ◌<◌, ◌≤◌, ap, [], Some, None, length, sym, arith, rules}
use Rattle.std.proofs.lemmas.Grind.{common_steps}
use Rattle.json.specs.Json.{members, read_key, value}
use Rattle.json.specs.Print.{quoted}
use Rattle.json.proofs.Grammar.{read_key-shorter}
use Rattle.serde_json.specs.Data.{string}
use Rattle.am_posts.specs.inside.Streams.{BeginsWithText}
use Rattle.am_posts.proofs.Rooms.{none_fit, one_more_fits, wider}
use Rattle.am_posts.proofs.Streams.{all_before, later_name, one_before, pairs_of_texts, put_last, text_members}
use Rattle.am_posts.proofs.Tokens.{Members-so-far, all_members, no_member_yet, one_more_member}
use Rattle.am_posts.proofs.draft_reader.read_pairs.Goals as goal

pub pairs-init : goal.pairs-init
pairs-init c = grind (arith, common_steps, Members-so-far, text_members, no_member_yet, none_fit)

pub returns-in_default-key-clause-read : goal.returns-in_default-key-clause-read
returns-in_default-key-clause-read c taken =
    let l = c.pairs in
    let less = c.take.new.self.left in
    let room : less + 1 ≤ c.args.room.now.left = search rules in
    let ended : read_key l.reader ≡ Some (None, c.next_key.new.self) = grind arith in
    (text_members l.pairs, all_members c.args.depth c.args.reader.now l.reader c.next_key.new.self (text_members l.pairs) l.invariant.0 ended, wider (text_members l.pairs) (less + 1) c.args.room.now.left l.room.left room l.invariant.2, pairs_of_texts l.pairs)

pub pairs-preserved : goal.pairs-preserved
pairs-preserved c =
    let l = c.pairs in
    let p = value c.args.depth in
    let all = members p (length c.args.reader.now) c.args.reader.now in
    let name = c.in-Some.name.now in
    let s = c.next_key.new.self in
    let named : read_key l.reader ≡ Some (Some name, s) = grind arith in
    let given = c.in-Some-read_text.value.now in
    let r = c.read_text.new.reader in
    let after_name = c.take_name.new.self.left in
    let after = c.read_text.new.room.left in
    let text : BeginsWithText s r after_name after given = search rules in
    let is = text.0 c.args.depth in
    let name_fits : length (quoted name) + after_name + 2 ≤ l.room.left = search rules in
    let below = all_before (λ last. last.now) l.last l.pairs name l.invariant.1 (search rules) in
    let pushed : c.push.new.self ≡ l.pairs ++ (name, given) ∷ [] = search rules in
    let shorter : length r < length s = search rules in
    let more = one_more_member p all l.reader s r (text_members l.pairs) name is.0 (string given) l.invariant.0 named is.1 is.2 (omega arith) in
    let fits = one_more_fits name (string given) (text_members l.pairs) (c.take.new.self.left + 1) l.room.left after_name after l.invariant.2 name_fits text.1 in
    let members_are = put_last name given l.pairs below ∙ ap text_members (sym pushed) in
    let less = read_key-shorter l.reader (Some name) s named in
    grind (arith, common_steps, Members-so-far, one_before, later_name)
