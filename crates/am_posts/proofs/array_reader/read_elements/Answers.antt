use Rattle.std.proofs.Common.{◌≡◌, ◌∙◌, ◌+◌, ◌<◌, ◌≤◌, ◌++◌, ◌∷◌, [], List, Option, Some, None, ap, length, length-append, refl, subst, sym, arith, rules}
use Rattle.std.proofs.lemmas.Grind.{common_steps}
use Rattle.json.specs.Json.{after_end_array, items, value}
use Rattle.json.specs.Token.{Token}
use Rattle.serde_json.specs.Data.{Items, item, no_items}
use Rattle.am_posts.specs.declared.postable.Postable.{Postable}
use Rattle.am_posts.specs.inside.Streams.{IsElementOf}
use Rattle.am_posts.proofs.Arrays.{as_many}
use Rattle.am_posts.proofs.Rooms.{items_wider}
use Rattle.am_posts.proofs.Streams.{Elements-so-far, all_elements, no_element_yet, one_more_element}
use Rattle.am_posts.proofs.Tokens.{all_items, no_item_yet, one_more_item}
use Rattle.am_posts.proofs.array_reader.read_elements.Goals as goal

pub elements-init : goal.elements-init
elements-init c =
    let p = value c.args.depth in
    let less = c.take.new.self.left in
    let none : c.in_ok-elements.elements.items ≡ [] = search rules in (
      λ (rest : Items). rest,
      no_item_yet p (items p (length c.args.reader.now) c.args.reader.now) c.args.reader.now refl,
      subst (λ (elements : List (Option Postable)). Elements-so-far (λ rest. rest) elements (less + 1) less) (sym none) (no_element_yet (less + 1) less (omega arith)),
      omega (arith, ap length none),
      omega arith,
    )

pub elements-preserved : goal.elements-preserved
elements-preserved c =
    let l = c.elements in
    let p = value c.args.depth in
    let all = items p (length c.args.reader.now) c.args.reader.now in
    let less = c.take.new.self.left in
    let values = l.invariant.0 in
    let before = c.take-else-len-eq-MAX_ALERTS.new.self.left in
    let after = c.read_element.new.room.left in
    let r = c.read_element.new.reader in
    let going : (after_end_array l.reader ≡ None) × (c.take_end_array.new.self ≡ l.reader) = grind arith in
    let element : IsElementOf c.args.depth c.take_end_array.new.self r before after c.in-Some.element = search rules in
    let same = element.1 in
    let shorter : length r < length c.take_end_array.new.self = search rules in
    let comma : before + 1 ≤ l.room.left = search rules in
    let going-on = subst (λ (ts : List Token). p ts ≡ Some (same.0, r)) going.1 same.1 in
    let pushed : c.push.new.self.items ≡ l.elements.items ++ Some c.in-Some.element ∷ [] = search rules in
    let one = one_more_element values l.elements.items (less + 1) l.room.left before after element.0 (Some c.in-Some.element) l.invariant.2 element.3 comma element.2 in (
      λ (rest : Items). values (item element.0 rest),
      one_more_item p all l.reader r values same.0 element.0 l.invariant.1 going.0 going-on same.2 (omega (arith, ap length going.1)),
      subst (λ (elements : List (Option Postable)). Elements-so-far (λ rest. values (item element.0 rest)) elements (less + 1) after) (sym pushed) one,
      omega (arith, ap length pushed, length-append l.elements.items (Some c.in-Some.element ∷ [])),
      omega (arith, ap length going.1),
    )

pub new-requires : goal.new-requires
new-requires c = grind (arith, common_steps, all_elements)

pub returns-clause-read : goal.returns-clause-read
returns-clause-read c =
    let l = c.elements in
    let less = c.take.new.self.left in
    let room : less + 1 ≤ c.args.room.now.left = search rules in
    let ended : after_end_array l.reader ≡ Some c.take_end_array.new.self = grind arith in
    let ds = l.invariant.0 no_items in
    let read = all_elements l.invariant.0 l.elements.items (less + 1) l.room.left l.invariant.2 in (
      ds,
      all_items c.args.depth c.args.reader.now l.reader c.take_end_array.new.self l.invariant.0 l.invariant.1 ended,
      omega (arith, as_many ds, ap length read.0, l.invariant.3),
      c.new.ensures ∙ read.0,
      items_wider ds (less + 1) c.args.room.now.left l.room.left room read.1,
    )
