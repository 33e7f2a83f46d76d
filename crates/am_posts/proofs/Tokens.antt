-- Facts about the words of specs/Tokens.antt: a text of JSON that is read token by token.
use Rattle.std.proofs.Common.{◌≡◌, ◌∙◌, ℕ, ◌-◌, ◌<◌, ◌≤◌, Bool, false, true≢false, bytes_eq, List, [], ◌∷◌, length, Option, None, Some, refl, sym, ap, arith}
use Rattle.std.proofs.lemmas.Slice.Eq.{bytes_eq-Decides}
use Rattle.std.specs.Prelude.{option_and_then, option_map}
use Rattle.json.specs.Json as json
use Rattle.json.specs.Json.{parse_map}
use Rattle.json.specs.Lex.{tokens}
use Rattle.json.specs.Token.{Token}
use Rattle.json.specs.Token as token
use Rattle.json.proofs.Grammar.{items_end, items_more, members_end, members_more, read_key-shorter, value_is, value-begin_array, value-begin_object}
use Rattle.serde_json.specs.Data.{Data, Num, array, boolean, Items, no_items, item, Members, no_members, number, object, put, string}
use Rattle.serde_json.specs.Read.{number_of, of_items, of_json, of_members, read}
use Rattle.am_posts.specs.Tokens.{AreItems, AreMembers, IsValueOf}

-- two names that differ
pub apart : (a b : List ℕ) → bytes_eq a b ≡ false → a ≡ b → ⊥
apart a b other same = true≢false (sym ((bytes_eq-Decides a b).1 same) ∙ other)

-- ---- a member or an item more

unmapped : {A : Type 0} (o : Option (A × List Token)) → o ≡ parse_map (λ a. a) o
unmapped None = refl
unmapped (Some p) = refl

pub same : {A : Type 0} (o : Option A) → o ≡ option_map (λ a. a) o
same None = refl
same (Some a) = refl

pub mapped_twice : {A B C : Type 0} (f : B → C) (g : A → B) (o : Option A) → option_map f (option_map g o) ≡ option_map (λ a. f (g a)) o
mapped_twice f g None = refl
mapped_twice f g (Some a) = refl

both_fronts : {A B C : Type 0} (f : B → C) (g : A → B) (o : Option (A × List Token)) → parse_map f (parse_map g o) ≡ parse_map (λ a. f (g a)) o
both_fronts f g None = refl
both_fronts f g (Some p) = refl

-- a list of members is known up to those that are left: those before them, and the data that they are
pub record Members-so-far (p : json.Parse json.Json) (all : Option (json.Members × List Token)) (left : List Token) (found : Members) : Type 0 where
  pub n : ℕ
  pub enough : length left ≤ n
  pub front : json.Members → json.Members
  pub is : all ≡ parse_map front (json.members p n left)
  pub converts : (rest : json.Members) → of_members (front rest) no_members ≡ of_members rest found

pub no_member_yet : (p : json.Parse json.Json) (all : Option (json.Members × List Token)) (ts : List Token) → all ≡ json.members p (length ts) ts → Members-so-far p all ts no_members
no_member_yet p all ts is = record {
  n = length ts;
  enough = omega arith;
  front = λ rest. rest;
  is = is ∙ unmapped (json.members p (length ts) ts);
  converts = λ rest. refl;
}

pub one_more_member : (p : json.Parse json.Json) (all : Option (json.Members × List Token)) (ts s r : List Token) (found : Members) (k : List ℕ) (j : json.Json) (d : Data)
    → Members-so-far p all ts found → json.read_key ts ≡ Some (Some k, s) → p s ≡ Some (j, r) → of_json j ≡ Some d → length r ≤ length s
    → Members-so-far p all r (put k d found)
one_more_member p all ts s r found k j d so_far key value is shorter =
    let less = read_key-shorter ts (Some k) s key in
    let enough = so_far.enough in
    record {
      n = so_far.n - 1;
      enough = omega arith;
      front = λ rest. so_far.front (json.member k j rest);
      is = so_far.is ∙ ap (parse_map so_far.front) (members_more p so_far.n k ts s r j (omega arith) key value) ∙ both_fronts so_far.front (json.member k j) (json.members p (so_far.n - 1) r);
      converts = λ rest. so_far.converts (json.member k j rest) ∙ ap (option_and_then (λ d. of_members rest (put k d found))) is;
    }

pub all_members : (depth : ℕ) (old ts r : List Token) (found : Members)
    → Members-so-far (json.value depth) (json.members (json.value depth) (length old) old) ts found → json.read_key ts ≡ Some (None, r) → AreMembers depth old r found
all_members depth old ts r found so_far key = grind (arith, members_end)

-- the same of items, by the items that those before them make of them
pub record Items-so-far (p : json.Parse json.Json) (all : Option (json.Items × List Token)) (left : List Token) (values : Items → Items) : Type 0 where
  pub n : ℕ
  pub enough : length left ≤ n
  pub front : json.Items → json.Items
  pub is : all ≡ parse_map front (json.items p n left)
  pub converts : (rest : json.Items) → of_items (front rest) ≡ option_map values (of_items rest)

pub no_item_yet : (p : json.Parse json.Json) (all : Option (json.Items × List Token)) (ts : List Token) → all ≡ json.items p (length ts) ts → Items-so-far p all ts (λ rest. rest)
no_item_yet p all ts is = record {
  n = length ts;
  enough = omega arith;
  front = λ rest. rest;
  is = is ∙ unmapped (json.items p (length ts) ts);
  converts = λ rest. same (of_items rest);
}

pub one_more_item : (p : json.Parse json.Json) (all : Option (json.Items × List Token)) (ts r : List Token) (values : Items → Items) (j : json.Json) (d : Data)
    → Items-so-far p all ts values → json.after_end_array ts ≡ None → p ts ≡ Some (j, r) → of_json j ≡ Some d → length r < length ts
    → Items-so-far p all r (λ rest. values (item d rest))
one_more_item p all ts r values j d so_far going value is shorter =
    let enough = so_far.enough in
    record {
      n = so_far.n - 1;
      enough = omega arith;
      front = λ rest. so_far.front (json.item j rest);
      is = so_far.is ∙ ap (parse_map so_far.front) (items_more p so_far.n ts r j (omega arith) going value) ∙ both_fronts so_far.front (json.item j) (json.items p (so_far.n - 1) r);
      converts = λ rest. so_far.converts (json.item j rest)
          ∙ ap (λ o. option_map values (option_and_then (λ d. option_map (item d) (of_items rest)) o)) is
          ∙ mapped_twice values (item d) (of_items rest);
    }

pub all_items : (depth : ℕ) (old ts r : List Token) (values : Items → Items)
    → Items-so-far (json.value depth) (json.items (json.value depth) (length old) old) ts values → json.after_end_array ts ≡ Some r → AreItems depth old r (values no_items)
all_items depth old ts r values so_far ended = grind (arith, items_end)

-- ---- values

pub text_read : (depth : ℕ) (old new : List Token) (text : List ℕ) → old ≡ token.string text ∷ new → IsValueOf depth old new (string text)
text_read depth old new text is = (json.string text, ap (json.value depth) is ∙ value_is depth (token.string text ∷ new), refl)

pub flag_read : (depth : ℕ) (old new : List Token) (flag : Bool) → old ≡ token.boolean flag ∷ new → IsValueOf depth old new (boolean flag)
flag_read depth old new flag is = (json.boolean flag, ap (json.value depth) is ∙ value_is depth (token.boolean flag ∷ new), refl)

pub number_read : (depth : ℕ) (old new : List Token) (text : List ℕ) (n : Num) → old ≡ token.number text ∷ new → number_of text ≡ Some n → IsValueOf depth old new (number n)
number_read depth old new text n is reads =
    (json.number text, ap (json.value depth) is ∙ value_is depth (token.number text ∷ new), ap (option_map number) reads)

pub object_read : (depth : ℕ) (old inner new : List Token) (ms : Members) → old ≡ token.begin_object ∷ inner → 0 < depth
    → AreMembers (depth - 1) inner new ms → IsValueOf depth old new (object ms)
object_read depth old inner new ms is deep read = (
  json.object read.0,
  ap (json.value depth) is ∙ value-begin_object depth inner deep ∙ ap (parse_map json.object) read.1,
  ap (option_map object) read.2,
)

pub array_next : (depth : ℕ) (old inner new : List Token) (ds : Items) → old ≡ token.begin_array ∷ inner → 0 < depth
    → AreItems (depth - 1) inner new ds → IsValueOf depth old new (array ds)
array_next depth old inner new ds is deep read = (
  json.array read.0,
  ap (json.value depth) is ∙ value-begin_array depth inner deep ∙ ap (parse_map json.array) read.1,
  ap (option_map array) read.2,
)

-- a text whose tokens are a value's, and no more
pub value_read : (text : List ℕ) (d : Data) → IsValueOf 127 (tokens text) [] d → read text ≡ Some d
value_read text d value = grind arith
