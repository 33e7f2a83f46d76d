-- Keys that are joined, and the parts of a block that they hold.
use Rattle.std.proofs.Common.{◌≡◌, ℕ, zero, suc, ◌+◌, ◌-◌, ◌^◌, ◌<◌, ◌≤◌, nat_eq, Bool, true, List, [], ◌∷◌, ◌++◌, map, drop, length, count_by, refl, sym, ap, ◌∙◌, arith, cond, true≢false, length-append, append_assoc, Option, Some, MatchOption}
use Rattle.std.proofs.lemmas.List.{length-map}
use Rattle.std.specs.List.{All, range_with_len}
use Rattle.std.proofs.lemmas.List.Elements.{All-pop}
use Rattle.std.proofs.lemmas.List.Sums.{sum_by-append, sum_by-cons}
use Rattle.am_segment.specs.Segments.{KeyView, AreAllKeys, key_with, rest_of}
use Rattle.am_segment.specs.inside.Fields.{key_of_part}
use Rattle.std.specs.Global.{Global}
use Rattle.am_segment.specs.declared.block.Claim.{Claim}
use Rattle.am_segment.specs.declared.block.Part.{Part}
use Rattle.am_segment.specs.inside.Shares.{HoldShares, IsBlockOf, lasts, name_of}
use Rattle.am_segment.proofs.Pairs.{same-name}
use Rattle.std.proofs.lemmas.Grind.{common_steps}

pub range-rest : (a n : ℕ) → drop 1 (range_with_len a n) ≡ range_with_len (a + 1) (n - 1)
range-rest a n = grind arith

pub range-length : (a n : ℕ) → length (range_with_len a n) ≡ n
range-length a zero = refl
range-length a (suc n) = ap suc (range-length (a + 1) n)

pub lasts-range : (keys a n : ℕ) → 0 < n → a + n ≡ keys → lasts keys (range_with_len a n) ≡ 1
lasts-range keys a zero some sum = absurd (omega arith)
lasts-range keys a (suc zero) some sum = grind (arith, sum_by-cons)
lasts-range keys a (suc (suc n)) some sum = grind (arith, sum_by-cons, (lasts-range keys (a + 1) (suc n) (omega arith) (omega arith)))

-- all keys of a segment have all parts
pub all-hold : (there : Bool) (count keys : ℕ) (numbers : List ℕ) → there ≡ true → count ≡ 2 ^ 63 → numbers ≡ range_with_len 0 keys → 0 < keys → keys ≤ 2 ^ 62 → HoldShares there count keys numbers
all-hold there count keys numbers t all is some few = grind (arith, range-length, true≢false, lasts-range)

-- several keys have several parts
pub some-parts : (there : Bool) (count keys : ℕ) (numbers : List ℕ) → HoldShares there count keys numbers → (length numbers ≤ count) × (count ≤ 2 ^ 63)
some-parts there count keys numbers h = grind arith

-- what keys and further keys have is what all of them have
pub both-hold : (a b : Bool) (count more keys : ℕ) (numbers others : List ℕ) → HoldShares a count keys numbers → HoldShares b more keys others → length numbers + length others ≤ keys → lasts keys (numbers ++ others) ≤ 1
    → (count + more ≤ 2 ^ 63) × HoldShares (cond b true a) (count + more) keys (numbers ++ others)
both-hold a b count more keys numbers others h k few one = grind (arith, sum_by-append, length-append, true≢false)

-- the claim that is left of two is to the block of both parts
module _ {X : Type 0} (v w : Claim X Global) where
  pub is-there : (t : Bool) → t ≡ w.there → (cond t w v).there ≡ cond t true v.there
  is-there t e = grind arith

  pub block-of-both : (part other : Part X) (a b : Global) → name_of other ≡ name_of part → (v.there ≡ true → IsBlockOf v part × (v.alloc ≡ a)) → (w.there ≡ true → IsBlockOf w other × (w.alloc ≡ b))
      → (t : Bool) → t ≡ w.there → (cond t w v).there ≡ true → IsBlockOf (cond t w v) part × ((cond t w v).alloc ≡ a)
  block-of-both part other a b name these those t e there = grind (arith, same-name)

-- the last key is there at most once
last-once : (there : Bool) (count keys : ℕ) (numbers : List ℕ) → HoldShares there count keys numbers → lasts keys numbers ≤ 1
last-once there count keys numbers h = grind arith

-- it stays there at most once, where it wasn't there if it is among further keys
pub once : (here there : Bool) (count more keys : ℕ) (numbers others : List ℕ) → HoldShares here count keys numbers → HoldShares there more keys others → (0 < lasts keys others → lasts keys numbers ≡ 0) → lasts keys (numbers ++ others) ≤ 1
once here there count more keys numbers others h k new = grind (arith, sum_by-append, last-once)

rest-is-more : (keys next : ℕ) → next < keys → keys - next ≡ suc (keys - (next + 1))
rest-is-more keys next below = omega arith

module _ {X : Type 0} where
  -- the keys that are still to come are the next one and those behind it
  pub next-of-rest : (next : KeyView X) → next.number + 1 < next.keys → rest_of next ≡ next ∷ rest_of record next { number = next.number + 1 }
  next-of-rest next more = grind (arith, rest-is-more)

  pub last-of-rest : (next : KeyView X) → next.number + 1 ≡ next.keys → rest_of next ≡ next ∷ []
  last-of-rest next last = grind arith

  -- one more of all keys is handed out, after those that are out
  pub rest-step : (next : KeyView X) (others : Option (KeyView X)) (out all : List (KeyView X))
      → MatchOption others (next.number + 1 ≡ next.keys) (λ rest. (next.number + 1 < next.keys) × (rest ≡ record next { number = next.number + 1 }))
      → out ++ rest_of next ≡ all → (length out < length all) × MatchOption others (out ++ next ∷ [] ≡ all) (λ rest. (out ++ next ∷ []) ++ rest_of rest ≡ all)
  rest-step next others out all last is = grind (arith, last-of-rest, length-append, append_assoc, next-of-rest)

  -- keys that others show are of the others' segment
  pub of-one : (a b : Part X) (numbers : List ℕ) → 0 < length numbers → All (λ key. key ≡ key_of_part b key.number) (map (key_of_part a) numbers) → (name_of b ≡ name_of a) × (b.keys ≡ a.keys) × (b.items ≡ a.items)
  of-one a b [] some are = absurd (omega arith)
  of-one a b (number ∷ numbers) some are = let first = are 0 (key_of_part a number) (omega arith) in (sym (ap (λ k. k.segment) first), sym (ap (λ k. k.keys) first), sym (ap (λ k. k.items) first))

  pub counted : (segment keys m : ℕ) (items : List X) (numbers : List ℕ) → count_by (λ key. nat_eq key.number m) (map (key_with segment keys items) numbers) ≡ count_by (λ number. nat_eq number m) numbers
  counted segment keys m items [] = refl
  counted segment keys m items (number ∷ numbers) = grind (arith, common_steps, sum_by-cons, (counted segment keys m items numbers))

  as_many : (segment keys : ℕ) (items : List X) (numbers : List ℕ) → AreAllKeys (map (key_with segment keys items) numbers) → keys ≡ length numbers
  as_many segment keys items [] all = let some = all.some in absurd (omega arith)
  as_many segment keys items (number ∷ numbers) all = let many = all.as_many 0 (key_with segment keys items number) (omega arith) in let long = length-map numbers (key_with segment keys items) in omega arith

  -- joined keys that are all keys have each number, the last one's among them
  pub whole : (segment keys : ℕ) (items : List X) (numbers : List ℕ) → 0 < length numbers → AreAllKeys (map (key_with segment keys items) numbers) → (length numbers ≡ keys) × (lasts keys numbers ≡ 1)
  whole segment keys items numbers some all = grind (arith, common_steps, as_many, length-map, counted)

  -- the rest of a segment's keys, of which those with these numbers came
  pub record Come (segment keys : ℕ) (numbers : List ℕ) (rest : List (KeyView X)) : Type 0 where
    pub of : All (λ key. (key.segment ≡ segment) × (key.keys ≡ keys)) rest
    pub each : length numbers + length rest ≡ keys
    pub last : lasts keys numbers + count_by (λ key. nat_eq key.number (keys - 1)) rest ≡ 1

  -- one that is taken off their end
  pub comes : (segment keys : ℕ) (numbers : List ℕ) (all rest : List (KeyView X)) (key : KeyView X) → all ≡ rest ++ key ∷ [] → Come segment keys numbers all
      → (key.segment ≡ segment) × (key.keys ≡ keys) × Come segment keys (numbers ++ key.number ∷ []) rest
  comes segment keys numbers all rest key is come =
      let cut = All-pop (λ k. (k.segment ≡ segment) × (k.keys ≡ keys)) all rest (Some key) is come.of in
      let fewer = ap length is ∙ length-append rest (key ∷ []) in let more = length-append numbers (key.number ∷ []) in let each = come.each in let last = come.last in
      let one = sum_by-append (λ number. cond (nat_eq number (keys - 1)) 1 0) numbers (key.number ∷ []) in
      let other = ap (count_by (λ (key : KeyView X). nat_eq key.number (keys - 1))) is ∙ sum_by-append (λ (key : KeyView X). cond (nat_eq key.number (keys - 1)) 1 0) rest (key ∷ []) in
      (cut.1.0, cut.1.1, record { of = cut.0; each = omega arith; last = omega arith })

  -- all keys, before the first of them is taken
  pub come-all : (all rest : List (KeyView X)) (key : KeyView X) → all ≡ rest ++ key ∷ [] → AreAllKeys all → Come key.segment key.keys [] all
  come-all all rest key is are =
      let each = (All-pop (λ key. All (λ other. other.segment ≡ key.segment) all) all rest (Some key) is are.of_one).1 in
      let many = (All-pop (λ key. key.keys ≡ length all) all rest (Some key) is are.as_many).1 in let some = are.some in
      record { of = λ k d within. (each k d within, are.as_many k d within ∙ sym many); each = omega (arith, many); last = omega (arith, are.each_once (key.keys - 1) (omega arith)) }

  -- the same of an equal part
  pub same-come : {segment segment' keys keys' : ℕ} {numbers numbers' : List ℕ} {rest : List (KeyView X)} → segment ≡ segment' → keys ≡ keys' → numbers ≡ numbers' → Come segment keys numbers rest
      → Come segment' keys' numbers' rest
  same-come {segment} {segment'} {keys} {keys'} {numbers} {numbers'} {rest} s k n come = grind arith
