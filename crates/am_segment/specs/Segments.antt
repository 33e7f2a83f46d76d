-- What contracts see of a segment while it is filled, and of its keys. This project's own.
use Rattle.std.specs.Prelude.{◌≡◌, ℕ, ◌-◌, ◌<◌, ◌≤◌, nat_eq, List, length, count_by, map, refl}
use Rattle.std.specs.Prelude.{slice_index_or}
use Rattle.std.specs.List.{All, range_with_len}
use Rattle.std.specs.Coded.{Coded, code_by, coded×, coded_list, coded_ℕ}

-- a segment that is being filled: its items so far, and how many it has places for
pub record BuilderView (X : Type 0) : Type 0 where
  pub items : List X
  pub places : ℕ

-- a key: its segment's name, its number, how many keys the segment has, and the segment's items
pub record KeyView (X : Type 0) : Type 0 where
  pub segment : ℕ
  pub number : ℕ
  pub keys : ℕ
  pub items : List X

module _ {X : Type 0} where
  -- how a builder's view is stored: as the tuple of its fields
  abbrev pub coded_builder : Coded X → Coded (BuilderView X)
  coded_builder code =
      code_by (List X × ℕ) (coded× (coded_list code) coded_ℕ)
      (λ f. (f.items, f.places))
      (λ p. record { items = p.0; places = p.1 })
      (λ _. refl)

  -- how a key's view is stored: as the tuple of its fields
  abbrev pub coded_key : Coded X → Coded (KeyView X)
  coded_key code =
      code_by (ℕ × (ℕ × (ℕ × List X)))
      (coded× coded_ℕ (coded× coded_ℕ (coded× coded_ℕ (coded_list code))))
      (λ k. (k.segment, (k.number, (k.keys, k.items))))
      (λ p. record { segment = p.0; number = p.1.0; keys = p.1.1.0; items = p.1.1.1 })
      (λ _. refl)

  -- all keys of one segment, each once, in any order
  pub record AreAllKeys (keys : List (KeyView X)) : Type 0 where
    pub some : 0 < length keys
    pub of_one : All (λ key. All (λ other. other.segment ≡ key.segment) keys) keys
    pub as_many : All (λ key. key.keys ≡ length keys) keys
    pub each_once : (number : ℕ) → number < length keys
        → count_by (λ key. nat_eq key.number number) keys ≡ 1

  -- a segment's key of a number
  abbrev pub key_with : ℕ → ℕ → List X → ℕ → KeyView X
  key_with segment count items number =
      record { segment = segment; number = number; keys = count; items = items }

  -- the keys of a new segment in order of their numbers, each of which shows the items
  abbrev pub keys_of : ℕ → ℕ → List X → List (KeyView X)
  keys_of segment count items = map (key_with segment count items) (range_with_len 0 count)

  -- a key may join these: they are of its segment, and none has its number
  pub record MayJoin (keys : List (KeyView X)) (key : KeyView X) : Type 0 where
    pub of_one : All (λ other. other ≡ key_with key.segment key.keys key.items other.number) keys
    pub new : count_by (λ other. nat_eq other.number key.number) keys ≡ 0
    pub few : length keys < key.keys

  -- the keys that are still to come, of which this is the next
  abbrev pub rest_of : KeyView X → List (KeyView X)
  rest_of next = map (key_with next.segment next.keys next.items)
      (range_with_len next.number (next.keys - next.number))

  -- the keys that are still to come may join these: they are of their segment, and the last isn't among them
  pub record MayJoinRest (keys : List (KeyView X)) (next : KeyView X) : Type 0 where
    pub of_one : All (λ other. other ≡ key_with next.segment next.keys next.items other.number) keys
    pub new : count_by (λ other. nat_eq other.number (next.keys - 1)) keys ≡ 0
    pub few : length keys ≤ next.number

-- keys of one segment, in order of their numbers and as many as it has, are all of them
abbrev pub OrderedAreAll : Type 0 → Type 0
OrderedAreAll X = (segment : ℕ) (keys : List (KeyView X)) → 0 < length keys
    → All (λ key. (key.segment ≡ segment) × (key.keys ≡ length keys)) keys
    → ((i : ℕ) (d : KeyView X) → i < length keys → (slice_index_or keys i d).number ≡ i)
    → AreAllKeys keys
