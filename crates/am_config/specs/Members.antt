-- What the members of a configuration have to be, over the value that its JSON is.
use Rattle.std.specs.Prelude.{◌≡◌, ℕ, ◌+◌, Bool, false, if◌then◌else◌, List, [], ◌∷◌, Option, ok_or, is_some}
use Rattle.std.specs.Prelude.{Result, Ok, Err, ⊤}
use Rattle.std.specs.Option.{option_map_or}
use Rattle.serde_json.specs.Data.{Data, Items, no_items, item}
use Rattle.serde_json.specs.Find.{as_str, as_bool, as_array}
use Rattle.am_alert.specs.GivenMembers.{given}
use Rattle.am_config.specs.Paths.{member_path, item_path}
use Rattle.am_config.specs.declared.fault.ConfigFault.{ConfigFault}
use Rattle.am_config.specs.declared.fault.ConfigFault.TheVariants.{NoMemory, NotJson, Deprecated, WrongKind}

-- one check after another: the first fault decides
infixl 10 ◌>>=◌
abbrev pub ◌>>=◌ : {A B : Type 0} → Result A ConfigFault → (A → Result B ConfigFault) → Result B ConfigFault
Ok x >>= next = next x
Err fault >>= next = Err fault

-- a value of this kind, else a wrong kind at this path
abbrev pub of_kind : {A : Type 0} → (Data → Option A) → List ℕ → Data → Result A ConfigFault
of_kind kind path d = ok_or (kind d) (WrongKind path)

-- an optional member of the value at a path; null counts as absent
abbrev pub member_of : {A : Type 0} → A → (List ℕ → Data → Result A ConfigFault)
    → List ℕ → List ℕ → Data → Result A ConfigFault
member_of absent reads at name d =
    option_map_or (reads (member_path at name)) (given name d) (Ok absent)

-- a text, empty if it is absent
abbrev pub member_text : List ℕ → List ℕ → Data → Result (List ℕ) ConfigFault
member_text = member_of [] (of_kind as_str)

-- a truth value, false if it is absent
abbrev pub flag_member : List ℕ → List ℕ → Data → Result Bool ConfigFault
flag_member = member_of false (of_kind as_bool)

-- an array of any values, without elements if it is absent
abbrev pub array_member : List ℕ → List ℕ → Data → Result Items ConfigFault
array_member = member_of no_items (of_kind as_array)

-- the elements as texts, from an index on
abbrev pub texts_from : List ℕ → ℕ → Items → Result (List (List ℕ)) ConfigFault
texts_from path i no_items = Ok []
texts_from path i (item d ds) = do
  text ← of_kind as_str (item_path path i) d
  texts ← texts_from path (i + 1) ds
  Ok (text ∷ texts)

-- an array of texts, without elements if it is absent
abbrev pub texts_member : List ℕ → List ℕ → Data → Result (List (List ℕ)) ConfigFault
texts_member = member_of [] (λ path d. of_kind as_array path d >>= texts_from path 0)

-- a member of the older form, which must not be there
abbrev pub deprecated_member : List ℕ → List ℕ → Data → Result ⊤ ConfigFault
deprecated_member at name d =
    if is_some (given name d) then Err (Deprecated (member_path at name)) else Ok tt

-- what a reader returned, as contracts see it, is what the definition gives, unless memory ran out; what
-- is read here is JSON
abbrev pub ReadsMember : {X Y : Type 0} → (X → Y) → Result X ConfigFault → Result Y ConfigFault → Type 0
ReadsMember seen (Ok x) read = read ≡ Ok (seen x)
ReadsMember seen (Err NoMemory) read = ⊤
ReadsMember seen (Err NotJson) read = ⊥
ReadsMember seen (Err fault) read = read ≡ Err fault
