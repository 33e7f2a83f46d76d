-- What a route of a configuration states besides its matchers and the routes below it (Alertmanager's
-- configuration documentation, "route"), over the value that its JSON is.
use Rattle.std.specs.Prelude.{ℕ, Bool, not, if◌then◌else◌, List, [], ◌∷◌, codes, filter, Option, Some, None}
use Rattle.std.specs.Prelude.{Result, Ok, Err}
use Rattle.std.specs.List.{list_any}
use Rattle.serde_json.specs.Data.{Data, Items}
use Rattle.serde_json.specs.Find.{as_object}
use Rattle.am_labels.specs.Texts.{same_text}
use Rattle.am_config.specs.Paths.{member_path}
use Rattle.am_config.specs.Members.{◌>>=◌, of_kind, member_text, flag_member, array_member, texts_member}
use Rattle.am_config.specs.Members.{deprecated_member}
use Rattle.am_config.specs.declared.group_by.GroupBy.{GroupBy}
use Rattle.am_config.specs.declared.group_by.GroupBy.TheVariants.{All, Names}
use Rattle.am_config.specs.declared.route_head.RouteHead.{RouteHead}
use Rattle.am_config.specs.declared.fault.ConfigFault.{ConfigFault}
use Rattle.am_config.specs.declared.fault.ConfigFault.TheVariants.{Missing, RootMatchers}

-- a route's receiver: its own if that isn't empty, else that of the route above it, which the root lacks
abbrev pub receiver_from : Option RouteHead → List ℕ → List ℕ → Result (List ℕ) ConfigFault
receiver_from above at (byte ∷ bytes) = Ok (byte ∷ bytes)
receiver_from (Some above) at [] = Ok above.receiver
receiver_from None at [] = Err (Missing (member_path at (codes "receiver")))

-- the receiver of a route
unfoldable pub receiver_of : Option RouteHead → List ℕ → Data → Result (List ℕ) ConfigFault
receiver_of above at d = do
  own ← member_text at (codes "receiver") d
  receiver_from above at own

-- the names, each once, at its first index
abbrev pub distinct : List (List ℕ) → List (List ℕ)
distinct [] = []
distinct (name ∷ names) = name ∷ filter (λ other. not (same_text other name)) (distinct names)

-- a grouping by names: `...` among them means all labels
abbrev pub grouped_by : List (List ℕ) → GroupBy
grouped_by names =
    if list_any (λ name. same_text name (codes "...")) names then All else Names (distinct names)

-- a route's grouping: its own if it has names, else that of the route above it; the root's is by no
-- label
abbrev pub grouping_from : Option RouteHead → List (List ℕ) → GroupBy
grouping_from above (name ∷ names) = grouped_by (name ∷ names)
grouping_from (Some above) [] = above.group_by
grouping_from None [] = Names []

-- the grouping of a route
unfoldable pub grouping_of : Option RouteHead → List ℕ → Data → Result GroupBy ConfigFault
grouping_of above at d = do
  own ← texts_member at (codes "group_by") d
  Ok (grouping_from above own)

-- the texts of a route's own matchers, which the root doesn't have
abbrev pub unless_at_root : Option RouteHead → List (List ℕ) → Result (List (List ℕ)) ConfigFault
unless_at_root above [] = Ok []
unless_at_root (Some above) (text ∷ texts) = Ok (text ∷ texts)
unless_at_root None (text ∷ texts) = Err RootMatchers

-- the texts of a route's matchers
unfoldable pub matcher_texts_of : Option RouteHead → List ℕ → Data → Result (List (List ℕ)) ConfigFault
matcher_texts_of above at d = do
  own ← texts_member at (codes "matchers") d
  unless_at_root above own

-- what a route states before its matchers are read, in the order of the checks
unfoldable pub head_of : Option RouteHead → List ℕ → Data → Result RouteHead ConfigFault
head_of above at d = do
  members ← of_kind as_object at d
  no_match ← deprecated_member at (codes "match") d
  no_match_re ← deprecated_member at (codes "match_re") d
  receiver ← receiver_of above at d
  grouping ← grouping_of above at d
  texts ← matcher_texts_of above at d
  Ok (record { receiver = receiver; group_by = grouping; matcher_texts = texts })

-- what follows a route's matchers: `continue`, and the routes below it as an array of whatever
unfoldable pub tail_of : List ℕ → Data → Result (Bool × Items) ConfigFault
tail_of at d = do
  continues ← flag_member at (codes "continue") d
  children ← array_member at (codes "routes") d
  Ok (continues, children)
