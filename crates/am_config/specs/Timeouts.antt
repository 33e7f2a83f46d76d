-- The text of the resolve timeout (Alertmanager's configuration documentation, "global"), over the
-- value that its JSON is.
use Rattle.std.specs.Prelude.{ℕ, List, [], codes, Option, Some, None, Result, Ok}
use Rattle.serde_json.specs.Data.{Data}
use Rattle.serde_json.specs.Find.{as_str, as_object}
use Rattle.am_config.specs.Members.{◌>>=◌, of_kind, member_of}
use Rattle.am_config.specs.declared.fault.ConfigFault.{ConfigFault}

-- an object, if it is there
abbrev pub object_member : List ℕ → List ℕ → Data → Result (Option Data) ConfigFault
object_member = member_of None (λ path d. of_kind as_object path d >>= λ members. Ok (Some d))

-- a text, if it is there
abbrev pub given_text : List ℕ → List ℕ → Data → Result (Option (List ℕ)) ConfigFault
given_text = member_of None (λ path d. of_kind as_str path d >>= λ text. Ok (Some text))

-- the text of the member of `global`, if both are there
abbrev pub timeout_text_in : Option Data → Result (Option (List ℕ)) ConfigFault
timeout_text_in None = Ok None
timeout_text_in (Some settings) = given_text (codes "global") (codes "resolve_timeout") settings

-- the text of the whole's `global.resolve_timeout`, if it is there
unfoldable pub timeout_text_of : Data → Result (Option (List ℕ)) ConfigFault
timeout_text_of d = do
  settings ← object_member [] (codes "global") d
  timeout_text_in settings
