-- A member of an object of JSON, as a post and a configuration have them: null counts as if it weren't there
-- (Go's `encoding/json`).
use Rattle.std.specs.Prelude.{ℕ, List, Option, Some, None, option_and_then}
use Rattle.serde_json.specs.Data.{Data, null, boolean, number, string, array, object}
use Rattle.serde_json.specs.Find.{get}

-- a value, unless it is null
abbrev pub unless_null : Data → Option Data
unless_null null = None
unless_null (boolean b) = Some (boolean b)
unless_null (number n) = Some (number n)
unless_null (string s) = Some (string s)
unless_null (array ds) = Some (array ds)
unless_null (object ms) = Some (object ms)

-- a member that is there and isn't null
abbrev pub given : List ℕ → Data → Option Data
given name d = option_and_then unless_null (get name d)
