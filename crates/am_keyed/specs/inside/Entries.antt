-- How a keyed list keeps its values. Only code of this crate cites it.
use Rattle.std.specs.Prelude.{◌≡◌, List, map}
use Rattle.std.specs.Map.{keys_of, values_of}

-- each value is kept under its own key
pub record AreOwnKeys {K V : Type 0} (key : V → K) (entries : List (K × V)) : Type 0 where
  pub keys : keys_of entries ≡ map key (values_of entries)
