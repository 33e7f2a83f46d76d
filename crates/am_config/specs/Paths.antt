-- The path of a value in a configuration. The whole has the empty path.
use Rattle.std.specs.Prelude.{ℕ, List, [], ◌∷◌, ◌++◌, codes}
use Rattle.std.specs.Fmt.{decimal}

-- the path of a member, after a point if it isn't one of the whole
abbrev pub member_path : List ℕ → List ℕ → List ℕ
member_path [] name = name
member_path (byte ∷ bytes) name = (byte ∷ bytes) ++ (codes "." ++ name)

-- the path of an element, its index in brackets
abbrev pub item_path : List ℕ → ℕ → List ℕ
item_path path i = path ++ (codes "[" ++ decimal i ++ codes "]")

-- how a path is printed: `route.routes[0].matchers[1]`, and `config` for the whole
abbrev pub path_text : List ℕ → List ℕ
path_text [] = codes "config"
path_text (byte ∷ bytes) = byte ∷ bytes
