-- How a listed route is printed.
use Rattle.std.specs.Prelude.{ℕ, zero, suc, Bool, List, [], ◌∷◌, ◌++◌, codes, map, if◌then◌else◌}
use Rattle.std.specs.Fmt.{decimal}
use Rattle.std.specs.List.{join_with_byte}
use Rattle.am_labels.specs.Printing.{name_text, quoted}
use Rattle.am_config.specs.declared.group_by.GroupBy.{GroupBy}
use Rattle.am_config.specs.declared.group_by.GroupBy.TheVariants.{All, Names}
use Rattle.am_routes.specs.declared.listed_route.ListedRoute.{ListedRoute}

-- two spaces for each route above
abbrev pub indent : ℕ → List ℕ
indent zero = []
indent (suc depth) = indent depth ++ codes "  "

-- matchers with commas between, in braces (`Matchers.String`, pkg/labels/matcher.go)
abbrev pub matchers_text : List (List ℕ) → List ℕ
matchers_text matchers = codes "{" ++ join_with_byte 44 matchers ++ codes "}"

-- the names of labels with commas between
abbrev pub names_text : List (List ℕ) → List ℕ
names_text names = join_with_byte 44 (map name_text names)

-- by which labels a route groups, in brackets: `...` is all of them
abbrev pub grouping_text : GroupBy → List ℕ
grouping_text All = codes "[...]"
grouping_text (Names names) = codes "[" ++ names_text names ++ codes "]"

-- whether a route has `continue`
abbrev pub continue_text : Bool → List ℕ
continue_text continues = if continues then codes " continue" else []

-- a listed route's number, its receiver and its matchers
abbrev pub heading_text : ListedRoute → List ℕ
heading_text route = decimal route.id.0 ++ (codes " receiver " ++ (quoted route.receiver
    ++ (codes " matchers " ++ (matchers_text route.matchers ++ codes " group_by "))))

-- a listed route
abbrev pub listed_text : ListedRoute → List ℕ
listed_text route = indent route.depth
    ++ (heading_text route ++ (grouping_text route.group_by ++ continue_text route.continues))
