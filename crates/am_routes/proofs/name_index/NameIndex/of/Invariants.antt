use Rattle.std.proofs.Common.{◌≡◌, ℕ, List, take}
use Rattle.am_config.specs.RouteLists.{forest_of}
use Rattle.am_routes.specs.inside.ChildIndexes.{filings, is_filed, indexes_kept, places_from}
use Rattle.am_routes.proofs.name_index.NameIndex.of.Given as goal

-- for each value the routes so far are kept that are filed under the name and it
abbrev pub invariant-loop-at : goal.invariant-loop-at
invariant-loop-at l = record {
  name : l.index.name.now ≡ l.name;
  kept : (value : List ℕ) → indexes_kept value l.index ≡ places_from (is_filed l.name value) 0 (filings (forest_of (take l.at l.routes)));
}
