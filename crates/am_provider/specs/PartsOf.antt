-- Which provider parts are of.
use Rattle.std.specs.Prelude.{◌≡◌, ℕ}
use Rattle.atomic_table.specs.Seated.{TableId}
use Rattle.am_provider.specs.declared.parts.Parts.{Parts}

-- the parts of the provider with this log, this ledger of posts, this history and its ledger of entries
abbrev pub AreOf : TableId → ℕ → ℕ → TableId → ℕ → ℕ → Parts → Type 0
AreOf table name shares timeline entries holders parts =
    (parts.log.board.shared.table_id ≡ table)
    × (parts.ledger.name ≡ name) × (parts.ledger.parts ≡ shares)
    × (parts.history.board.shared.table_id ≡ timeline)
    × (parts.history.ledger.name ≡ entries) × (parts.history.ledger.parts ≡ holders)
