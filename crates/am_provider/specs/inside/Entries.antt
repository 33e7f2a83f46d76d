-- What the fields of an entry say.
use Rattle.am_provider.specs.Histories.{EntryView, Accepted, Trimmed, Compacted}
use Rattle.am_provider.specs.declared.entry.EntryKind.{EntryKind}
use Rattle.am_provider.specs.declared.entry.EntryKind.TheVariants as kind

-- the entry of each kind
abbrev pub entry_of : EntryKind → EntryView
entry_of (kind.Accepted call cut ended) = Accepted call.value cut ended
entry_of (kind.Trimmed count) = Trimmed count
entry_of (kind.Compacted count) = Compacted count
