use Rattle.std.proofs.Common.{rules}
use Rattle.serde_json.specs.Data.{object}
use Rattle.am_posts.specs.inside.Streams.{IsDraftAhead}
use Rattle.am_posts.proofs.Streams.{if_element}
use Rattle.am_posts.proofs.array_reader.read_element.Goals as goal

pub returns-in-Some-clause-read : goal.returns-in-Some-clause-read
returns-in-Some-clause-read c =
    let old = c.args.reader.now in
    let new = c.read_draft.new.reader in
    let read : IsDraftAhead c.args.depth old new c.args.room.now.left c.read_draft.new.room.left c.in-Some.draft = search rules in
    if_element c.args.depth old new c.args.room.now.left c.read_draft.new.room.left (object read.0) c.into_postable.result read.1 read.2 (c.into_postable.ensures read.0 read.3)
