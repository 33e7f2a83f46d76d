use Rattle.std.proofs.Common.{Some}
use Rattle.am_cast.specs.inside.Tags.{batch_of_tag}
use Rattle.am_cast.proofs.writer.state.WriterState.store.Given as goal

abbrev pub ghosts-publish_batch : goal.ghosts-publish_batch
ghosts-publish_batch g a = record { batch = Some (batch_of_tag a.tag.now) }
