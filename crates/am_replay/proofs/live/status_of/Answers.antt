use Rattle.am_replay.specs.Live.{no_memory, not_read, not_written}
use Rattle.am_replay.proofs.live.status_of.Goals as goal

pub returns-in-Read : goal.returns-in-Read
returns-in-Read c = not_read

pub returns-in-Write : goal.returns-in-Write
returns-in-Write c = not_written

pub returns-in_default : goal.returns-in_default
returns-in_default c = no_memory
