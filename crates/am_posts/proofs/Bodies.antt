-- Bodies that were read already.
use Rattle.std.proofs.Common.{Ok, Err}
use Rattle.serde_json.specs.Data.{array}
use Rattle.am_posts.specs.Bodies.{ElementsAreReadAsTheirText}
use Rattle.am_alert.specs.declared.post.PostFault.TheVariants as fault
use Rattle.am_posts.proofs.Arrays.{some_bytes}

pub elements_are_read : ElementsAreReadAsTheirText
elements_are_read now timeout text ds (Ok post) is few reads = (ds, is, few, reads)
elements_are_read now timeout text ds (Err fault.NoMemory) is few reads = (some_bytes text (array ds) is.2, is.0)
elements_are_read now timeout text ds (Err fault.NotJson) is few reads = absurd reads
elements_are_read now timeout text ds (Err fault.NotAnArray) is few reads = absurd reads
elements_are_read now timeout text ds (Err fault.TooMany) is few reads = absurd reads
elements_are_read now timeout text ds (Err (fault.BadMember i)) is few reads = (ds, is, few, reads)
elements_are_read now timeout text ds (Err (fault.OutOfRange i)) is few reads = (ds, is, few, reads)
