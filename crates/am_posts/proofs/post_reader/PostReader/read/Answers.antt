use Rattle.std.proofs.Common.{List, Option, Err, subst, arith, rules}
use Rattle.std.proofs.lemmas.Grind.{common_steps}
use Rattle.std.specs.Prelude.{IsUtf8}
use Rattle.std.specs.Duration.{as_nanos}
use Rattle.am_posts.specs.Posts.{entries_of, IsArray, ReadsEach}
use Rattle.am_posts.specs.inside.Streams.{IsArrayOf}
use Rattle.am_posts.specs.declared.postable.Postable.{Postable}
use Rattle.am_posts.proofs.Bodies.{elements_are_read}
use Rattle.am_posts.proofs.post_reader.PostReader.read.Goals as goal

pub returns-in-Ok : goal.returns-in-Ok
returns-in-Ok c = grind (arith, common_steps, elements_are_read)

pub returns-in-Some : goal.returns-in-Some
returns-in-Some c =
    let timeout = as_nanos c.args.resolve_timeout in
    let read : IsUtf8 c.args.bytes.now × IsArrayOf c.args.bytes.now c.in-Some.elements = search rules in
    let array : IsArray c.args.bytes.now read.1.0 = (omega arith, read.0, read.1.1) in
    elements_are_read c.args.now timeout c.args.bytes.now read.1.0 (Err c.in-Err.e) array read.1.2
    (subst (λ (elements : List (Option Postable)). ReadsEach (Err c.in-Err.e) (entries_of c.args.now timeout 0 elements)) read.1.3 c.in-Err.ensures)
