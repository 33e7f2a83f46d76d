use Rattle.std.proofs.Common.{ap, ◌∙◌}
use Rattle.am_posts.proofs.Drafts.{drafted, made}
use Rattle.am_posts.proofs.draft.Draft.into_postable.Goals as goal

pub returns-in-Some : goal.returns-in-Some
returns-in-Some c members read = drafted c.args.self members read ∙ ap (made c.args.self) c.in-Some.is

pub returns-in-None : goal.returns-in-None
returns-in-None c members read = drafted c.args.self members read ∙ ap (made c.args.self) c.in-None.is
