use Rattle.std.proofs.Common.{arith, rules}
use Rattle.am_posts.proofs.Drafts.{drafted_valued, drafted_whole}
use Rattle.std.proofs.lemmas.Grind.{common_steps}
use Rattle.am_posts.proofs.draft.Draft.into_alert.Goals as goal

pub returns-in-Some-Some-Some-Some-clause-read : goal.returns-in-Some-Some-Some-Some-clause-read
returns-in-Some-Some-Some-Some-clause-read c given read = search (rules, drafted_whole)

pub returns-in-Some-Some-Some-Some-clause-valued : goal.returns-in-Some-Some-Some-Some-clause-valued
returns-in-Some-Some-Some-Some-clause-valued c = grind (arith, common_steps, drafted_valued)
