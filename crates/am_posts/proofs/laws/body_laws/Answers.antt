use Rattle.am_posts.proofs.Bodies.{elements_are_read}
use Rattle.am_posts.proofs.laws.body_laws.Goals as goal

pub returns : goal.returns
returns c = elements_are_read
