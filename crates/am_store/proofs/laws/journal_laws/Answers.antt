use Rattle.am_store.proofs.Growing.{stays_open, leaving_ends, stays_front, ended_owes_no_more}
use Rattle.am_store.proofs.Opens.{is_still_open}
use Rattle.am_store.proofs.Sent.{batches_answer_posts}
use Rattle.am_store.proofs.Stored.{agrees}
use Rattle.am_store.proofs.laws.journal_laws.Goals as goal

pub returns : goal.returns
returns c = record {
  stays = stays_open;
  lanes = is_still_open;
  ended = leaving_ends;
  front = stays_front;
  quiet = ended_owes_no_more;
  batches = batches_answer_posts;
  of_each = λ labels all. (agrees all).found labels;
  distinct = λ all. (agrees all).distinct;
}
