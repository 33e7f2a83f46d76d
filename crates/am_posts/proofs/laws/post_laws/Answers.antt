use Rattle.am_posts.proofs.ValidAlerts.{valid_are_well_formed, faults_are_in_order, each_counts}
use Rattle.am_posts.proofs.laws.post_laws.Goals as goal

pub returns : goal.returns
returns c = record {
  valid = valid_are_well_formed;
  faults = faults_are_in_order;
  count = each_counts;
}
