use Rattle.am_alert.proofs.MergingRules.{starts_earliest, ends_at_an_end, younger_decides, younger_stays, has_no_order}
use Rattle.am_alert.proofs.laws.merging_laws.Goals as goal

pub returns : goal.returns
returns c = record {
  start = starts_earliest;
  end = ends_at_an_end;
  resolved = younger_decides;
  rest = younger_stays;
  order = has_no_order;
}
