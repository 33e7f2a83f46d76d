use Rattle.am_store.proofs.Trims.{starts_with_base, trimmed_gives_the_same, trimmed_grows, trimmed_twice, one_trim}
use Rattle.am_store.proofs.laws.trimming_laws.Goals as goal

pub returns : goal.returns
returns c = record {
  base = starts_with_base;
  same = trimmed_gives_the_same;
  grows = trimmed_grows;
  twice = trimmed_twice;
  one = one_trim;
}
