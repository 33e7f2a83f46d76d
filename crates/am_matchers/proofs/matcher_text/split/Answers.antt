use Rattle.am_matchers.proofs.matcher_text.split.Goals as goal

pub returns-in_default-split_operator : goal.returns-in_default-split_operator
returns-in_default-split_operator c = (
  c.in-Some.name.now,
  c.skip_space-2.result.now,
  (c.skip_space.result.now, c.in-Some.rest.now, c.skip_space.ensures, c.in-Some.ensures, c.skip_space-2.ensures),
  c.in_default-split_operator.ensures,
)
