use Rattle.std.proofs.Common.{sym, ◌∙◌}
use Rattle.am_script.proofs.Lines.{lines_of-cut, lines_of-whole}
use Rattle.am_script.proofs.script.split_line.Goals as goal

pub returns-in-Some-clause-lines : goal.returns-in-Some-clause-lines
returns-in-Some-clause-lines c =
    lines_of-cut c.args.text.now c.in-Some.end _ _ (sym c.line_feed.ensures ∙ c.in-Some.is) c.split_at.ensures.front c.split_at-in-Some.ensures.back

pub returns-in-None-clause-lines : goal.returns-in-None-clause-lines
returns-in-None-clause-lines c =
    lines_of-whole c.args.text.now _ _ c.requires (sym c.line_feed.ensures ∙ c.in-None.is) c.split_at-in-None.ensures.front c.split_at-in-None.ensures.back
