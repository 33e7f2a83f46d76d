use Rattle.std.proofs.Common.{◌∷◌, []}
use Rattle.std.proofs.lemmas.Bool.Decides.{Decides-eqb}
use Rattle.std.proofs.lemmas.Slice.Eq.{strip_suffix_is}
use Rattle.am_script.proofs.SingleLines.{stripped_line}
use Rattle.am_script.proofs.line_counter.without_line_feed.Goals as goal

pub returns : goal.returns
returns c =
    let line = c.args.line in
    let stripped = c.strip_suffix.result in
    let feed = strip_suffix_is Decides-eqb line.now (10 ∷ []) stripped c.strip_suffix.ensures.cases in
    rw c.unwrap_or.ensures (stripped_line line stripped feed c.requires)
