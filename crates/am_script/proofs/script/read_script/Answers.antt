use Rattle.std.proofs.Common.{ℕ, Bor, List, subst}
use Rattle.std.proofs.lemmas.Result.{MatchResult-weaker}
use Rattle.am_script.specs.inside.Parts.{IsPart, bytes_of_lines}
use Rattle.am_script.proofs.Parts.{text_read}
use Rattle.am_script.proofs.script.read_script.Goals as goal

pub returns-clause-read : goal.returns-clause-read
returns-clause-read c =
    let part = c.read.result in
    let reads = subst (λ (ls : List (Bor (List ℕ))). IsPart 1 (bytes_of_lines ls) part) c.deref.ensures.value c.read.ensures in
    let whole = text_read c.args.text.now (bytes_of_lines c.in_ok-lines.lines.items) part.lines.items part.end c.in_ok-lines.ensures reads in
    MatchResult-weaker c.into_lines.result c.into_lines.ensures.read (λ lines checks. checks c.args.text.now whole) (λ fault none. tt)

pub returns-clause-refused : goal.returns-clause-refused
returns-clause-refused c =
    let part = c.read.result in
    let reads = subst (λ (ls : List (Bor (List ℕ))). IsPart 1 (bytes_of_lines ls) part) c.deref.ensures.value c.read.ensures in
    let whole = text_read c.args.text.now (bytes_of_lines c.in_ok-lines.lines.items) part.lines.items part.end c.in_ok-lines.ensures reads in
    MatchResult-weaker c.into_lines.result c.into_lines.ensures.refused (λ lines none. tt) (λ fault refused. refused c.args.text.now whole)
