use Rattle.std.proofs.Common.{subst, List, ℕ, ◌≡◌}
use Rattle.am_labels.specs.Printing.{escaped_all}
use Rattle.am_labels.proofs.Printing.Escapes.{plain_text}
use Rattle.am_labels.proofs.quoted.is_plain.Goals as goal

pub returns : goal.returns
returns c =
    λ plain. subst (λ (text : List ℕ). escaped_all text ≡ text) c.as_bytes.ensures.value
    (plain_text c.as_bytes.result.now c.memchr3.result c.is_none.result c.memchr3.ensures c.is_none.ensures plain)
