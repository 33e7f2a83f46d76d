use Rattle.std.proofs.Common.{◌∙◌, ap, sym}
use Rattle.sinnoraku.specs.Owed.{alert_lines}
use Rattle.uses.proofs.printed_all.Relay.print.Goals as goal

-- a new reader has shown nothing
pub print_all-printed-requires : goal.print_all-printed-requires
print_all-printed-requires g c = c.new-text.ensures.bytes ∙ ap alert_lines (sym c.in_ok-reader.ensures.sees.answers.fresh.0)
