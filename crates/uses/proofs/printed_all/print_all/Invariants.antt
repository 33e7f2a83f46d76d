use Rattle.std.proofs.Common.{◌≡◌, string_bytes}
use Rattle.sinnoraku.specs.Owed.{alert_lines, taken}
use Rattle.uses.proofs.printed_all.print_all.Given as goal

abbrev pub invariant-loop-turn : goal.invariant-loop-turn
invariant-loop-turn g l = string_bytes l.text ≡ alert_lines (taken l.reader.subscription)
