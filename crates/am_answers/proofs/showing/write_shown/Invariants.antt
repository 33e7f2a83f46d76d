use Rattle.std.proofs.Common.{◌≡◌, ◌++◌, drop, string_bytes}
use Rattle.std.specs.Option.{option_copied}
use Rattle.am_answers.specs.Showing.{shown_text}
use Rattle.am_answers.proofs.showing.write_shown.Given as goal

-- what was printed so far, and then what is left
abbrev pub invariant-loop-index : goal.invariant-loop-index
invariant-loop-index l =
    string_bytes l.text ++ shown_text l.fn.number (option_copied l.fn.name) l.before (drop l.index l.fn.given) (drop l.index l.fn.places)
    ≡ string_bytes l.fn.text ++ shown_text l.fn.number (option_copied l.fn.name) 0 l.fn.given l.fn.places
