use Rattle.std.proofs.Common.{◌≡◌, ◌++◌, ℕ, List, take, string_bytes}
use Rattle.am_runner.specs.Sessions.{setting_of}
use Rattle.am_runner.specs.live.Standing.{ReadOn}
use Rattle.am_runner.proofs.live.standing.read_on.Given as goal

-- what came for those so far, and what goes on of them
abbrev pub invariant-loop-at : goal.invariant-loop-at
invariant-loop-at g l = (l.context ≡ l.fn.context) × ((came : List ℕ) × (string_bytes l.text ≡ string_bytes l.fn.text ++ came)
    × ReadOn l.fn.context.config (setting_of g.N.Recorded.places g.N.Recorded.policy l.fn.context.provider.now.resolve_timeout)
    l.fn.form l.fn.number l.fn.known.entries l.fn.session (take l.at l.fn.reads.items) came l.left.items l.session)
