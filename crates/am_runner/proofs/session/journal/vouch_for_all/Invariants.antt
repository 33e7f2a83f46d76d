use Rattle.std.proofs.Common.{◌≡◌, take}
use Rattle.am_runner.specs.Compacting.{Vouches}
use Rattle.am_runner.proofs.session.journal.vouch_for_all.Given as goal

-- the provider has said so of those so far
abbrev pub invariant-loop-index : goal.invariant-loop-index
invariant-loop-index g l = record {
  vouches : Vouches (record { pass = l.fn.caller.pass; front = l.fn.caller.front; opened = l.fn.opened.items })
      (take l.index l.fn.opened.items) (record { pass = l.caller.pass; front = l.caller.front; opened = l.fn.opened.items });
  opened : l.opened.items ≡ l.fn.opened.items;
}
