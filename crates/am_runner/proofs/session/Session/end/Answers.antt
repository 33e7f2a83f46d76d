use Rattle.std.proofs.Common.{◌≡◌, ◌∷◌, [], List, length, refl, sym, subst, rules, arith}
use Rattle.am_runner.specs.Reading.{OpenView}
use Rattle.am_runner.specs.Sessions.{SessionView, LeavesAll, none_left, one_left}
use Rattle.am_runner.proofs.session.Session.end.Goals as goal

pub loop-self-preserved : goal.loop-self-preserved
loop-self-preserved g c = λ new left. c.loop-self.invariant new (one_left c.leave_at-ended.ensures left)

empty : (opened : List OpenView) → length opened ≡ 0 → opened ≡ []
empty [] none = refl
empty (one ∷ others) none = absurd (omega (arith, none))

pub returns : goal.returns
returns g c =
    let none : length c.self.inside.opened.items ≡ 0 = search rules in
    let all = empty c.self.inside.opened.items none in
    let end : SessionView = record { pass = c.self.inside.caller.pass; front = c.self.inside.caller.front; opened = [] } in
    let same : record { pass = c.self.inside.caller.pass; front = c.self.inside.caller.front; opened = c.self.inside.opened.items } ≡ end =
    λ i. record { pass = c.self.inside.caller.pass; front = c.self.inside.caller.front; opened = all i } in
    c.loop-self.invariant end (subst (λ (old : SessionView). LeavesAll old end) c.self.view_is (subst (λ (old : SessionView). LeavesAll old end) (sym same) (none_left refl)))
