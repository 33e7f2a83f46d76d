use Rattle.std.proofs.Common.{◌+◌, ◌≤◌, ◌∙◌, length, filter, sym, ap, arith}
use Rattle.am_provider.specs.inside.Endings.{EndingsView, endings_in, is_since}
use Rattle.am_provider.proofs.Endings.{fewer, kept_twice}
use Rattle.am_provider.proofs.kept_endings.KeptEndings.trim.Goals as goal

pub returns-clause-endings : goal.returns-clause-endings
returns-clause-endings c =
    let low : c.self.inside.before ≤ c.args.before = omega (arith, c.requires.before.0, c.let_go.ensures.from.0, ap (λ (v : EndingsView). v.before) c.self.view_is) in
    sym (kept_twice c.self.inside.before c.args.before low (endings_in c.self.inside.all.items))
    ∙ ap (filter (is_since c.args.before)) (ap (λ (v : EndingsView). v.endings) c.self.view_is ∙ c.let_go.ensures.same.0)

pub returns-clause-early : goal.returns-clause-early
returns-clause-early c =
    let all = endings_in c.self.inside.all.items in
    let view = ap (λ (v : EndingsView). v.early + length v.endings) c.self.view_is in
    omega (arith, fewer c.args.before all, fewer c.self.inside.before all, view, ap length c.let_go.ensures.same.0, c.let_go.ensures.same.1)
