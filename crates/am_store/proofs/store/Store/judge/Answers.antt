use Rattle.std.proofs.Common.{◌≡◌, OnErr, subst, sym, rules}
use Rattle.am_store.specs.AlertMaps.{stored_in}
use Rattle.am_store.specs.Judging.{WasAsked}
use Rattle.am_store.proofs.store.Store.judge.Goals as goal

pub returns-clause-asked : goal.returns-clause-asked
returns-clause-asked g c =
    let view : c.args.self.now ≡ c.self.inside.alerts.entries = search rules in
    subst (λ entries. OnErr c.judge_over-judged.result (WasAsked g.F.FnMut c.args.now c.judge_over-judged.new.accepts c.args.accepts.now (stored_in entries) c.args.news)) (sym view) c.judge_over-judged.ensures.asked
