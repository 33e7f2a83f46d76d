use Rattle.std.proofs.Common.{◌≡◌, ◌∙◌, ◌++◌, ◌<◌, List, Some, length, set, ap, sym, subst}
use Rattle.std.proofs.lemmas.List.{append-nil, get_or-set_same, set-get_or}
use Rattle.std.proofs.lemmas.Option.{slice_get-get_or}
use Rattle.am_alert.specs.declared.alert.Alert.{Alert}
use Rattle.am_cast.specs.Posters.{PassView}
use Rattle.am_store.specs.declared.call.Call.{Call}
use Rattle.am_provider.specs.Callers.{KnowsAllSent}
use Rattle.am_provider.specs.Histories.{EntryView, sent_by}
use Rattle.am_runner.specs.Reading.{OpenView, ReadAnswers}
use Rattle.am_runner.proofs.Results.{if_ok_both}
use Rattle.am_runner.proofs.session.subscription.read_one.Goals as goal

pub returns : goal.returns
returns g c =
    let items = c.args.opened.now.items in
    let at = c.args.index in
    let vouched = c.vouch.new.self in
    let before = c.index_mut.result.now in
    let after = c.read.new.self in
    let sees = c.vouch.ensures.sees in
    let knows = c.vouch.ensures.pass in
    let less : at < length items = c.requires in
    let first : before ≡ _ = c.index_mut.ensures.value in
    let kept : set items at vouched ≡ items = ap (set items at) (c.vouch.ensures.same ∙ first) ∙ set-get_or items at _ in
    let second : c.index_mut-2.result.now ≡ before = c.index_mut-2.ensures.value ∙ (get_or-set_same items at vouched _ less ∙ c.vouch.ensures.same) in
    let sent = knows.sent ∙ ap sent_by (sees.seen ∙ (ap (λ (added : List EntryView). sees.before ++ added) sees.answers.1 ∙ append-nil sees.before)) in
    if_ok_both c.read.result c.read.ensures.reads c.read.ensures.past (λ answers reads past. record {
      before = before;
      after = after;
      there = slice_get-get_or items at _ less ∙ ap Some (sym first);
      opened = ap (λ (l : List OpenView). set l at after) kept;
      reads = subst (λ (one : OpenView). ReadAnswers one c.args.max answers.items after) second reads;
      sees = sees;
      pass = subst (λ (pass : PassView Alert Call). KnowsAllSent c.args.caller.now.pass pass c.vouch.new.caller.front) (sym c.read.ensures.pass) knows;
      all = λ pending.
          let said = past pending in
          c.history_laws.ensures.pending sees.before c.vouch.new.caller.pass.noted before.subscription said.old after.subscription sees.answers.0 sent
          (said.opening ∙ ap (λ (one : OpenView). one.subscription.opening) second)
          (said.start ∙ ap (λ (one : OpenView). one.subscription.cursor.lane.start) second)
          said.shows said.past;
    })
