use Rattle.std.proofs.Common.{◌∙◌, ◌++◌, List, length, ap, subst, sym}
use Rattle.am_store.specs.Broadcast.{due, IsFront}
use Rattle.am_store.specs.Journal.{IsOpenSubscription}
use Rattle.am_provider.specs.Callers.{made_from}
use Rattle.am_provider.specs.Histories.{EntryView, whole}
use Rattle.am_provider.specs.Subscriptions.{taken}
use Rattle.sinnoraku.proofs.client.Client.leave.Goals as goal

pub returns-clause-due : goal.returns-clause-due
returns-clause-due g c =
    let sees = c.leave.ensures.sees in
    let was = sees.answers.due in
    let at = sym sees.answers.at in
    record {
      before = sees.before;
      earlier = c.args.self.now.caller.front.made;
      lane = c.args.reader.subscription.cursor.lane.number;
      seen = sees.seen ∙ ap (λ (added : List EntryView). sees.before ++ added) sees.answers.entry;
      made = sees.made ∙ ap (λ (added : List EntryView). c.args.self.now.caller.front.made ++ made_from (length sees.before) added) sees.answers.entry;
      subscribed = subst (λ call. IsOpenSubscription (whole sees.before) c.args.reader.subscription.cursor.lane.number call) at was.lane;
      front = subst (λ call. IsFront (taken c.args.reader.subscription) (due (whole sees.before) call)) at was.front;
      complete = λ closed. let told = sym sees.answers.closed ∙ closed in
          (was.told_closed told, was.complete told ∙ ap (due (whole sees.before)) at);
    }
