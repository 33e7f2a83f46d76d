use Rattle.std.proofs.Common.{◌≡◌, ◌∙◌, ℕ, Bool, List, refl, sym, subst, rules}
use mathlib.Core.List.{IsPrefix}
use Rattle.am_alert.specs.declared.alert.Alert.{Alert}
use Rattle.am_cast.specs.Posters.{PassView}
use Rattle.am_store.specs.declared.call.Call.{Call}
use Rattle.am_runner.specs.Reading.{ReadsSome, ReadsOne, nothing, one_more, all, ended}
use Rattle.am_answers.specs.declared.answer.Answer.{Answer}
use Rattle.am_runner.proofs.Reading.{ended_pending, never_pending, read_stays}
use Rattle.am_runner.proofs.open_subscription.OpenSubscription.read.Goals as goal

pub loop-shown-init : goal.loop-shown-init
loop-shown-init g c = record { reads = subst (λ (answers : List Answer). ReadsSome c.args.self.now 0 answers c.args.self.now) (sym c.new-answers.ensures.items) nothing; pass = refl }

pub returns-then-not-branch-clause-reads : goal.returns-then-not-branch-clause-reads
returns-then-not-branch-clause-reads g c =
    ended c.loop-shown-test.true c.loop-shown.invariant.reads
    (subst (λ (goes_on : Bool). ReadsOne c.loop-shown.self c.loop-shown.answers.items goes_on c.read_one.new.answers.items c.read_one.new.self) c.if-not-branch.true c.in_ok-read_one.ensures.reads)

pub returns-then-not-branch-clause-past : goal.returns-then-not-branch-clause-past
returns-then-not-branch-clause-past g c = λ pending.
    let l = c.loop-shown in
    let stays = read_stays c.args.self.now l.self l._shown l.answers.items l.invariant.reads in
    record {
      old = l.self.subscription;
      opening = stays.0;
      start = stays.1;
      shows = ended_pending l.self c.read_one.new.self l.answers.items c.read_one.new.answers.items _ c.if-not-branch.true c.in_ok-read_one.ensures.reads pending;
      past = subst (λ (p : PassView Alert Call). IsPrefix p.noted c.read_one.new.self.subscription.cursor.lane.front) l.invariant.pass (c.in_ok-read_one.ensures.past pending);
    }

pub loop-shown-preserved : goal.loop-shown-preserved
loop-shown-preserved g c = record {
  reads = one_more c.loop-shown.invariant.reads
      (subst (λ (goes_on : Bool). ReadsOne c.loop-shown.self c.loop-shown.answers.items goes_on c.read_one.new.answers.items c.read_one.new.self) c.if-not-branch.false c.in_ok-read_one.ensures.reads);
  pass = c.read_one.ensures.pass ∙ c.loop-shown.invariant.pass;
}

pub returns-clause-reads : goal.returns-clause-reads
returns-clause-reads g c =
    let whole : c.loop-shown._shown ≡ c.args.max = search rules in
    all (subst (λ (count : ℕ). ReadsSome c.args.self.now count c.loop-shown.answers.items c.loop-shown.self) whole c.loop-shown.invariant.reads)

pub returns-clause-past : goal.returns-clause-past
returns-clause-past g c = λ pending. absurd (never_pending c.args.self.now c.loop-shown.self c.loop-shown._shown c.loop-shown.answers.items c.loop-shown.invariant.reads pending)
