use Rattle.std.proofs.Common.{◌≡◌, ◌∙◌, ◌++◌, ◌∷◌, ◌<◌, ◌≤◌, ◌+◌, [], ℕ, List, length, take, refl, ap, sym, subst, arith, append_assoc, append-nil}
use Rattle.std.proofs.lemmas.List.{take_all, take_more}
use Rattle.am_script.specs.declared.command.Command.TheVariants.{Read}
use Rattle.am_answers.specs.declared.answer.Answer.{Answer}
use Rattle.am_runner.specs.Sessions.{Setting, Does, setting_of}
use Rattle.am_answers.specs.Showing.{CameIsPrinted}
use Rattle.am_runner.specs.live.Standing.{ReadOn, none_stands, one_more, left_to_read}
use Rattle.am_runner.specs.declared.live.standing.StandingRead.{StandingRead}
use Rattle.am_runner.proofs.live.standing.read_on.Goals as goal

pub loop-at-init : goal.loop-at-init
loop-at-init g c =
    let setting : Setting = setting_of g.N.Recorded.places g.N.Recorded.policy c.args.context.now.provider.now.resolve_timeout in (
      refl,
      ([], sym (append-nil _), subst (λ (left : List StandingRead). ReadOn c.args.context.now.config setting c.args.form c.args.number c.args.known.now.entries c.args.session.now [] [] left c.args.session.now) (sym c.new-left.ensures.items) none_stands),
    )

pub returns-in_err-given-clause-same : goal.returns-in_err-given-clause-same
returns-in_err-given-clause-same g c = c.read_more.ensures.same ∙ c.loop-at.invariant.0

pub returns-in_err-write_came-clause-same : goal.returns-in_err-write_came-clause-same
returns-in_err-write_came-clause-same g c = c.in_ok-given.ensures.same ∙ c.loop-at.invariant.0

pub returns-in_err-add_rest-clause-same : goal.returns-in_err-add_rest-clause-same
returns-in_err-add_rest-clause-same g c = c.in_ok-given.ensures.same ∙ c.loop-at.invariant.0

pub loop-at-preserved : goal.loop-at-preserved
loop-at-preserved g c =
    let setting : Setting = setting_of g.N.Recorded.places g.N.Recorded.policy c.args.context.now.provider.now.resolve_timeout in
    let items = c.args.reads.now.items in
    let at = c.loop-at.at in
    let one = c.index-read.result.now in
    let given = c.in_ok-given.given.items in
    let new = c.read_more.new.session in
    let less : at < length items = subst (λ n. at < n) (c.len-at-end.ensures ∙ c.args.reads.now.ok.0) c.loop-at-test.true in
    let longer : take at items ++ one ∷ [] ≡ take (at + 1) items = ap (λ (x : StandingRead). take at items ++ x ∷ []) c.index-read.ensures ∙ sym (take_more items at one less) in
    let so = c.loop-at.invariant in
    let more = c.in_ok-write_came.ensures in
    let printed : CameIsPrinted c.args.number one.name c.args.known.now.entries given c.args.form more.0 =
    subst (λ (l : List Answer). CameIsPrinted c.args.number one.name c.args.known.now.entries l c.args.form more.0) c.deref.ensures.value more.2 in
    let did : Does c.args.context.now.config setting c.loop-at.session (Read one.name one.left) given new =
    subst (λ context. Does context.config (setting_of g.N.Recorded.places g.N.Recorded.policy context.provider.now.resolve_timeout) c.loop-at.session (Read one.name one.left) given new) so.0 c.in_ok-given.ensures.does in
    let left_is : c.add_rest.new.reads.items ≡ c.loop-at.left.items ++ left_to_read one.name one.left given =
    c.in_ok-add_rest.ensures ∙ ap (λ (l : List Answer). c.loop-at.left.items ++ left_to_read one.name one.left l) c.deref-in-loop-at.ensures.value in
    let text = so.1.0 ++ more.0 in (
      c.in_ok-given.ensures.same ∙ so.0,
      (
        text,
        more.1 ∙ (ap (λ (l : List ℕ). l ++ more.0) so.1.1 ∙ append_assoc _ so.1.0 more.0),
        subst (λ (reads : List StandingRead). ReadOn c.args.context.now.config setting c.args.form c.args.number c.args.known.now.entries c.args.session.now reads text c.add_rest.new.reads.items new) longer
            (subst (λ (left : List StandingRead). ReadOn c.args.context.now.config setting c.args.form c.args.number c.args.known.now.entries c.args.session.now (take at items ++ one ∷ []) text left new) (sym left_is)
            (one_more one so.1.2 did printed)),
      ),
    )

pub returns-clause-read : goal.returns-clause-read
returns-clause-read g c =
    let setting : Setting = setting_of g.N.Recorded.places g.N.Recorded.policy c.args.context.now.provider.now.resolve_timeout in
    let so = c.loop-at.invariant.1 in
    let whole : take c.loop-at.at c.args.reads.now.items ≡ c.args.reads.now.items = take_all c.loop-at.at c.args.reads.now.items
    (subst (λ n. n ≤ c.loop-at.at) (c.len-at-end.ensures ∙ c.args.reads.now.ok.0) c.loop-at-test.false) in (
      so.0,
      so.1,
      subst (λ (reads : List StandingRead). ReadOn c.args.context.now.config setting c.args.form c.args.number c.args.known.now.entries c.args.session.now reads so.0 c.loop-at.left.items c.loop-at.session) whole so.2,
    )

pub returns-clause-same : goal.returns-clause-same
returns-clause-same g c = c.loop-at.invariant.0
