use Rattle.std.proofs.Common.{◌≡◌, ◌∙◌, ◌++◌, List, ℕ, Bool, true, string_bytes, ap, sym, subst}
use Rattle.std.proofs.lemmas.Result.{IfOk-weaker}
use Rattle.am_runner.specs.Sessions.{setting_of}
use Rattle.am_runner.specs.Unanswered.{is_question, loses_nothing, not_done, only_asked}
use Rattle.am_answers.specs.declared.answer.Answer.{Answer}
use Rattle.am_runner.specs.live.Answering.{Obeys, has_free_name, has_moment_if_needed, ran, unanswered}
use Rattle.am_answers.specs.Known.{Known, known_after, places_after}
use Rattle.am_answers.specs.Showing.{AnswersArePrinted, kept_printed}
use Rattle.am_runner.specs.live.Standing.{ReadOn, RunView, stands_after}
use Rattle.am_runner.proofs.live.answering.run_command.Goals as goal

pub returns-in_default-clause-obeys : goal.returns-in_default-clause-obeys
returns-in_default-clause-obeys g c =
    IfOk-weaker c.no_memory.result _ _ (λ text is.
    subst (λ (printed : List ℕ). Obeys c.args.context.now.config (setting_of g.N.Recorded.places g.N.Recorded.policy c.args.context.now.provider.now.resolve_timeout) c.args.form c.args.number c.args.command.now c.args.run.now printed c.args.run.now) (sym is) (unanswered not_done)) c.no_memory.ensures

pub returns-then-is_err-clause-obeys : goal.returns-then-is_err-clause-obeys
returns-then-is_err-clause-obeys g c =
    let old : RunView = record { session = c.run.inside.session; follows = c.run.inside.follows; reads = c.run.inside.reads.items; known = c.run.inside.known.entries } in
    let setting = setting_of g.N.Recorded.places g.N.Recorded.policy c.args.context.now.provider.now.resolve_timeout in
    let Does : RunView → List ℕ → Known → Type 0 = λ run printed known. Obeys c.args.context.now.config setting c.args.form c.args.number c.args.command.now run printed (record old { known = known }) in
    IfOk-weaker c.no_memory-then-is_err.result _ _ (λ text is.
    subst (λ (run : RunView). Does run (string_bytes text) c.make_room.new.known.entries) c.run.view_is
    (subst (λ (known : Known). Does old (string_bytes text) known) (sym c.make_room.ensures)
    (subst (λ (printed : List ℕ). Does old printed old.known) (sym is) (unanswered not_done)))) c.no_memory-then-is_err.ensures

pub returns-in-Ok-write_given-clause-obeys : goal.returns-in-Ok-write_given-clause-obeys
returns-in-Ok-write_given-clause-obeys g c =
    let old : RunView = record { session = c.run.inside.session; follows = c.run.inside.follows; reads = c.run.inside.reads.items; known = c.run.inside.known.entries } in
    let setting = setting_of g.N.Recorded.places g.N.Recorded.policy c.args.context.now.provider.now.resolve_timeout in
    let command = c.args.command.now in
    let given = c.in-Ok-run.given.items in
    let room = c.make_room.new.known.entries in
    let new = c.with_what_came.new.run in
    let shown = c.in-Ok-write_given.ensures in
    let printed : string_bytes c.write_given.new.text ≡ shown.0 = shown.1 ∙ ap (λ (before : List ℕ). before ++ shown.0) c.in-Ok.ensures.bytes in
    let are : AnswersArePrinted c.args.number old.known given old.follows c.args.form shown.0 =
    subst (λ (known : Known). AnswersArePrinted c.args.number known given old.follows c.args.form shown.0) c.make_room.ensures
    (subst (λ (answers : List Answer). AnswersArePrinted c.args.number room answers old.follows c.args.form shown.0) c.deref-in-Ok-run.ensures.value shown.2) in
    let free : has_free_name command old.session.opened ≡ true = subst (λ (run : RunView). has_free_name command run.session.opened ≡ true) (sym c.run.view_is) c.requires.name in
    let timely : has_moment_if_needed command old.session.opened ≡ true = subst (λ (run : RunView). has_moment_if_needed command run.session.opened ≡ true) (sym c.run.view_is) c.requires.moment in
    IfOk-weaker c.with_what_came.result _ _ (λ text so.
    let known : new.known ≡ known_after old.follows command given old.known =
    so.2 ∙ (ap (λ (answers : List Answer). known_after old.follows command answers room) c.deref-in-Ok-write_given.ensures.value
    ∙ ap (λ (k : Known). known_after old.follows command given k) c.make_room.ensures) in
    let kept = kept_printed c.args.form c.args.number (places_after old.follows command given old.known) in
    let whole : string_bytes text ≡ (shown.0 ++ kept) ++ so.0 =
    so.1 ∙ (ap (λ (before : List ℕ). (before ++ kept_printed c.args.form c.args.number (places_after old.follows command c.deref-in-Ok-write_given.result.now room)) ++ so.0) printed
    ∙ (ap (λ (answers : List Answer). (shown.0 ++ kept_printed c.args.form c.args.number (places_after old.follows command answers room)) ++ so.0) c.deref-in-Ok-write_given.ensures.value
    ∙ ap (λ (k : Known). (shown.0 ++ kept_printed c.args.form c.args.number (places_after old.follows command given k)) ++ so.0) c.make_room.ensures)) in
    let on : ReadOn c.args.context.now.config setting c.args.form c.args.number (known_after old.follows command given old.known) c.run-2.new.self (stands_after old.follows command given old.reads) so.0 new.reads new.session =
    subst (λ (k : Known). ReadOn c.args.context.now.config setting c.args.form c.args.number k c.run-2.new.self (stands_after old.follows command given old.reads) so.0 new.reads new.session) known
    (subst (λ context. ReadOn context.config (setting_of g.N.Recorded.places g.N.Recorded.policy context.provider.now.resolve_timeout) c.args.form c.args.number new.known c.run-2.new.self (stands_after old.follows command given old.reads) so.0 new.reads new.session) c.in-Ok-run.ensures.same
    (subst (λ (answers : List Answer). ReadOn c.run-2.new.context.config (setting_of g.N.Recorded.places g.N.Recorded.policy c.run-2.new.context.provider.now.resolve_timeout) c.args.form c.args.number new.known c.run-2.new.self
    (stands_after old.follows command answers old.reads) so.0 new.reads new.session) c.deref-in-Ok-write_given.ensures.value so.3)) in
    let end_is : record { session = new.session; follows = old.follows; reads = new.reads; known = known_after old.follows command given old.known } ≡ new =
    ap (λ (follows : Bool). record { session = new.session; follows = follows; reads = new.reads; known = known_after old.follows command given old.known }) (sym c.with_what_came.ensures.same.1)
    ∙ ap (λ (k : Known). record { session = new.session; follows = new.follows; reads = new.reads; known = k }) (sym known) in
    subst (λ (run : RunView). Obeys c.args.context.now.config setting c.args.form c.args.number command run (string_bytes text) new) c.run.view_is
    (subst (λ (all : List ℕ). Obeys c.args.context.now.config setting c.args.form c.args.number command old all new) (sym whole)
    (subst (λ (end : RunView). Obeys c.args.context.now.config setting c.args.form c.args.number command old ((shown.0 ++ kept) ++ so.0) end) end_is (ran free timely c.in-Ok-run.ensures.does are on)))) c.with_what_came.ensures.read

pub returns-in-Err-write_given-clause-obeys : goal.returns-in-Err-write_given-clause-obeys
returns-in-Err-write_given-clause-obeys g c =
    let old : RunView = record { session = c.run.inside.session; follows = c.run.inside.follows; reads = c.run.inside.reads.items; known = c.run.inside.known.entries } in
    let asks : is_question c.args.command.now ≡ true = sym c.is_question.ensures ∙ c.if-is_question.true in
    IfOk-weaker c.no_memory-in-Err-write_given.result _ _ (λ text is.
    subst (λ (run : RunView). Obeys c.args.context.now.config (setting_of g.N.Recorded.places g.N.Recorded.policy c.args.context.now.provider.now.resolve_timeout) c.args.form c.args.number c.args.command.now run (string_bytes text) (record old { session = c.run-2.new.self; known = c.make_room.new.known.entries })) c.run.view_is
    (subst (λ (known : Known). Obeys c.args.context.now.config (setting_of g.N.Recorded.places g.N.Recorded.policy c.args.context.now.provider.now.resolve_timeout) c.args.form c.args.number c.args.command.now old (string_bytes text) (record old { session = c.run-2.new.self; known = known })) (sym c.make_room.ensures)
    (subst (λ (printed : List ℕ). Obeys c.args.context.now.config (setting_of g.N.Recorded.places g.N.Recorded.policy c.args.context.now.provider.now.resolve_timeout) c.args.form c.args.number c.args.command.now old printed (record old { session = c.run-2.new.self })) (sym is)
    (unanswered (only_asked asks (c.in-Ok-run.given.items, c.in-Ok-run.ensures.does)))))) c.no_memory-in-Err-write_given.ensures

pub returns-in-Err-clause-obeys : goal.returns-in-Err-clause-obeys
returns-in-Err-clause-obeys g c =
    let old : RunView = record { session = c.run.inside.session; follows = c.run.inside.follows; reads = c.run.inside.reads.items; known = c.run.inside.known.entries } in
    let safe : loses_nothing c.args.command.now ≡ true = sym c.loses_nothing.ensures ∙ c.if-loses_nothing.true in
    IfOk-weaker c.no_memory-in-Err.result _ _ (λ text is.
    subst (λ (run : RunView). Obeys c.args.context.now.config (setting_of g.N.Recorded.places g.N.Recorded.policy c.args.context.now.provider.now.resolve_timeout) c.args.form c.args.number c.args.command.now run (string_bytes text) (record old { session = c.run-2.new.self; known = c.make_room.new.known.entries })) c.run.view_is
    (subst (λ (known : Known). Obeys c.args.context.now.config (setting_of g.N.Recorded.places g.N.Recorded.policy c.args.context.now.provider.now.resolve_timeout) c.args.form c.args.number c.args.command.now old (string_bytes text) (record old { session = c.run-2.new.self; known = known })) (sym c.make_room.ensures)
    (subst (λ (printed : List ℕ). Obeys c.args.context.now.config (setting_of g.N.Recorded.places g.N.Recorded.policy c.args.context.now.provider.now.resolve_timeout) c.args.form c.args.number c.args.command.now old printed (record old { session = c.run-2.new.self })) (sym is)
    (unanswered (c.in-Err.ensures.unanswered safe))))) c.no_memory-in-Err.ensures
