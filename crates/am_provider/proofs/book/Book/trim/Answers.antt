use Rattle.std.proofs.Common.{◌+◌, ◌-◌, ◌≡◌, ◌≤◌, ℕ, length, filter, nat_le, refl, sym, subst, ap, ◌∙◌, arith}
use Rattle.am_store.specs.Trims.{AreBeforeOpen, IsTrimmed}
use Rattle.am_store.proofs.Trims.{none_trimmed}
use Rattle.am_provider.specs.declared.answers.Ended.{Ended}
use Rattle.am_provider.specs.BookView.{BookView}
use Rattle.am_provider.specs.inside.Endings.{is_since}
use Rattle.am_provider.proofs.Endings.{fewer}
use Rattle.am_provider.proofs.Trimming.{kept_trimmed, kept_room, none_gone}
use Rattle.am_provider.proofs.book.Book.trim.Goals as goal

pub returns-then-count-eq0-clause-journal : goal.returns-then-count-eq0-clause-journal
returns-then-count-eq0-clause-journal g c =
    subst (λ (s : BookView). IsTrimmed s.journal 0 s.journal) c.self.view_is (none_trimmed c.self.inside.journal.journal c.self.invariant.0.pages.kept.base)

pub returns-then-count-eq0-clause-endings : goal.returns-then-count-eq0-clause-endings
returns-then-count-eq0-clause-endings g c =
    subst (λ (s : BookView). s.endings ≡ filter (λ (e : Ended). nat_le s.journal.before e.at) s.endings) c.self.view_is (sym (none_gone c.self.inside.journal.journal c.self.inside.endings.endings c.self.invariant.0.endings))

pub returns-in_err-store-clause-endings : goal.returns-in_err-store-clause-endings
returns-in_err-store-clause-endings g c =
    subst (λ (s : BookView). s.endings ≡ filter (λ (e : Ended). nat_le s.journal.before e.at) c.args.self.now.endings) (sym c.stored_then.ensures.same)
    (subst (λ (s : BookView). s.endings ≡ filter (λ (e : Ended). nat_le s.journal.before e.at) s.endings) c.self.view_is (sym (none_gone c.self.inside.journal.journal c.self.inside.endings.endings c.self.invariant.0.endings)))

pub invariant_of-self : goal.invariant_of-self
invariant_of-self g c =
    let self = c.self-2.inside in
    let kept = c.self-2.invariant in
    let view = c.self-2.view_is ∙ c.stored_then.ensures.same in
    let count : ℕ = c.owed_from.result - c.discarded-before.result in
    let trimmed = c.trim.ensures.trimmed in
    let ends = c.trim-2.ensures in
    let begun : c.discarded-before.result ≡ self.journal.journal.before =
    c.discarded-before.ensures.count ∙ (ap (λ (s : BookView). s.journal.before) c.self.view_is ∙ sym (ap (λ (s : BookView). s.journal.before) view)) in
    let before : AreBeforeOpen self.journal.journal count =
    subst (λ n. AreBeforeOpen self.journal.journal (c.owed_from.result - n)) (sym begun)
    (subst (λ (s : BookView). AreBeforeOpen s.journal (c.owed_from.result - s.journal.before)) (sym view) c.owed_from.ensures.before) in
    let now : c.trim.new.self.journal.before ≡ c.discarded-before.result + count = omega (arith, trimmed.before, begun) in
    let endings : c.trim-2.new.self.endings ≡ filter (is_since c.trim.new.self.journal.before) self.endings.endings =
    ends.endings ∙ ap (λ n. filter (is_since n) self.endings.endings) (sym now) in
    let gone : self.journal.gone ≤ c.trim.new.self.gone = omega (arith, c.trim.ensures.gone) in
    let less : length c.trim-2.new.self.endings ≤ length self.endings.endings = omega (arith, ap length endings, fewer c.trim.new.self.journal.before self.endings.endings) in
    let trim = kept_trimmed _ _ _ _ count kept.0 before trimmed gone refl refl refl refl c.trim.ensures.room endings less ends.early in (
      kept_room _ _ _ _ trim (omega (arith, kept.0.room, ends.room)),
      kept.1,
      kept.2,
      record { before = ends.from.0 ∙ sym now; gone = ends.from.1 ∙ c.gone.ensures },
    )
