use Rattle.std.proofs.Common.{◌≡◌, ℕ, List, true≢false, sym, ◌∙◌, subst}
use Rattle.std.specs.Prelude.{codes}
use Rattle.std.proofs.lemmas.Slice.Eq.{bytes_eq-Decides}
use Rattle.am_config.specs.Durations.{ArePartsOf}
use Rattle.am_config.proofs.Durations.{too_long}
use Rattle.am_config.proofs.duration.read_duration.Goals as goal

pub returns-then-total-gt-MAX_MILLISECONDS : goal.returns-then-total-gt-MAX_MILLISECONDS
returns-then-total-gt-MAX_MILLISECONDS c =
    let parts = c.in_ok-total.ensures in
    let are = subst (λ (text : List ℕ). ArePartsOf 0 text parts.0) c.as_bytes.ensures.value parts.1 in
    let no_zero : c.args.text.now ≡ codes "0" → ⊥ =
    λ e. true≢false (sym ((bytes_eq-Decides c.args.text.now (codes "0")).1 e) ∙ (sym c.eq.ensures ∙ c.if-eq.false)) in
    too_long c.args.text.now parts.0 c.in_ok-total.total no_zero are parts.2 c.if-total-gt-MAX_MILLISECONDS.true
