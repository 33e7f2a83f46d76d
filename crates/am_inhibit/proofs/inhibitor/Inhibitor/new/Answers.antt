use Rattle.std.proofs.Common.{◌≡◌, length, sym, ap, subst, arith}
use Rattle.am_inhibit.specs.LastAlerts.{label_sets}
use Rattle.am_inhibit.specs.inside.Indexes.{AreSourceIndexesOf, empty_indexes}
use Rattle.am_inhibit.proofs.Indexes.{are_empty}
use Rattle.am_inhibit.proofs.inhibitor.Inhibitor.new.Goals as goal

pub invariant_of-result : goal.invariant_of-result
invariant_of-result c =
    let rules_now = c.args.rules.now in
    let none : length c.new.result ≡ 0 = ap length c.new.ensures in (
      subst (AreSourceIndexesOf rules_now (label_sets c.new.result)) (sym c.in_ok-prepare_each.ensures)
          (subst (λ sets. AreSourceIndexesOf rules_now sets (empty_indexes rules_now)) (ap label_sets (sym c.new.ensures)) (are_empty rules_now)),
      omega (arith, none),
    )
