use Rattle.std.proofs.Common.{◌≡◌, ◌≤◌, ◌<◌, ◌*◌, ◌+◌, ◌^◌, ℕ, List, true, sym, ap, ◌∙◌, subst, arith, length, rules}
use Rattle.std.specs.List.{list_all}
use Rattle.std.specs.Char.{is_ascii_digit}
use Rattle.std.specs.Str.Parse.{digits_value}
use Rattle.std.proofs.lemmas.Bool.Decides.{nat_tests}
use Rattle.am_config.specs.Durations.{rank_of, ArePartsOf}
use Rattle.am_config.specs.inside.DurationParts.{digits_of, rest_of, unit_of}
use Rattle.am_config.proofs.Durations.{no_unit, no_digits, out_of_order, large_number, large_others, large_worth, sum_read}
use Rattle.am_config.proofs.duration.+sum_of_parts.Goals as goal
use Rattle.am_config.proofs.duration.+sum_of_parts.Goals.{then-is_empty-2-via-then-is_empty-2, then-is_empty-2-via-else-is_empty-2+then-rank-from}

pub returns-in_err-unit : goal.returns-in_err-unit
returns-in_err-unit t c =
    let some : 0 < length c.args.text.now = grind (arith, nat_tests) in
    let none = ap unit_of (sym c.split_part.ensures.symbol) ∙ sym c.in_err-unit.ensures in
    rw c.from_residual.ensures (λ parts are. no_unit (2 ^ 64) c.args.from c.args.text.now some parts are none)

pub returns-then-is_empty-2 : goal.returns-then-is_empty-2
returns-then-is_empty-2 t c parts are =
    let some : 0 < length c.args.text.now = grind (arith, nat_tests) in
    let unit = ap unit_of (sym c.split_part.ensures.symbol) ∙ sym c.in_ok-unit.ensures in
    let digits = ap length c.split_part.ensures.digits in
    elim c.then-is_empty-2.branch [
      | then-is_empty-2-via-then-is_empty-2 w ↦
          let none : length (digits_of c.args.text.now) ≡ 0 = grind (arith, nat_tests) in
          no_digits (2 ^ 64) c.args.from c.args.text.now some parts are none
      | then-is_empty-2-via-else-is_empty-2+then-rank-from w ↦
          let before = w.if-rank-from.true in
          let rank = w.rank.ensures in
          out_of_order (2 ^ 64) c.args.from c.args.text.now some parts are c.in_ok-unit.unit unit (omega arith)
    ]

pub returns-in_err-count : goal.returns-in_err-count
returns-in_err-count t c =
    let some : 0 < length c.args.text.now = grind (arith, nat_tests) in
    let unit = ap unit_of (sym c.split_part.ensures.symbol) ∙ sym c.in_ok-unit.ensures in
    let digits = ap (digits_value 10) c.split_part.ensures.digits in
    let large = c.in_err-count.ensures in
    rw c.from_residual-in_err-count.ensures (λ parts are. large_number (2 ^ 64) c.args.from c.args.text.now some parts are c.in_ok-unit.unit unit (omega arith))

pub returns-in_err-others : goal.returns-in_err-others
returns-in_err-others t c =
    let some : 0 < length c.args.text.now = grind (arith, nat_tests) in
    let unit = ap unit_of (sym c.split_part.ensures.symbol) ∙ sym c.in_ok-unit.ensures in
    rw c.from_residual-in_err-others.ensures (λ parts are. large_others (2 ^ 64) c.args.from c.args.text.now some parts are c.in_ok-unit.unit unit
    (λ more later. c.in_err-others.ensures more
    (subst (λ n. ArePartsOf (n + 1) c.split_part.result.2.now more) (sym c.rank-2.ensures)
    (subst (λ (rest : List ℕ). ArePartsOf (rank_of c.in_ok-unit.unit + 1) rest more) (sym c.split_part.ensures.rest) later))))

pub returns-in_err-checked_mul : goal.returns-in_err-checked_mul
returns-in_err-checked_mul t c = search (rules, nat_tests, large_worth)

pub returns : goal.returns
returns t c =
    let text = c.args.text.now in
    let some : 0 < length text = grind (arith, nat_tests) in
    let unit = ap unit_of (sym c.split_part.ensures.symbol) ∙ sym c.in_ok-unit.ensures in
    let cut = ap length c.split_part.ensures.digits in
    let digits : 0 < length (digits_of text) = grind (arith, nat_tests) in
    let all = subst (λ (ds : List ℕ). list_all is_ascii_digit ds ≡ true) c.split_part.ensures.digits c.split_part.ensures.number in
    let rank = c.rank.ensures in
    let order : c.args.from ≤ rank_of c.in_ok-unit.unit = omega arith in
    let others = c.in_ok-others.ensures in
    let later = subst (λ n. ArePartsOf (n + 1) (rest_of text) others.0) c.rank-2.ensures
    (subst (λ (rest : List ℕ). ArePartsOf (c.rank-2.result + 1) rest others.0) c.split_part.ensures.rest others.1) in
    let product = c.in_ok-checked_mul.ensures.1
    ∙ (ap (λ n. n * c.milliseconds.result) (c.in_ok-count.ensures ∙ ap (digits_value 10) c.split_part.ensures.digits)
    ∙ ap (λ n. digits_value 10 (digits_of text) * n) c.milliseconds.ensures) in
    sum_read (2 ^ 64) c.args.from text c.in_ok-unit.unit c.in_ok-checked_mul.field-0 c.in_ok-others.others others.0 c.checked_add.result
    some digits all unit order later others.2 product c.checked_add.ensures
