use Rattle.std.proofs.Common.{rules, ◌≡◌, IfSome, Ok, arith, subst, sym}
use Rattle.jiff_core.specs.declared.civil.datetime.DateTime.{DateTime}
use Rattle.jiff.specs.Words.{parse_timestamp}
use Rattle.am_alert.proofs.PlainMoments.{IsReadAs, plain_read}
use Rattle.am_alert.proofs.plain_moment.read_plain.Goals as goal

pub returns : goal.returns
returns c =
    let xs = c.args.text.now in
    let dt : DateTime = record { date = c.in_ok-date.date; time = c.in_ok-time.time } in
    let is : IsReadAs xs dt = record {
      high = c.in_ok-two_digits.field-0;
      low = c.in_ok-two_digits-2.field-0;
      small = search rules;
      long = omega (arith, c.in-45.len_below, c.in-45.len_at_least);
      year = search rules;
      whole = search rules;
      century = search rules;
      of_century = search rules;
      month = search rules;
      day = search rules;
      hour = search rules;
      minute = search rules;
      second = search rules;
      after_year = search rules;
      after_month = search rules;
      after_day = search rules;
      after_hour = search rules;
      after_minute = search rules;
      after_second = search rules;
    } in
    subst (λ found. IfSome found (λ instant. parse_timestamp xs ≡ Ok instant.nanosecond)) (sym c.ok-3.ensures.value) (plain_read xs dt c.to_timestamp.result is c.to_timestamp.ensures.value)
