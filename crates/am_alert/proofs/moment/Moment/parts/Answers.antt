use Rattle.std.proofs.Common.{◌≡◌, pos, ◌-ℤ◌, arith, ap, ◌∙◌}
use Rattle.std.proofs.lemmas.Grind.{common_steps}
use Rattle.jiff_core.proofs.SignedLemmas.{signed_arith}
use Rattle.jiff_core.specs.DateTime.{civil_nanos}
use Rattle.am_alert.specs.Calendar.{parts_of}
use Rattle.am_alert.proofs.Dates.{parts_same, year_back, year_bound, time_parts}
use Rattle.am_alert.proofs.moment.Moment.parts.Goals as goal

pub overflow_cast-result : goal.overflow_cast-result
overflow_cast-result c =
    let shown = c.to_plain-shown.result in
    let e : civil_nanos shown ≡ pos c.args.self.now -ℤ pos 62_135_596_800_000_000_000 = ap civil_nanos c.to_plain-shown.ensures ∙ (c.to_datetime.ensures ∙ omega (arith, signed_arith, c.timestamp.ensures)) in
    let same = parts_same c.args.self.now shown e in
    let year = (parts_of c.args.self.now).year in
    let bound = year_bound shown.date year same.0 in
    rw (year_back shown.date.year year same.0 bound) (tt, omega arith)

pub returns : goal.returns
returns c = grind (arith, common_steps, signed_arith, parts_same, year_back, year_bound, time_parts)
