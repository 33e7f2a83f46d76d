use Rattle.std.proofs.Common.{◌≡◌, ◌-ℤ◌, ◌++◌, [], ◌∷◌, ℕ, Option, Bool, false, pos, ap, ◌∙◌}
use Rattle.jiff_core.specs.DateTime.{civil_nanos}
use Rattle.jiff_fmt.specs.Text.{datetime_text, zulu_text}
use Rattle.am_alert.proofs.Printing.{moment_text_is, part_of_second, places_wanted, whole_second}
use Rattle.am_alert.proofs.moment.Moment.text.Goals as goal
use Rattle.am_alert.proofs.moment.Moment.text.Goals.{then-self-eq0, else-self-eq0}

pub returns : goal.returns
returns c =
    let n = c.args.self.now in
    let places = c.if-self-eq0.places in
    let printer = c.precision-printer.result in
    let shown = c.timestamp_text.ensures.0 in
    let is : civil_nanos shown ≡ pos n -ℤ pos 62_135_596_800_000_000_000 =
    c.timestamp_text.ensures.1 ∙ (ap (λ t. t.nanosecond) c.to_plain.ensures ∙ c.timestamp.ensures) in
    let same : c.self.inside.nanoseconds ≡ n = cc in
    let asked : places ≡ places_wanted n =
    elim c.if-self-eq0.branch [
      | then-self-eq0 w ↦ w.places-is ∙ (whole_second c.self.inside.nanoseconds w.if-self-eq0.true ∙ ap places_wanted same)
      | else-self-eq0 w ↦ w.places-is ∙ (part_of_second c.self.inside.nanoseconds w.if-self-eq0.false ∙ ap places_wanted same)
    ] in
    let options : (printer.lowercase, printer.separator, printer.precision) ≡ (false, 84, places) =
    c.precision-printer.ensures ∙ ap (λ (o : Bool × ℕ × Option ℕ). (o.0, o.1, places)) c.new.ensures in
    let text : c.timestamp_text.result.bytes ≡ datetime_text false 84 places shown ++ 90 ∷ [] =
    c.timestamp_text.ensures.2 ∙ ap (λ (o : Bool × ℕ × Option ℕ). datetime_text o.0 o.1 o.2 shown ++ zulu_text o.0) options in
    text ∙ moment_text_is n shown places is asked
