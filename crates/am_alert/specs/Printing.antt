-- How moments and alerts are printed.
use Rattle.std.specs.Prelude.{ℕ, ◌-◌, ◌==◌, if◌then◌else◌, List, [], ◌++◌, codes, length, replicate}
use Rattle.std.specs.Fmt.{decimal}
use Rattle.am_labels.specs.Printing.{labels_text}
use Rattle.am_alert.specs.Calendar.{parts_of}
use Rattle.am_alert.specs.declared.alert.Alert.{Alert}
use Rattle.am_alert.specs.declared.civil_time.CivilTime.{CivilTime}

-- a number in decimal, with as many zeros before it as it lacks digits
abbrev pub zero_padded : ℕ → ℕ → List ℕ
zero_padded width n = replicate (width - length (decimal n)) 48 ++ decimal n

-- an instant up to its second: `2024-01-01T10:00:00`
abbrev pub second_text : CivilTime → List ℕ
second_text p =
    zero_padded 4 p.year ++ (codes "-" ++ zero_padded 2 p.month ++ (codes "-" ++ zero_padded 2 p.day
    ++ (codes "T" ++ zero_padded 2 p.hour ++ (codes ":" ++ zero_padded 2 p.minute
    ++ (codes ":" ++ zero_padded 2 p.second)))))

-- a fraction of a second: nothing for a whole second, else a point and nine digits
abbrev pub fraction_text : ℕ → List ℕ
fraction_text nanosecond = if nanosecond == 0 then [] else codes "." ++ zero_padded 9 nanosecond

-- an instant in UTC, as RFC 3339 writes it: `2024-01-01T10:00:00Z`, `2024-01-01T10:00:00.500000000Z`
abbrev pub moment_text : ℕ → List ℕ
moment_text moment =
    second_text (parts_of moment) ++ (fraction_text (parts_of moment).nanosecond ++ codes "Z")

-- an alert: labels, start, end, whether the end was given, annotations
abbrev pub alert_text : Alert → List ℕ
alert_text alert =
    labels_text alert.labels ++ (codes " " ++ moment_text alert.start ++ (codes " " ++ moment_text alert.end
    ++ (codes " " ++ (if alert.timeout then codes "timeout" else codes "given")
    ++ (codes " " ++ labels_text alert.annotations))))
