-- A part of an alert's tokens, in which it is written.
use Rattle.std.specs.Prelude.{List, ◌++◌, codes}
use Rattle.json.specs.Json.{string}
use Rattle.json.specs.Token.{Token}
use Rattle.am_alert.specs.Printing.{moment_text}
use Rattle.am_alert.specs.declared.alert.Alert.{Alert}
use Rattle.am_script.specs.JsonLines.{named}

-- the tokens of an alert's moments
abbrev pub moments_tokens : Alert → List Token
moments_tokens alert = named (codes "startsAt") (string (moment_text alert.start))
    ++ (named (codes "endsAt") (string (moment_text alert.end))
    ++ named (codes "updatedAt") (string (moment_text alert.updated)))
