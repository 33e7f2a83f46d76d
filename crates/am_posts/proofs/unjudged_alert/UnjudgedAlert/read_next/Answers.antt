use Rattle.std.proofs.Common.{◌≡◌, ◌∷◌, ◌-◌, arith, rules}
use Rattle.json.specs.Token as token
use Rattle.serde_json.specs.Data.{array}
use Rattle.am_posts.specs.inside.Streams.{AreAlertsOf}
use Rattle.am_posts.proofs.Tokens.{array_next}
use Rattle.am_posts.proofs.unjudged_alert.UnjudgedAlert.read_next.Goals as goal

pub returns-in-Some-clause-read : goal.returns-in-Some-clause-read
returns-in-Some-clause-read c =
    let inner = c.next.new.self in
    let new = c.read_alerts.new.reader in
    let is : c.args.reader.now ≡ token.begin_array ∷ inner = grind arith in
    let read : AreAlertsOf (c.args.depth - 1) inner new c.in-Some.alerts.items = search rules in
    (array read.0, array_next c.args.depth c.args.reader.now inner new read.0 is (omega arith) read.1, read.2)
