-- Refusals as the program prints them: this project's own codes.
use Rattle.std.specs.Prelude.{ℕ, List, ◌++◌, codes, decimal}
use Rattle.am_alert.specs.declared.post.AlertFault.{AlertFault}
use Rattle.am_alert.specs.declared.post.AlertFault.TheVariants as invalid
use Rattle.am_alert.specs.declared.post.PostFault.{PostFault}
use Rattle.am_alert.specs.declared.post.PostFault.TheVariants as post
use Rattle.am_store.specs.declared.faults.BodyFault.{BodyFault}
use Rattle.am_store.specs.declared.faults.BodyFault.TheVariants as body
use Rattle.am_store.specs.declared.faults.PutFault.{PutFault}
use Rattle.am_store.specs.declared.faults.PutFault.TheVariants as put
use Rattle.am_store.specs.declared.faults.SubFault.{SubFault}
use Rattle.am_store.specs.declared.faults.SubFault.TheVariants as subscribe

-- the log was ended
abbrev pub closed_code : List ℕ
closed_code = codes "E14 Closed"

-- why one alert of a post is invalid
abbrev pub invalid_code : AlertFault → List ℕ
invalid_code invalid.NoLabels = codes "E10 NoLabels"
invalid_code invalid.EndBeforeStart = codes "E11 EndBeforeStart"
invalid_code invalid.EmptyName = codes "E12 EmptyName"

-- why a post's body can't be read
abbrev pub post_code : PostFault → List ℕ
post_code post.NoMemory = codes "E0 NoMemory"
post_code post.NotJson = codes "E5 NotJson"
post_code post.NotAnArray = codes "E6 NotAnArray"
post_code post.TooMany = codes "E8 TooMany"
post_code (post.BadMember index) = codes "E7 BadMember " ++ decimal index
post_code (post.OutOfRange index) = codes "E9 OutOfRange " ++ decimal index

-- why alerts weren't posted
abbrev pub put_code : PutFault → List ℕ
put_code put.NoMemory = codes "E0 NoMemory"
put_code put.Closed = closed_code
put_code put.LogEnd = codes "E23 LogEnd"
put_code (put.Full lane passed) =
    codes "E13 Full lane " ++ decimal lane ++ codes " passed " ++ decimal passed

-- why a body wasn't posted
abbrev pub body_code : BodyFault → List ℕ
body_code (body.Unread fault) = post_code fault
body_code (body.Put fault) = put_code fault

-- why a subscription was refused
abbrev pub subscribe_code : SubFault → List ℕ
subscribe_code subscribe.NoMemory = codes "E0 NoMemory"
subscribe_code subscribe.Closed = closed_code
subscribe_code subscribe.NoLane = codes "E15 NoLane"
