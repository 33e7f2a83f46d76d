-- How answers are printed.
use Rattle.std.specs.Prelude.{ℕ, Bool, List, [], ◌∷◌, ◌++◌, codes, flat_map, Option, Some, None}
use Rattle.std.specs.Prelude.{if◌then◌else◌}
use Rattle.std.specs.Fmt.{decimal}
use Rattle.am_alert.specs.Printing.{alert_text}
use Rattle.am_labels.specs.LabelSets.{Labels}
use Rattle.am_labels.specs.Printing.{labels_text, quoted}
use Rattle.am_routes.specs.Printing.{listed_text}
use Rattle.am_routes.specs.declared.dispatcher.Swept.{Swept}
use Rattle.am_routes.specs.declared.matched_route.MatchedRoute.{MatchedRoute}
use Rattle.am_answers.specs.Codes.{body_code, closed_code, invalid_code, subscribe_code}
use Rattle.am_script.specs.ScriptTexts.{verb_text}
use Rattle.am_answers.specs.declared.answer.GroupHead.{GroupHead}
use Rattle.am_answers.specs.declared.answer.PageHead.{PageHead}
use Rattle.am_answers.specs.declared.answer.Answer.{Answer}
use Rattle.am_answers.specs.declared.answer.Answer.TheVariants as answer

-- the place of a post's batch in the log, if it has one
abbrev pub place_text : Option ℕ → List ℕ
place_text (Some place) = codes " place " ++ decimal place
place_text None = codes " no place"

-- an accepted post
abbrev pub posted_text : ℕ → Option ℕ → List ℕ
posted_text valid place = codes "post valid " ++ (decimal valid ++ place_text place)

-- a subscription that was left, whether it answered `Closed`, and whether a post cut it
abbrev pub left_text : ℕ → Bool → Bool → List ℕ
left_text taken closed cut =
    codes "leave taken " ++ (decimal taken ++ ((if closed then codes " closed" else [])
    ++ (if cut then codes " cut" else [])))

-- a group of a dispatcher: its route, the receiver, its labels, and how many alerts it has
abbrev pub group_text : GroupHead → List ℕ
group_text group =
    codes "group route " ++ (decimal group.route ++ (codes " receiver " ++ (quoted group.receiver
    ++ (codes " labels " ++ (labels_text group.labels ++ (codes " alerts " ++ decimal group.alerts))))))

-- a route that a label set matches: its number, the receiver, and the group labels there
abbrev pub matched_text : MatchedRoute → List ℕ
matched_text route =
    codes "matched route " ++ (decimal route.id.0 ++ (codes " receiver " ++ (quoted route.receiver
    ++ (codes " labels " ++ labels_text route.labels))))

-- how many alerts and groups a sweep removed
abbrev pub swept_text : Swept → List ℕ
swept_text swept =
    codes "sweep alerts " ++ (decimal swept.alerts ++ (codes " groups " ++ decimal swept.groups))

-- a page of what is stored: how many alerts it has, the index of the first, how many are stored in all, and
-- after how many calls
abbrev pub page_text : PageHead → List ℕ
page_text page =
    codes "page " ++ (decimal page.alerts ++ (codes " from " ++ (decimal page.from
    ++ (codes " of " ++ (decimal page.stored ++ (codes " after " ++ decimal page.calls))))))

-- the rule that mutes a target, and the label set by which it does
abbrev pub muted_text : ℕ → Labels → List ℕ
muted_text rule by = codes "muted rule " ++ (decimal rule ++ (codes " by " ++ labels_text by))

-- what a call answered, printed after the number of its line
abbrev pub answer_text : Answer → List ℕ
answer_text (answer.Posted valid place) = posted_text valid place
answer_text (answer.Invalid index why) =
    codes "invalid " ++ (decimal index ++ (codes " " ++ invalid_code why))
answer_text (answer.CutLane lane) = codes "cut lane " ++ decimal lane
answer_text (answer.PostRefused why) = codes "post refused " ++ body_code why
answer_text (answer.Subscribed lane opening) =
    codes "subscribe lane " ++ (decimal lane ++ (codes " opening " ++ decimal opening))
answer_text (answer.SubscribeRefused why) = codes "subscribe refused " ++ subscribe_code why
answer_text (answer.Item alert) = codes "item " ++ alert_text alert
answer_text answer.Pending = codes "pending"
answer_text answer.SawClosed = codes "closed"
answer_text answer.SawCut = codes "cut"
answer_text (answer.Left taken closed cut) = left_text taken closed cut
answer_text (answer.Collected removed) = codes "collect removed " ++ decimal removed
answer_text (answer.Taken removed) = codes "take removed " ++ decimal removed
answer_text answer.CloseAccepted = codes "close"
answer_text answer.CloseRefused = codes "close refused " ++ closed_code
answer_text (answer.Trimmed dropped) = codes "trim dropped " ++ decimal dropped
answer_text (answer.Compacted dropped) = codes "compact dropped " ++ decimal dropped
answer_text (answer.Group group) = group_text group
answer_text (answer.Member alert) = codes "member " ++ alert_text alert
answer_text (answer.Swept swept) = swept_text swept
answer_text (answer.Forgotten alerts) = codes "forget alerts " ++ decimal alerts
answer_text (answer.Muted rule by) = muted_text rule by
answer_text answer.NotMuted = codes "not muted"
answer_text (answer.StoredCount count) = codes "stored " ++ decimal count
answer_text (answer.Page page) = page_text page
answer_text (answer.StoredAlert alert) = codes "alert " ++ alert_text alert
answer_text answer.NotStored = codes "no alert"
answer_text (answer.Route route) = codes "route " ++ listed_text route
answer_text (answer.Matched route) = matched_text route
answer_text (answer.OutOfMemory word) = verb_text word ++ codes " refused E0 NoMemory"
answer_text (answer.NotOpen word) = verb_text word ++ codes " none"

-- an answer, after the number of its line
abbrev pub answer_line : ℕ → Answer → List ℕ
answer_line number one = decimal number ++ (codes " " ++ (answer_text one ++ codes "\n"))

-- the lines of the answers to one line of input
abbrev pub answers_text : ℕ → List Answer → List ℕ
answers_text number given = flat_map (answer_line number) given
