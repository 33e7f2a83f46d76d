-- How answers are printed as JSON objects, one a line.
use Rattle.std.specs.Prelude.{ℕ, Bool, List, [], ◌∷◌, ◌++◌, codes, flat_map, length, Option, Some, None}
use Rattle.json.specs.Json.{Json, null, boolean, string, object, Members, no_members, member}
use Rattle.am_alert.specs.declared.alert.Alert.{Alert}
use Rattle.am_alert.specs.declared.post.AlertFault.{AlertFault}
use Rattle.am_labels.specs.LabelSets.{Labels}
use Rattle.am_config.specs.declared.group_by.GroupBy.{GroupBy}
use Rattle.am_config.specs.declared.group_by.GroupBy.TheVariants.{All, Names}
use Rattle.am_routes.specs.declared.dispatcher.Swept.{Swept}
use Rattle.am_routes.specs.declared.listed_route.ListedRoute.{ListedRoute}
use Rattle.am_routes.specs.declared.matched_route.MatchedRoute.{MatchedRoute}
use Rattle.am_answers.specs.Codes.{body_code, closed_code, invalid_code, subscribe_code}
use Rattle.am_script.specs.JsonLines.{about_line, alert_members, decimal_json, labels_json, object_line}
use Rattle.am_script.specs.JsonLines.{refusing, texts_json, worded}
use Rattle.am_script.specs.ScriptTexts.{verb_text}
use Rattle.am_script.specs.declared.command.Verb.{Verb}
use Rattle.am_script.specs.declared.command.Verb.TheVariants as verb
use Rattle.am_answers.specs.declared.answer.GroupHead.{GroupHead}
use Rattle.am_answers.specs.declared.answer.PageHead.{PageHead}
use Rattle.am_answers.specs.declared.answer.Answer.{Answer}
use Rattle.am_answers.specs.declared.answer.Answer.TheVariants as answer

-- an answer that shows an alert
abbrev pub showing : List ℕ → Alert → Members
showing word alert = worded word (member (codes "alert") (object (alert_members alert)) no_members)

-- an answer that has a number
abbrev pub counting : List ℕ → List ℕ → ℕ → Members
counting word name n = worded word (member name (decimal_json n) no_members)

-- the place of a post's batch in the log, if it has one
abbrev pub place_json : Option ℕ → Json
place_json (Some place) = decimal_json place
place_json None = null

-- an accepted post
abbrev pub posted_members : ℕ → Option ℕ → Members
posted_members valid place = worded (codes "post")
    (member (codes "valid") (decimal_json valid) (member (codes "place") (place_json place) no_members))

-- a subscription that was left, whether it answered `Closed`, and whether a post cut it
abbrev pub left_members : ℕ → Bool → Bool → Members
left_members taken closed cut = worded (codes "leave")
    (member (codes "taken") (decimal_json taken)
    (member (codes "closed") (boolean closed) (member (codes "cut") (boolean cut) no_members)))

-- a group of a dispatcher: its route, the receiver, its labels, and how many alerts it has
abbrev pub group_members : GroupHead → Members
group_members group = worded (codes "group")
    (member (codes "route") (decimal_json group.route)
    (member (codes "receiver") (string group.receiver)
    (member (codes "labels") (labels_json group.labels)
    (member (codes "alerts") (decimal_json group.alerts) no_members))))

-- by which labels a route groups: `...` is all of them
abbrev pub grouping_json : GroupBy → Json
grouping_json All = texts_json (codes "..." ∷ [])
grouping_json (Names names) = texts_json names

-- a route of the routing tree
abbrev pub listed_members : ListedRoute → Members
listed_members route = worded (codes "route")
    (member (codes "route") (decimal_json route.id.0)
    (member (codes "depth") (decimal_json route.depth)
    (member (codes "receiver") (string route.receiver)
    (member (codes "matchers") (texts_json route.matchers)
    (member (codes "group_by") (grouping_json route.group_by)
    (member (codes "continue") (boolean route.continues) no_members))))))

-- a route that a label set matches: its number, the receiver, and the group labels there
abbrev pub matched_members : MatchedRoute → Members
matched_members route = worded (codes "matched")
    (member (codes "route") (decimal_json route.id.0)
    (member (codes "receiver") (string route.receiver)
    (member (codes "labels") (labels_json route.labels) no_members)))

-- how many alerts and groups a sweep removed
abbrev pub swept_members : Swept → Members
swept_members swept = worded (codes "sweep")
    (member (codes "alerts") (decimal_json swept.alerts)
    (member (codes "groups") (decimal_json swept.groups) no_members))

-- a page of what is stored: how many alerts it has, the index of the first, how many are stored in all, and
-- after how many calls
abbrev pub page_members : PageHead → Members
page_members page = worded (codes "page")
    (member (codes "alerts") (decimal_json page.alerts)
    (member (codes "from") (decimal_json page.from)
    (member (codes "stored") (decimal_json page.stored)
    (member (codes "calls") (decimal_json page.calls) no_members))))

-- an invalid alert of an accepted post, by its index, and its fault
abbrev pub invalid_members : ℕ → AlertFault → Members
invalid_members index fault = worded (codes "invalid")
    (member (codes "index") (decimal_json index)
    (member (codes "fault") (string (invalid_code fault)) no_members))

-- a new subscription: its lane, and how many alerts were stored
abbrev pub subscribed_members : ℕ → ℕ → Members
subscribed_members lane opening = worded (codes "subscribe")
    (member (codes "lane") (decimal_json lane) (member (codes "opening") (decimal_json opening) no_members))

-- the rule that mutes a target, and the label set by which it does
abbrev pub muted_members : ℕ → Labels → Members
muted_members rule by = worded (codes "muted")
    (member (codes "rule") (decimal_json rule) (member (codes "by") (labels_json by) no_members))

-- a command whose subscription isn't open
abbrev pub not_open_members : Verb → Members
not_open_members word =
    worded (codes "none") (member (codes "do") (string (verb_text word)) no_members)

-- the members of what a call answered
abbrev pub answer_members : Answer → Members
answer_members (answer.Posted valid place) = posted_members valid place
answer_members (answer.Invalid index why) = invalid_members index why
answer_members (answer.CutLane lane) = counting (codes "cut_lane") (codes "lane") lane
answer_members (answer.PostRefused why) = refusing (verb_text verb.Post) (body_code why)
answer_members (answer.Subscribed lane opening) = subscribed_members lane opening
answer_members (answer.SubscribeRefused why) = refusing (verb_text verb.Subscribe) (subscribe_code why)
answer_members (answer.Item alert) = showing (codes "item") alert
answer_members answer.Pending = worded (codes "pending") no_members
answer_members answer.SawClosed = worded (codes "closed") no_members
answer_members answer.SawCut = worded (codes "cut") no_members
answer_members (answer.Left taken closed cut) = left_members taken closed cut
answer_members (answer.Collected removed) = counting (codes "collect") (codes "removed") removed
answer_members (answer.Taken removed) = counting (codes "take") (codes "removed") removed
answer_members answer.CloseAccepted = worded (codes "close") no_members
answer_members answer.CloseRefused = refusing (verb_text verb.Close) closed_code
answer_members (answer.Trimmed dropped) = counting (codes "trim") (codes "dropped") dropped
answer_members (answer.Compacted dropped) = counting (codes "compact") (codes "dropped") dropped
answer_members (answer.Group group) = group_members group
answer_members (answer.Member alert) = showing (codes "member") alert
answer_members (answer.Swept swept) = swept_members swept
answer_members (answer.Forgotten alerts) = counting (codes "forget") (codes "alerts") alerts
answer_members (answer.Muted rule by) = muted_members rule by
answer_members answer.NotMuted = worded (codes "not_muted") no_members
answer_members (answer.StoredCount count) = counting (codes "stored") (codes "alerts") count
answer_members (answer.Page page) = page_members page
answer_members (answer.StoredAlert alert) = showing (codes "alert") alert
answer_members answer.NotStored = worded (codes "no_alert") no_members
answer_members (answer.Route route) = listed_members route
answer_members (answer.Matched route) = matched_members route
answer_members (answer.OutOfMemory word) = refusing (verb_text word) (codes "E0 NoMemory")
answer_members (answer.NotOpen word) = not_open_members word

-- how many answers a line of input has
abbrev pub count_members : ℕ → Members
count_members count = member (codes "answers") (decimal_json count) no_members

-- the lines of the answers to one line of input, and of how many they are
abbrev pub objects_text : ℕ → List Answer → List ℕ
objects_text line given = flat_map (λ one. object_line (about_line line (answer_members one))) given
    ++ object_line (about_line line (count_members (length given)))
