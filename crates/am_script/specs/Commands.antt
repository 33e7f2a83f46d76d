-- The command of a script's line, over the value that its JSON is.
use Rattle.std.specs.Prelude.{◌≡◌, ◌⊎◌, ⊤, ℕ, ◌&&◌, nat_le, if◌then◌else◌, List, [], ◌∷◌, codes}
use Rattle.std.specs.Prelude.{Option, Some, None, is_some, option_map, option_and_then, IfSome}
use Rattle.std.specs.Prelude.{Result, Ok, Err, IsUtf8}
use Rattle.std.specs.Str.{bytes_eq}
use Rattle.serde_json.specs.Data.{Data, Members, object}
use Rattle.serde_json.specs.Find.{get, as_number, as_u64}
use Rattle.serde_json.specs.Read.{read}
use Rattle.am_labels.specs.LabelSets.{Labels}
use Rattle.am_posts.specs.Bodies.{IsBodyOf}
use Rattle.am_posts.specs.Postables.{labels_of}
use Rattle.am_posts.specs.declared.body.Body.{Body}
use Rattle.am_posts.specs.declared.body.Body.TheVariants.{Text}
use Rattle.am_script.specs.declared.command.Command.{Command}
use Rattle.am_script.specs.declared.command.Command.TheVariants.{Post, Put, Subscribe, Read, Leave, Collect}
use Rattle.am_script.specs.declared.command.Command.TheVariants.{Take, Close, Trim, Compact, Groups, Sweep}
use Rattle.am_script.specs.declared.command.Command.TheVariants.{Forget, Mutes, Stored, StoredPage, Get}
use Rattle.am_script.specs.declared.command.Command.TheVariants.{Routes, Route}
use Rattle.am_script.specs.declared.command.GivenMoment.{GivenMoment}
use Rattle.am_script.specs.declared.command.GivenMoment.TheVariants.{Absent, At, Unread}
use Rattle.am_script.specs.declared.command.Line.{Line}
use Rattle.am_script.specs.declared.command.LineFault.{LineFault}
use Rattle.am_script.specs.declared.command.LineFault.TheVariants.{BadLine, NoMemory}
use Rattle.am_script.specs.Kinds.{kind_named}
use Rattle.am_script.specs.Members.{◌>>=◌, moment_at, text_member}
use Rattle.am_script.specs.Puts.{alerts_at}
use Rattle.am_script.specs.declared.kind.Kind.{Kind}
use Rattle.am_script.specs.declared.kind.Kind.TheVariants.{Plain}
use Rattle.am_script.specs.declared.command.Verb.{Verb}
use Rattle.am_script.specs.declared.command.Verb.TheVariants as verb

-- a number from low to high
abbrev pub within : ℕ → ℕ → ℕ → Option ℕ
within low high n = if nat_le low n && nat_le n high then Some n else None

-- a member that is a whole number from low to high
abbrev pub number_member : List ℕ → ℕ → ℕ → Data → Option ℕ
number_member name low high d = option_and_then (within low high)
    (option_and_then as_u64 (option_and_then as_number (get name d)))

-- the thread that gives the command, one of eight
abbrev pub thread_of : Data → Option ℕ
thread_of d = number_member (codes "thread") 0 7 d

-- the moment of `at`
abbrev pub moment_of : Data → Option ℕ
moment_of d = moment_at (codes "at") d

-- a member that is there: a moment, or none
abbrev pub given_as : Option ℕ → GivenMoment
given_as (Some moment) = At moment
given_as None = Unread

-- what `at` is, if there is that member
abbrev pub given_moment_of : Data → GivenMoment
given_moment_of d = if is_some (get (codes "at") d) then given_as (moment_of d) else Absent

-- the moment that is given, if one is
abbrev pub moment_in : GivenMoment → Option ℕ
moment_in (At moment) = Some moment
moment_in Absent = None
moment_in Unread = None

-- a text that isn't empty
abbrev pub unless_empty : List ℕ → Option (List ℕ)
unless_empty [] = None
unless_empty (byte ∷ bytes) = Some (byte ∷ bytes)

-- the subscription's name in `sub`, which isn't empty
abbrev pub name_of : Data → Option (List ℕ)
name_of d = option_and_then unless_empty (text_member (codes "sub") d)

-- the kind of a subscription: `plain`, if it is absent
abbrev pub kind_of : Data → Option Kind
kind_of d =
    if is_some (get (codes "kind") d)
    then option_and_then kind_named (text_member (codes "kind") d) else Some Plain

-- the greatest number of calls of `next` that a read makes, or of alerts that a page has: one, if `max` is
-- absent
abbrev pub max_of : Data → Option ℕ
max_of d = if is_some (get (codes "max") d) then number_member (codes "max") 1 65536 d else Some 1

-- the index of the first alert of a page of what is stored: 0, if `from` is absent
abbrev pub from_of : Data → Option ℕ
from_of d =
    if is_some (get (codes "from") d) then number_member (codes "from") 0 4294967295 d else Some 0

-- a page of what is stored: from an index on, with at most a number of alerts
abbrev pub page_of : Data → Option Command
page_of d = do
  from ← from_of d
  max ← max_of d
  Some (StoredPage from max)

-- the label set of an object's members as an alert's is made of them: each is a text, those with an
-- empty value are ignored, and of two with one name the last holds
abbrev pub label_set_of : Members → Option Labels
label_set_of members = labels_of (object members)

-- the label set in `labels`
abbrev pub labels_at : Data → Option Labels
labels_at d = option_and_then labels_of (get (codes "labels") d)

-- the verb of a word
abbrev pub verb_of : List ℕ → Option Verb
verb_of text =
    if bytes_eq text (codes "post") then Some verb.Post
    else (if bytes_eq text (codes "put") then Some verb.Put
    else (if bytes_eq text (codes "subscribe") then Some verb.Subscribe
    else (if bytes_eq text (codes "read") then Some verb.Read
    else (if bytes_eq text (codes "leave") then Some verb.Leave
    else (if bytes_eq text (codes "collect") then Some verb.Collect
    else (if bytes_eq text (codes "take") then Some verb.Take
    else (if bytes_eq text (codes "close") then Some verb.Close
    else (if bytes_eq text (codes "trim") then Some verb.Trim
    else (if bytes_eq text (codes "compact") then Some verb.Compact
    else (if bytes_eq text (codes "groups") then Some verb.Groups
    else (if bytes_eq text (codes "sweep") then Some verb.Sweep
    else (if bytes_eq text (codes "forget") then Some verb.Forget
    else (if bytes_eq text (codes "mutes") then Some verb.Mutes
    else (if bytes_eq text (codes "stored") then Some verb.Stored
    else (if bytes_eq text (codes "get") then Some verb.Get
    else (if bytes_eq text (codes "routes") then Some verb.Routes
    else (if bytes_eq text (codes "route") then Some verb.Route
    else None)))))))))))))))))

-- the word in `do`
abbrev pub verb_at : Data → Option Verb
verb_at d = option_and_then verb_of (text_member (codes "do") d)

-- the command of a verb, where a post's body is posted as this
unfoldable pub command_for : Body → Data → Verb → Option Command
command_for body d verb.Post = do
  at ← moment_of d
  given ← get (codes "body") d
  Some (Post at body)
command_for body d verb.Put = do
  at ← moment_of d
  alerts ← alerts_at d
  Some (Put at alerts)
command_for body d verb.Subscribe = do
  name ← name_of d
  kind ← kind_of d
  Some (Subscribe name kind)
command_for body d verb.Read = do
  name ← name_of d
  max ← max_of d
  Some (Read name max)
command_for body d verb.Leave = option_map Leave (name_of d)
command_for body d verb.Collect = option_map Collect (moment_of d)
command_for body d verb.Take = option_map Take (moment_of d)
command_for body d verb.Close = Some Close
command_for body d verb.Trim = Some Trim
command_for body d verb.Compact = Some Compact
command_for body d verb.Groups = do
  name ← name_of d
  Some (Groups name (given_moment_of d))
command_for body d verb.Sweep = do
  name ← name_of d
  at ← moment_of d
  Some (Sweep name at)
command_for body d verb.Forget = do
  name ← name_of d
  at ← moment_of d
  Some (Forget name at)
command_for body d verb.Mutes = do
  name ← name_of d
  at ← moment_of d
  labels ← labels_at d
  Some (Mutes name at labels)
command_for body d verb.Stored = if is_some (get (codes "max") d) then page_of d else Some Stored
command_for body d verb.Get = option_map Get (labels_at d)
command_for body d verb.Routes = Some Routes
command_for body d verb.Route = option_map Route (labels_at d)

-- the line of this number, where a post's body is posted as this
unfoldable pub line_of : ℕ → Body → Data → Option Line
line_of number body d = do
  thread ← thread_of d
  word ← verb_at d
  command ← command_for body d word
  Some (record { number = number; thread = thread; command = command })

-- the body that a command posts
abbrev pub posted_body : Command → Body
posted_body (Post at body) = body
posted_body (Put at alerts) = Text []
posted_body (Subscribe name kind) = Text []
posted_body (Read name max) = Text []
posted_body (Leave name) = Text []
posted_body (Collect at) = Text []
posted_body (Take at) = Text []
posted_body Close = Text []
posted_body Trim = Text []
posted_body Compact = Text []
posted_body (Groups name at) = Text []
posted_body (Sweep name at) = Text []
posted_body (Forget name at) = Text []
posted_body (Mutes name at labels) = Text []
posted_body Stored = Text []
posted_body (StoredPage from max) = Text []
posted_body (Get labels) = Text []
posted_body Routes = Text []
posted_body (Route labels) = Text []

-- a post's body is what the line's body is posted as
abbrev pub HasItsBody : Data → Command → Type 0
HasItsBody d (Post at body) = IfSome (get (codes "body") d) (λ given. IsBodyOf given body)
HasItsBody d (Put at alerts) = ⊤
HasItsBody d (Subscribe name kind) = ⊤
HasItsBody d (Read name max) = ⊤
HasItsBody d (Leave name) = ⊤
HasItsBody d (Collect at) = ⊤
HasItsBody d (Take at) = ⊤
HasItsBody d Close = ⊤
HasItsBody d Trim = ⊤
HasItsBody d Compact = ⊤
HasItsBody d (Groups name at) = ⊤
HasItsBody d (Sweep name at) = ⊤
HasItsBody d (Forget name at) = ⊤
HasItsBody d (Mutes name at labels) = ⊤
HasItsBody d Stored = ⊤
HasItsBody d (StoredPage from max) = ⊤
HasItsBody d (Get labels) = ⊤
HasItsBody d Routes = ⊤
HasItsBody d (Route labels) = ⊤

-- what a reader returned is what the definition gives, unless memory ran out
abbrev pub IsReadAs : {X : Type 0} → Result X LineFault → Option X → Type 0
IsReadAs (Ok x) read = read ≡ Some x
IsReadAs (Err BadLine) read = read ≡ None
IsReadAs (Err NoMemory) read = ⊤

-- the same of a reader of commands, where a post's body is what the line's body is posted as
abbrev pub ReadsCommand : Data → Result Command LineFault → (Body → Option Command) → Type 0
ReadsCommand d (Ok command) read =
    HasItsBody d command × (read (posted_body command) ≡ Some command)
ReadsCommand d (Err BadLine) read = (body : Body) → read body ≡ None
ReadsCommand d (Err NoMemory) read = ⊤

-- what reading a line's JSON answers
abbrev pub IsLineFrom : ℕ → Data → Result Line LineFault → Type 0
IsLineFrom number d (Ok line) =
    HasItsBody d line.command × (line_of number (posted_body line.command) d ≡ Some line)
IsLineFrom number d (Err BadLine) = (body : Body) → line_of number body d ≡ None
IsLineFrom number d (Err NoMemory) = ⊤

-- what reading a line answers: the command of its JSON, or that it has none
abbrev pub IsLineOf : ℕ → List ℕ → Result Line LineFault → Type 0
IsLineOf number bytes (Ok line) =
    IsUtf8 bytes × ((d : Data) × (read bytes ≡ Some d) × IsLineFrom number d (Ok line))
IsLineOf number bytes (Err BadLine) = (IsUtf8 bytes → read bytes ≡ None) ⊎ ((d : Data)
    × (read bytes ≡ Some d) × IsLineFrom number d (Err BadLine))
IsLineOf number bytes (Err NoMemory) = ⊤

-- the command of a line whose thread isn't looked at, where a post's body is posted as this
unfoldable pub command_of : Body → Data → Option Command
command_of body d = do
  word ← verb_at d
  command_for body d word

-- what reading such a line answers: the command of its JSON, or that it has none
abbrev pub IsCommandOf : List ℕ → Result Command LineFault → Type 0
IsCommandOf bytes (Ok command) = IsUtf8 bytes
    × ((d : Data) × (read bytes ≡ Some d) × ReadsCommand d (Ok command) (λ body. command_of body d))
IsCommandOf bytes (Err BadLine) = (IsUtf8 bytes → read bytes ≡ None) ⊎ ((d : Data)
    × (read bytes ≡ Some d) × ReadsCommand d (Err BadLine) (λ body. command_of body d))
IsCommandOf bytes (Err NoMemory) = ⊤
