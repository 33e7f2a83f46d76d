-- What steps do to lanes, accounts and views.
use Rattle.std.specs.Prelude.{◌≡◌, ℕ, zero, suc, ◌+◌, ◌*◌, ◌/◌, ◌%◌, List, [], ◌∷◌, ◌++◌, map, length}
use Rattle.std.specs.Prelude.{slice_set, Option, Some, None, Bool, true, false, ◌==◌}
use mathlib.Core.Option.{some}
use lib.ListN.{get_elem?}
use Rattle.atomic_table.specs.Table.{rest}
use Rattle.am_cast.specs.declared.views.Tail.{Tail}
use Rattle.am_cast.specs.declared.views.Account.{Account}
use Rattle.am_cast.specs.declared.views.WriterView.{WriterView}
use Rattle.am_cast.specs.declared.views.LaneView.{LaneView}
use Rattle.am_cast.specs.declared.views.Own.{Own}
use Rattle.am_cast.specs.declared.views.View.{View}
use Rattle.am_cast.specs.Rule.{idle, live, cut, vacated}

-- the writer knows this
abbrev pub with_writer : {B K A : Type 0} → WriterView B K A → View B K A → View B K A
with_writer q w = record w { writer = Some q }

-- the lane in a view is this
abbrev pub with_lane : {B K A : Type 0} → LaneView B A → View B K A → View B K A
with_lane v w = record w { lane = Some v }

-- the lane has begun
abbrev pub opened : {B A : Type 0} → LaneView B A → LaneView B A
opened v = record v { begun = true }

-- it saw this log, and whether it was closed
abbrev pub seeing : {B A : Type 0} → List B → Bool → LaneView B A → LaneView B A
seeing front told v = record v { front = front; told = told; looks = v.looks + 1 }

-- the key of the next place is in its hand
abbrev pub holding : {B A : Type 0} → LaneView B A → LaneView B A
holding v = record v { held = true }

-- it has answered that it was cut
abbrev pub cut_off : {B A : Type 0} → LaneView B A → LaneView B A
cut_off v = record v { cut = true }

-- one place further; an odd word shows that the lane was cut
abbrev pub further : {B A : Type 0} → ℕ → LaneView B A → LaneView B A
further n v = record v { passed = v.passed + 1; held = false; cut = n % 2 == 1 }

-- it was left
abbrev pub left : {B A : Type 0} → LaneView B A → LaneView B A
left v = record v { here = false; begun = false; held = false }

-- the slot in hand goes home, if there was one
abbrev pub laid_down : {K : Type 0} → Bool → List (ℕ × Option K) → List (ℕ × Option K)
laid_down true c = rest c
laid_down false c = c

-- of the lane l the writer knows b
abbrev pub with_account : {B K A : Type 0} → ℕ → Account K A → WriterView B K A → WriterView B K A
with_account l b q = record q { accounts = slice_set q.accounts l b }

-- one load more of the lane's word
abbrev pub loaded : {K A : Type 0} → Account K A → Account K A
loaded b = record b { loads = b.loads + 1 }

-- the lane has left: it gets no key more
abbrev pub marked : {K A : Type 0} → Account K A → Account K A
marked b = record b { stand = vacated; loads = b.loads + 1 }

-- the word n was found
abbrev pub known_to : {K A : Type 0} → ℕ → Account K A → Account K A
known_to n b = record b { known = n / 4; half = n / 2; loads = b.loads + 1 }

-- the key that was away is the one key left
abbrev pub returned : {K A : Type 0} → Account K A → Account K A
returned b = record b { away = false; cleared = b.known; stop = suc b.known }

-- the lane is found to have passed that many places, and the key that was away is the one key left
abbrev pub back : {K A : Type 0} → ℕ → Account K A → Account K A
back passed b = record (returned b) { known = passed }

-- the same, if that key was away
abbrev pub back_if : {K A : Type 0} → Bool → Account K A → Account K A
back_if true b = returned b
back_if false b = b

-- the lane is idle
abbrev pub retired : {K A : Type 0} → Account K A → Account K A
retired b = record (back_if b.away b) { stand = idle; loads = b.loads + 1 }

-- the lane is idle, and all its keys are home
abbrev pub emptied : {K A : Type 0} → Account K A → Account K A
emptied b = record (retired b) { cleared = (retired b).stop }

-- the lane is given out, from the place n on
abbrev pub given_out : {K A : Type 0} → Option A → ℕ → Account K A → Account K A
given_out note n b = record {
  stand = live;
  turn = suc b.turn;
  note = note;
  start = n;
  known = n;
  half = 2 * n;
  cleared = n;
  stop = n;
  away = false;
  out = 0;
  laid = None;
  loads = b.loads;
}

-- the lane as its seat has it then. It begins at the log's end, as a receiver of tokio's `Sender::subscribe`
abbrev pub new_lane : {B K A : Type 0} → Option A → ℕ → Tail B → Account K A → LaneView B A
new_lane note l t b = record {
  number = l;
  places = t.places;
  turn = suc b.turn;
  note = note;
  start = length t.log;
  here = true;
  begun = false;
  front = t.log;
  passed = length t.log;
  held = false;
  told = false;
  cut = false;
  looks = 0;
}

-- the lane is cut, and h is 1 if a key is in its hand
abbrev pub severed : {K A : Type 0} → ℕ → Account K A → Account K A
severed h b = record b { stand = cut; away = h == 1; cleared = b.cleared + h }

-- the slot of the place i is in the writer's hand
abbrev pub reaching : {K A : Type 0} → ℕ → Account K A → Account K A
reaching i b = record b { out = suc i }

-- the slot in hand went home with the key of the next place
abbrev pub laying : {K A : Type 0} → K → Account K A → Account K A
laying k b = record b { out = 0; laid = Some k }

-- the slot in hand went home empty
abbrev pub clearing : {K A : Type 0} → Account K A → Account K A
clearing b = record b { out = 0; cleared = suc b.cleared }

-- what a publish makes of an account
abbrev pub grown_as : {K A : Type 0} → ℕ → Account K A → Account K A
grown_as (suc zero) b = record b { stop = suc b.stop; laid = None }
grown_as _ b = b

-- the next place is there: a live lane has its key of it
abbrev pub grown : {K A : Type 0} → Account K A → Account K A
grown b = grown_as b.stand b

-- the log with one batch more
abbrev pub longer_tail : {B : Type 0} → B → Tail B → Tail B
longer_tail x t = record t { log = t.log ++ x ∷ [] }

-- what the writer knows then
abbrev pub longer : {B K A : Type 0} → B → WriterView B K A → WriterView B K A
longer x q = record { tail = longer_tail x q.tail; accounts = map grown q.accounts }

-- the log is closed
abbrev pub shut_tail : {B : Type 0} → Tail B → Tail B
shut_tail t = record t { closed = true }

-- what the writer knows then
abbrev pub shut : {B K A : Type 0} → WriterView B K A → WriterView B K A
shut q = record q { tail = shut_tail q.tail }

-- a place that is a seat's own
abbrev pub own_at : {B : Type 0} → ℕ → B → Own B
own_at place x = record { place = place; batch = x }

-- the seat's own places are in the log, each with its batch
abbrev pub AreInLog : {B : Type 0} → List (Own B) → List B → Type 0
AreInLog {B = B} own log = (k : ℕ) (o : Own B) → get_elem? own k ≡ some o
    → get_elem? log o.place ≡ some o.batch

-- the log that the writer's part knows, or else h
abbrev pub log_of : {B K A : Type 0} → Option (WriterView B K A) → List B → List B
log_of (Some q) h = q.tail.log
log_of None h = h

-- the log that the lane's part has seen, or else h
abbrev pub front_of : {B A : Type 0} → Option (LaneView B A) → List B → List B
front_of (Some v) h = v.front
front_of None h = h

-- whether the writer's part knows it closed, or else h
abbrev pub closed_of : {B K A : Type 0} → Option (WriterView B K A) → Bool → Bool
closed_of (Some q) h = q.tail.closed
closed_of None h = h

-- whether the lane's last look showed the log closed; without a lane, h
abbrev pub told_of : {B A : Type 0} → Option (LaneView B A) → Bool → Bool
told_of (Some v) h = v.told
told_of None h = h

-- a view that knows of the log what this one knows
abbrev pub copied : {B K A : Type 0} → View B K A → View B K A
copied w = record {
  writer = None;
  lane = None;
  noted = [];
  heard = log_of w.writer (front_of w.lane w.noted);
  whole = closed_of w.writer (told_of w.lane false);
  own = [];
  counted = 0;
}

-- the lane gets its own seat
abbrev pub without_lane : {B K A : Type 0} → View B K A → View B K A
without_lane w = record w { lane = None }

-- the other half: the lane alone
abbrev pub only_lane : {B K A : Type 0} → View B K A → View B K A
only_lane w = record {
  writer = None;
  lane = w.lane;
  noted = [];
  heard = [];
  whole = false;
  own = [];
  counted = 0;
}

-- the own places go to another seat
abbrev pub without_own : {B K A : Type 0} → View B K A → View B K A
without_own w = record w { own = []; counted = 0 }

-- the other half: the own places alone
abbrev pub only_own : {B K A : Type 0} → View B K A → View B K A
only_own w = record {
  writer = None;
  lane = None;
  noted = [];
  heard = [];
  whole = false;
  own = w.own;
  counted = 0;
}

-- the first, if there is one, or else the second
abbrev pub either_one : {X : Type 0} → Option X → Option X → Option X
either_one (Some x) o = Some x
either_one None o = o

-- all that two seats know and own, and of the log what the second has heard
abbrev pub both_of : {B K A : Type 0} → View B K A → View B K A → View B K A
both_of v w = record {
  writer = either_one v.writer w.writer;
  lane = either_one v.lane w.lane;
  noted = v.noted;
  heard = w.heard;
  whole = w.whole;
  own = v.own ++ w.own;
  counted = v.counted;
}
