-- What lies behind a table that meets the rule, and what each kind of step makes of it.
use Rattle.std.proofs.Common.{◌≡◌, ◌≢◌, ℕ, ◌+◌, ◌/◌, ◌%◌, ◌<◌, List, [], ◌∷◌, length, Option, true, false, get_or}
use lib.ListN.{get_elem?}
use mathlib.Core.Option.{some}
use Rattle.atomic_table.specs.Table.{State, Act, Valid, stepped, carried_after}
use Rattle.am_cast.specs.declared.limits.TheConstants.{LANES}
use Rattle.am_cast.specs.declared.views.Tail.{Tail}
use Rattle.am_cast.specs.declared.views.Account.{Account}
use Rattle.am_cast.specs.declared.views.LaneView.{LaneView}
use Rattle.am_cast.specs.declared.views.View.{View}
use Rattle.am_steps.specs.declared.event.Event as event
use Rattle.am_steps.specs.declared.event.Event.TheVariants as does
use Rattle.am_cast.specs.Core.{poster_behind, found_events, recover_events, cut_events, reclaim_events}
use Rattle.am_cast.specs.Rule.{Ruled, idle, live, cut, gone, bit}
use Rattle.am_cast.specs.Changes.{opened, seeing, holding, cut_off, further, left, longer_tail, shut_tail, grown, known_to, marked, back, loaded, severed, new_lane, given_out, retired}
use Rattle.am_cast.specs.Steps.{SeatState}

-- the rule's own tail, accounts and lanes
pub record Behind (B K A : Type 0) : Type 0 where
  pub tail : Tail B
  pub account : ℕ → Account K A
  pub lane : ℕ → LaneView B A

abbrev pub behind : {B K A : Type 0} {key : B → ℕ → K} {s : State (Option K) (View B K A)} → Ruled key s → Behind B K A
behind r = record { tail = r.tail; account = r.account; lane = r.lane }

-- one lane is now v, and nothing else has changed
pub record LaneTo {B K A : Type 0} (c d : Behind B K A) (l : ℕ) (v : LaneView B A) : Type 0 where
  pub tail : d.tail ≡ c.tail
  pub accounts : (m : ℕ) → d.account m ≡ c.account m
  pub others : (m : ℕ) → m ≢ l → d.lane m ≡ c.lane m
  pub lane : d.lane l ≡ v

-- of one lane the writer now knows b, and nothing else has changed
pub record AccountTo {B K A : Type 0} (c d : Behind B K A) (l : ℕ) (b : Account K A) : Type 0 where
  pub tail : d.tail ≡ c.tail
  pub lanes : (m : ℕ) → d.lane m ≡ c.lane m
  pub others : (m : ℕ) → m ≢ l → d.account m ≡ c.account m
  pub account : d.account l ≡ b

-- one lane is now v, of which the writer knows b, and nothing else has changed
pub record BothTo {B K A : Type 0} (c d : Behind B K A) (l : ℕ) (v : LaneView B A) (b : Account K A) : Type 0 where
  pub tail : d.tail ≡ c.tail
  pub lanes : (m : ℕ) → m ≢ l → d.lane m ≡ c.lane m
  pub accounts : (m : ℕ) → m ≢ l → d.account m ≡ c.account m
  pub lane : d.lane l ≡ v
  pub account : d.account l ≡ b

-- the writer's work on its slots changes nothing that the core sees
pub record SameAccount {K A : Type 0} (b b' : Account K A) : Type 0 where
  pub stand : b'.stand ≡ b.stand
  pub turn : b'.turn ≡ b.turn
  pub note : b'.note ≡ b.note
  pub start : b'.start ≡ b.start
  pub known : b'.known ≡ b.known
  pub half : b'.half ≡ b.half
  pub away : b'.away ≡ b.away

-- the kinds of step, each with the core's events that it is, where it is possible, and what it changes
pub data Event (B K A : Type 0) : Behind B K A → List (event.Event B) → Behind B K A → Type 0 where
  open_lane : (c d : Behind B K A) (l : ℕ) → l < LANES → (c.lane l).here ≡ true → (c.lane l).begun ≡ false → LaneTo c d l (opened (c.lane l)) → Event B K A c (does.Open l ∷ []) d
  look : (c d : Behind B K A) (l : ℕ) → l < LANES → (c.lane l).begun ≡ true → LaneTo c d l (seeing c.tail.log c.tail.closed (c.lane l)) → Event B K A c (does.Look l ∷ []) d
  take : (c d : Behind B K A) (l : ℕ) → l < LANES → (c.lane l).begun ≡ true → (c.account l).stand ≡ live → (c.lane l).held ≡ false → (c.lane l).passed < length (c.lane l).front → LaneTo c d l (holding (c.lane l)) → Event B K A c (does.Take l ∷ []) d
  take_cut : (c d : Behind B K A) (l : ℕ) → l < LANES → (c.lane l).begun ≡ true → (c.account l).stand ≡ cut → (c.lane l).held ≡ false → (c.lane l).passed < length (c.lane l).front → LaneTo c d l (cut_off (c.lane l)) → Event B K A c (does.Take l ∷ []) d
  pass : (c d : Behind B K A) (l n : ℕ) → l < LANES → (c.lane l).begun ≡ true → (c.lane l).held ≡ true → n % 2 ≡ (c.account l).stand / 2 → LaneTo c d l (further n (c.lane l)) → Event B K A c (does.Pass l ∷ []) d
  leave : (c d : Behind B K A) (l : ℕ) → l < LANES → (c.lane l).begun ≡ true → LaneTo c d l (left (c.lane l)) → Event B K A c (does.Leave l ∷ []) d
  publish : (c d : Behind B K A) (x : B) → c.tail.closed ≡ false → ((l : ℕ) → l < LANES → (c.account l).stand ≡ live → (c.account l).stop < (c.account l).cleared + c.tail.places) → d.tail ≡ longer_tail x c.tail → ((l : ℕ) → d.account l ≡ grown (c.account l)) → ((l : ℕ) → d.lane l ≡ c.lane l) → Event B K A c (does.Publish x ∷ []) d
  close : (c d : Behind B K A) → c.tail.closed ≡ false → d.tail ≡ shut_tail c.tail → ((l : ℕ) → d.account l ≡ c.account l) → ((l : ℕ) → d.lane l ≡ c.lane l) → Event B K A c (does.Close ∷ []) d
  harvest : (c d : Behind B K A) (l n : ℕ) → l < LANES → n ≢ gone → (c.account l).stand ≡ live → (c.lane l).here ≡ true → n / 4 ≡ (c.lane l).passed → n / 2 % 2 ≡ bit (c.lane l).held → AccountTo c d l (known_to n (c.account l)) → Event B K A c (found_events l n) d
  mark : (c d : Behind B K A) (l n : ℕ) → l < LANES → n ≡ gone → (c.account l).stand ≡ live → (c.lane l).here ≡ false → AccountTo c d l (marked (c.account l)) → Event B K A c (found_events l n) d
  recover : (c d : Behind B K A) (l n : ℕ) → l < LANES → n / 2 % 2 ≡ 0 → (c.account l).stand ≡ cut → (c.lane l).here ≡ true → (c.lane l).held ≡ false → n / 4 ≡ (c.lane l).passed → AccountTo c d l (back (n / 4) (loaded (c.account l))) → Event B K A c (recover_events l n) d
  peek : (c d : Behind B K A) (l n : ℕ) → n / 2 % 2 ≢ 0 → AccountTo c d l (loaded (c.account l)) → Event B K A c (recover_events l n) d
  sever : (c d : Behind B K A) (l n old : ℕ) → l < LANES → n ≡ old → (c.account l).stand ≡ live → (c.lane l).here ≡ true → (c.lane l).passed ≡ (c.account l).known → n / 2 % 2 ≡ bit (c.lane l).held → n / 2 ≡ (c.account l).half → length c.tail.log ≡ (c.account l).known + c.tail.places → AccountTo c d l (severed (n / 2 % 2) (c.account l)) → Event B K A c (cut_events l old n) d
  moved : (c d : Behind B K A) (l n old : ℕ) → n ≢ old → Event B K A c (found_events l n) d → Event B K A c (cut_events l old n) d
  admit : (c d : Behind B K A) (l : ℕ) (note : Option A) → l < LANES → c.tail.closed ≡ false → (c.account l).stand ≡ idle → BothTo c d l (new_lane note l c.tail (c.account l)) (given_out note (length c.tail.log) (c.account l)) → Event B K A c (does.Admit l ∷ []) d
  retire : (c d : Behind B K A) (l : ℕ) → l < LANES → (c.lane l).begun ≡ true → BothTo c d l (left (c.lane l)) (retired (c.account l)) → Event B K A c (does.Leave l ∷ does.Retire l ∷ []) d
  reclaim : (c d : Behind B K A) (l n : ℕ) → l < LANES → n ≡ gone → (c.account l).stand ≢ idle → (c.lane l).here ≡ false → AccountTo c d l (retired (c.account l)) → Event B K A c (reclaim_events l (c.account l).stand n) d
  watch : (c d : Behind B K A) (l n : ℕ) → n ≢ gone → AccountTo c d l (loaded (c.account l)) → Event B K A c (reclaim_events l (c.account l).stand n) d
  work : (c d : Behind B K A) (l : ℕ) (b' : Account K A) → SameAccount (c.account l) b' → AccountTo c d l b' → Event B K A c [] d

-- `Allows`, where the step is these events too, by the word that it finds
abbrev pub AllowsEvent : {B K A : Type 0} → (B → ℕ → K) → ℕ → ℕ → SeatState B K A → ℕ → (ℕ → ℕ) → (ℕ → List (event.Event B)) → (ℕ → SeatState B K A → Type 0) → Type 0
AllowsEvent {B = B} {K = K} {A = A} key slots id me i f es then = (s : State (Option K) (View B K A)) (r : Ruled key s) → length s.homes ≡ slots → get_elem? s.views id ≡ some me.0 → get_or s.words i 0 < 18446744073709551616
    → (w : View B K A) × (a : Act (Option K)) × Valid s.homes me.1 a × ((q : Ruled key (stepped s i (f (get_or s.words i 0)) id me.1 w a)) × Event B K A (behind r) (es (get_or s.words i 0)) (behind q) × (poster_behind w ≡ poster_behind me.0)) × then (get_or s.words i 0) (w, carried_after me.1 a)
