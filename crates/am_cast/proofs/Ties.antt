-- Each kind of step is these events of the core.
use Rattle.std.proofs.Common.{◌≡◌, ◌≢◌, ℕ, zero, suc, ◌+◌, ◌/◌, ◌%◌, ◌<◌, ◌≤◌, ◌⊎◌, inl, inr, List, [], ◌∷◌, ◌++◌, length, take, drop, set, get_or, sym, refl, ap, ◌∙◌, subst, arith, Some, Bool, true, false, true≢false, ◌||◌, ◌==◌, nat_lt, if◌then◌else◌, slice_get, rules}
use Rattle.std.proofs.lemmas.Bool.{eq-eqb, ne_eqb, lt-ltb, le-ltb, cases_lt}
use Rattle.std.proofs.lemmas.Option.{none-some}
use mathlib.Core.Logic.{dite}
use mathlib.Core.List.{IsPrefix}
use mathlib.Core.Option as maybe
use mathlib.Core.Option.{some, some-injective}
use native.Mathlib.Decide.{ℕ_discrete}
use lib.ListN.{get_elem?}
use Rattle.std.proofs.lemmas.List.{drop_all, length-take-le, drop-append-le}
use Rattle.am_steps.proofs.Common.{take_more_at, slice_get_append}
use lib.Seq.{take-append-le}
use Rattle.atomic_table.proofs.Lists.{set_here, set_else}
use Rattle.am_steps.specs.declared.lane_record.LaneRecord.{LaneRecord}
use Rattle.am_steps.specs.declared.cursor.Cursor.{Cursor}
use Rattle.am_steps.specs.declared.lane.Lane.{Lane}
use Rattle.am_steps.specs.declared.lane.Lane.TheVariants.{Idle, Admitted, Open, Left}
use Rattle.am_steps.specs.declared.poster.Poster.{Poster}
use Rattle.am_steps.specs.declared.event.Event as event
use Rattle.am_steps.specs.declared.event.Event.TheVariants as does
use Rattle.am_steps.specs.States.{Core, record_of, with_record, word_of}
use Rattle.am_steps.specs.Steps as steps
use Rattle.am_steps.specs.Steps.{Step, SameLog, OnlyLane, MayGrow}
use Rattle.am_steps.specs.Runs.{LeadsTo, none, then as leads}
use Rattle.am_cast.specs.declared.limits.TheConstants.{LANES}
use Rattle.am_cast.specs.declared.views.Tail.{Tail}
use Rattle.am_cast.specs.declared.views.Account.{Account}
use Rattle.am_cast.specs.declared.views.LaneView.{LaneView}
use Rattle.am_cast.specs.declared.views.View.{View}
use Rattle.am_cast.specs.Rule.{idle, live, cut, vacated, gone, bit, Sound}
use Rattle.am_cast.specs.Changes.{opened, seeing, holding, cut_off, further, left, grown_as, known_to, marked, back, loaded, severed, retired}
use Rattle.am_cast.specs.Core.{is_key_out, record_behind, cursor_behind, used_lane, lane_standing, lane_behind, poster_behind, view_or_blank, core_behind, found_events, recover_events, cut_events, retire_events, reclaim_events, AllowsAs}
use Rattle.am_cast.specs.Steps.{SeatState}
use Rattle.am_cast.proofs.Events as kind
use Rattle.am_cast.proofs.Events.{Behind, behind, LaneTo, AccountTo, BothTo, SameAccount, Event, AllowsEvent}
use Rattle.am_cast.proofs.Kept.{same_some}
use Rattle.am_cast.proofs.Slots.{at_length, at_below, put, put_here, put_else}

module _ {X : Type 0} where
  pub get_at : (xs : List X) (i : ℕ) (x : X) → get_elem? xs i ≡ some x → slice_get xs i ≡ Some x
  get_at [] i x e = grind (arith, at_length)
  get_at (y ∷ ys) zero x e = ap (λ z. Some z) (some-injective y x e)
  get_at (y ∷ ys) (suc i) x e = get_at ys i x e

  -- the first so many of a longer list
  pub first_of : (xs ys : List X) (n : ℕ) → IsPrefix xs ys → n ≤ length xs → take n ys ≡ take n xs
  first_of xs ys n p h = ap (λ (l : List X). take n l) (sym p.1) ∙ take-append-le n xs p.0 h

-- a lane that isn't idle, and not found vacated
abbrev pub IsUsed : ℕ → Type 0
IsUsed n = (n ≡ live) ⊎ (n ≡ cut)

pub used_by : (n : ℕ) → n < 4 → n ≢ idle → n ≢ vacated → IsUsed n
used_by n a b c = dite (ℕ_discrete n live) (λ e. inl e) (λ ne. inr (omega arith))

module _ {B : Type 0} where
  standing : (n : ℕ) (v : Lane B) → IsUsed n → lane_standing n v ≡ v
  standing n v z = grind arith

  -- only a used lane has a record
  pub standing_record : (n : ℕ) (v : Lane B) (m : LaneRecord) → record_of (lane_standing n v) ≡ Some m → IsUsed n × (record_of v ≡ Some m)
  standing_record n v m e = grind (arith, none-some)

  pub inside : (l : ℕ) (v : Lane B) → l < LANES → (if nat_lt l LANES then v else Idle) ≡ v
  inside l v small = ap (λ (b : Bool). if b then v else Idle) (lt-ltb l LANES small)

  one : (c d : Core B) (e : event.Event B) → Step c e d → LeadsTo c (e ∷ []) d
  one c d e s = leads c d d e [] s (none d)

  pub used_record : (here begun : Bool) (m : LaneRecord) (r : Cursor B) → record_of (used_lane here begun m r) ≡ Some m
  used_record here begun m r = grind arith

  used_with : (here begun : Bool) (m n : LaneRecord) (r : Cursor B) → used_lane here begun n r ≡ with_record n (used_lane here begun m r)
  used_with here begun m n r = grind arith

module _ {B : Type 0} where
  found_gone : (l n : ℕ) → n ≡ gone → found_events {B = B} l n ≡ does.Retire l ∷ []
  found_gone l n e = ap (λ (b : Bool). if b then (does.Retire l ∷ []) else (does.Harvest l ∷ [])) (eq-eqb n gone e)

  found_here : (l n : ℕ) → n ≢ gone → found_events {B = B} l n ≡ does.Harvest l ∷ []
  found_here l n ne = ap (λ (b : Bool). if b then (does.Retire l ∷ []) else (does.Harvest l ∷ [])) (ne_eqb n gone ne)

  recover_back : (l n : ℕ) → n / 2 % 2 ≡ 0 → recover_events {B = B} l n ≡ does.Harvest l ∷ []
  recover_back l n e = ap (λ (b : Bool). if b then (does.Harvest l ∷ []) else []) (eq-eqb (n / 2 % 2) 0 e)

  recover_away : (l n : ℕ) → n / 2 % 2 ≢ 0 → recover_events {B = B} l n ≡ []
  recover_away l n ne = ap (λ (b : Bool). if b then (does.Harvest l ∷ []) else []) (ne_eqb (n / 2 % 2) 0 ne)

  cut_hit : (l old n : ℕ) → n ≡ old → cut_events {B = B} l old n ≡ does.Cut l ∷ []
  cut_hit l old n e = ap (λ (b : Bool). if b then (does.Cut l ∷ []) else found_events l n) (eq-eqb n old e)

  cut_miss : (l old n : ℕ) → n ≢ old → cut_events {B = B} l old n ≡ found_events l n
  cut_miss l old n ne = ap (λ (b : Bool). if b then (does.Cut l ∷ []) else found_events l n) (ne_eqb n old ne)

  home_vacated : (l stand : ℕ) → stand ≡ vacated → retire_events {B = B} l stand ≡ []
  home_vacated l stand e = ap (λ (b : Bool). if b then [] else (does.Retire l ∷ [])) (eq-eqb stand vacated e)

  home_used : (l stand : ℕ) → stand ≢ vacated → retire_events {B = B} l stand ≡ does.Retire l ∷ []
  home_used l stand ne = ap (λ (b : Bool). if b then [] else (does.Retire l ∷ [])) (ne_eqb stand vacated ne)

  reclaim_left : (l stand n : ℕ) → n ≡ gone → reclaim_events {B = B} l stand n ≡ retire_events l stand
  reclaim_left l stand n e = ap (λ (b : Bool). if b then retire_events l stand else []) (eq-eqb n gone e)

  reclaim_here : (l stand n : ℕ) → n ≢ gone → reclaim_events {B = B} l stand n ≡ []
  reclaim_here l stand n ne = ap (λ (b : Bool). if b then retire_events l stand else []) (ne_eqb n gone ne)

bit_tells : (h : Bool) (n : ℕ) → n ≡ bit h → (n == 1) ≡ h
bit_tells h n e = grind arith

or_true : (b : Bool) → (b || true) ≡ true
or_true b = grind arith

pub by_bool : (b : Bool) {P : Type 0} → (b ≡ true → P) → (b ≡ false → P) → P
by_bool true f g = f refl
by_bool false f g = g refl

module _ {K A : Type 0} where
  live_flags : (b : Account K A) → b.stand ≡ live → (n : ℕ) (h : Bool) → b.half % 2 ≡ bit h → (is_key_out b ≡ h) × ((b.stand == cut) ≡ false)
  live_flags b e n h f = grind (arith, ne_eqb, bit_tells)

  pub cut_flag : (b : Account K A) → b.stand ≡ cut → (b.stand == cut) ≡ true
  cut_flag b e = eq-eqb b.stand cut e

module _ {B K A : Type 0} where
  -- a used lane
  used_is : (b : Account K A) (v : LaneView B A) → IsUsed b.stand → lane_behind b v ≡ used_lane v.here v.begun (record_behind b) (cursor_behind v)
  used_is b v used = standing b.stand (used_lane v.here v.begun (record_behind b) (cursor_behind v)) used

  pub open_is : (b : Account K A) (v : LaneView B A) → IsUsed b.stand → v.here ≡ true → v.begun ≡ true → lane_behind b v ≡ Open (record_behind b) (cursor_behind v)
  open_is b v used here begun = used_is b v used ∙ (λ i. used_lane (here i) (begun i) (record_behind b) (cursor_behind v))

  pub admitted_is : (b : Account K A) (v : LaneView B A) → IsUsed b.stand → v.here ≡ true → v.begun ≡ false → lane_behind b v ≡ Admitted (record_behind b)
  admitted_is b v used here begun = used_is b v used ∙ (λ i. used_lane (here i) (begun i) (record_behind b) (cursor_behind v))

  pub left_is : (b : Account K A) (v : LaneView B A) → IsUsed b.stand → v.here ≡ false → lane_behind b v ≡ Left (record_behind b)
  left_is b v used here = used_is b v used ∙ (λ i. used_lane (here i) v.begun (record_behind b) (cursor_behind v))

  record_is : (b : Account K A) (v : LaneView B A) → IsUsed b.stand → record_of (lane_behind b v) ≡ Some (record_behind b)
  record_is b v used = ap (λ (x : Lane B). record_of x) (used_is b v used) ∙ used_record v.here v.begun (record_behind b) (cursor_behind v)

  -- the word that it shows
  word_is : (t : Tail B) (b : Account K A) (v : LaneView B A) (l : ℕ) → Sound t b v l → IsUsed b.stand → v.here ≡ true → word_of (lane_behind b v) ≡ Some (record { passed = v.passed; held = v.held })
  word_is t b v l sd used here = grind (arith, by_bool, open_is, admitted_is)

  -- another record
  with_is : (b b' : Account K A) (v : LaneView B A) (m : LaneRecord) → IsUsed b.stand → IsUsed b'.stand → record_behind b' ≡ m → lane_behind b' v ≡ with_record m (lane_behind b v)
  with_is b b' v m used used' e = grind (arith, used_is, used_with)

  grown_is : (n : ℕ) (b : Account K A) (v : LaneView B A) → lane_behind (grown_as n b) v ≡ lane_behind b v
  grown_is n b v = grind arith

  module _ (posters : ℕ) (poster poster' : ℕ → Poster B) (still : (p : ℕ) → poster' p ≡ poster p) where
    abbrev before : Behind B K A → Core B
    before c = core_behind posters poster c.tail c.account c.lane

    abbrev after : Behind B K A → Core B
    after d = core_behind posters poster' d.tail d.account d.lane

    lane_now : (d : Behind B K A) (l : ℕ) (v : Lane B) → l < LANES → lane_behind (d.account l) (d.lane l) ≡ v → (after d).lane l ≡ v
    lane_now d l v small e = inside l (lane_behind (d.account l) (d.lane l)) small ∙ e

    lane_was : (c : Behind B K A) (l : ℕ) (v : Lane B) → l < LANES → lane_behind (c.account l) (c.lane l) ≡ v → (before c).lane l ≡ v
    lane_was c l v small e = inside l (lane_behind (c.account l) (c.lane l)) small ∙ e

    lane_same : (c d : Behind B K A) (k : ℕ) → lane_behind (d.account k) (d.lane k) ≡ lane_behind (c.account k) (c.lane k) → (after d).lane k ≡ (before c).lane k
    lane_same c d k e = ap (λ (v : Lane B). if nat_lt k LANES then v else Idle) e

    same_log : (c d : Behind B K A) → d.tail ≡ c.tail → SameLog (before c) (after d)
    same_log c d e = grind arith

    only : (c d : Behind B K A) (l : ℕ) (v : Lane B) → l < LANES → d.tail ≡ c.tail → ((m : ℕ) → m ≢ l → d.account m ≡ c.account m) → ((m : ℕ) → m ≢ l → d.lane m ≡ c.lane m) → lane_behind (d.account l) (d.lane l) ≡ v → OnlyLane (before c) l v (after d)
    only c d l v small t accounts lanes e = grind (arith, same_log, lane_now, lane_same)

    -- one lane is now v
    lane_only : (c d : Behind B K A) (l : ℕ) (w : LaneView B A) (v : Lane B) → l < LANES → LaneTo c d l w → lane_behind (c.account l) w ≡ v → OnlyLane (before c) l v (after d)
    lane_only c d l w v small to e = only c d l v small to.tail (λ m ne. to.accounts m) to.others ((λ i. lane_behind (to.accounts l i) (to.lane i)) ∙ e)

    -- of one lane the writer now knows b
    account_only : (c d : Behind B K A) (l : ℕ) (b : Account K A) (v : Lane B) → l < LANES → AccountTo c d l b → lane_behind b (c.lane l) ≡ v → OnlyLane (before c) l v (after d)
    account_only c d l b v small to e = only c d l v small to.tail to.others (λ m ne. to.lanes m) ((λ i. lane_behind (to.account i) (to.lanes l i)) ∙ e)

    -- nothing that the core sees has changed
    silent : (c d : Behind B K A) → d.tail ≡ c.tail → ((l : ℕ) → lane_behind (d.account l) (d.lane l) ≡ lane_behind (c.account l) (c.lane l)) → before c ≡ after d
    silent c d t lanes = grind arith

    quiet : (c d : Behind B K A) → d.tail ≡ c.tail → ((l : ℕ) → lane_behind (d.account l) (d.lane l) ≡ lane_behind (c.account l) (c.lane l)) → LeadsTo (before c) [] (after d)
    quiet c d t lanes = subst (LeadsTo (before c) []) (silent c d t lanes) (none (before c))

    account_quiet : (c d : Behind B K A) (l : ℕ) (b : Account K A) → AccountTo c d l b → lane_behind b (c.lane l) ≡ lane_behind (c.account l) (c.lane l) → LeadsTo (before c) [] (after d)
    account_quiet c d l b to e = quiet c d to.tail (λ m. dite (ℕ_discrete m l)
        (grind arith)
        (λ ne. λ i. lane_behind (to.others m ne i) (to.lanes m i)))

    abbrev IsSoundBehind : Behind B K A → Type 0
    IsSoundBehind c = (l : ℕ) → l < LANES → Sound c.tail (c.account l) (c.lane l) l

    used_here : (c : Behind B K A) (l : ℕ) → Sound c.tail (c.account l) (c.lane l) l → (c.lane l).here ≡ true → IsUsed (c.account l).stand
    used_here c l sd here = used_by (c.account l).stand sd.counts.stands (λ e. true≢false (sym here ∙ sd.idles e)) (λ e. true≢false (sym here ∙ sd.vacates e))

    opens_step : (c d : Behind B K A) (l : ℕ) → IsSoundBehind c → l < LANES → (c.lane l).here ≡ true → (c.lane l).begun ≡ false → LaneTo c d l (opened (c.lane l)) → Step (before c) (does.Open l) (after d)
    opens_step c d l sound small here fresh to =
        let sd = sound l small in let b : Account K A = c.account l in let v : LaneView B A = c.lane l in let used = used_here c l sd here in let u = sd.seen.unbegun here fresh in
        let long = length-take-le v.passed v.front (omega arith) in
        let got : drop v.start (take v.passed v.front) ≡ [] = drop_all v.start (take v.passed v.front) (omega (arith, long, u.passed)) in
        steps.opens (before c) (after d) l (record_behind b) (lane_was c l _ small (admitted_is b v used here fresh))
        (grind (arith, lane_only, open_is))

    look_step : (c d : Behind B K A) (l : ℕ) → IsSoundBehind c → l < LANES → (c.lane l).begun ≡ true → LaneTo c d l (seeing c.tail.log c.tail.closed (c.lane l)) → Step (before c) (does.Look l) (after d)
    look_step c d l sound small begun to =
        let sd = sound l small in let b : Account K A = c.account l in let v : LaneView B A = c.lane l in let here = sd.seen.begun begun in let used = used_here c l sd here in
        let w : LaneView B A = seeing c.tail.log c.tail.closed v in
        steps.look (before c) (after d) l (record_behind b) (cursor_behind v) (lane_was c l _ small (open_is b v used here begun))
        (lane_only c d l w _ small to (open_is b w used here begun ∙ (λ i. Open (record_behind b) (record { passed = v.passed; held = v.held; seen = length c.tail.log; told = c.tail.closed; told_cut = v.cut; got = drop v.start (first_of v.front c.tail.log v.passed sd.seen.begins sd.seen.high i) }))))

    take_step : (c d : Behind B K A) (l : ℕ) → IsSoundBehind c → l < LANES → (c.lane l).begun ≡ true → (c.account l).stand ≡ live → (c.lane l).held ≡ false → (c.lane l).passed < length (c.lane l).front → LaneTo c d l (holding (c.lane l)) → Step (before c) (does.Take l) (after d)
    take_step c d l sound small begun alive held below to =
        let sd = sound l small in let b : Account K A = c.account l in let v : LaneView B A = c.lane l in let here = sd.seen.begun begun in let used = used_here c l sd here in
        steps.take (before c) (after d) l (record_behind b) (cursor_behind v) (lane_was c l _ small (open_is b v used here begun)) held below
        (grind (arith, lane_only, open_is))

    take_cut_step : (c d : Behind B K A) (l : ℕ) → IsSoundBehind c → l < LANES → (c.lane l).begun ≡ true → (c.account l).stand ≡ cut → (c.lane l).held ≡ false → (c.lane l).passed < length (c.lane l).front → LaneTo c d l (cut_off (c.lane l)) → Step (before c) (does.Take l) (after d)
    take_cut_step c d l sound small begun is_cut held below to =
        let sd = sound l small in let b : Account K A = c.account l in let v : LaneView B A = c.lane l in let here = sd.seen.begun begun in let used = used_here c l sd here in
        steps.take (before c) (after d) l (record_behind b) (cursor_behind v) (lane_was c l _ small (open_is b v used here begun)) held below
        (grind (arith, lane_only, open_is, cut_flag))

    pass_step : (c d : Behind B K A) (l n : ℕ) → IsSoundBehind c → l < LANES → (c.lane l).begun ≡ true → (c.lane l).held ≡ true → n % 2 ≡ (c.account l).stand / 2 → LaneTo c d l (further n (c.lane l)) → Step (before c) (does.Pass l) (after d)
    pass_step c d l n sound small begun held odd to =
        let sd = sound l small in let b : Account K A = c.account l in let v : LaneView B A = c.lane l in let here = sd.seen.begun begun in let used = used_here c l sd here in
        let below = (sd.seen.holds held).1 in let p : ℕ = v.passed in let y = at_below v.front p below in let x : B = y.0 in let x_at : slice_get v.front p ≡ Some x = get_at v.front p x y.1 in
        let long : length (take p v.front) ≡ p = length-take-le p v.front (omega arith) in
        let got : drop v.start (take (p + 1) v.front) ≡ drop v.start (take p v.front) ++ x ∷ [] = ap (λ (zs : List B). drop v.start zs) (take_more_at v.front p x x_at) ∙ drop-append-le v.start (take p v.front) (x ∷ []) (omega arith) in
        let begins = sd.seen.begins in
        let there : slice_get c.tail.log p ≡ Some x = ap (λ (zs : List B). slice_get zs p) (sym begins.1) ∙ slice_get_append v.front begins.0 p x x_at in
        steps.pass (before c) (after d) l (record_behind b) (cursor_behind v) x (lane_was c l _ small (open_is b v used here begun)) held there
        (grind (arith, lane_only, open_is))
      where
        told_by : (b : Account K A) (v : LaneView B A) (n : ℕ) → IsUsed b.stand → n % 2 ≡ b.stand / 2 → (v.cut ≡ true → b.stand ≢ live) → (n % 2 == 1) ≡ (v.cut || (b.stand == cut))
        told_by b v n (inl e) odd cuts = let even : n % 2 ≡ 0 = omega arith in let not_told : v.cut ≡ false = by_bool v.cut (λ z. absurd (cuts z e)) (λ z. z) in
            ap (λ (m : ℕ). m == 1) even ∙ (λ i. sym not_told i || sym (ne_eqb b.stand cut (λ z. omega arith)) i)
        told_by b v n (inr e) odd cuts = let is : n % 2 ≡ 1 = omega arith in ap (λ (m : ℕ). m == 1) is ∙ sym (or_true v.cut) ∙ (λ i. v.cut || sym (cut_flag b e) i)

    leave_step : (c d : Behind B K A) (l : ℕ) → IsSoundBehind c → l < LANES → (c.lane l).begun ≡ true → LaneTo c d l (left (c.lane l)) → Step (before c) (does.Leave l) (after d)
    leave_step c d l sound small begun to =
        let sd = sound l small in let b : Account K A = c.account l in let v : LaneView B A = c.lane l in let here = sd.seen.begun begun in let used = used_here c l sd here in
        steps.leave (before c) (after d) l (record_behind b) (cursor_behind v) (lane_was c l _ small (open_is b v used here begun))
        (lane_only c d l (left v) _ small to (left_is b (left v) used refl))

    has_room : (c : Behind B K A) → IsSoundBehind c → ((l : ℕ) → l < LANES → (c.account l).stand ≡ live → (c.account l).stop < (c.account l).cleared + c.tail.places) → MayGrow (before c)
    has_room c sound room l m is uncut = grind (arith, cases_lt, inside, standing_record, same_some, used_record, none-some, le-ltb, true≢false, cut_flag)

    harvest_step : (c d : Behind B K A) (l n : ℕ) (b' : Account K A) → IsSoundBehind c → l < LANES → IsUsed (c.account l).stand → IsUsed b'.stand → (c.lane l).here ≡ true
        → record_behind b' ≡ record (record_behind (c.account l)) { known = (c.lane l).passed; key_out = (c.lane l).held } → AccountTo c d l b' → Step (before c) (does.Harvest l) (after d)
    harvest_step c d l n b' sound small used used' here e to =
        let sd = sound l small in let b : Account K A = c.account l in let v : LaneView B A = c.lane l in
        steps.harvest (before c) (after d) l (record_behind b) (record { passed = v.passed; held = v.held })
        (ap (λ (x : Lane B). record_of x) (inside l (lane_behind b v) small) ∙ record_is b v used)
        (ap (λ (x : Lane B). word_of x) (inside l (lane_behind b v) small) ∙ word_is c.tail b v l sd used here)
        (grind (arith, account_only, with_is, inside))

    retire_step : (c d : Behind B K A) (l : ℕ) (b' : Account K A) → l < LANES → IsUsed (c.account l).stand → (c.lane l).here ≡ false → lane_behind b' (c.lane l) ≡ Idle → AccountTo c d l b' → Step (before c) (does.Retire l) (after d)
    retire_step c d l b' small used gone_from e to =
        steps.retire (before c) (after d) l (record_behind (c.account l)) (lane_was c l _ small (left_is (c.account l) (c.lane l) used gone_from))
        (account_only c d l b' Idle small to e)

    -- the same, with the posters as they are after
    from_after : (c d : Behind B K A) (l : ℕ) (v : Lane B) → OnlyLane (before c) l v (after d) → OnlyLane (after c) l v (after d)
    from_after c d l v o = record { same = record { places = o.same.places; log = o.same.log; closed = o.same.closed; lanes = o.same.lanes; posters = o.same.posters }; here = o.here; other = o.other; poster = λ p. refl }

    leave_retire : (c d : Behind B K A) (l : ℕ) → IsSoundBehind c → l < LANES → (c.lane l).begun ≡ true → BothTo c d l (left (c.lane l)) (retired (c.account l)) → LeadsTo (before c) (does.Leave l ∷ does.Retire l ∷ []) (after d)
    leave_retire c d l sound small begun to =
        let sd = sound l small in let b : Account K A = c.account l in let v : LaneView B A = c.lane l in let here = sd.seen.begun begun in let used = used_here c l sd here in
        let m : Behind B K A = record { tail = c.tail; account = c.account; lane = put c.lane l (left v) } in
        let is_left : m.lane l ≡ left v = put_here c.lane l (left v) in
        leads (before c) (after m) (after d) (does.Leave l) (does.Retire l ∷ [])
        (leave_step c m l sound small begun record { tail = refl; accounts = λ k. refl; others = λ k ne. put_else c.lane l (left v) k ne; lane = is_left })
        (one (after m) (after d) (does.Retire l) (steps.retire (after m) (after d) l (record_behind b) (lane_was m l _ small (left_is b (m.lane l) used (ap (λ (w : LaneView B A). w.here) is_left)))
        (from_after m d l Idle (only m d l Idle small to.tail to.accounts (λ k ne. to.lanes k ne ∙ sym (put_else c.lane l (left v) k ne)) (λ i. lane_behind (to.account i) (to.lane i))))))

    cut_step : (c d : Behind B K A) (l n : ℕ) → IsSoundBehind c → l < LANES → (c.account l).stand ≡ live → (c.lane l).here ≡ true → (c.lane l).passed ≡ (c.account l).known → n / 2 % 2 ≡ bit (c.lane l).held → n / 2 ≡ (c.account l).half
        → length c.tail.log ≡ (c.account l).known + c.tail.places → AccountTo c d l (severed (n / 2 % 2) (c.account l)) → Step (before c) (does.Cut l) (after d)
    cut_step c d l n sound small alive here passed bit_of half full to =
        let b : Account K A = c.account l in let v : LaneView B A = c.lane l in let used : IsUsed b.stand = used_live b.stand alive in
        let out : b.half % 2 ≡ bit v.held = ap (λ (k : ℕ). k % 2) (sym half) ∙ bit_of in
        let flags = live_flags b alive n v.held out in
        steps.cut (before c) (after d) l (record_behind b)
        (ap (λ (x : Lane B). record_of x) (inside l (lane_behind b v) small) ∙ record_is b v used)
        (grind (arith, inside, word_is))
        flags.1 (sym full)
        (grind (arith, account_only, with_is, inside))
      where
        used_live : (n : ℕ) → n ≡ live → IsUsed n
        used_live n e = inl e

        used_cut : (n : ℕ) → n ≡ cut → IsUsed n
        used_cut n e = inr e

    idle_is : (b : Account K A) (v : LaneView B A) (n : ℕ) → b.stand ≡ n → lane_standing n (used_lane v.here v.begun (record_behind b) (cursor_behind v)) ≡ Idle → lane_behind b v ≡ Idle
    idle_is b v n e f = ap (λ (n : ℕ). lane_standing n (used_lane v.here v.begun (record_behind b) (cursor_behind v))) e ∙ f

    same_account : (b b' : Account K A) (v : LaneView B A) → SameAccount b b' → lane_behind b' v ≡ lane_behind b v
    same_account b b' v s = grind arith

    -- each kind of step is these events
    pub ties : (c d : Behind B K A) (es : List (event.Event B)) → IsSoundBehind c → Event B K A c es d → LeadsTo (before c) es (after d)
    ties _ _ _ sound (kind.open_lane c d l small here fresh to) = one (before c) (after d) (does.Open l) (opens_step c d l sound small here fresh to)
    ties _ _ _ sound (kind.look c d l small begun to) = one (before c) (after d) (does.Look l) (look_step c d l sound small begun to)
    ties _ _ _ sound (kind.take c d l small begun alive held below to) = grind (arith, one, take_step)
    ties _ _ _ sound (kind.take_cut c d l small begun is_cut held below to) = grind (arith, one, take_cut_step)
    ties _ _ _ sound (kind.pass c d l n small begun held odd to) = one (before c) (after d) (does.Pass l) (pass_step c d l n sound small begun held odd to)
    ties _ _ _ sound (kind.leave c d l small begun to) = one (before c) (after d) (does.Leave l) (leave_step c d l sound small begun to)
    ties _ _ _ sound (kind.publish c d x is_open room tail accounts lanes) = one (before c) (after d) (does.Publish x) (steps.publish (before c) (after d) x is_open (has_room c sound room) record {
      places = ap (λ (t : Tail B). t.places) tail;
      log = ap (λ (t : Tail B). t.log) tail;
      closed = ap (λ (t : Tail B). t.closed) tail ∙ is_open;
      lanes = refl;
      posters = refl;
      lane = λ l. lane_same c d l ((λ i. lane_behind (accounts l i) (lanes l i)) ∙ grown_is (c.account l).stand (c.account l) (c.lane l));
      poster = still;
    })
    ties _ _ _ sound (kind.close c d is_open tail accounts lanes) = one (before c) (after d) does.Close (steps.close (before c) (after d) is_open record {
      places = ap (λ (t : Tail B). t.places) tail;
      log = ap (λ (t : Tail B). t.log) tail;
      closed = ap (λ (t : Tail B). t.closed) tail;
      lanes = refl;
      posters = refl;
      lane = λ l. lane_same c d l (λ i. lane_behind (accounts l i) (lanes l i));
      poster = still;
    })
    ties _ _ _ sound (kind.harvest c d l n small ne alive here at bit_of to) =
        let b : Account K A = c.account l in let v : LaneView B A = c.lane l in let used = used_here c l (sound l small) here in let out = (live_flags (known_to n b) alive n v.held bit_of).0 in
        subst (λ (es : List (event.Event B)). LeadsTo (before c) es (after d)) (sym (found_here l n ne)) (one (before c) (after d) (does.Harvest l) (harvest_step c d l n (known_to n b) sound small used used here (λ i. record (record_behind b) { known = at i; key_out = out i }) to))
    ties _ _ _ sound (kind.mark c d l n small e alive gone_from to) =
        let b : Account K A = c.account l in let v : LaneView B A = c.lane l in
        subst (λ (es : List (event.Event B)). LeadsTo (before c) es (after d)) (sym (found_gone l n e)) (one (before c) (after d) (does.Retire l) (steps.retire (before c) (after d) l (record_behind b) (lane_was c l _ small (left_is b v (inl alive) gone_from)) (account_only c d l (marked b) Idle small to refl)))
    ties _ _ _ sound (kind.recover c d l n small e is_cut here bare at to) =
        let b : Account K A = c.account l in let v : LaneView B A = c.lane l in let used = used_here c l (sound l small) here in
        let out : is_key_out (back (n / 4) (loaded b)) ≡ v.held = ap (λ (f : Bool). if f then false else (b.half % 2 == 1)) (cut_flag b is_cut) ∙ sym bare in
        subst (λ (es : List (event.Event B)). LeadsTo (before c) es (after d)) (sym (recover_back l n e)) (one (before c) (after d) (does.Harvest l) (harvest_step c d l n (back (n / 4) (loaded b)) sound small used used here (λ i. record (record_behind b) { known = at i; key_out = out i }) to))
    ties _ _ _ sound (kind.peek c d l n ne to) = search (rules, recover_away, account_quiet)
    ties _ _ _ sound (kind.sever c d l n old small hit alive here passed bit_of half full to) = grind (arith, cut_hit, one, cut_step)
    ties _ _ _ sound (kind.moved c d l n old miss e) = grind (arith, cut_miss, (ties c d (found_events l n) sound e))
    ties _ _ _ sound (kind.admit c d l noted small is_open resting to) =
        let n : ℕ = length c.tail.log in one (before c) (after d) (does.Admit l) (steps.admit (before c) (after d) l small (lane_was c l Idle small (idle_is (c.account l) (c.lane l) idle resting refl)) is_open
        (grind (arith, only)))
    ties _ _ _ sound (kind.retire c d l small begun to) = leave_retire c d l sound small begun to
    ties _ _ _ sound (kind.reclaim c d l n small e used gone_from to) = let b : Account K A = c.account l in subst (λ (es : List (event.Event B)). LeadsTo (before c) es (after d)) (sym (reclaim_left l b.stand n e)) (dite (ℕ_discrete b.stand vacated)
        (λ (e : b.stand ≡ vacated). subst (λ (es : List (event.Event B)). LeadsTo (before c) es (after d)) (sym (home_vacated l b.stand e)) (account_quiet c d l (retired b) to (sym (idle_is b (c.lane l) vacated e refl))))
        (λ (ne : b.stand ≢ vacated). subst (λ (es : List (event.Event B)). LeadsTo (before c) es (after d)) (sym (home_used l b.stand ne)) (one (before c) (after d) (does.Retire l) (retire_step c d l (retired b) small (used_by b.stand (sound l small).counts.stands used ne) gone_from refl to))))
    ties _ _ _ sound (kind.watch c d l n ne to) = subst (λ (es : List (event.Event B)). LeadsTo (before c) es (after d)) (sym (reclaim_here l (c.account l).stand n ne)) (account_quiet c d l (loaded (c.account l)) to refl)
    ties _ _ _ sound (kind.work c d l b' same to) = account_quiet c d l b' to (same_account (c.account l) b' (c.lane l) same)

module _ {B K A : Type 0} (key : B → ℕ → K) where
  -- a step that is an event of the table's is one of the core's
  pub shown_as : (slots id : ℕ) (me : SeatState B K A) (i : ℕ) (f : ℕ → ℕ) (es : ℕ → List (event.Event B)) (tells : ℕ → SeatState B K A → Type 0) → AllowsEvent key slots id me i f es tells → AllowsAs key slots id me i f es tells
  shown_as slots id me i f es tells allows s r deep at fits =
      let x = allows s r deep at fits in let w : View B K A = x.0 in let n : ℕ = get_or s.words i 0 in (
        w,
        x.1,
        x.2,
        (
          x.3.0,
          λ posters seat_of. ties posters (λ p. poster_behind (view_or_blank (get_elem? s.views (seat_of p)))) (λ p. poster_behind (view_or_blank (get_elem? (set s.views id w) (seat_of p))))
              (λ p. still s.views id me.0 w (seat_of p) at x.3.2) (behind r) (behind x.3.0) (es n) (λ l small. (r.each_lane l small).sound) x.3.1,
        ),
        x.4,
      )
    where
      still : (views : List (View B K A)) (id : ℕ) (u w : View B K A) (j : ℕ) → get_elem? views id ≡ some u → poster_behind w ≡ poster_behind u → poster_behind (view_or_blank (get_elem? (set views id w) j)) ≡ poster_behind (view_or_blank (get_elem? views j))
      still views id u w j at e = dite (ℕ_discrete j id)
          (grind (arith, set_here, at_length))
          (λ ne. ap (λ (o : maybe.Option (View B K A)). poster_behind (view_or_blank o)) (set_else views id j w ne))
