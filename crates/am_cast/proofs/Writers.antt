-- The writer's numbers after a step.
use Rattle.std.specs.Prelude.{MatchOption}
use Rattle.std.specs.Option.{is_some}
use Rattle.std.proofs.Common.{le_refl, true≢false, ◌≡◌, ◌≢◌, ℕ, suc, ◌+◌, ◌*◌, ◌<◌, ◌≤◌, List, [], ◌∷◌, ◌++◌, map, length, length-append, set, get_or, refl, sym, ap, ◌∙◌, subst, arith, Option, Some, None, Bool, true, false, length-set, get_or-set_same, get_or-set_other}
use mathlib.Core.Logic.{dite}
use native.Mathlib.Decide.{ℕ_discrete}
use Rattle.atomic_table.specs.Seated.{TableId}
use Rattle.am_cast.specs.declared.limits.TheConstants.{LANES, LONGEST_LOG}
use Rattle.am_cast.specs.declared.views.Tail.{Tail}
use Rattle.am_cast.specs.declared.views.Account.{Account}
use Rattle.am_cast.specs.declared.views.WriterView.{WriterView}
use Rattle.am_cast.specs.Rule.{first_account, first_writer, idle, live, bit}
use Rattle.am_cast.specs.declared.views.View.{View}
use Rattle.am_cast.specs.Changes.{with_account, without_own, longer, grown, grown_as, retired, emptied, loaded, back_if, given_out}
use Rattle.am_cast.proofs.steps.Retire.{either_bool}
use Rattle.am_cast.proofs.Tails.{grown_live, grown_else}
use Rattle.am_cast.specs.Steps.{SeatState}
use Rattle.am_cast.specs.Seats.{some_or, writer_of, account_of}
use Rattle.am_cast.specs.Writers.{IsCalm, Calm, HasRoom, Harvested, IsBehind, IsReclaimedAs, SameAdmission, StaysAs}
use Rattle.am_cast.specs.inside.Filling.{FilledTo, AllLaid, AreReady, filled_as}
use Rattle.am_cast.specs.declared.writer.lane_account.LaneAccount.{LaneAccount}
use Rattle.am_cast.specs.declared.writer.lane_account.Stand.TheVariants.{Idle, Live}
use Rattle.am_cast.specs.inside.LaneAccounts.{IsKeptAs, no_lane}
use Rattle.am_cast.specs.inside.RingPlaces.{RingPlaceView}
use Rattle.am_cast.specs.inside.WriterStates.{WriterStateOk}
use Rattle.std.proofs.lemmas.Grind.{common_steps}

-- an idle lane isn't live
pub idle_not_live : {K A : Type 0} (b : Account K A) → b.stand ≡ idle → b.stand ≢ live
idle_not_live b nobodys alive = absurd (omega arith)

module _ {B K A : Type 0} where
  pub account_same : (q : WriterView B K A) (l : ℕ) (b : Account K A) → l < length q.accounts → account_of (with_account l b q) l ≡ b
  account_same q l b h = get_or-set_same q.accounts l b first_account h

  pub account_else : (q : WriterView B K A) (l m : ℕ) (b : Account K A) → m ≢ l → account_of (with_account l b q) m ≡ account_of q m
  account_else q l m b ne = get_or-set_other q.accounts l m b first_account ne

  -- one account has changed, and the numbers of its lane
  pub state_parts : (T t t' : TableId) (m m' : SeatState B K A) (places count : ℕ) (closed : Bool) (lanes lanes' : List LaneAccount) (l : ℕ) (b' : Account K A)
      → WriterStateOk T t m places count closed lanes → t' ≡ t → m'.1 ≡ [] → m'.0.writer ≡ Some (with_account l b' (writer_of m.0)) → m'.0.lane ≡ None → m'.0.own ≡ [] → l < LANES → length lanes' ≡ LANES → IsKeptAs b' (get_or lanes' l no_lane)
      → ((k : ℕ) → k ≢ l → get_or lanes' k no_lane ≡ get_or lanes k no_lane)
      → WriterStateOk T t' m' places count closed lanes'
  state_parts T t t' m m' places count closed lanes lanes' l b' ok same bare writer_is lane_is own_is small long sets_account others = grind (arith, length-set, account_same, account_else)

  pub account_longer : (q : WriterView B K A) (x : B) (l : ℕ) → l < length q.accounts → account_of (longer x q) l ≡ grown (account_of q l)
  account_longer q x l h = grind (arith, common_steps)

map_length : {X Y : Type 0} (f : X → Y) (xs : List X) → length (map f xs) ≡ length xs
map_length f [] = refl
map_length f (x ∷ xs) = ap suc (map_length f xs)

grown_fields : {K A : Type 0} (n : ℕ) (b : Account K A) → ((grown_as n b).turn ≡ b.turn) × ((grown_as n b).note ≡ b.note) × ((grown_as n b).start ≡ b.start) × ((grown_as n b).loads ≡ b.loads) × ((grown_as n b).stand ≡ b.stand) × ((grown_as n b).known ≡ b.known) × ((grown_as n b).half ≡ b.half)
grown_fields n b = grind arith

module _ {B K A : Type 0} (key : B → ℕ → K) where
  pub filled_else : (n : ℕ) (x : B) (l : ℕ) (b : Account K A) → n ≢ live → filled_as key n x l b ≡ b
  filled_else n x l b ne = grind arith

  filled_fields : (n : ℕ) (x : B) (l : ℕ) (b : Account K A) → ((filled_as key n x l b).turn ≡ b.turn) × ((filled_as key n x l b).note ≡ b.note) × ((filled_as key n x l b).start ≡ b.start) × ((filled_as key n x l b).loads ≡ b.loads) × ((filled_as key n x l b).stand ≡ b.stand) × ((filled_as key n x l b).known ≡ b.known) × ((filled_as key n x l b).half ≡ b.half)
  filled_fields n x l b = grind arith

  pub all_laid : (q q' : WriterView B K A) (x : B) → Calm q → FilledTo key q x LANES q' → AllLaid key q' x
  all_laid q q' x c f l h = grind (arith, filled_else)

  pub filled_ready : (q q' : WriterView B K A) (x : B) → Calm q → FilledTo key q x LANES q' → AreReady q'
  filled_ready q q' x c f = grind (arith, filled_else)

  pub calm_longer : (q q' : WriterView B K A) (x : B) → Calm q → HasRoom q LANES → FilledTo key q x LANES q' → Calm (longer x q')
  calm_longer q q' x c room f = (
    map_length (λ (b : Account K A). grown b) q'.accounts ∙ f.1,
    λ l small. let b : Account K A = account_of q l in let calm = c.1 l small in let n : ℕ = length q.tail.log in
        let more : length (q'.tail.log ++ x ∷ []) ≡ n + 1 = length-append q'.tail.log (x ∷ []) ∙ ap (λ (t : Tail B). length t.log + 1) f.0 in let first : account_of (longer x q') l ≡ grown (account_of q' l) = account_longer q' x l (omega arith) in
        dite (ℕ_discrete b.stand live)
        (grind (arith, grown_live))
        (grind (arith, filled_else, grown_else)),
  )

  -- a publish counts no load, and admits nobody
  pub longer_same : (q q' : WriterView B K A) (x : B) → FilledTo key q x LANES q' → (l : ℕ) → l < LANES → SameAdmission (account_of q l) (account_of (longer x q') l) × ((account_of (longer x q') l).stand ≡ (account_of q l).stand) × ((account_of (longer x q') l).known ≡ (account_of q l).known) × ((account_of (longer x q') l).half ≡ (account_of q l).half)
  longer_same q q' x f l small = grind (arith, common_steps, account_longer, grown_fields, filled_fields)

module _ {K A : Type 0} where
  pub retired_known : (b : Account K A) → (retired b).known ≡ b.known
  retired_known b = either_bool b.away (λ e. ap (λ (h : Bool). (back_if h b).known) e) (λ e. ap (λ (h : Bool). (back_if h b).known) e)

  pub retired_away : (b : Account K A) → (retired b).away ≡ false
  retired_away b = either_bool b.away (λ e. ap (λ (h : Bool). (back_if h b).away) e) (λ e. ap (λ (h : Bool). (back_if h b).away) e ∙ e)

  -- a lane whose seat came home is idle, and its word is what it was
  pub home_kept : (b : Account K A) (lanes : List LaneAccount) (l : ℕ) → l < LANES → length lanes ≡ LANES → IsKeptAs b (get_or lanes l no_lane)
      → IsKeptAs (retired b) (get_or (set lanes l record { stand = Idle; word = (get_or lanes l no_lane).word }) l no_lane)
  home_kept b lanes l small long m = grind (arith, get_or-set_same, retired_known, retired_away)

  -- a lane that is idle, with all its keys home, is as between two calls
  pub calm_emptied : (n places : ℕ) (b : Account K A) → IsCalm n places b → IsCalm n places (emptied b)
  calm_emptied n places b c = either_bool b.away
      (λ (e : b.away ≡ true). let is : emptied b ≡ record b { away = false; cleared = suc b.known; stop = suc b.known; stand = idle; loads = b.loads + 1 } = (λ i. record (back_if (e i) b) { stand = idle; loads = b.loads + 1; cleared = (back_if (e i) b).stop }) in
      let away = c.away_is e in let within = away.1 in subst (λ (d : Account K A). IsCalm n places d) (sym is) (grind (arith, true≢false)))
      (λ (e : b.away ≡ false). let is : emptied b ≡ record b { cleared = b.stop; stand = idle; loads = b.loads + 1 } = (λ i. record (back_if (e i) b) { stand = idle; loads = b.loads + 1; cleared = (back_if (e i) b).stop }) in
      subst (λ (d : Account K A). IsCalm n places d) (sym is) (grind (arith, true≢false)))

  pub calm_loaded : (n places : ℕ) (b : Account K A) → IsCalm n places b → IsCalm n places (loaded b)
  calm_loaded n places b c = grind arith

  -- a lane that was looked at is as between two calls
  pub calm_reclaimed : (n places : ℕ) (b d : Account K A) (was : Bool) → IsCalm n places b → IsReclaimedAs b d was → IsCalm n places d
  calm_reclaimed n places b d true c r = subst (λ (d : Account K A). IsCalm n places d) (sym r.1) (calm_emptied n places b c)
  calm_reclaimed n places b d false c r = dite (ℕ_discrete b.stand idle)
      (λ e. subst (λ (d : Account K A). IsCalm n places d) (sym (r.0 e)) c)
      (λ ne. subst (λ (d : Account K A). IsCalm n places d) (sym (r.1 ne)) (calm_loaded n places b c))

  -- a lane that was given out has the log's length as its word
  pub given_kept : (noted : Option A) (n count : ℕ) (b : Account K A) (lanes : List LaneAccount) (l : ℕ) → l < LANES → length lanes ≡ LANES → count ≡ n → n ≤ LONGEST_LOG
      → IsKeptAs (given_out noted n b) (get_or (set lanes l record { stand = Live; word = 4 * count }) l no_lane)
  given_kept noted n count b lanes l small long is few = grind (arith, get_or-set_same)

grown_numbers : {K A : Type 0} (n : ℕ) (b : Account K A) → ((grown_as n b).stand ≡ b.stand) × ((grown_as n b).known ≡ b.known) × ((grown_as n b).half ≡ b.half) × ((grown_as n b).away ≡ b.away)
grown_numbers n b = grind arith

module _ {B K A : Type 0} where
  -- the log has grown, and its place went to another seat
  pub state_longer : (T t t' : TableId) (m m' : SeatState B K A) (next next' : RingPlaceView) (closed : Bool) (lanes : List LaneAccount) (x : B) (w : View B K A)
      → WriterStateOk T t m next.places next.number closed lanes → t' ≡ t → m'.1 ≡ [] → w ≡ record m.0 { writer = Some (longer x (writer_of m.0)); own = w.own } → m'.0 ≡ without_own w → next.number < LONGEST_LOG → next' ≡ record next { number = next.number + 1 }
      → WriterStateOk T t' m' next'.places next'.number closed lanes
  state_longer T t t' m m' next next' closed lanes x w ok same bare grew handed few on =
      let q : WriterView B K A = writer_of m.0 in let all = ok.all in
      let is : m'.0.writer ≡ Some (longer x q) = ap (λ (w : View B K A). w.writer) handed ∙ ap (λ (w : View B K A). w.writer) grew in
      let now : writer_of m'.0 ≡ longer x q = ap (λ (o : Option (WriterView B K A)). some_or (first_writer 0) o) is in subst (λ (r : RingPlaceView). WriterStateOk T t' m' r.places r.number closed lanes) (sym on) record {
        same = same ∙ ok.same;
        writer = (is ∙ ap (λ (q : WriterView B K A). let o : Option (WriterView B K A) = Some q in o) (sym now), bare);
        alone = ap (λ (w : View B K A). w.lane) handed ∙ ap (λ (w : View B K A). w.lane) grew ∙ ok.alone;
        no_own = ap (λ (w : View B K A). w.own) handed;
        all = ap (λ (q : WriterView B K A). length q.accounts) now ∙ map_length (λ (b : Account K A). grown b) q.accounts ∙ ok.all;
        places_is = ap (λ (q : WriterView B K A). q.tail.places) now ∙ ok.places_is;
        some_places = ok.some_places;
        count_is = ap (λ (q : WriterView B K A). length q.tail.log) now ∙ length-append q.tail.log (x ∷ []) ∙ ap (λ (n : ℕ). n + 1) ok.count_is;
        bound = omega arith;
        closed_is = ap (λ (q : WriterView B K A). q.tail.closed) now ∙ ok.closed_is;
        wide = ok.wide;
        each = λ l small. let b : Account K A = account_of q l in let at : account_of (writer_of m'.0) l ≡ grown b = ap (λ (q : WriterView B K A). account_of q l) now ∙ account_longer q x l (omega arith) in
            let f = grown_numbers b.stand b in let o = ok.each l small in record {
              stand_is = ap (λ (b : Account K A). b.stand) at ∙ f.0 ∙ o.stand_is;
              known_is = ap (λ (b : Account K A). b.known) at ∙ f.1 ∙ o.known_is;
              live_is = grind arith;
              cut_is = λ e. ap bit (ap (λ (b : Account K A). b.away) at ∙ f.3) ∙ o.cut_is (sym (ap (λ (b : Account K A). b.stand) at ∙ f.0) ∙ e);
              rest_is = λ ne. ap (λ (b : Account K A). b.away) at ∙ f.3 ∙ o.rest_is (λ e. ne (ap (λ (b : Account K A). b.stand) at ∙ f.0 ∙ e));
              bound = o.bound;
            };
      }

module _ {B K A : Type 0} (q q' : WriterView B K A) (k : ℕ) (tail : q'.tail ≡ q.tail) (others : (m : ℕ) → m ≢ k → account_of q' m ≡ account_of q m) where
  -- a lane below k is as full as before
  pub still_room : (n : ℕ) → n ≤ k → HasRoom q n → HasRoom q' n
  still_room n few room l below alive = grind arith

  pub still_behind : (m : ℕ) → m < k → IsBehind q m → IsBehind q' m
  still_behind m below behind = grind arith

  -- one lane more that has room
  pub more_room : HasRoom q k → ((account_of q' k).stand ≡ live → length q'.tail.log < (account_of q' k).known + q'.tail.places) → HasRoom q' (k + 1)
  more_room room here l below alive = grind (arith, still_room, le_refl)

  pub calm_only : k < LANES → Calm q → length q'.accounts ≡ length q.accounts → IsCalm (length q.tail.log) q.tail.places (account_of q' k) → Calm q'
  calm_only small calm long here = (
    long ∙ calm.0,
    λ l below. dite (ℕ_discrete l k)
        (λ e. subst (λ (z : ℕ × Tail B). IsCalm (length z.1.log) z.1.places (account_of q' z.0)) (λ i. (sym e i, sym tail i)) here)
        (grind arith),
  )

  -- one lane more was looked at
  pub harvest_step : (q₀ : WriterView B K A) → k < LANES → Calm q → Harvested q₀ q k → length q'.accounts ≡ length q.accounts → IsCalm (length q.tail.log) q.tail.places (account_of q' k)
      → StaysAs (account_of q k) (account_of q' k) × ((account_of q k).stand ≡ live → (account_of q k).loads < (account_of q' k).loads) × ((account_of q k).away ≡ true → (account_of q k).loads < (account_of q' k).loads)
      → Calm q' × Harvested q₀ q' (k + 1)
  harvest_step q₀ small calm h long here looked =
      let mine = subst (λ (b : Account K A). StaysAs b (account_of q' k) × (b.stand ≡ live → b.loads < (account_of q' k).loads) × (b.away ≡ true → b.loads < (account_of q' k).loads)) (h.above k (le_refl k)) looked in (
        calm_only small calm long here,
        record {
          tail = tail ∙ h.tail;
          each = λ l below. dite (ℕ_discrete l k)
              (λ e. subst (λ (l : ℕ). StaysAs (account_of q₀ l) (account_of q' l)) (sym e) mine.0)
              (λ ne. subst (λ (c : Account K A). StaysAs (account_of q₀ l) c) (sym (others l ne)) (h.each l below));
          below = grind arith;
          aways = grind arith;
          above = λ l high. others l (λ e. omega (arith, e, high)) ∙ h.above l (omega (arith, high));
        },
      )

  -- the lowest lane below k without room, if there is one
  abbrev pub Lowest : WriterView B K A → ℕ → Option ℕ → Type 0
  Lowest p n o = MatchOption o (HasRoom p n) (λ m. (m < n) × IsBehind p m × HasRoom p m)

  pub none_lowest : (o : Option ℕ) → is_some o ≡ false → Lowest q k o → HasRoom q k
  none_lowest o e room = grind (arith, true≢false)

  pub none_more : (o : Option ℕ) → is_some o ≡ false → HasRoom q' (k + 1) → Lowest q' (k + 1) o
  none_more o e room = grind (arith, true≢false)

  pub lowest_stays : (o : Option ℕ) → is_some o ≡ true → Lowest q k o → Lowest q' (k + 1) o
  lowest_stays o e low = grind (arith, true≢false, still_behind, still_room)
