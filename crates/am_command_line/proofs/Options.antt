-- What clap finds of the program's options.
use Rattle.std.proofs.Common.{zero, suc, ◌≡◌, ◌⊎◌, ◌∙◌, subst, ◌<◌, ◌≤◌, ◌||◌, ap, ap₂, ℕ, Bool, true, false, List, [], ◌∷◌, length, Some, None, refl, sym, inl, inr, arith, codes}
use Rattle.std.specs.List.{All, list_any, slice_index_or}
use Rattle.std.specs.Str.{bytes_eq}
use Rattle.std.specs.Prelude.{find}
use Rattle.std.specs.Borrow.{Bor}
use Rattle.std.proofs.lemmas.List.Elements.{All-nil}
use Rattle.std.proofs.lemmas.Slice.Eq.{bytes_eq-Decides}
use Rattle.clap.specs.Walk.{Text, texts}
use Rattle.clap.specs.Values.{Accepts, read_as, reading_of}
use Rattle.clap.specs.Facts.{Entry, EntryPasses, HasId, PassesArg, WantsDefault, args_of, groups_of, least_values, parser_of, parser_of_value}
use Rattle.clap.specs.Built.{AddsArg, IsAuto, IsParsedFrom, IsPlain, IsPlainArg, SameRules}
use Rattle.clap.specs.Matches.{first_value, found_of, matched_of, one_text}
use Rattle.clap.specs.declared.builder.action.ArgAction.TheVariants.{Count, Set}
use Rattle.clap.specs.declared.builder.arg.Arg.{Arg}
use Rattle.clap.specs.declared.builder.command.Command.{Command}
use Rattle.clap.specs.declared.builder.command.Command.TheViews.{out-Command}
use Rattle.clap.specs.declared.builder.value_parser.ValueParser.{ValueParser}
use Rattle.clap.specs.declared.parser.matches.ArgMatches.{ArgMatches}
use Rattle.clap.specs.declared.parser.matches.MatchedArg.{MatchedArg}
use Rattle.clap.specs.Simple.{app_of, new_app, on_top, with_rule}
use Rattle.clap.specs.declared.builder.value_parser.ValueParser.TheVariants as value
use Rattle.clap.proofs.CallerLemmas.{added_plain, default_present, entry_by_id, same_rules_by_id}
use Rattle.clap.proofs.WalkLemmas.{list_any-map}
use Rattle.am_provider.specs.declared.answers.Policy.TheVariants.{Refuse, Cut}
use Rattle.am_cast.specs.declared.limits.TheConstants.{MAX_PLACES}
use Rattle.am_command_line.specs.Options.{AreModes, ArePolicies, HasOptions, IsCommandLineOf, IsFlag, IsOption, Choices, mode_name, options_of, policy_name}
use Rattle.am_command_line.specs.declared.arguments.Mode.TheVariants.{Ordered, Free, Live, Follow}

-- a list with an element that passes has a first one
find_some : {X : Type 0} (p : X → Bool) (xs : List X) (i : ℕ) → i < length xs → ((d : X) → p (slice_index_or xs i d) ≡ true)
    → (x : X) × (find p xs ≡ Some x)
find_some p [] i lt passes = absurd (omega arith)
find_some p (x ∷ xs) zero lt passes = (x, rw (passes x) refl)
find_some {X = X} p (x ∷ xs) (suc i) lt passes = go (p x) refl (find_some p xs i (omega arith) passes)
  where
    go : (b : Bool) → p x ≡ b → (y : X) × (find p xs ≡ Some y) → (y : X) × (find p (x ∷ xs) ≡ Some y)
    go true e rest = (x, rw e refl)
    go false e rest = (rest.0, rw (e, rest.1) refl)

-- an option that a command was given, with one value, a default and a parser
pub record Keeps (parser : ValueParser) (option : Arg) : Type 0 where
  pub set : option.action ≡ Some Set
  pub whole : option.val_delim ≡ None
  pub one : 1 ≤ least_values option
  pub wants : WantsDefault option
  pub parser_of : option.value_parser ≡ Some parser
  pub exact : option.ignore_case ≡ false

-- what clap finds of the option at index k of a command
module _ (old : Command) (m : ArgMatches) (p : IsParsedFrom old m) (plain : IsPlain old) (local : (out-Command old).has_globals ≡ false)
    (k : ℕ) (d : Arg) (lt : k < length (args_of old)) (q : ValueParser) (kept : Keeps q (slice_index_or (args_of old) k d))
    (unique : (j : ℕ) (e : Arg) → j < length (args_of old)
    → bytes_eq (slice_index_or (args_of old) j e).id.now (slice_index_or (args_of old) k d).id.now ≡ true → j ≡ k)
    (named : (slice_index_or (args_of old) k d).id.now ≡ [] → ⊥) (own : IsAuto (slice_index_or (args_of old) k d) → ⊥) where
  abbrev id : Text
  id = (slice_index_or (args_of old) k d).id.now

  abbrev IsFound : Type 0
  IsFound = (t : Text) × (first_value (found_of m) id ≡ Some t)
      × (one_text (found_of m) id ≡ Some (read_as (reading_of q) t)) × Accepts false q t

  same : (j : ℕ) (x : Arg) → j < length (args_of p.built) → slice_index_or (args_of p.built) j x ≡ x → bytes_eq x.id.now id ≡ true
      → SameRules (slice_index_or (args_of old) k d) x
  same = same_rules_by_id old m p k d lt unique own

  entry : (x : MatchedArg) → matched_of (found_of m) id ≡ Some x → (e : Entry) → e.1 ≡ x → e.0.now ≡ id → EntryPasses p.built e → IsFound
  entry x found e is_x key pass = values x.vals.items refl
    where
      no_groups : groups_of p.built ≡ []
      no_groups = (p.from.plain plain).1

      no_group : e.1.is_group ≡ true → ⊥
      no_group g = elim (pass.3 g) [
        | inl empty ↦ named (sym key ∙ empty)
        | inr lots ↦
            let bad : 0 < 0 = rw no_groups at lots in
            absurd (omega arith)
      ]

      reading : x.reading ≡ reading_of q
      reading = elim pass.4 [
        | inl g ↦ absurd (no_group g)
        | inr h ↦
            let s = same h.0 h.1 h.2 h.3 (subst (λ (w : Text). bytes_eq h.1.id.now w ≡ true) key h.4.0) in
            ap (λ (y : MatchedArg). y.reading) (sym is_x) ∙ (sym h.4.1 ∙ ap (λ o. reading_of (parser_of_value o)) (s.parser q kept.parser_of))
      ]

      accepted : (v : Bor Text) (vs : List (Bor Text)) → x.vals.items ≡ v ∷ vs → Accepts false q v.now
      accepted v vs is = elim pass.0 [
        | inl g ↦ absurd (no_group g)
        | inr all ↦
            let items : e.1.vals.items ≡ v ∷ vs = ap (λ (y : MatchedArg). y.vals.items) is_x ∙ is in
            let h = subst (All (λ (w : Bor Text). PassesArg p.built e.0.now w.now)) items all 0 v (omega arith) in
            let s = same h.0 h.1 h.2 h.3 (subst (λ (w : Text). bytes_eq h.1.id.now w ≡ true) key h.4.0) in
            let exact : h.1.ignore_case ≡ false = s.ignore_case ∙ kept.exact in
            let parser : parser_of h.1 ≡ q = ap parser_of_value (s.parser q kept.parser_of) in
            subst (λ (b : Bool). Accepts b q v.now) exact (subst (λ (r : ValueParser). Accepts h.1.ignore_case r v.now) parser h.4.1)
      ]

      values : (vs : List (Bor Text)) → x.vals.items ≡ vs → IsFound
      values [] is = elim pass.1 [
        | inl h ↦ absurd (no_group h.0)
        | inr (inl v) ↦
            let bad : 0 < 0 = rw (is_x, is) at v in
            absurd (omega arith)
        | inr (inr (inl h)) ↦
            let any = h.1 in
            let s = same any.0 any.1 any.2 any.3 (subst (λ (w : Text). bytes_eq any.1.id.now w ≡ true) key any.4.0) in
            let bad : Set ≡ Count = rw (s.action Set kept.set) at any.4.1 in
            cc
        | inr (inr (inr h)) ↦
            let s = same h.0 h.1 h.2 h.3 (subst (λ (w : Text). bytes_eq h.1.id.now w ≡ true) key h.4.0) in
            elim h.4.1 [
              | inl none ↦
                  let one = s.least kept.set kept.one in
                  absurd (omega arith)
              | inr has ↦
                  let bad : false ≡ true = rw (s.val_delim, kept.whole) at has in
                  cc
            ]
      ]
      values (v ∷ vs) is = (v.now, rw (found, is) refl, rw (found, is, reading) refl, accepted v vs is)

  pub option_found : IsFound
  option_found =
      let there : HasId (found_of m) id = default_present old m p local k d lt kept.wants in
      let first = find_some (λ (e : Entry). bytes_eq e.0.now id) (found_of m).entries.items there.0 there.1 there.2 in
      let found : matched_of (found_of m) id ≡ Some first.0.1 = rw first.1 refl in
      let got = entry_by_id (EntryPasses p.built) (found_of m).entries.items id first.0.1 (p.parsed (p.from.globals ∙ local)).values found in
      entry first.0.1 found got.0 got.1 ((bytes_eq-Decides _ _).0 got.2) got.3

-- an option that a command was given keeps what it is
keeps : (name default : Text) (parser : ValueParser) (a b : Arg) → IsOption name default parser a → SameRules a b → Keeps parser b
keeps name default parser a b is same = record {
  set = same.action Set is.set;
  whole = same.val_delim ∙ is.whole;
  one = same.least is.set (rw is.one (omega arith));
  wants = (same.ifs ∙ is.always, rw (same.defaults is.has_default) is.has_default);
  parser_of = same.parser parser is.parser_of;
  exact = same.ignore_case ∙ is.exact;
}

-- a value among two names is one of them
pub one_of_two : (names : Choices) (first second text : Text) → texts names.now ≡ first ∷ second ∷ [] → Accepts false (value.Names names) text
    → (text ≡ first) ⊎ (text ≡ second)
one_of_two names first second text are accepted =
    let among : list_any (λ t. bytes_eq t text) (first ∷ second ∷ []) ≡ true =
    subst (λ ts. list_any (λ t. bytes_eq t text) ts ≡ true) are (sym (list_any-map (λ t. bytes_eq t text) (λ (s : Bor Text). s.now) names.now) ∙ accepted) in
    go (bytes_eq first text) (bytes_eq second text) refl refl among
  where
    go : (a b : Bool) → bytes_eq first text ≡ a → bytes_eq second text ≡ b → (a || (b || false)) ≡ true → (text ≡ first) ⊎ (text ≡ second)
    go true b e f h = inl (sym ((bytes_eq-Decides first text).0 e))
    go false true e f h = inr (sym ((bytes_eq-Decides second text).0 f))
    go false false e f h = cc

-- a value among three names is one of them
pub one_of_four : (names : Choices) (first second third fourth text : Text) → texts names.now ≡ first ∷ second ∷ third ∷ fourth ∷ [] → Accepts false (value.Names names) text
    → (text ≡ first) ⊎ ((text ≡ second) ⊎ ((text ≡ third) ⊎ (text ≡ fourth)))
one_of_four names first second third fourth text are accepted =
    let among : list_any (λ t. bytes_eq t text) (first ∷ second ∷ third ∷ fourth ∷ []) ≡ true =
    subst (λ ts. list_any (λ t. bytes_eq t text) ts ≡ true) are (sym (list_any-map (λ t. bytes_eq t text) (λ (s : Bor Text). s.now) names.now) ∙ accepted) in
    go (bytes_eq first text) (bytes_eq second text) (bytes_eq third text) (bytes_eq fourth text) refl refl refl refl among
  where
    go : (a b c d : Bool) → bytes_eq first text ≡ a → bytes_eq second text ≡ b → bytes_eq third text ≡ c → bytes_eq fourth text ≡ d → (a || (b || (c || (d || false)))) ≡ true
        → (text ≡ first) ⊎ ((text ≡ second) ⊎ ((text ≡ third) ⊎ (text ≡ fourth)))
    go true b c d e f g k h = inl (sym ((bytes_eq-Decides first text).0 e))
    go false true c d e f g k h = inr (inl (sym ((bytes_eq-Decides second text).0 f)))
    go false false true d e f g k h = inr (inr (inl (sym ((bytes_eq-Decides third text).0 g))))
    go false false false true e f g k h = inr (inr (inr (sym ((bytes_eq-Decides fourth text).0 k))))
    go false false false false e f g k h = cc

abbrev option_names : List Text
option_names = codes "mode" ∷ codes "places" ∷ codes "full" ∷ codes "json" ∷ []

-- no two options have one name
names_differ : (j k : ℕ) → j < 4 → k < 4 → bytes_eq (slice_index_or option_names j []) (slice_index_or option_names k []) ≡ true → j ≡ k
names_differ zero zero jlt klt e = refl
names_differ zero (suc zero) jlt klt e = cc
names_differ zero (suc (suc zero)) jlt klt e = cc
names_differ (suc zero) zero jlt klt e = cc
names_differ (suc zero) (suc zero) jlt klt e = refl
names_differ (suc zero) (suc (suc zero)) jlt klt e = cc
names_differ (suc (suc zero)) zero jlt klt e = cc
names_differ (suc (suc zero)) (suc zero) jlt klt e = cc
names_differ (suc (suc zero)) (suc (suc zero)) jlt klt e = refl
names_differ zero (suc (suc (suc zero))) jlt klt e = cc
names_differ (suc zero) (suc (suc (suc zero))) jlt klt e = cc
names_differ (suc (suc zero)) (suc (suc (suc zero))) jlt klt e = cc
names_differ (suc (suc (suc zero))) zero jlt klt e = cc
names_differ (suc (suc (suc zero))) (suc zero) jlt klt e = cc
names_differ (suc (suc (suc zero))) (suc (suc zero)) jlt klt e = cc
names_differ (suc (suc (suc zero))) (suc (suc (suc zero))) jlt klt e = refl
names_differ (suc (suc (suc (suc j)))) k jlt klt e = absurd (omega arith)
names_differ j (suc (suc (suc (suc k)))) jlt klt e = absurd (omega arith)

-- texts that a test tells apart are two
apart : (a b : Text) → bytes_eq a b ≡ false → a ≡ b → ⊥
apart a b differ e =
    let same : bytes_eq a b ≡ true = (bytes_eq-Decides a b).1 e in
    cc

-- each has a name, and clap adds none of these
names_named : (k : ℕ) → k < 3 → slice_index_or option_names k [] ≡ [] → ⊥
names_named zero lt e = apart (codes "mode") [] refl e
names_named (suc zero) lt e = apart (codes "places") [] refl e
names_named (suc (suc zero)) lt e = apart (codes "full") [] refl e
names_named (suc (suc (suc k))) lt e = absurd (omega arith)

names_own : (k : ℕ) → k < 3 → (slice_index_or option_names k [] ≡ codes "help") ⊎ (slice_index_or option_names k [] ≡ codes "version") → ⊥
names_own zero lt (inl e) = apart (codes "mode") (codes "help") refl e
names_own zero lt (inr e) = apart (codes "mode") (codes "version") refl e
names_own (suc zero) lt (inl e) = apart (codes "places") (codes "help") refl e
names_own (suc zero) lt (inr e) = apart (codes "places") (codes "version") refl e
names_own (suc (suc zero)) lt (inl e) = apart (codes "full") (codes "help") refl e
names_own (suc (suc zero)) lt (inr e) = apart (codes "full") (codes "version") refl e
names_own (suc (suc (suc k))) lt e = absurd (omega arith)

-- the program's command
module _ (start one two three four : Command) (mode places full json : Arg) (modes policies : Choices)
    (made : app_of start ≡ on_top (λ top. record top { no_binary_name = true }) (new_app (codes "replay")))
    (empty : (args_of start ≡ []) × (groups_of start ≡ [])) (local : (out-Command start).has_globals ≡ false)
    (is_mode : IsOption (codes "mode") (mode_name Ordered) (value.Names modes) mode)
    (is_places : IsOption (codes "places") (codes "256") (value.Unsigned 1 MAX_PLACES) places)
    (is_full : IsOption (codes "full") (policy_name Refuse) (value.Names policies) full)
    (is_json : IsFlag (codes "json") json)
    (first : AddsArg start mode one) (second : AddsArg one places two) (third : AddsArg two full three)
    (fourth : AddsArg three json four) where
  has_options : app_of four ≡ options_of modes policies
  has_options = fourth.shape is_json.local ∙ ap₂ with_rule (third.shape is_full.local ∙ ap₂ with_rule (second.shape is_places.local
      ∙ ap₂ with_rule (first.shape is_mode.local ∙ ap₂ with_rule made is_mode.rule) is_places.rule) is_full.rule) is_json.rule

  list : args_of four ≡ first.arg ∷ second.arg ∷ third.arg ∷ fourth.arg ∷ []
  list = fourth.args ∙ rw (third.args, second.args, first.args, empty.0) refl

  plain : IsPlain four
  plain = added_plain three four json fourth (added_plain two three full third (added_plain one two places second (added_plain start one mode first
      (rw empty.0 (All-nil IsPlainArg), empty.1) is_mode.plain) is_places.plain) is_full.plain) is_json.plain

  no_globals : (out-Command four).has_globals ≡ false
  no_globals = fourth.globals ∙ rw (third.globals, second.globals, first.globals, local, is_mode.local, is_places.local, is_full.local, is_json.local) refl

  abbrev given : List Arg
  given = first.arg ∷ second.arg ∷ third.arg ∷ fourth.arg ∷ []

  ids : (j : ℕ) (e : Arg) → j < 4 → (slice_index_or given j e).id.now ≡ slice_index_or option_names j []
  ids zero e lt = ap (λ (i : Bor Text). i.now) first.rules.id ∙ is_mode.id
  ids (suc zero) e lt = ap (λ (i : Bor Text). i.now) second.rules.id ∙ is_places.id
  ids (suc (suc zero)) e lt = ap (λ (i : Bor Text). i.now) third.rules.id ∙ is_full.id
  ids (suc (suc (suc zero))) e lt = ap (λ (i : Bor Text). i.now) fourth.rules.id ∙ is_json.id
  ids (suc (suc (suc (suc j)))) e lt = absurd (omega arith)

  -- the option at index k of the command
  found_at : (m : ArgMatches) → IsParsedFrom four m → (k : ℕ) (b : Arg) (parser : ValueParser) → k < 3 → Keeps parser (slice_index_or given k b)
      → (t : Text) × (first_value (found_of m) (slice_index_or option_names k []) ≡ Some t)
      × (one_text (found_of m) (slice_index_or option_names k []) ≡ Some (read_as (reading_of parser) t)) × Accepts false parser t
  found_at m p k b parser lt kept =
      let at : (j : ℕ) (e : Arg) → j < 4 → (slice_index_or (args_of four) j e).id.now ≡ slice_index_or option_names j [] =
      λ j e low. rw list (ids j e low) in
      let count : length (args_of four) ≡ 4 = rw list refl in
      let low : k < 4 = omega (arith, lt) in
      let key = at k b low in
      let unique : (j : ℕ) (e : Arg) → j < length (args_of four)
      → bytes_eq (slice_index_or (args_of four) j e).id.now (slice_index_or (args_of four) k b).id.now ≡ true → j ≡ k =
      λ j e short same. let below : j < 4 = rw count at short in names_differ j k below low (rw (← at j e below, ← key) same) in
      let found = option_found four m p plain no_globals k b (rw count low) parser (rw list kept) unique
      (λ h. names_named k lt (sym key ∙ h)) (λ h. names_own k lt (elim h [ inl e ↦ inl (sym key ∙ e) | inr e ↦ inr (sym key ∙ e) ])) in
      subst (λ (w : Text). (t : Text) × (first_value (found_of m) w ≡ Some t)
      × (one_text (found_of m) w ≡ Some (read_as (reading_of parser) t)) × Accepts false parser t) key found

  finds : AreModes modes → ArePolicies policies → (m : ArgMatches) → IsParsedFrom four m → HasOptions (found_of m)
  finds mode_names policy_names m p =
      let of_mode = found_at m p 0 mode (value.Names modes) (omega arith) (keeps _ _ _ _ _ is_mode first.rules) in
      let of_places = found_at m p 1 mode (value.Unsigned 1 MAX_PLACES) (omega arith) (keeps _ _ _ _ _ is_places second.rules) in
      let of_full = found_at m p 2 mode (value.Names policies) (omega arith) (keeps _ _ _ _ _ is_full third.rules) in
      record {
        mode = elim (one_of_four modes _ _ _ _ of_mode.0 mode_names of_mode.3) [
          | inl e ↦ (Ordered, (of_mode.1 ∙ ap (λ t. Some t) e, of_mode.2 ∙ ap (λ t. Some t) e))
          | inr (inl e) ↦ (Free, (of_mode.1 ∙ ap (λ t. Some t) e, of_mode.2 ∙ ap (λ t. Some t) e))
          | inr (inr (inl e)) ↦ (Live, (of_mode.1 ∙ ap (λ t. Some t) e, of_mode.2 ∙ ap (λ t. Some t) e))
          | inr (inr (inr e)) ↦ (Follow, (of_mode.1 ∙ ap (λ t. Some t) e, of_mode.2 ∙ ap (λ t. Some t) e))
        ];
        places = (of_places.0, (of_places.1, of_places.2), of_places.3);
        full = elim (one_of_two policies _ _ of_full.0 policy_names of_full.3) [
          | inl e ↦ (Refuse, (of_full.1 ∙ ap (λ t. Some t) e, of_full.2 ∙ ap (λ t. Some t) e))
          | inr e ↦ (Cut, (of_full.1 ∙ ap (λ t. Some t) e, of_full.2 ∙ ap (λ t. Some t) e))
        ];
      }

  pub is_command : AreModes modes → ArePolicies policies → IsCommandLineOf modes policies four
  is_command mode_names policy_names = record { options = has_options; finds = finds mode_names policy_names }
