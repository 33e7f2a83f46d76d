-- The list of what keys hold goes on update by update.
use Rattle.std.proofs.Common.{◌≡◌, ◌≢◌, ℕ, zero, suc, ◌+◌, ◌<◌, ◌≤◌, Bool, true, false, cond, nat_eq, List, [], ◌∷◌, ◌++◌, length, take, drop, get_or, eq-eqb, Option, Some, None, is_none, refl, sym, ap, subst, ◌∙◌, arith, length-append}
use Rattle.std.specs.Prelude.{⊤}
use Rattle.std.proofs.lemmas.Grind.{common_steps}
use Rattle.std.specs.Option.{option_map, option_and_then}
use Rattle.std.specs.List.{cons_option, filter_map}
use Rattle.std.specs.Bool.{Decides}
use Rattle.std.proofs.lemmas.List.{append-nil, take_all, take-append-le, take_more, length-take-le, take-append-drop, length-drop}
use Rattle.std.proofs.Math.Seq.{drop-cons}
use Rattle.std.proofs.lemmas.Bool.{ne_eqb}
use Rattle.am_routes.specs.InOrder.{last_passing, last_without, held_since, begun_by, gathered_from, in_order}
use Rattle.am_routes.proofs.Cases.{by_bool, by_option}

-- ---- the last number that passes

last_passing-same : (p q : ℕ → Bool) (n : ℕ) → ((m : ℕ) → m ≤ n → p m ≡ q m) → last_passing p n ≡ last_passing q n
last_passing-same p q zero same = refl
last_passing-same p q (suc n) same = let rest = last_passing-same p q n in grind arith

last_passing-here : (p : ℕ → Bool) (n : ℕ) → p n ≡ true → last_passing p n ≡ n
last_passing-here p zero here = refl
last_passing-here p (suc n) here = ap (λ b. cond b (suc n) (last_passing p n)) here

last_passing-before : (p : ℕ → Bool) (n : ℕ) → p (suc n) ≡ false → last_passing p (suc n) ≡ last_passing p n
last_passing-before p n past = ap (λ b. cond b (suc n) (last_passing p n)) past

-- ---- when one key last held nothing

module _ {U V : Type 0} (held : List U → Option V) where
  without_now : (all : List U) → held all ≡ None → last_without held all ≡ length all
  without_now all none = grind (arith, last_passing-here, take_all)

  grown : (all : List U) (u : U) → length (all ++ u ∷ []) ≡ suc (length all)
  grown all u = omega (arith, length-append all (u ∷ []))

  without_stays : (all : List U) (u : U) (v : V) → held (all ++ u ∷ []) ≡ Some v → last_without held (all ++ u ∷ []) ≡ last_without held all
  without_stays all u v some = grind (arith, grown, last_passing-before, take_all, last_passing-same, take-append-le)

  since_nothing : (at : ℕ) (all : List U) → held all ≡ None → held_since at held all ≡ None
  since_nothing at all none = grind arith

  since_elsewhere : (at : ℕ) (all : List U) → last_without held all ≢ at → held_since at held all ≡ None
  since_elsewhere at all other = ap (λ b. cond b (held all) None) (ne_eqb (last_without held all) at other)

  -- what is held by a key that began at an index, once it holds something else
  since_there : (at : ℕ) (all : List U) → last_without held all ≡ at → held_since at held all ≡ held all
  since_there at all e = ap (λ n. cond (nat_eq n at) (held all) None) e ∙ ap (λ b. cond b (held all) None) (eq-eqb at at refl)

  since_grown_empty : (at : ℕ) (all : List U) (u : U) → at < length all → held all ≡ None → held_since at held (all ++ u ∷ []) ≡ None
  since_grown_empty at all u early none = grind (arith, since_nothing, since_elsewhere, without_stays, without_now)

  since_grown : (at : ℕ) (all : List U) (u : U) (v : V) → held (all ++ u ∷ []) ≡ Some v
      → held_since at held (all ++ u ∷ []) ≡ cond (nat_eq (last_without held all) at) (Some v) None
  since_grown at all u v some = grind (arith, without_stays)

  since_now : (at : ℕ) (all : List U) (v : V) → held all ≡ Some v → held_since at held all ≡ cond (nat_eq (last_without held all) at) (Some v) None
  since_now at all v some = ap (λ o. cond (nat_eq (last_without held all) at) o None) some

  -- a key that holds the same as before began where it did
  since_same : (at : ℕ) (all : List U) (u : U) → at < length all → held (all ++ u ∷ []) ≡ held all → held_since at held (all ++ u ∷ []) ≡ held_since at held all
  since_same at all u early same = grind (arith, since_grown_empty, since_nothing, since_grown, since_now)

-- ---- gathering

cons_append : {X : Type 0} (o : Option X) (xs ys : List X) → cons_option o (xs ++ ys) ≡ cons_option o xs ++ ys
cons_append None xs ys = refl
cons_append (Some x) xs ys = refl

module _ {U X : Type 0} where
  gathered_append : (f : ℕ → U → Option X) (at : ℕ) (before after : List U) → gathered_from f at (before ++ after) ≡ gathered_from f at before ++ gathered_from f (at + length before) after
  gathered_append f at [] after = let e : at ≡ at + 0 = omega arith in ap (λ n. gathered_from f n after) e
  gathered_append f at (r ∷ before) after = let rest = gathered_append f (at + 1) before after in grind arith

  -- between two indices both find the same
  gathered_same : (f g : ℕ → U → Option X) (low high : ℕ) → ((at : ℕ) (u : U) → low ≤ at → at < high → f at u ≡ g at u)
      → (at : ℕ) (all : List U) → low ≤ at → at + length all ≤ high → gathered_from f at all ≡ gathered_from g at all
  gathered_same f g low high same at [] l h = refl
  gathered_same f g low high same at (u ∷ all) l h =
      ap (λ o. cons_option o (gathered_from f (at + 1) all)) (same at u l (omega arith))
      ∙ ap (λ rest. cons_option (g at u) rest) (gathered_same f g low high same (at + 1) all (omega arith) (omega arith))

kept_front : {X Y : Type 0} (keep : X → Option Y) (o : Option X) (rest : List X) → cons_option (option_and_then keep o) (filter_map keep rest) ≡ filter_map keep (cons_option o rest)
kept_front keep None rest = refl
kept_front keep (Some x) rest = refl

gathered_kept : {U X Y : Type 0} (keep : X → Option Y) (f : ℕ → U → Option Y) (g : ℕ → U → Option X) (n : ℕ) → ((at : ℕ) (u : U) → at < n → f at u ≡ option_and_then keep (g at u))
    → (at : ℕ) (all : List U) → at + length all ≤ n → gathered_from f at all ≡ filter_map keep (gathered_from g at all)
gathered_kept keep f g n same at [] h = refl
gathered_kept keep f g n same at (u ∷ all) h =
    ap (λ o. cons_option o (gathered_from f (at + 1) all)) (same at u (omega arith))
    ∙ (ap (λ rest. cons_option (option_and_then keep (g at u)) rest) (gathered_kept keep f g n same (at + 1) all (omega arith))
    ∙ kept_front keep (g at u) (gathered_from g (at + 1) all))

-- ---- what each update does to the keys

-- an update of one key leaves what the others hold; one of no key does the same to what each holds
pub record GoesByKeys {U K V : Type 0} (key_of : U → Option K) (held : K → List U → Option V) (effect : U → V → Option V) : Type 0 where
  pub nothing : (key : K) → held key [] ≡ None
  pub other : (all : List U) (update : U) (key one : K) → key_of update ≡ Some one → key ≢ one → held key (all ++ update ∷ []) ≡ held key all
  pub each : (all : List U) (update : U) (key : K) → key_of update ≡ None → held key (all ++ update ∷ []) ≡ option_and_then (effect update) (held key all)

-- the entries after an update of a key: in the key's place what it makes of what is there, else at the end
unfoldable pub put : {U V : Type 0} → (U → Bool) → (Option V → V) → U → List (U × V) → List (U × V)
put is_its become update [] = (update, become None) ∷ []
put is_its become update (entry ∷ entries) = cond (is_its entry.0) ((entry.0, become (Some entry.1)) ∷ entries) (entry ∷ put is_its become update entries)

pair_kept : {U V : Type 0} (effect : V → Option V) (u : U) (o : Option V) → option_map {U = U × V} (λ value. (u, value)) (option_and_then effect o)
    ≡ option_and_then (λ entry. option_map {U = U × V} (λ value. (entry.0, value)) (effect entry.1)) (option_map {U = U × V} (λ (value : V). (u, value)) o)
pair_kept effect u None = refl
pair_kept effect u (Some v) = refl

since_each : {U V : Type 0} (held : List U → Option V) (effect : V → Option V) (at : ℕ) (all : List U) (u : U) → at < length all → held (all ++ u ∷ []) ≡ option_and_then effect (held all)
    → held_since at held (all ++ u ∷ []) ≡ option_and_then effect (held_since at held all)
since_each {U} {V} held effect at all u early each =
    grind (arith, common_steps, since_grown_empty, since_nothing, since_now, since_grown)

module _ {U K V : Type 0} (key_of : U → Option K) (held : K → List U → Option V) (effect : U → V → Option V) (laws : GoesByKeys key_of held effect) where
  -- an update of no key does the same to each entry
  pub in_order-each : (all : List U) (u : U) → key_of u ≡ None
      → in_order key_of held (all ++ u ∷ []) ≡ filter_map (λ entry. option_map {U = U × V} (λ value. (entry.0, value)) (effect u entry.1)) (in_order key_of held all)
  in_order-each all u none =
      let more = all ++ u ∷ [] in
      let f = begun_by key_of held more in
      let last : gathered_from f (0 + length all) (u ∷ []) ≡ [] = ap (λ o. cons_option (option_map {U = U × V} (λ (value : V). (u, value)) (option_and_then (λ key. held_since (0 + length all) (held key) more) o)) []) none in
      gathered_append f 0 all (u ∷ [])
      ∙ (ap (λ rest. gathered_from f 0 all ++ rest) last
      ∙ (append-nil (gathered_from f 0 all)
      ∙ gathered_kept (λ entry. option_map {U = U × V} (λ value. (entry.0, value)) (effect u entry.1)) f (begun_by key_of held all) (length all)
      (λ at x early.
      ap (option_map {U = U × V} (λ (value : V). (x, value)))
      (by_option {P = option_and_then (λ key. held_since at (held key) more) (key_of x) ≡ option_and_then (effect u) (option_and_then (λ key. held_since at (held key) all) (key_of x))} (key_of x)
      (λ e. ap (option_and_then (λ key. held_since at (held key) more)) e ∙ ap (λ o. option_and_then (effect u) (option_and_then (λ key. held_since at (held key) all) o)) (sym e))
      (λ key e. ap (option_and_then (λ key. held_since at (held key) more)) e
      ∙ (since_each (held key) (effect u) at all u early (laws.each all u key none)
      ∙ ap (λ o. option_and_then (effect u) (option_and_then (λ key. held_since at (held key) all) o)) (sym e))))
      ∙ pair_kept (effect u) x (option_and_then (λ key. held_since at (held key) all) (key_of x)))
      0 all (omega arith)))

apart : {K : Type 0} (same : K → K → Bool) (decide : (a b : K) → Decides (same a b) (a ≡ b)) (a b : K) → same a b ≡ false → a ≢ b
apart same decide a b differ e = let t : true ≡ false = sym ((decide a b).1 e) ∙ differ in (cc)

-- ---- an update of a key

module _ {U K V : Type 0} (key_of : U → Option K) (held : K → List U → Option V) (effect : U → V → Option V) (laws : GoesByKeys key_of held effect)
    (same : K → K → Bool) (decide : (a b : K) → Decides (same a b) (a ≡ b)) where
  step_is : (all : List U) (u : U) (n : ℕ) (key : K) → held key (take n all) ≡ None → n < length all → (v : V) → held key (take (n + 1) all) ≡ Some v → key_of (get_or all n u) ≡ Some key
  step_is all u n key none early v some =
      let x = get_or all n u in
      let now : held key (take n all ++ x ∷ []) ≡ Some v = sym (ap (held key) (take_more all n u early)) ∙ some in
      by_option (key_of x)
      (λ e. absurd (let no : None ≡ Some v = sym (laws.each (take n all) x key e ∙ ap (option_and_then (effect x)) none) ∙ now in (cc)))
      (λ one e.
      by_bool (same key one)
      (λ yes. e ∙ ap Some (sym ((decide key one).0 yes)))
      (λ no. absurd (let gone : None ≡ Some v = sym (laws.other (take n all) x key one e (apart same decide key one no) ∙ none) ∙ now in (cc))))

  -- a key that holds something began with an update of it
  began : (all : List U) (u : U) (key : K) (n : ℕ) → n ≤ length all → (v : V) → held key (take n all) ≡ Some v
      → (last_passing (λ m. is_none (held key (take m all))) n < n) × (key_of (get_or all (last_passing (λ m. is_none (held key (take m all))) n) u) ≡ Some key)
  began all u key zero h v some = absurd (let no : None ≡ Some v = sym (laws.nothing key) ∙ some in (cc))
  began all u key (suc n) h v some =
      let test = λ (m : ℕ). is_none (held key (take m all)) in
      let past : last_passing test (suc n) ≡ last_passing test n = last_passing-before test n (ap is_none some) in
      let P = λ (m : ℕ). (m < suc n) × (key_of (get_or all m u) ≡ Some key) in
      by_option (held key (take n all))
      (λ none.
      let here : last_passing test n ≡ n = last_passing-here test n (ap is_none none) in
      subst P (sym (past ∙ here)) (omega arith, step_is all u n key none (omega arith) v (let e : n + 1 ≡ suc n = omega arith in ap (λ m. held key (take m all)) e ∙ some)))
      (λ w there.
      let before = began all u key n (omega arith) w there in
      subst P (sym past) (omega arith, before.1))

  -- where another key's update comes, what began at an index is the same
  value_other : (all : List U) (u : U) (q : K) → key_of u ≡ Some q → (at : ℕ) (x : U) → at < length all
      → ((key : K) → key_of x ≡ Some key → same key q ≡ true → held_since at (held key) (all ++ u ∷ []) ≡ held_since at (held key) all)
      → begun_by key_of held (all ++ u ∷ []) at x ≡ begun_by key_of held all at x
  value_other all u q is at x early own = grind (arith, since_same, apart)

  value_of_key : (all : List U) (at : ℕ) (x : U) (key : K) → key_of x ≡ Some key → begun_by key_of held all at x ≡ option_map {U = U × V} (λ value. (x, value)) (held_since at (held key) all)
  value_of_key all at x key e = ap (λ o. option_map {U = U × V} (λ (value : V). (x, value)) (option_and_then (λ key. held_since at (held key) all) o)) e

  module _ (is_its : U → Bool) (q : K) (its : (x : U) → is_its x ≡ true → key_of x ≡ Some q) where
    passes : (make : Option V → V) (new x : U) (o : Option V) (entries : List (U × V)) → (is_its x ≡ true → o ≡ None)
        → put is_its make new (cons_option (option_map {U = U × V} (λ value. (x, value)) o) entries) ≡ cons_option (option_map {U = U × V} (λ value. (x, value)) o) (put is_its make new entries)
    unfolding put
    passes make new x None entries none = refl
    passes make new x (Some v) entries none = grind arith

    -- what has no entry of the key is passed over
    put_past : (all : List U) (make : Option V → V) (new : U) (high : ℕ) → ((at : ℕ) → at < high → held_since at (held q) all ≡ None)
        → (at : ℕ) (us : List U) (rest : List (U × V)) → at + length us ≤ high
        → put is_its make new (gathered_from (begun_by key_of held all) at us ++ rest) ≡ gathered_from (begun_by key_of held all) at us ++ put is_its make new rest
    put_past all make new high none at [] rest h = refl
    put_past all make new high none at (x ∷ us) rest h =
        let o = option_and_then (λ key. held_since at (held key) all) (key_of x) in
        let f = begun_by key_of held all in
        ap (put is_its make new) (sym (cons_append (f at x) (gathered_from f (at + 1) us) rest))
        ∙ (passes make new x o (gathered_from f (at + 1) us ++ rest) (λ yes. ap (option_and_then (λ key. held_since at (held key) all)) (its x yes) ∙ none at (omega arith))
        ∙ (ap (cons_option (f at x)) (put_past all make new high none (at + 1) us rest (omega arith))
        ∙ cons_append (f at x) (gathered_from f (at + 1) us) (put is_its make new rest)))

    last_piece : (all : List U) (u : U) → key_of u ≡ Some q → (at : ℕ) → gathered_from (begun_by key_of held (all ++ u ∷ [])) at (u ∷ []) ≡ cons_option (option_map {U = U × V} (λ value. (u, value)) (held_since at (held q) (all ++ u ∷ []))) []
    last_piece all u is at = ap (λ o. cons_option o []) (value_of_key (all ++ u ∷ []) at u q is)

    -- the key held nothing: its entry comes last
    put_new : (make : Option V → V) (all : List U) (u : U) → key_of u ≡ Some q → held q (all ++ u ∷ []) ≡ Some (make (held q all)) → held q all ≡ None
        → in_order key_of held (all ++ u ∷ []) ≡ put is_its make u (in_order key_of held all)
    unfolding put
    put_new make all u is made none =
        let more = all ++ u ∷ [] in
        let v = make None in
        let some : held q more ≡ Some v = made ∙ ap (λ o. Some (make o)) none in
        let f = begun_by key_of held more in
        let g = begun_by key_of held all in
        let since : held_since (length all) (held q) more ≡ Some v = since_there (held q) (length all) more (without_stays (held q) all u v some ∙ without_now (held q) all none) ∙ some in
        let before : gathered_from f 0 all ≡ gathered_from g 0 all = gathered_same f g 0 (length all)
        (λ at x low early. value_other all u q is at x early
        (λ key e yes. let t = (decide key q).0 yes in
        let gone : held key all ≡ None = ap (λ k. held k all) t ∙ none in
        since_grown_empty (held key) at all u early gone ∙ sym (since_nothing (held key) at all gone)))
        0 all (omega arith) (omega arith) in
        let past : put is_its make u (gathered_from g 0 all ++ []) ≡ gathered_from g 0 all ++ put is_its make u [] = put_past all make u (length all) (λ at early. since_nothing (held q) at all none) 0 all [] (omega arith) in
        grind (arith, gathered_append, append-nil)

    -- the key held something: its entry changes in its place
    put_old : (make : Option V → V) (all : List U) (u : U) (w : V) → key_of u ≡ Some q → held q (all ++ u ∷ []) ≡ Some (make (held q all)) → held q all ≡ Some w
        → ((x : U) → key_of x ≡ Some q → is_its x ≡ true)
        → in_order key_of held (all ++ u ∷ []) ≡ put is_its make u (in_order key_of held all)
    unfolding put
    put_old make all u w is made old own =
        let more = all ++ u ∷ [] in
        let v = make (Some w) in
        let some : held q more ≡ Some v = made ∙ ap (λ o. Some (make o)) old in
        let f = begun_by key_of held more in
        let g = begun_by key_of held all in
        let s = last_without (held q) all in
        let there = began all u q (length all) (omega arith) w (ap (held q) (take_all (length all) all (omega arith)) ∙ old) in
        let early : s < length all = there.0 in
        let x = get_or all s u in
        let a = take s all in
        let b = drop (suc s) all in
        let cut : all ≡ a ++ x ∷ b = sym (take-append-drop s all) ∙ ap (λ rest. a ++ rest) (drop-cons all s u early) in
        let long : length a ≡ s = length-take-le s all (omega arith) in
        let rest_long : s + suc (length b) ≡ length all = omega (arith, length-drop (suc s) all, early) in
        let stays : last_without (held q) more ≡ s = without_stays (held q) all u v some in
        let same_at : (at : ℕ) (y : U) → at < length all → at ≢ s → f at y ≡ g at y = λ at y e n.
        value_other all u q is at y e (λ key k yes. let t = (decide key q).0 yes in
        ap (λ k. held_since at (held k) more) t
        ∙ (since_elsewhere (held q) at more (λ m. n (sym m ∙ stays))
        ∙ (sym (since_elsewhere (held q) at all (λ m. n (sym m)))
        ∙ ap (λ k. held_since at (held k) all) (sym t)))) in
        let front : gathered_from f 0 a ≡ gathered_from g 0 a = gathered_same f g 0 s (λ at y low e. same_at at y (omega arith) (λ m. omega arith)) 0 a (omega arith) (omega arith) in
        let back : gathered_from f (s + 1) b ≡ gathered_from g (s + 1) b = gathered_same f g (s + 1) (length all) (λ at y low e. same_at at y e (λ m. omega arith)) (s + 1) b (omega arith) (omega arith) in
        let mid_f : f s x ≡ Some (x, v) = value_of_key more s x q there.1 ∙ ap (option_map {U = U × V} (λ (value : V). (x, value))) (since_there (held q) s more stays ∙ some) in
        let mid_g : g s x ≡ Some (x, w) = value_of_key all s x q there.1 ∙ ap (option_map {U = U × V} (λ (value : V). (x, value))) (since_there (held q) s all refl ∙ old) in
        let tail = gathered_from g (s + 1) b in
        let last : gathered_from f (0 + length all) (u ∷ []) ≡ [] =
        last_piece all u is (0 + length all) ∙ ap (λ o. cons_option (option_map {U = U × V} (λ (value : V). (u, value)) o) []) (since_elsewhere (held q) (0 + length all) more (λ m. omega (arith, stays))) in
        let hit : put is_its make u ((x, w) ∷ tail) ≡ (x, v) ∷ tail = ap (λ b. cond b ((x, v) ∷ tail) ((x, w) ∷ put is_its make u tail)) (own x there.1) in
        let past = put_past all make u s (λ at e. since_elsewhere (held q) at all (λ m. omega arith)) 0 a ((x, w) ∷ tail) (omega arith) in
        grind (arith, gathered_append, append-nil)

    -- an update of a key changes the key's entry
    pub in_order-own : (make : Option V → V) (all : List U) (u : U) → key_of u ≡ Some q → held q (all ++ u ∷ []) ≡ Some (make (held q all)) → ((x : U) → key_of x ≡ Some q → is_its x ≡ true)
        → in_order key_of held (all ++ u ∷ []) ≡ put is_its make u (in_order key_of held all)
    in_order-own make all u is made own = grind (arith, put_new, put_old)

-- each entry has what its update's key holds
unfoldable pub AllHold : {U K V : Type 0} → (U → Option K) → (K → List U → Option V) → List U → List (U × V) → Type 0
AllHold key_of held all [] = ⊤
AllHold {U} {K} {V} key_of held all (entry ∷ entries) = ((key : K) × (key_of entry.0 ≡ Some key) × (held key all ≡ Some entry.1)) × AllHold key_of held all entries

module _ {U K V : Type 0} (key_of : U → Option K) (held : K → List U → Option V) (all : List U) where
  hold_front : (x : U) (o : Option V) (entries : List (U × V)) → ((v : V) → o ≡ Some v → (key : K) × (key_of x ≡ Some key) × (held key all ≡ Some v))
      → AllHold key_of held all entries → AllHold key_of held all (cons_option (option_map {U = U × V} (λ value. (x, value)) o) entries)
  unfolding AllHold
  hold_front x None entries own rest = rest
  hold_front x (Some v) entries own rest = (own v refl, rest)

  key_held : (at : ℕ) (x : U) (v : V) → option_and_then (λ key. held_since at (held key) all) (key_of x) ≡ Some v → (key : K) × (key_of x ≡ Some key) × (held key all ≡ Some v)
  key_held at x v e = grind arith

  gathered_hold : (at : ℕ) (us : List U) → AllHold key_of held all (gathered_from (begun_by key_of held all) at us)
  unfolding AllHold
  gathered_hold at [] = tt
  gathered_hold at (x ∷ us) = hold_front x (option_and_then (λ key. held_since at (held key) all) (key_of x)) (gathered_from (begun_by key_of held all) (at + 1) us) (key_held at x) (gathered_hold (at + 1) us)

  pub in_order_hold : AllHold key_of held all (in_order key_of held all)
  in_order_hold = gathered_hold 0 all
