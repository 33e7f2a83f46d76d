-- Rows of keys and accounts: which keys are out after a step.
use Rattle.std.proofs.Common.{◌≡◌, ◌≢◌, ℕ, zero, suc, ◌+◌, ◌<◌, ◌≤◌, ◌⊎◌, List, [], ◌∷◌, ◌++◌, length, length-append, add-one, map, refl, sym, ap, ◌∙◌, subst, arith, Option, Some, None, Bool, true, false, cond, nat_eq, ◌&&◌, ◌||◌, count_by, get_or-set_same, get_or-set_other, eq-eqb, ◌-◌}
use Rattle.std.specs.List.{All, range_with_len}
use Rattle.std.proofs.lemmas.List.{append-nil, append_assoc}
use Rattle.std.proofs.lemmas.Bool.{leb-true, le-leb, ltb-true, lt-ltb, eqb-true, false≢true}
use Rattle.std.proofs.lemmas.List.Sums.{sum_by-append, sum_by-cons}
use Rattle.std.proofs.lemmas.List.Elements.{All-append}
use mathlib.Core.Logic.{dite}
use mathlib.Core.Option.{some, some-injective}
use lib.ListN.{get_elem?}
use native.Mathlib.Decide.{ℕ_discrete}
use Rattle.am_segment.specs.Segments.{KeyView, AreAllKeys, MayJoin, MayJoinRest}
use Rattle.am_cast.specs.declared.limits.TheConstants.{LANES}
use Rattle.am_cast.specs.declared.batch_view.BatchView.{BatchView}
use Rattle.am_cast.specs.declared.views.Account.{Account}
use Rattle.am_cast.specs.declared.views.WriterView.{WriterView}
use Rattle.am_cast.specs.Rule.{bit, idle, first_account}
use Rattle.am_cast.specs.declared.views.View.{View}
use Rattle.am_cast.specs.Changes.{with_writer, with_account, loaded, known_to, back, retired, severed, clearing}
use Rattle.am_cast.specs.Seats.{account_of, writer_of, IsKeyAt}
use Rattle.am_cast.specs.Writers.{Calm}
use Rattle.am_cast.specs.Keys.{key_of}
use Rattle.am_cast.specs.inside.KeyRows.{BucketView, row_at, MayTake, row_with}
use Rattle.am_cast.specs.inside.Waiting.{is_out, outs, Gathered, FitsAt, RowsFit}
use Rattle.std.proofs.lemmas.Grind.{common_steps}

bool_same : (p q : Bool) → (p ≡ true → q ≡ true) → (q ≡ true → p ≡ true) → p ≡ q
bool_same p q f g = grind arith

or_cases : (p q : Bool) → (p || q) ≡ true → (p ≡ true) ⊎ (q ≡ true)
or_cases p q e = grind arith

and_cases : (p q : Bool) → (p && q) ≡ true → (p ≡ true) × (q ≡ true)
and_cases p q e = grind (arith, false≢true)

or_first : (p q : Bool) → p ≡ true → (p || q) ≡ true
or_first p q e = ap (λ b. b || q) e

or_second : (p q : Bool) → q ≡ true → (p || q) ≡ true
or_second p q e = grind arith

and_both : (p q : Bool) → p ≡ true → q ≡ true → (p && q) ≡ true
and_both p q e f = (λ i. e i && f i)

pub not_true : (p : Bool) → (p ≡ true → ⊥) → p ≡ false
not_true p h = grind arith

module _ {K A : Type 0} where
  pub data IsOut (b : Account K A) (i : ℕ) : Type 0 where
    slotted : b.cleared ≤ i → i < b.stop → IsOut b i
    handed : b.away ≡ true → i ≡ b.known → IsOut b i

  pub is_out_tells : (b : Account K A) (i : ℕ) → is_out b i ≡ true → IsOut b i
  is_out_tells b i e = grind (arith, or_cases, and_cases, leb-true, ltb-true, eqb-true)

  pub is_out_when : (b : Account K A) (i : ℕ) → IsOut b i → is_out b i ≡ true
  is_out_when b i z = grind (arith, or_first, and_both, le-leb, lt-ltb, or_second, eq-eqb)

  pub same_out : (b c : Account K A) (i : ℕ) → (IsOut b i → IsOut c i) → (IsOut c i → IsOut b i) → is_out b i ≡ is_out c i
  same_out b c i f g = bool_same (is_out b i) (is_out c i) (λ e. is_out_when c i (f (is_out_tells b i e))) (λ e. is_out_when b i (g (is_out_tells c i e)))

  pub never_out : (b : Account K A) (i : ℕ) → (IsOut b i → ⊥) → is_out b i ≡ false
  never_out b i h = not_true (is_out b i) (λ e. h (is_out_tells b i e))

  -- which keys are out stays in each step but a clearing and a publish
  pub out_known : (n : ℕ) (b : Account K A) (i : ℕ) → b.away ≡ false → is_out (known_to n b) i ≡ is_out b i
  out_known n b i home = grind (arith, same_out, false≢true)

  pub out_back : (n : ℕ) (b : Account K A) (i : ℕ) → b.away ≡ true → b.cleared ≡ b.stop → is_out (back n (loaded b)) i ≡ is_out b i
  out_back n b i away clear = grind (arith, same_out, false≢true)

  pub out_severed : (h : ℕ) (b : Account K A) (i : ℕ) → h < 2 → b.away ≡ false → b.cleared ≡ b.known → b.known < b.stop → is_out (severed h b) i ≡ is_out b i
  out_severed h b i small home clear room = grind (arith, same_out, false≢true)

  pub out_clear : (b : Account K A) (i : ℕ) → b.cleared ≡ b.stop → b.away ≡ false → is_out b i ≡ false
  out_clear b i clear home = grind (arith, never_out, false≢true)

  pub out_clearing : (b : Account K A) (i : ℕ) → i ≢ b.cleared → is_out (clearing b) i ≡ is_out b i
  out_clearing b i ne = grind (arith, same_out)

  pub out_cleared : (b : Account K A) → (b.away ≡ true → b.known < b.cleared) → is_out (clearing b) b.cleared ≡ false
  out_cleared b low = grind (arith, never_out)

  pub out_retired : (b : Account K A) (i : ℕ) → (b.away ≡ true → b.cleared ≡ b.stop) → is_out (retired b) i ≡ is_out b i
  out_retired b i clear = grind (arith, same_out, false≢true)

outs_same : (out out' : ℕ → Bool) (n : ℕ) → ((l : ℕ) → l < n → out' l ≡ out l) → outs out' n ≡ outs out n
outs_same out out' zero h = refl
outs_same out out' (suc n) h = (λ i. outs_same out out' n (λ l k. h l (omega arith)) i + bit (h n (omega arith) i))

-- one key less is out
outs_less : (out out' : ℕ → Bool) (l n : ℕ) → l < n → out l ≡ true → out' l ≡ false → ((m : ℕ) → m ≢ l → out' m ≡ out m) → outs out' n + 1 ≡ outs out n
outs_less out out' l zero h was now same = absurd (omega arith)
outs_less out out' l (suc n) h was now same = dite (ℕ_discrete n l)
    (grind (arith, outs_same))
    (λ ne. let rest = outs_less out out' l n (omega arith) was now same in let a : bit (out' n) ≡ bit (out n) = ap bit (same n ne) in omega arith)

outs_none : (out : ℕ → Bool) (n : ℕ) → outs out n ≡ 0 → (l : ℕ) → l < n → out l ≡ false
outs_none out zero e l h = absurd (omega arith)
outs_none out (suc n) e l h = dite (ℕ_discrete l n)
    (λ is. ap out is ∙ zero_bit (out n) (omega arith))
    (λ ne. outs_none out n (omega arith) l (omega arith))
  where
    zero_bit : (b : Bool) → bit b ≡ 0 → b ≡ false
    zero_bit true e = absurd (omega arith)
    zero_bit false e = refl

none_outs : (out : ℕ → Bool) (n : ℕ) → ((l : ℕ) → l < n → out l ≡ false) → outs out n ≡ 0
none_outs out zero h = refl
none_outs out (suc n) h = (λ i. none_outs out n (λ l k. h l (omega arith)) i + bit (h n (omega arith) i))

module _ {T P : Type 0} (x : BatchView T P) where
  counted : (l m : ℕ) (keys : List (KeyView T)) → count_by (λ k. nat_eq k.number m) (keys ++ key_of x l ∷ []) ≡ count_by (λ k. nat_eq k.number m) keys + cond (nat_eq l m) 1 0
  counted l m keys = grind (arith, sum_by-append, sum_by-cons)

  each_more : (l : ℕ) (keys : List (KeyView T)) → All (λ k. k ≡ key_of x k.number) keys → All (λ k. k ≡ key_of x k.number) (keys ++ key_of x l ∷ [])
  each_more l keys h = grind (arith, common_steps, All-append)

  ne_bit : (l m : ℕ) → l ≢ m → ◌≡◌ {A = ℕ} (cond (nat_eq l m) 1 0) 0
  ne_bit l m ne = ap (λ (b : Bool). let n : ℕ = cond b 1 0 in n) (not_true (nat_eq l m) (λ e. ne (eqb-true l m e)))

  eq_bit : (l m : ℕ) → l ≡ m → ◌≡◌ {A = ℕ} (cond (nat_eq l m) 1 0) 1
  eq_bit l m e = ap (λ (b : Bool). let n : ℕ = cond b 1 0 in n) (eq-eqb l m e)

  -- a key came home
  pub gathered_one : (out out' : ℕ → Bool) (l n : ℕ) (keys : List (KeyView T)) → Gathered x out n keys → l < n → out l ≡ true → out' l ≡ false → ((m : ℕ) → m ≢ l → out' m ≡ out m) → Gathered x out' n (keys ++ key_of x l ∷ [])
  gathered_one out out' l n keys g h was now same = record {
    each = each_more l keys g.each;
    below = λ m k. let c = counted l m keys in let old = g.below m k in dite (ℕ_discrete l m)
        (grind (arith, eq_bit))
        (λ ne. let none_more = ne_bit l m ne in let a : bit (out' m) ≡ bit (out m) = ap bit (same m (λ z. ne (sym z))) in omega arith);
    above = λ m k. let c = counted l m keys in let old = g.above m k in let none_more = ne_bit l m (λ e. omega arith) in omega arith;
    many = let less = outs_less out out' l n h was now same in let long = length-append keys (key_of x l ∷ []) in omega arith;
  }

  -- the next lane's key, which isn't out
  pub gathered_more : (out : ℕ → Bool) (n : ℕ) (keys : List (KeyView T)) → Gathered x out n keys → out n ≡ false → Gathered x out (suc n) (keys ++ key_of x n ∷ [])
  gathered_more out n keys g home = record {
    each = each_more n keys g.each;
    below = λ m k. let c = counted n m keys in dite (ℕ_discrete n m)
        (grind (arith, eq_bit))
        (λ ne. let none_more = ne_bit n m ne in let old = g.below m (omega arith) in omega arith);
    above = λ m k. let c = counted n m keys in let old = g.above m (omega arith) in let none_more = ne_bit n m (λ e. omega arith) in omega arith;
    many = let long = length-append keys (key_of x n ∷ []) in let b : bit (out n) ≡ 0 = ap bit home in omega arith;
  }

  -- the keys of all lanes from the next on, none of which is out
  pub gathered_rest : (out : ℕ → Bool) (n m : ℕ) (keys : List (KeyView T)) → Gathered x out n keys → ((l : ℕ) → n ≤ l → l < n + m → out l ≡ false)
      → Gathered x out (n + m) (keys ++ map (key_of x) (range_with_len n m))
  gathered_rest out n zero keys g home = grind (arith, append-nil)
  gathered_rest out n (suc m) keys g home = grind (arith, gathered_more, append_assoc, (gathered_rest out (n + 1) m (keys ++ key_of x n ∷ []) (subst (λ (k : ℕ). Gathered x out k (keys ++ key_of x n ∷ [])) (sym (add-one n)) (gathered_more out n keys g (home n (omega arith) (omega arith)))) (λ l low high. home l (omega arith) (omega arith))))

  -- the next lane's key is out
  pub gathered_skip : (out : ℕ → Bool) (n : ℕ) (keys : List (KeyView T)) → Gathered x out n keys → out n ≡ true → Gathered x out (suc n) keys
  gathered_skip out n keys g away = record {
    each = g.each;
    below = grind arith;
    above = λ m k. g.above m (omega arith);
    many = let b : bit (out n) ≡ 1 = ap bit away in omega arith;
  }

  pub gathered_same : (out out' : ℕ → Bool) (n : ℕ) (keys : List (KeyView T)) → ((l : ℕ) → l < n → out' l ≡ out l) → Gathered x out n keys → Gathered x out' n keys
  gathered_same out out' n keys h g = grind (arith, outs_same)

  -- a lane's key that isn't among them may join them
  pub gathered_joins : (out : ℕ → Bool) (l n : ℕ) (keys : List (KeyView T)) → Gathered x out n keys → length keys < LANES → count_by (λ k. nat_eq k.number l) keys ≡ 0 → MayJoin keys (key_of x l)
  gathered_joins out l n keys g few new = record { of_one = g.each; new = new; few = few }

  -- the keys of the lanes from the next on may join them
  pub gathered_joins_rest : (out : ℕ → Bool) (n : ℕ) (keys : List (KeyView T)) → Gathered x out n keys → n < LANES → MayJoinRest keys (key_of x n)
  gathered_joins_rest out n keys g small = record { of_one = g.each; new = g.above (LANES - 1) (omega arith); few = omega arith }

  -- the keys of all lanes are all keys
  pub gathered_all : (out : ℕ → Bool) (keys : List (KeyView T)) → Gathered x out LANES keys → length keys ≡ LANES → AreAllKeys keys
  gathered_all out keys g long = let none_out : outs out LANES ≡ 0 = omega arith in record {
    some = omega arith;
    of_one = λ k d h m e i. ap (λ (k : KeyView T). k.segment) (g.each m e i) ∙ sym (ap (λ (k : KeyView T). k.segment) (g.each k d h));
    as_many = λ k d h. ap (λ (k : KeyView T). k.keys) (g.each k d h) ∙ sym long;
    each_once = λ l h. let once = g.below l (omega arith) in let b : bit (out l) ≡ 0 = ap bit (outs_none out LANES none_out l (omega arith)) in omega arith;
  }

same_name : {T P : Type 0} → (log : List (BatchView T P)) (i : ℕ) (x y : BatchView T P) → get_elem? log i ≡ some x → get_elem? log i ≡ some y → x ≡ y
same_name log i x y e f = some-injective x y (sym e ∙ f)

module _ {T P A : Type 0} where
  pub fits_ext : (q q' : WriterView (BatchView T P) (KeyView T) A) (i : ℕ) (o : Option (List (KeyView T))) → ((x : BatchView T P) → get_elem? q.tail.log i ≡ some x → get_elem? q'.tail.log i ≡ some x)
      → ((l : ℕ) → l < LANES → is_out (account_of q' l) i ≡ is_out (account_of q l) i) → FitsAt q i o → FitsAt q' i o
  fits_ext q q' i None log same f = λ l h. same l h ∙ f l h
  fits_ext q q' i (Some keys) log same f = (f.0, log f.0 f.1, gathered_same f.0 (λ l. is_out (account_of q l) i) (λ l. is_out (account_of q' l) i) LANES keys same f.2, f.3)

  account_here : (q : WriterView (BatchView T P) (KeyView T) A) (l : ℕ) (b : Account (KeyView T) A) → l < length q.accounts → account_of (with_account l b q) l ≡ b
  account_here q l b h = get_or-set_same q.accounts l b first_account h

  account_else : (q : WriterView (BatchView T P) (KeyView T) A) (l m : ℕ) (b : Account (KeyView T) A) → m ≢ l → account_of (with_account l b q) m ≡ account_of q m
  account_else q l m b ne = get_or-set_other q.accounts l m b first_account ne

  -- one account has changed, and no key went out or came home
  pub fits_one : (q q' : WriterView (BatchView T P) (KeyView T) A) (rows : List (BucketView T)) (l : ℕ) (b : Account (KeyView T) A) → q' ≡ with_account l b q → l < length q.accounts
      → ((i : ℕ) → is_out b i ≡ is_out (account_of q l) i) → RowsFit q rows → RowsFit q' rows
  fits_one q q' rows l b is small same fits = subst (λ (q : WriterView (BatchView T P) (KeyView T) A). RowsFit q rows) (sym is) (λ i. fits_ext q (with_account l b q) i (row_at rows i) (λ x e. e)
      (λ m h. dite (ℕ_discrete m l)
      (grind (arith, account_here))
      (λ ne. ap (λ (b : Account (KeyView T) A). is_out b i) (account_else q l m b ne))) (fits i))

  -- no account has changed
  pub fits_tail : (q q' : WriterView (BatchView T P) (KeyView T) A) (rows : List (BucketView T)) → q'.tail.log ≡ q.tail.log → q'.accounts ≡ q.accounts → RowsFit q rows → RowsFit q' rows
  fits_tail q q' rows log same fits i = grind (arith, fits_ext)

  -- the row of a place whose key is out
  row_there : (q : WriterView (BatchView T P) (KeyView T) A) (i l : ℕ) (o : Option (List (KeyView T))) → FitsAt q i o → l < LANES → is_out (account_of q l) i ≡ true → (keys : List (KeyView T)) × (o ≡ Some keys) × FitsAt q i (Some keys)
  row_there q i l o f h out = grind (arith, false≢true)

  -- what a key that comes home finds
  record Coming (q : WriterView (BatchView T P) (KeyView T) A) (rows : List (BucketView T)) (l place : ℕ) (key : KeyView T) : Type 0 where
    pub keys : List (KeyView T)
    pub row : row_at rows place ≡ Some keys
    pub x : BatchView T P
    pub batch : get_elem? q.tail.log place ≡ some x
    pub gathered : Gathered x (λ l. is_out (account_of q l) place) LANES keys
    pub few : length keys < LANES
    pub key_is : key ≡ key_of x l
    pub out : is_out (account_of q l) place ≡ true

  coming : (q : WriterView (BatchView T P) (KeyView T) A) (rows : List (BucketView T)) (l place : ℕ) (key : KeyView T) → l < LANES → place ≡ (account_of q l).cleared → place < (account_of q l).stop
      → IsKeyAt key_of q.tail.log place l key → RowsFit q rows → Coming q rows l place key
  coming q rows l place key small at inside k fits = let b : Account (KeyView T) A = account_of q l in let out : is_out b place ≡ true = is_out_when b place (slotted (omega arith) inside) in
      let r = row_there q place l (row_at rows place) (fits place) small out in let same : k.0 ≡ r.2.0 = same_name q.tail.log place k.0 r.2.0 k.1 r.2.1 in record {
        keys = r.0;
        row = r.1;
        x = r.2.0;
        batch = r.2.1;
        gathered = r.2.2;
        few = r.2.3;
        key_is = k.2 ∙ ap (λ (x : BatchView T P). key_of x l) same;
        out = out;
      }

  came : (q : WriterView (BatchView T P) (KeyView T) A) (rows : List (BucketView T)) (l place : ℕ) (key : KeyView T) (q' : WriterView (BatchView T P) (KeyView T) A) → Coming q rows l place key → l < length q.accounts → l < LANES → place ≡ (account_of q l).cleared
      → ((account_of q l).away ≡ true → (account_of q l).known < (account_of q l).cleared) → q' ≡ with_account l (clearing (account_of q l)) q → (c : Coming q rows l place key) → Gathered c.x (λ l. is_out (account_of q' l) place) LANES (c.keys ++ key ∷ [])
  came q rows l place key q' _ inside small at low is c = subst (λ (k : KeyView T). Gathered c.x (λ l. is_out (account_of q' l) place) LANES (c.keys ++ k ∷ [])) (sym c.key_is)
      (gathered_one c.x (λ l. is_out (account_of q l) place) (λ l. is_out (account_of q' l) place) l LANES c.keys c.gathered small c.out
      (grind (arith, account_here, out_cleared))
      (grind (arith, account_else)))

  pub may_bring : (q q' : WriterView (BatchView T P) (KeyView T) A) (rows : List (BucketView T)) (l place : ℕ) (key : KeyView T) → l < length q.accounts → l < LANES → place ≡ (account_of q l).cleared → place < (account_of q l).stop
      → ((account_of q l).away ≡ true → (account_of q l).known < (account_of q l).cleared) → q' ≡ with_account l (clearing (account_of q l)) q
      → IsKeyAt key_of q.tail.log place l key → RowsFit q rows → (keys : List (KeyView T)) × (row_at rows place ≡ Some keys) × MayTake keys key
  may_bring q q' rows l place key inside small at in_slot low is k fits = let c = coming q rows l place key small at in_slot k fits in
      (c.keys, c.row, (grind (arith, gathered_joins), c.few, λ e. gathered_all c.x (λ l. is_out (account_of q' l) place) (c.keys ++ key ∷ []) (came q rows l place key q' c inside small at low is c) (length-append c.keys (key ∷ []) ∙ ap (λ (n : ℕ). n + 1) e)))

  pub brought : (q q' : WriterView (BatchView T P) (KeyView T) A) (rows rows' : List (BucketView T)) (l place : ℕ) (key : KeyView T) → l < length q.accounts → l < LANES → place ≡ (account_of q l).cleared → place < (account_of q l).stop
      → ((account_of q l).away ≡ true → (account_of q l).known < (account_of q l).cleared) → q' ≡ with_account l (clearing (account_of q l)) q
      → IsKeyAt key_of q.tail.log place l key → RowsFit q rows
      → ((keys : List (KeyView T)) → row_at rows place ≡ Some keys → row_at rows' place ≡ row_with keys key) → ((p : ℕ) → p ≢ place → row_at rows' p ≡ row_at rows p) → RowsFit q' rows'
  brought q q' rows rows' l place key inside small at in_slot low is k fits here others i = dite (ℕ_discrete i place)
      (λ e. let c = coming q rows l place key small at in_slot k fits in let g = came q rows l place key q' c inside small at low is c in
      subst (λ (j : ℕ). FitsAt q' j (row_at rows' j)) (sym e) (subst (λ (o : Option (List (KeyView T))). FitsAt q' place o) (sym (here c.keys c.row)) (now c.keys c.x (nat_eq (length c.keys) (LANES - 1)) refl (ap (λ (q : WriterView (BatchView T P) (KeyView T) A). get_elem? q.tail.log place) is ∙ c.batch) g c.few)))
      (λ ne. subst (λ (o : Option (List (KeyView T))). FitsAt q' i o) (sym (others i ne)) (fits_ext q q' i (row_at rows i) (λ x e. ap (λ (q : WriterView (BatchView T P) (KeyView T) A). get_elem? q.tail.log i) is ∙ e)
      (grind (arith, account_here, out_clearing, account_else)) (fits i)))
    where
      now : (keys : List (KeyView T)) (x : BatchView T P) (b : Bool) → nat_eq (length keys) (LANES - 1) ≡ b → get_elem? q'.tail.log place ≡ some x → Gathered x (λ l. is_out (account_of q' l) place) LANES (keys ++ key ∷ []) → length keys < LANES → FitsAt q' place (cond b None (Some (keys ++ key ∷ [])))
      now keys x true e there g few = let last = eqb-true (length keys) (LANES - 1) e in let long = length-append keys (key ∷ []) in outs_none (λ l. is_out (account_of q' l) place) LANES (omega arith)
      now keys x false e there g few = let long = length-append keys (key ∷ []) in (x, there, g, (let ne : length keys ≢ LANES - 1 = (λ z. false≢true (sym e ∙ eq-eqb (length keys) (LANES - 1) z)) in omega arith))

  -- the same, of the writer's view
  pub fits_set : (w w' : View (BatchView T P) (KeyView T) A) (rows : List (BucketView T)) (l : ℕ) (b : Account (KeyView T) A) → w' ≡ with_writer (with_account l b (writer_of w)) w → l < length (writer_of w).accounts
      → ((i : ℕ) → is_out b i ≡ is_out (account_of (writer_of w) l) i) → RowsFit (writer_of w) rows → RowsFit (writer_of w') rows
  fits_set w w' rows l b e small same fits = fits_one (writer_of w) (writer_of w') rows l b (ap (λ (w : View (BatchView T P) (KeyView T) A). writer_of w) e) small same fits

-- where all keys are home, none is out
pub gathered_clear : {T P : Type 0} (x : BatchView T P) (out : ℕ → Bool) (keys : List (KeyView T)) → Gathered x out LANES keys → length keys ≡ LANES → (l : ℕ) → l < LANES → out l ≡ false
gathered_clear x out keys g long = outs_none out LANES (omega arith)

module _ {T P A : Type 0} where
  -- where all lanes are idle no key waits for another
  pub rows_gone : (q : WriterView (BatchView T P) (KeyView T) A) (rows : List (BucketView T)) → Calm q → ((l : ℕ) → l < LANES → (account_of q l).stand ≡ idle) → RowsFit q rows → (p : ℕ) → row_at rows p ≡ None
  rows_gone q rows calm idles fits p = grind (arith, out_clear, not_true, none_outs)
