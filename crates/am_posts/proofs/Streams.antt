-- Facts about the words of specs/inside/Streams.antt: a text that is read token by token.
use Rattle.std.proofs.Common.{◌≡◌, ◌∙◌, ℕ, ◌+◌, ◌≤◌, true, false, List, [], ◌∷◌, ◌++◌, length, Option, None, Some, refl, sym, ap, subst, arith, append_assoc, append-nil, Greater, nat_cmp}
use Rattle.std.specs.Prelude.{⊤}
use Rattle.std.specs.Prelude.{IfSome, MatchOption, option_and_then, option_map}
use Rattle.std.specs.Ordering.{ordering_reverse}
use Rattle.std.specs.Cmp.Lexicographic.{slice_cmp, nat_list_cmp_total}
use Rattle.json.specs.Token.{Token}
use Rattle.serde_json.specs.Data.{Data, Items, no_items, item, Members, no_members, member, put, string}
use Rattle.serde_json.specs.Written.{items_have_float, items_text}
use Rattle.am_posts.specs.Postables.{pairs_of, postable_of}
use Rattle.am_posts.specs.Posts.{postables_of}
use Rattle.am_posts.specs.WholeAlerts.{alert_in, whole_alerts_in}
use Rattle.am_alert.specs.declared.alert.Alert.{Alert}
use Rattle.am_posts.specs.declared.postable.Postable.{Postable}
use Rattle.am_posts.specs.inside.Rooms.{HasRoom, ItemsHaveRoom}
use Rattle.am_posts.specs.inside.Streams.{IsBefore, IsElementOf, IsValueOf}
use Rattle.am_posts.proofs.Rooms.{item_long}
use Rattle.am_posts.proofs.Tokens.{mapped_twice, same}

-- ---- names and values

-- the members of an object of texts
abbrev pub text_members : List (List ℕ × List ℕ) → Members
text_members [] = no_members
text_members (pair ∷ pairs) = member pair.0 (string pair.1) (text_members pairs)

pub pairs_of_texts : (pairs : List (List ℕ × List ℕ)) → pairs_of (text_members pairs) ≡ Some pairs
pairs_of_texts [] = refl
pairs_of_texts (pair ∷ pairs) = ap (λ o. option_map (λ (rest : List (List ℕ × List ℕ)). pair ∷ rest) o) (pairs_of_texts pairs)

-- each name is before this one
abbrev pub AreBefore : List ℕ → List (List ℕ × List ℕ) → Type 0
AreBefore name [] = ⊤
AreBefore name (pair ∷ pairs) = IsBefore pair.0 name × AreBefore name pairs

-- a name that is before none goes last
pub put_last : (name text : List ℕ) (pairs : List (List ℕ × List ℕ)) → AreBefore name pairs
    → put name (string text) (text_members pairs) ≡ text_members (pairs ++ (name, text) ∷ [])
put_last name text [] h = refl
put_last name text (pair ∷ pairs) h =
    let above : slice_cmp nat_cmp name pair.0 ≡ Greater = nat_list_cmp_total.antisymm name pair.0 ∙ ap ordering_reverse h.0 in
    rw above (ap (member pair.0 (string pair.1)) (put_last name text pairs h.1))

pub later_name : (last name : List ℕ) (pairs : List (List ℕ × List ℕ)) → IsBefore last name → AreBefore last pairs → AreBefore name pairs
later_name last name [] less h = tt
later_name last name (pair ∷ pairs) less h = (nat_list_cmp_total.trans pair.0 last name h.0 less, later_name last name pairs less h.1)

pub one_before : (name : List ℕ) (pairs : List (List ℕ × List ℕ)) (pair : List ℕ × List ℕ) → AreBefore name pairs → IsBefore pair.0 name → AreBefore name (pairs ++ pair ∷ [])
one_before name [] pair h less = (less, tt)
one_before name (first ∷ pairs) pair h less = (h.0, one_before name pairs pair h.1 less)

-- a name that is after the last one is after all of them
pub all_before : {A : Type 0} (now : A → List ℕ) (last : Option A) (pairs : List (List ℕ × List ℕ)) (name : List ℕ)
    → MatchOption last (pairs ≡ []) (λ l. (n : List ℕ) → IsBefore (now l) n → AreBefore n pairs)
    → IfSome last (λ l. IsBefore (now l) name) → AreBefore name pairs
all_before now None pairs name h less = subst (AreBefore name) (sym h) tt
all_before now (Some l) pairs name h less = h name less

-- ---- an element more

-- the elements that items are made of, with the room that they leave
pub record Elements-so-far (values : Items → Items) (elements : List (Option Postable)) (room left : ℕ) : Type 0 where
  pub postables : (rest : Items) → postables_of (values rest) ≡ elements ++ postables_of rest
  pub floats : (rest : Items) → items_have_float rest ≡ false → items_have_float (values rest) ≡ false
  pub long : (rest : Items) → length (items_text true (values rest)) + left + 1 ≤ room + length (items_text true rest)

pub no_element_yet : (room left : ℕ) → left + 1 ≤ room → Elements-so-far (λ rest. rest) [] room left
no_element_yet room left fits = grind arith

pub one_more_element : (values : Items → Items) (elements : List (Option Postable)) (room left before after : ℕ) (d : Data) (element : Option Postable)
    → Elements-so-far values elements room left → postable_of d ≡ element → before + 1 ≤ left → HasRoom d before after
    → Elements-so-far (λ rest. values (item d rest)) (elements ++ element ∷ []) room after
one_more_element values elements room left before after d element so_far reads comma fits = grind (arith, append_assoc, item_long)

pub all_elements : (values : Items → Items) (elements : List (Option Postable)) (room left : ℕ) → Elements-so-far values elements room left
    → (elements ≡ postables_of (values no_items)) × ItemsHaveRoom (values no_items) room left
all_elements values elements room left so_far = grind (arith, append-nil)

-- the whole alerts that items are made of
abbrev pub Alerts-so-far : (Items → Items) → List Alert → Type 0
Alerts-so-far values alerts = (rest : Items) → whole_alerts_in (values rest) ≡ option_map (λ (more : List Alert). alerts ++ more) (whole_alerts_in rest)

pub no_alert_yet : Alerts-so-far (λ rest. rest) []
no_alert_yet rest = same (whole_alerts_in rest)

pub all_alerts : (values : Items → Items) (alerts : List Alert) → Alerts-so-far values alerts → whole_alerts_in (values no_items) ≡ Some alerts
all_alerts values alerts so_far = so_far no_items ∙ ap Some (append-nil alerts)

mapped_alike : {A B : Type 0} (f g : A → B) (o : Option A) → ((a : A) → f a ≡ g a) → option_map f o ≡ option_map g o
mapped_alike f g None alike = refl
mapped_alike f g (Some a) alike = ap Some (alike a)

pub one_more_alert : (values : Items → Items) (alerts : List Alert) (d : Data) (alert : Alert) → Alerts-so-far values alerts → alert_in d ≡ Some alert
    → Alerts-so-far (λ rest. values (item d rest)) (alerts ++ alert ∷ [])
one_more_alert values alerts d alert so_far is rest =
    so_far (item d rest)
    ∙ ap (λ (o : Option Alert). option_map (λ (more : List Alert). alerts ++ more) (option_and_then (λ (one : Alert). option_map (λ (more : List Alert). one ∷ more) (whole_alerts_in rest)) o)) is
    ∙ mapped_twice (λ (more : List Alert). alerts ++ more) (λ (more : List Alert). alert ∷ more) (whole_alerts_in rest)
    ∙ mapped_alike (λ (more : List Alert). alerts ++ alert ∷ more) (λ (more : List Alert). (alerts ++ alert ∷ []) ++ more) (whole_alerts_in rest) (λ more. sym (append_assoc alerts (alert ∷ []) more))

-- an element, if there is one
pub if_element : (depth : ℕ) (old new : List Token) (room left : ℕ) (d : Data) (element : Option Postable) → IsValueOf depth old new d → HasRoom d room left
    → postable_of d ≡ element → IfSome element (IsElementOf depth old new room left)
if_element depth old new room left d None value fits is = tt
if_element depth old new room left d (Some element) value fits is = (d, value, fits, is)
