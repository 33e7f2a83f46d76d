-- Facts about the words of specs/ValidAlerts.antt: what the elements of a post are read as.
use Rattle.std.proofs.Common.{◌≡◌, ◌≢◌, ℕ, ◌+◌, ◌<◌, ◌≤◌, List, [], ◌∷◌, ◌++◌, length, reverse, Option, None, Some, Result, Ok, Err, refl, sym, ap, subst, ◌∙◌, arith, All}
use Rattle.std.specs.Prelude.{⊤}
use Rattle.std.specs.Prelude.{codes, filter, option_and_then, option_map}
use Rattle.std.specs.FinMap.{empty, get, get-from_entries}
use Rattle.std.specs.FinMap.Entries.{find}
use Rattle.std.specs.Cmp.Lexicographic.{nat_list_cmp_total}
use Rattle.std.proofs.lemmas.List.{reverse-append}
use Rattle.std.proofs.lemmas.List.Elements.{All-weaker}
use Rattle.serde_json.specs.Data.{Data, array, Items, no_items, item}
use Rattle.am_labels.specs.LabelSets.{Labels, last_holds}
use Rattle.am_labels.specs.Texts.{text_cmp}
use Rattle.am_alert.specs.Moments.{later}
use Rattle.am_alert.specs.declared.alert.Alert.{Alert}
use Rattle.am_alert.specs.declared.post.AlertFault.{AlertFault}
use Rattle.am_alert.specs.declared.post.PostFault.{PostFault}
use Rattle.am_posts.specs.declared.postable.Postable.{Postable}
use Rattle.am_posts.specs.declared.elements.Element.{Element}
use Rattle.am_posts.specs.declared.elements.Element.TheVariants.{Valid, Invalid, BadMember, OutOfRange}
use Rattle.am_alert.specs.GivenMembers.{given}
use Rattle.am_posts.specs.Postables.{◌>>=◌, has_value, labels_of, annotations_of, if_given, time_at, text_at, postable_of}
use Rattle.am_posts.specs.Posts.{Entries, count, first_given, defaulted, element_of, elements_of, fault_of, in_range, with_end, with_first}
use Rattle.am_posts.specs.Laws.{EachElementCounts, FaultsAreInOrder, ValidAlertsAreWellFormed}
use Rattle.am_alert.specs.declared.post.Post.{Post}
use Rattle.am_posts.specs.Posts.{IsArray, IsPostOf}
use Rattle.am_alert.specs.ValidAlerts.{IsWellFormed, indices_of, Rises}

-- ---- labels with a value

-- each pair has a value
abbrev AreValued : List (List ℕ × List ℕ) → Type 0
AreValued [] = ⊤
AreValued (pair ∷ pairs) = (pair.1 ≢ []) × AreValued pairs

kept_valued : (pairs : List (List ℕ × List ℕ)) → AreValued (filter has_value pairs)
kept_valued [] = tt
kept_valued (pair ∷ pairs) = let rest = kept_valued pairs in grind arith

both_valued : (pairs more : List (List ℕ × List ℕ)) → AreValued pairs → AreValued more → AreValued (pairs ++ more)
both_valued [] more h k = k
both_valued (pair ∷ pairs) more h k = (h.0, both_valued pairs more h.1 k)

turned_valued : (pairs : List (List ℕ × List ℕ)) → AreValued pairs → AreValued (reverse pairs)
turned_valued [] h = tt
turned_valued (pair ∷ pairs) h =
    subst AreValued (sym (reverse-append (pair ∷ []) pairs)) (both_valued (reverse pairs) (pair ∷ []) (turned_valued pairs h.1) (h.0, tt))

-- what is found among them is no empty text
found_valued : (pairs : List (List ℕ × List ℕ)) (name : List ℕ) → AreValued pairs → find text_cmp name pairs ≢ Some []
found_valued [] name h = λ e. cc
found_valued (pair ∷ pairs) name h = let rest = found_valued pairs name in grind arith

pub labels_valued : (pairs : List (List ℕ × List ℕ)) (name : List ℕ) → get (last_holds (filter has_value pairs)) name ≢ Some []
labels_valued pairs name e =
    found_valued (reverse (filter has_value pairs)) name (turned_valued _ (kept_valued pairs))
    (sym (get-from_entries nat_list_cmp_total (reverse (filter has_value pairs)) name) ∙ e)

-- ---- one element

bound : {A B : Type 0} (f : A → Option B) (o : Option A) (y : B) → option_and_then f o ≡ Some y → (x : A) × (o ≡ Some x) × (f x ≡ Some y)
bound f None y e = cc
bound f (Some x) y e = (x, refl, e)

mapped : {A B : Type 0} (f : A → B) (o : Option A) (y : B) → option_map f o ≡ Some y → (x : A) × (o ≡ Some x) × (f x ≡ y)
mapped f None y e = cc
mapped f (Some x) y e = (x, refl, (cc))

-- the labels are those that were read, whatever else was
labels_part : (l a : Option Labels) (s f : Option (Option ℕ)) (g : Option (List ℕ)) (p : Postable)
    → (l >>= (λ labels. a >>= (λ annotations. s >>= (λ start. f >>= (λ finish. g >>= (λ generator.
    Some (record { labels = labels; annotations = annotations; start = start; end = finish; generator = generator }))))))) ≡ Some p
    → l ≡ Some p.labels
labels_part None a s f g p e = cc
labels_part (Some l) None s f g p e = cc
labels_part (Some l) (Some a) None f g p e = cc
labels_part (Some l) (Some a) (Some s) None g p e = cc
labels_part (Some l) (Some a) (Some s) (Some f) None p e = cc
labels_part (Some l) (Some a) (Some s) (Some f) (Some g) p e = grind arith

-- the labels of an element that is read have values
labels_read : (d : Data) (ls : Labels) → option_and_then labels_of (given (codes "labels") d) ≡ Some ls → (name : List ℕ) → get ls name ≢ Some []
labels_read d ls e name = grind (arith, bound, mapped, labels_valued)

postable_valued : (d : Data) (p : Postable) → postable_of d ≡ Some p → (name : List ℕ) → get p.labels name ≢ Some []
unfolding postable_of
postable_valued d p e =
    labels_read d p.labels
    (labels_part (option_and_then labels_of (given (codes "labels") d)) (if_given empty annotations_of (given (codes "annotations") d))
    (time_at (codes "startsAt") d) (time_at (codes "endsAt") d) (text_at (codes "generatorURL") d) p e)

-- an alert with no fault has a label, its names, and an end that isn't before its start
pub no_fault : (alert : Alert) → fault_of alert ≡ None → (values : (n : List ℕ) → get alert.labels n ≢ Some []) → IsWellFormed alert
no_fault alert none values = grind arith

in_range_valid : (o : Option Alert) (alert : Alert) → in_range o ≡ Valid alert → (o ≡ Some alert) × (fault_of alert ≡ None)
in_range_valid None alert e = cc
in_range_valid (Some a) alert e = grind arith

members_valid : (now timeout : ℕ) (o : Option Postable) (alert : Alert) → element_of now timeout o ≡ Valid alert
    → (p : Postable) × (o ≡ Some p) × (defaulted now timeout p ≡ Some alert) × (fault_of alert ≡ None)
members_valid now timeout None alert e = cc
members_valid now timeout (Some p) alert e = let r = in_range_valid (defaulted now timeout p) alert e in (p, refl, r.0, r.1)

pub well_formed : (now timeout : ℕ) (d : Data) (alert : Alert) → element_of now timeout (postable_of d) ≡ Valid alert → IsWellFormed alert × (alert.updated ≡ now)
well_formed now timeout d alert e =
    let m = members_valid now timeout (postable_of d) alert e in
    let made = mapped (with_end now m.0) (first_given m.0.end (later now timeout)) alert m.2 in
    let labels : alert.labels ≡ m.0.labels = sym (ap (λ (a : Alert). a.labels) made.2) in (
      no_fault alert m.3 (subst (λ (ls : Labels). (n : List ℕ) → get ls n ≢ Some []) (sym labels) (postable_valued d m.0 m.1)),
      sym (ap (λ (a : Alert). a.updated) made.2),
    )

-- ---- all elements

-- what the elements from index i on are read as
pub record AreTold (now i : ℕ) (ds : Items) (entries : Entries) : Type 0 where
  pub valid : All (λ alert. IsWellFormed alert × (alert.updated ≡ now)) entries.0
  pub rising : Rises (indices_of entries.1)
  pub within : All (λ index. (i ≤ index) × (index < i + count ds)) (indices_of entries.1)
  pub counted : length entries.0 + length entries.1 ≡ count ds

valid_first : (now i : ℕ) (d : Data) (ds : Items) (alert : Alert) (more : Entries) → IsWellFormed alert × (alert.updated ≡ now)
    → AreTold now (i + 1) ds more → AreTold now i (item d ds) (alert ∷ more.0, more.1)
valid_first now i d ds alert more first told = grind arith

invalid_first : (now i : ℕ) (d : Data) (ds : Items) (fault : AlertFault) (more : Entries)
    → AreTold now (i + 1) ds more → AreTold now i (item d ds) (more.0, (i, fault) ∷ more.1)
invalid_first now i d ds fault more told = grind arith

told_first : (now i : ℕ) (d : Data) (ds : Items) (one : Element) (rest : Result Entries PostFault) (entries : Entries)
    → ((alert : Alert) → one ≡ Valid alert → IsWellFormed alert × (alert.updated ≡ now))
    → ((more : Entries) → rest ≡ Ok more → AreTold now (i + 1) ds more)
    → with_first i one rest ≡ Ok entries → AreTold now i (item d ds) entries
told_first now i d ds (Valid alert) (Ok more) entries first others e =
    let same : (alert ∷ more.0, more.1) ≡ entries = cc in
    subst (AreTold now i (item d ds)) same (valid_first now i d ds alert more (first alert refl) (others more refl))
told_first now i d ds (Valid alert) (Err f) entries first others e = cc
told_first now i d ds (Invalid fault) (Ok more) entries first others e =
    let same : (more.0, (i, fault) ∷ more.1) ≡ entries = cc in
    subst (AreTold now i (item d ds)) same (invalid_first now i d ds fault more (others more refl))
told_first now i d ds (Invalid fault) (Err f) entries first others e = cc
told_first now i d ds BadMember rest entries first others e = cc
told_first now i d ds OutOfRange rest entries first others e = cc

pub are_told : (now timeout i : ℕ) (ds : Items) (entries : Entries) → elements_of now timeout i ds ≡ Ok entries → AreTold now i ds entries
are_told now timeout i no_items entries e = grind arith
are_told now timeout i (item d ds) entries e =
    told_first now i d ds (element_of now timeout (postable_of d)) (elements_of now timeout (i + 1) ds) entries
    (λ alert is. well_formed now timeout d alert is) (λ more is. are_told now timeout (i + 1) ds more is) e

-- ---- the laws of a post

-- the JSON of bytes is one array
one_array : (bytes : List ℕ) (ds es : Items) → IsArray bytes ds → IsArray bytes es → ds ≡ es
one_array bytes ds es a b = let same : Some (array ds) ≡ Some (array es) = sym a.2 ∙ b.2 in cc

pub valid_are_well_formed : ValidAlertsAreWellFormed
valid_are_well_formed now timeout bytes post h = (are_told now timeout 0 h.0 (post.valid, post.faults) h.3).valid

told_of : (now timeout : ℕ) (bytes : List ℕ) (post : Post) (elements : Items) → IsPostOf now timeout bytes (Ok post) → IsArray bytes elements
    → AreTold now 0 elements (post.valid, post.faults)
told_of now timeout bytes post elements h is =
    subst (λ ds. AreTold now 0 ds (post.valid, post.faults)) (one_array bytes h.0 elements h.1 is) (are_told now timeout 0 h.0 (post.valid, post.faults) h.3)

pub faults_are_in_order : FaultsAreInOrder
faults_are_in_order now timeout bytes post elements h is =
    let told = told_of now timeout bytes post elements h is in
    (told.rising, All-weaker (λ index. (0 ≤ index) × (index < 0 + count elements)) (λ index. index < count elements) (λ index k. omega (arith, k.1)) (indices_of post.faults) told.within)

pub each_counts : EachElementCounts
each_counts now timeout bytes post elements h is = (told_of now timeout bytes post elements h is).counted
