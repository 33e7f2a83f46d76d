-- The map of a dispatcher's groups, seen as the list of its groups.
use Rattle.std.proofs.Common.{◌≡◌, ℕ, zero, suc, ◌+◌, ◌<◌, Bool, true, false, not, ◌&&◌, nat_eq, List, [], ◌∷◌, ◌++◌, map, filter, length, take, drop, set, get_or, Option, Some, None, is_some, refl, sym, ap, ◌∙◌, arith, ◌-◌, length-append}
use Rattle.std.specs.List.{slice_get, position, list_all, count_by}
use Rattle.std.specs.Map.{keys_of, values_of}
use Rattle.std.specs.Map as map_of
use Rattle.std.proofs.lemmas.Bool.Decides.{Decides-eqb}
use Rattle.std.specs.Prelude.{Result, Ok, Err, OnErr}
use Rattle.std.proofs.lemmas.List.Sums.{length-filter}
use Rattle.std.proofs.lemmas.List.{length-map, drop_more, length-take-le, get_or_at}
use Rattle.std.proofs.lemmas.List.Edits.{map_over_more}
use Rattle.std.proofs.Math.Seq.{take-append_seam}
use Rattle.indexmap.specs.IndexMap.{insert_entry, set_value_at}
use Rattle.indexmap.proofs.MapLemmas.{Found-position, insert_entry-first}
use Rattle.am_labels.specs.LabelSets.{Labels, same_labels}
use Rattle.am_labels.specs.LabelLaws.{labels_decide}
use Rattle.am_alert.specs.declared.alert.Alert.{Alert}
use Rattle.am_alert.specs.Merging.{is_resolved_at, unresolved}
use Rattle.am_keyed.specs.declared.keyed.KeyChange.{KeyChange}
use Rattle.am_keyed.specs.Keyed.{with_last_alert, before_alert}
use Rattle.am_routes.specs.declared.dispatcher.GroupKey.{GroupKey}
use Rattle.am_routes.specs.RouteAnswers.{Node}
use Rattle.am_routes.specs.Groups.{GroupView, is_empty, removed_groups}
use Rattle.am_routes.specs.inside.GroupLists.{joined, with_members, with_member, swept, without_resolved}
use Rattle.am_routes.specs.inside.GroupMaps.{groups_in, AreKeyedByGroups}
use Rattle.am_routes.specs.Undoing.{all_before, changed_back, groups_before}
use Rattle.am_routes.specs.declared.dispatcher.GroupChange.{GroupChange}

pub take_last : {A : Type 0} (xs : List A) (x : A) → take (length (xs ++ x ∷ []) - 1) (xs ++ x ∷ []) ≡ xs
take_last xs x =
    let all : length (xs ++ x ∷ []) - 1 ≡ length xs = omega (arith, length-append xs (x ∷ [])) in
    ap (λ n. take n (xs ++ x ∷ [])) all ∙ take-append_seam xs (x ∷ [])

-- whether two keys are the same
abbrev pub same_key : GroupKey → GroupKey → Bool
same_key a b = nat_eq a.route.0 b.route.0 && same_labels a.labels b.labels

-- the key is of this route and these labels
pub record IsKeyOf (node : Node) (labels : Labels) (key : GroupKey) : Type 0 where
  pub route : key.route.0 ≡ node.number
  pub labels_are : key.labels ≡ labels

both_of : (a b : Bool) → (a && b) ≡ true → (a ≡ true) × (b ≡ true)
both_of true b e = (refl, e)
both_of false b e = absurd (cc)

-- where no group has the key, one is put at the end
pub member_begins : (node : Node) (labels : Labels) (alert : Alert) (key : GroupKey) (entries : List (GroupKey × GroupView)) → IsKeyOf node labels key → AreKeyedByGroups entries → map_of.lookup (same_key key) entries ≡ None
    → groups_in (insert_entry same_key entries key (record { route = node.number; receiver = node.route.receiver; labels = labels; alerts = alert ∷ [] })) ≡ with_member node labels alert (groups_in entries)
member_begins node labels alert key [] of kept none = refl
member_begins node labels alert key (entry ∷ entries) of kept none =
    let rest = member_begins node labels alert key entries in
    grind arith

-- where a group has the key, the alert is put into it
pub member_joins : (node : Node) (labels : Labels) (alert : Alert) (key : GroupKey) (group : GroupView) (entries : List (GroupKey × GroupView)) → IsKeyOf node labels key → AreKeyedByGroups entries → map_of.lookup (same_key key) entries ≡ Some group
    → groups_in (insert_entry same_key entries key (record group { alerts = with_last_alert alert group.alerts })) ≡ with_member node labels alert (groups_in entries)
member_joins node labels alert key group [] of kept found = absurd (cc)
member_joins node labels alert key group (entry ∷ entries) of kept found =
    let rest = member_joins node labels alert key group entries in
    grind arith

pub keys_kept : (key : GroupKey) (group : GroupView) (entries : List (GroupKey × GroupView)) → key.route.0 ≡ group.route → key.labels ≡ group.labels → AreKeyedByGroups entries → AreKeyedByGroups (insert_entry same_key entries key group)
keys_kept key group [] route labels kept = ((route, labels), tt)
keys_kept key group (entry ∷ entries) route labels kept =
    let rest = keys_kept key group entries in
    grind (arith, both_of, Decides-eqb, labels_decide)

pub group_written : (entries : List (GroupKey × GroupView)) (key : GroupKey) (group : GroupView) (at : ℕ) → position (same_key key) (keys_of entries) ≡ Some at → set_value_at entries at group ≡ insert_entry same_key entries key group
group_written entries key group at found = sym (insert_entry-first same_key key group entries at (Found-position (same_key key) entries at found).first)

-- ---- writes by index

pub written_same : (entries : List (GroupKey × GroupView)) (at : ℕ) (group : GroupView) → slice_get (values_of entries) at ≡ Some group → set_value_at entries at group ≡ entries
written_same [] at group got = refl
written_same (entry ∷ entries) zero group got = let same : group ≡ entry.1 = (cc) in ap (λ g. (entry.0, g) ∷ entries) same
written_same (entry ∷ entries) (suc at) group got = ap (λ rest. entry ∷ rest) (written_same entries at group got)

pub written_kept : (entries : List (GroupKey × GroupView)) (at : ℕ) (old new : GroupView) → slice_get (values_of entries) at ≡ Some old → new.route ≡ old.route → new.labels ≡ old.labels → AreKeyedByGroups entries → AreKeyedByGroups (set_value_at entries at new)
written_kept [] at old new got route labels kept = tt
written_kept (entry ∷ entries) zero old new got route labels kept = grind arith
written_kept (entry ∷ entries) (suc at) old new got route labels kept = (kept.0, written_kept entries at old new got route labels kept.1)

-- what a group was, where its alerts are put back
pub change_undone : (entries : List (GroupKey × GroupView)) (at : ℕ) (old : GroupView) (alerts : List Alert) (change : KeyChange Alert) → slice_get (values_of entries) at ≡ Some old → before_alert change alerts ≡ old.alerts
    → changed_back at change (groups_in (set_value_at entries at (record old { alerts = alerts }))) ≡ groups_in entries
change_undone [] at old alerts change got before = refl
change_undone (entry ∷ entries) zero old alerts change got before = grind arith
change_undone (entry ∷ entries) (suc at) old alerts change got before = ap (λ rest. entry.1 ∷ rest) (change_undone entries at old alerts change got before)

pub change_back : (entries : List (GroupKey × GroupView)) (at : ℕ) (old : GroupView) (change : KeyChange Alert) → slice_get (values_of entries) at ≡ Some old
    → groups_in (set_value_at entries at (record old { alerts = before_alert change old.alerts })) ≡ changed_back at change (groups_in entries)
change_back [] at old change got = refl
change_back (entry ∷ entries) zero old change got = grind arith
change_back (entry ∷ entries) (suc at) old change got = ap (λ rest. entry.1 ∷ rest) (change_back entries at old change got)

pub change_nowhere : (groups : List GroupView) (at : ℕ) (change : KeyChange Alert) → None ≡ slice_get groups at → groups ≡ changed_back at change groups
change_nowhere [] at change past = refl
change_nowhere (group ∷ groups) zero change past = absurd (let no : None ≡ Some group = past in (cc))
change_nowhere (group ∷ groups) (suc at) change past = ap (λ rest. group ∷ rest) (change_nowhere groups at change past)

pub nothing : {A : Type 0} (o : Option A) → false ≡ is_some o → o ≡ None
nothing None e = refl
nothing (Some x) e = absurd (cc)

pub groups_set : (entries : List (GroupKey × GroupView)) (at : ℕ) (group : GroupView) → groups_in (set_value_at entries at group) ≡ set (groups_in entries) at group
groups_set [] zero group = refl
groups_set [] (suc at) group = refl
groups_set (entry ∷ entries) zero group = refl
groups_set (entry ∷ entries) (suc at) group = ap (λ rest. entry.1 ∷ rest) (groups_set entries at group)

pub keys_taken : (n : ℕ) (entries : List (GroupKey × GroupView)) → AreKeyedByGroups entries → AreKeyedByGroups (take n entries)
keys_taken zero entries kept = tt
keys_taken (suc n) [] kept = tt
keys_taken (suc n) (entry ∷ entries) kept = (kept.0, keys_taken n entries kept.1)

-- ---- a sweep

pub groups_filtered : (q : GroupView → Bool) (entries : List (GroupKey × GroupView)) → groups_in (filter (λ (entry : GroupKey × GroupView). q entry.1) entries) ≡ filter q (groups_in entries)
groups_filtered q [] = refl
groups_filtered q (entry ∷ entries) = let rest = groups_filtered q entries in grind arith

pub keys_filtered : (q : GroupView → Bool) (entries : List (GroupKey × GroupView)) → AreKeyedByGroups entries → AreKeyedByGroups (filter (λ (entry : GroupKey × GroupView). q entry.1) entries)
keys_filtered q [] kept = tt
keys_filtered q (entry ∷ entries) kept = let rest = keys_filtered q entries in grind arith

-- one more group without what is resolved
pub resolved_more : (now : ℕ) (groups all : List GroupView) (at : ℕ) (group : GroupView) → at < length all → groups ≡ map (without_resolved now) (take at all) ++ drop at all → group ≡ get_or groups at group
    → (set groups at (without_resolved now group) ≡ map (without_resolved now) (take (at + 1) all) ++ drop (at + 1) all) × (group ≡ get_or all at group)
resolved_more now groups all at group early are is =
    let front = map (without_resolved now) (take at all) in
    let next = get_or all at group in
    let long : length front ≡ at = length-map (take at all) (without_resolved now) ∙ length-take-le at all (omega arith) in
    let split : groups ≡ front ++ next ∷ drop (at + 1) all = are ∙ ap (λ l. front ++ l) (drop_more all at group early) in (
      map_over_more (without_resolved now) all groups at group early are is,
      is ∙ (ap (λ l. get_or l at group) split ∙ get_or_at front next (drop (at + 1) all) group at long),
    )

-- what is swept: what is resolved goes, then what is empty
pub swept-filter : (now : ℕ) (groups : List GroupView) → filter (λ (group : GroupView). not (is_empty group.alerts)) (map (without_resolved now) groups) ≡ swept now groups
swept-filter now [] = refl
swept-filter now (group ∷ groups) = let rest = swept-filter now groups in grind arith

all_resolved : (now : ℕ) (alerts : List Alert) → is_empty (unresolved now alerts) ≡ list_all (is_resolved_at now) alerts
all_resolved now [] = refl
all_resolved now (alert ∷ alerts) = let rest = all_resolved now alerts in grind arith

empties_filtered : (now : ℕ) (groups : List GroupView) → length (filter (λ (group : GroupView). is_empty group.alerts) (map (without_resolved now) groups)) ≡ length (filter (λ (group : GroupView). list_all (is_resolved_at now) group.alerts) groups)
empties_filtered now [] = refl
empties_filtered now (group ∷ groups) = let rest = empties_filtered now groups in grind (arith, all_resolved)

pub empties-count : (now : ℕ) (groups : List GroupView) → count_by (λ (group : GroupView). is_empty group.alerts) (map (without_resolved now) groups) ≡ removed_groups now groups
empties-count now groups =
    sym (length-filter (λ (group : GroupView). is_empty group.alerts) (map (without_resolved now) groups))
    ∙ (empties_filtered now groups ∙ length-filter (λ (group : GroupView). list_all (is_resolved_at now) group.alerts) groups)

pub err_holds : {T E : Type 0} (r : Result T E) (P : Type 0) → P → OnErr r P
err_holds (Ok x) P h = tt
err_holds (Err e) P h = h

pub all_before_last : (changes : List GroupChange) (change : GroupChange) (groups : List GroupView) → all_before (changes ++ change ∷ []) groups ≡ all_before changes (groups_before change groups)
all_before_last [] change groups = refl
all_before_last (first ∷ changes) change groups = ap (groups_before first) (all_before_last changes change groups)

pub members_last : (nodes : List Node) (node : Node) (alert : Alert) (groups : List GroupView) → with_members (nodes ++ node ∷ []) alert groups ≡ joined node alert (with_members nodes alert groups)
members_last [] node alert groups = refl
members_last (first ∷ nodes) node alert groups = members_last nodes node alert (joined first alert groups)
