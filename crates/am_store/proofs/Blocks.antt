-- How a list lies in blocks, and which of them stay as they are.
use Rattle.std.proofs.Common.{◌≡◌, ◌≢◌, ℕ, zero, suc, ◌+◌, ◌*◌, ◌-◌, ◌/◌, ◌%◌, ◌<◌, ◌≤◌, List, [], ◌∷◌, ◌++◌, Bool, true, false, Option, Some, None, Result, Ok, Err, IfOk, length, take, drop, get_or, min, set, refl, sym, ap, subst, ◌∙◌, inl, inr, arith, length-drop, length-take, mul-zero, mul-suc, mul_comm}
use Rattle.std.proofs.lemmas.Bool.{cases_lt}
use Rattle.std.proofs.lemmas.List.{nil_from_length, take-append-drop, drop-drop, drop-take, drop_all, drop_min, drop-map, take_min, take-map, length-map, length_push, get_or_append_left, get_or_push, get_or-take, get_or_past, take_more, take-take}
use Rattle.std.proofs.lemmas.Option.{slice_get-map}
use Rattle.std.specs.Arc.{arc_value}
use Rattle.std.specs.declared.sync.Arc.{Arc}
use Rattle.std.specs.declared.alloc.Global.{Global}
use Rattle.std.specs.List.{slice_get, flat_map}
use Rattle.std.specs.Option.{IfSome}
use Rattle.std.specs.declared.alloc.AllocError.{AllocError}
use Rattle.std.specs.Option.{option_map}
use Rattle.indexmap.specs.IndexMap.{set_value_at}
use Rattle.am_labels.specs.LabelSets.{Labels}
use Rattle.am_alert.specs.declared.alert.Alert.{Alert}
use Rattle.am_store.specs.declared.shared_alerts.TheConstants.{BLOCK, GROUP}
use Rattle.am_store.specs.declared.store.absorb.Change.{Change}
use Rattle.am_store.specs.declared.store.absorb.Change.TheVariants.{Added, Replaced}
use Rattle.am_store.specs.Shared.{alerts_in}
use Rattle.am_store.specs.AlertMaps.{stored_in, all_taken_back}
use Rattle.am_store.specs.inside.Blocks.{Block, alerts_of_block, AreChunks, AreBlocksOf, AreGroupsOf, IsCurrent, IsGroupCurrent}
use Rattle.am_store.specs.inside.Changed.{IsUntouched}

-- chunks of a list have all of it
pub chunks_joined : {X Y : Type 0} (part : ℕ) (items : Y → List X) (parts : List Y) (all : List X) → AreChunks part items all parts → flat_map items parts ≡ all
chunks_joined part items [] all are = sym (nil_from_length all (omega (arith, are.beyond, mul-zero part)))
chunks_joined part items (first ∷ parts) all are =
    let front : items first ≡ take part all = are.each 0 first (omega arith) ∙ ap (λ n. take part (drop n all)) (mul-zero part) in
    let later : AreChunks part items (drop part all) parts = record {
      each = λ k d short. are.each (suc k) d (omega (arith, short)) ∙ ap (take part) (ap (λ n. drop n all) (omega (arith, mul-suc part k)) ∙ sym (drop-drop (part * k) part all));
      beyond = omega (arith, are.beyond, length-drop part all, mul-suc part (length parts));
    } in
    let rest : flat_map items parts ≡ drop part all = chunks_joined part items parts (drop part all) later in
    ap (λ xs. xs ++ flat_map items parts) front ∙ (ap (λ back. take part all ++ back) rest ∙ take-append-drop part all)

-- chunks of a list are those of what they have
pub chunks_of_joined : {X Y : Type 0} (part : ℕ) (items : Y → List X) (parts : List Y) (all : List X) → AreChunks part items all parts → AreChunks part items (flat_map items parts) parts
chunks_of_joined part items parts all are = subst (λ xs. AreChunks part items xs parts) (sym (chunks_joined part items parts all are)) are

-- one chunk more has what the list has from its place on
pub one_chunk_more : {X Y : Type 0} (part : ℕ) (items : Y → List X) (all : List X) (parts : List Y) (new : Y)
    → ((k : ℕ) (d : Y) → k < length parts → items (get_or parts k d) ≡ take part (drop (part * k) all)) → items new ≡ take part (drop (part * length parts) all)
    → (k : ℕ) (d : Y) → k < length (parts ++ new ∷ []) → items (get_or (parts ++ new ∷ []) k d) ≡ take part (drop (part * k) all)
one_chunk_more part items all parts new each is k d short = elim (cases_lt k (length parts)) [
  | inl below ↦ ap items (get_or_append_left parts (new ∷ []) d k below) ∙ each k d below
  | inr past ↦
      let last : length parts ≡ k = omega (arith, past, short, length_push parts new) in
      ap items (get_or_push parts new d k last) ∙ (is ∙ ap (λ n. take part (drop (part * n) all)) last)
]

-- what is cut out of some alerts is a chunk of them
pub cut_is_chunk : (part : ℕ) (items rest some : List (Arc Alert Global)) (at : ℕ) → rest ≡ drop (at * part) items → some ≡ take (min part (length rest)) rest → alerts_in some ≡ take part (drop (part * at) (alerts_in items))
cut_is_chunk part items rest some at since is =
    ap alerts_in (is ∙ (take_min part rest ∙ ap (take part) (since ∙ ap (λ n. drop n items) (mul_comm at part))))
    ∙ (sym (take-map arc_value part (drop (part * at) items)) ∙ ap (take part) (sym (drop-map arc_value (part * at) items)))

take_nil : {X : Type 0} (n : ℕ) → take {A = X} n [] ≡ []
take_nil zero = refl
take_nil (suc n) = refl

-- what a chunk has from an index on
run_in_chunk : {X : Type 0} (part : ℕ) (xs : List X) (start r : ℕ) → r < part → drop r (take part (drop start xs)) ≡ take (part - r) (drop (start + r) xs)
run_in_chunk part xs start r small =
    let parts : part ≡ r + (part - r) = omega (arith, small) in
    ap (λ n. drop r (take n (drop start xs))) parts
    ∙ (drop-take r (part - r) (drop start xs) ∙ ap (take (part - r)) (drop-drop r start xs))

-- ---- lists that agree at each index

pub got_past : {X : Type 0} (xs : List X) (at : ℕ) → length xs ≤ at → slice_get xs at ≡ None
got_past [] at past = refl
got_past (x ∷ xs) zero past = absurd (omega (arith, past))
got_past (x ∷ xs) (suc at) past = got_past xs at (omega (arith, past))

pub same_got : {X : Type 0} (xs ys : List X) → ((at : ℕ) → slice_get xs at ≡ slice_get ys at) → xs ≡ ys
same_got [] [] same = refl
same_got [] (y ∷ ys) same = let none = same 0 in (cc)
same_got (x ∷ xs) [] same = let none = same 0 in (cc)
same_got (x ∷ xs) (y ∷ ys) same =
    let first : Some x ≡ Some y = same 0 in
    let rest = same_got xs ys (λ at. same (suc at)) in (cc)

got_drop : {X : Type 0} (from : ℕ) (xs : List X) (at : ℕ) → slice_get (drop from xs) at ≡ slice_get xs (from + at)
got_drop zero xs at = let none : at ≡ 0 + at = omega arith in ap (slice_get xs) none
got_drop (suc from) [] at = refl
got_drop (suc from) (x ∷ xs) at = let one : suc (from + at) ≡ suc from + at = omega arith in got_drop from xs at ∙ ap (slice_get (x ∷ xs)) one

got_take : {X : Type 0} (n : ℕ) (xs : List X) (at : ℕ) → at < n → slice_get (take n xs) at ≡ slice_get xs at
got_take zero xs at below = absurd (omega (arith, below))
got_take (suc n) [] at below = refl
got_take (suc n) (x ∷ xs) zero below = refl
got_take (suc n) (x ∷ xs) (suc at) below = got_take n xs at (omega (arith, below))

-- lists that agree within a chunk have the same there
same_chunk : (part from : ℕ) (xs ys : List Alert) → ((at : ℕ) → from ≤ at → at < from + part → slice_get xs at ≡ slice_get ys at) → take part (drop from xs) ≡ take part (drop from ys)
same_chunk part from xs ys same = same_got _ _ (λ at. elim (cases_lt at part) [
  | inl below ↦ got_take part (drop from xs) at below ∙ (got_drop from xs at ∙ (same (from + at) (omega arith) (omega (arith, below)) ∙ sym (got_take part (drop from ys) at below ∙ got_drop from ys at)))
  | inr past ↦ got_past (take part (drop from xs)) at (omega (arith, past, length-take part (drop from xs))) ∙ sym (got_past (take part (drop from ys)) at (omega (arith, past, length-take part (drop from ys))))
])

-- ---- what an index finds

drop_next : {X : Type 0} (xs : List X) (at : ℕ) (x : X) → slice_get xs at ≡ Some x → drop at xs ≡ x ∷ drop (suc at) xs
drop_next [] at x got = let no = got in (cc)
drop_next (y ∷ xs) zero x got = let is = got in (cc)
drop_next (y ∷ xs) (suc at) x got = drop_next xs at x got

pub drop_got : {X : Type 0} (xs : List X) (at : ℕ) (x : X) → slice_get xs at ≡ Some x → drop at xs ≡ x ∷ drop (at + 1) xs
drop_got xs at x got =
    let one : suc at ≡ at + 1 = omega arith in
    drop_next xs at x got ∙ ap (λ n. x ∷ drop n xs) one

pub drop_missing : {X : Type 0} (xs : List X) (at : ℕ) → slice_get xs at ≡ None → drop at xs ≡ []
drop_missing [] zero got = refl
drop_missing [] (suc at) got = refl
drop_missing (y ∷ xs) zero got = let no = got in (cc)
drop_missing (y ∷ xs) (suc at) got = drop_missing xs at got

-- what lies together from an index on, in the block that has it
pub run_got : (alerts : List Alert) (blocks : List Block) (from : ℕ) (block : Block) (rest : List (Arc Alert Global)) → AreBlocksOf alerts blocks → from / BLOCK < length blocks
    → block ≡ get_or blocks (from / BLOCK) block → rest ≡ drop (min (from % BLOCK) (length (arc_value block).items)) (arc_value block).items
    → alerts_in rest ≡ take (BLOCK - from % BLOCK) (drop from alerts)
run_got alerts blocks from block rest are within got is =
    let items = (arc_value block).items in
    let small : from % BLOCK < BLOCK = omega arith in
    let whole : BLOCK * (from / BLOCK) + from % BLOCK ≡ from = omega arith in
    ap alerts_in (is ∙ drop_min (from % BLOCK) items)
    ∙ (sym (drop-map arc_value (from % BLOCK) items)
    ∙ (ap (drop (from % BLOCK)) (ap alerts_of_block got ∙ are.each (from / BLOCK) block within)
    ∙ (run_in_chunk BLOCK alerts (BLOCK * (from / BLOCK)) (from % BLOCK) small ∙ ap (λ n. take (BLOCK - from % BLOCK) (drop n alerts)) whole)))

-- and in the group that has it
pub run_of_group : (alerts : List Alert) (groups : List (List Alert)) (from : ℕ) (group : List Alert) → AreGroupsOf alerts groups → from / GROUP < length groups
    → group ≡ get_or groups (from / GROUP) group → take (BLOCK - from % GROUP % BLOCK) (drop (from % GROUP) group) ≡ take (BLOCK - from % BLOCK) (drop from alerts)
run_of_group alerts groups from group are within got =
    let r = from % GROUP in
    let small : r < GROUP = omega arith in
    let whole : GROUP * (from / GROUP) + r ≡ from = omega arith in
    let run : BLOCK - r % BLOCK ≡ BLOCK - from % BLOCK = omega arith in
    ap (λ xs. take (BLOCK - r % BLOCK) (drop r xs)) (got ∙ are.each (from / GROUP) group within)
    ∙ (ap (take (BLOCK - r % BLOCK)) (run_in_chunk GROUP alerts (GROUP * (from / GROUP)) r small)
    ∙ (take-take (BLOCK - r % BLOCK) (GROUP - r) (drop (GROUP * (from / GROUP) + r) alerts) (omega arith)
    ∙ (ap (λ n. take n (drop (GROUP * (from / GROUP) + r) alerts)) run ∙ ap (λ n. take (BLOCK - from % BLOCK) (drop n alerts)) whole)))

-- a block of a group is one of the whole list
pub block_in_group : (alerts : List Alert) (group at : ℕ) → at < 32 → take BLOCK (drop (BLOCK * at) (take GROUP (drop (GROUP * group) alerts))) ≡ take BLOCK (drop (BLOCK * (32 * group + at)) alerts)
block_in_group alerts group at within =
    let small : BLOCK * at < GROUP = omega (arith, within) in
    let place : GROUP * group + BLOCK * at ≡ BLOCK * (32 * group + at) = omega arith in
    ap (take BLOCK) (run_in_chunk GROUP alerts (GROUP * group) (BLOCK * at) small)
    ∙ (take-take BLOCK (GROUP - BLOCK * at) (drop (GROUP * group + BLOCK * at) alerts) (omega (arith, within))
    ∙ ap (λ n. take BLOCK (drop n alerts)) place)

-- the first alert of a run is the one at its index
pub first_of_run : (alerts : List Alert) (at : ℕ) (run : List (Arc Alert Global)) → alerts_in run ≡ take (BLOCK - at % BLOCK) (drop at alerts) → option_map arc_value (slice_get run 0) ≡ slice_get alerts at
first_of_run alerts at run is =
    let some : 0 < BLOCK - at % BLOCK = omega arith in
    let here : at + 0 ≡ at = omega arith in
    sym (slice_get-map arc_value run 0) ∙ (ap (λ xs. slice_get xs 0) is
    ∙ (got_take (BLOCK - at % BLOCK) (drop at alerts) 0 some ∙ (got_drop at alerts 0 ∙ ap (slice_get alerts) here)))

-- no chunk has an index beyond the last one
pub run_missing : {X Y : Type 0} (part : ℕ) (items : Y → List X) (all : List X) (parts : List Y) (from run : ℕ) → AreChunks part items all parts → part * length parts ≤ from → [] ≡ take run (drop from all)
run_missing part items all parts from run are past = sym (ap (take run) (drop_all from all (omega (arith, are.beyond, past))) ∙ take_nil run)

-- ---- what a post leaves as it was

got_written : (entries : List (Labels × Arc Alert Global)) (written at : ℕ) (alert : Arc Alert Global) → written ≢ at → slice_get (stored_in (set_value_at entries written alert)) at ≡ slice_get (stored_in entries) at
got_written [] written at alert apart = refl
got_written (entry ∷ entries) zero zero alert apart = absurd (apart refl)
got_written (entry ∷ entries) zero (suc at) alert apart = refl
got_written (entry ∷ entries) (suc written) zero alert apart = refl
got_written (entry ∷ entries) (suc written) (suc at) alert apart = got_written entries written at alert (λ same. apart (ap suc same))

length_written : (entries : List (Labels × Arc Alert Global)) (written : ℕ) (alert : Arc Alert Global) → length (set_value_at entries written alert) ≡ length entries
length_written [] written alert = refl
length_written (entry ∷ entries) zero alert = refl
length_written (entry ∷ entries) (suc written) alert = ap suc (length_written entries written alert)

got_taken : (n : ℕ) (entries : List (Labels × Arc Alert Global)) (at : ℕ) → at < n → slice_get (stored_in (take n entries)) at ≡ slice_get (stored_in entries) at
got_taken zero entries at below = absurd (omega (arith, below))
got_taken (suc n) [] at below = refl
got_taken (suc n) (entry ∷ entries) zero below = refl
got_taken (suc n) (entry ∷ entries) (suc at) below = got_taken n entries at (omega (arith, below))

-- an alert that no change replaced, and that was there before them, is as it was
pub got_untouched : (changes : List Change) (entries : List (Labels × Arc Alert Global)) (at : ℕ) → IsUntouched at changes → at < length (all_taken_back changes entries)
    → slice_get (stored_in (all_taken_back changes entries)) at ≡ slice_get (stored_in entries) at
got_untouched [] entries at untouched within = refl
got_untouched (Added ∷ changes) entries at untouched within =
    let after = all_taken_back changes entries in
    let fewer : length (take (length after - 1) after) ≤ length after - 1 = omega (arith, length-take (length after - 1) after) in
    got_taken (length after - 1) after at (omega (arith, within, fewer)) ∙ got_untouched changes entries at untouched (omega (arith, within, fewer))
got_untouched (Replaced replaced before ∷ changes) entries at untouched within =
    let after = all_taken_back changes entries in
    got_written after replaced at before untouched.0 ∙ got_untouched changes entries at untouched.1 (omega (arith, within, length_written after replaced before))

kept_at : (changes : List Change) (olds entries : List (Labels × Arc Alert Global)) → all_taken_back changes entries ≡ olds → (at : ℕ) → IsUntouched at changes → (length olds < length entries → at < length olds)
    → slice_get (stored_in olds) at ≡ slice_get (stored_in entries) at
kept_at changes olds entries back at untouched old =
    let here : at < length olds → slice_get (stored_in olds) at ≡ slice_get (stored_in entries) at =
    λ within. ap (λ all. slice_get (stored_in all) at) (sym back) ∙ got_untouched changes entries at untouched (omega (arith, within, ap length back)) in
    elim (cases_lt at (length olds)) [
      | inl within ↦ here within
      | inr past ↦ elim (cases_lt (length olds) (length entries)) [
        | inl more ↦ here (old more)
        | inr fewer ↦ got_past (stored_in olds) at (omega (arith, past, length-map olds (λ entry. arc_value entry.1))) ∙ sym (got_past (stored_in entries) at (omega (arith, past, fewer, length-map entries (λ entry. arc_value entry.1))))
      ]
    ]

-- the flags that are left after a post are right
pub still_current : (current flags : List Bool) (shared : Option (List Alert)) (changes : List Change) (olds entries : List (Labels × Arc Alert Global)) → IsCurrent current shared (stored_in olds)
    → all_taken_back changes entries ≡ olds
    → ((at : ℕ) → get_or flags (at / BLOCK) false ≡ true → (get_or current (at / BLOCK) false ≡ true) × (length olds < length entries → at < length olds) × IsUntouched at changes)
    → IsCurrent flags shared (stored_in entries)
still_current current flags None changes olds entries was back flagged = tt
still_current current flags (Some shared) changes olds entries was back flagged = λ at flag. was at (flagged at flag).0 ∙ kept_at changes olds entries back at (flagged at flag).2 (flagged at flag).1

-- ---- blocks that are current

pub current_block : (current : List Bool) (shared stored : List Alert) (at : ℕ) → IsCurrent current (Some shared) stored → get_or current at false ≡ true
    → take BLOCK (drop (BLOCK * at) shared) ≡ take BLOCK (drop (BLOCK * at) stored)
current_block current shared stored at is flag =
    same_chunk BLOCK (BLOCK * at) shared stored (λ i low high. let here : i / BLOCK ≡ at = omega (arith, low, high) in is i (ap (λ k. get_or current k false) here ∙ flag))

-- and so does a group of such blocks
pub current_group : (current : List Bool) (shared stored : List Alert) (group : ℕ) → IsCurrent current (Some shared) stored → IsGroupCurrent current group
    → take GROUP (drop (GROUP * group) shared) ≡ take GROUP (drop (GROUP * group) stored)
current_group current shared stored group is flags =
    same_chunk GROUP (GROUP * group) shared stored (λ i low high. is i (flags i (omega (arith, low, high))))

-- a list as long as what is stored, with each block current, is what is stored
pub all_current : (current : List Bool) (shared stored : List Alert) → IsCurrent current (Some shared) stored → length shared ≡ length stored → length shared ≤ BLOCK * length current
    → ((k : ℕ) → k < length current → get_or current k false ≡ true) → shared ≡ stored
all_current current shared stored is long covers all = same_got shared stored (λ at. elim (cases_lt at (length shared)) [
  | inl within ↦ is at (all (at / BLOCK) (omega (arith, within, covers)))
  | inr past ↦ got_past shared at past ∙ sym (got_past stored at (omega (arith, past, long)))
])

pub flag_cut : (current : List Bool) (n k : ℕ) → get_or (take n current) k false ≡ true → (get_or current k false ≡ true) × (k < n)
flag_cut current n k flag = elim (cases_lt k n) [
  | inl below ↦ (sym (get_or-take n current k false below) ∙ flag, below)
  | inr past ↦ absurd (let no : false ≡ true = sym (get_or_past (take n current) k false (omega (arith, past, length-take n current))) ∙ flag in cc)
]

pub flag_cleared : (current : List Bool) (cleared k : ℕ) → get_or (set current cleared false) k false ≡ true → (get_or current k false ≡ true) × (cleared ≢ k)
flag_cleared [] cleared k flag = absurd (let no : false ≡ true = flag in cc)
flag_cleared (f ∷ fs) zero zero flag = absurd (let no : false ≡ true = flag in cc)
flag_cleared (f ∷ fs) zero (suc k) flag = (flag, λ same. omega (arith, same))
flag_cleared (f ∷ fs) (suc cleared) zero flag = (flag, λ same. omega (arith, same))
flag_cleared (f ∷ fs) (suc cleared) (suc k) flag = let rest = flag_cleared fs cleared k flag in (rest.0, λ same. rest.1 (omega (arith, same)))

pub flag_past : (current : List Bool) (cleared k : ℕ) → length current ≤ cleared → get_or current k false ≡ true → cleared ≢ k
flag_past current cleared k past flag = λ same. let no : false ≡ true = sym (get_or_past current k false (omega (arith, past, same))) ∙ flag in cc

untouched_more : (at : ℕ) (changes : List Change) (change : Change) → IsUntouched at changes → IsUntouched at (change ∷ []) → IsUntouched at (changes ++ change ∷ [])
untouched_more at [] change before last = last
untouched_more at (Added ∷ changes) change before last = untouched_more at changes change before last
untouched_more at (Replaced replaced old ∷ changes) change before last = (before.0, untouched_more at changes change before.1 last)

-- one change more
pub untouched_next : (at : ℕ) (changes : List Change) (i : ℕ) (change : Change) → i < length changes → change ≡ get_or changes i change → IsUntouched at (take i changes) → IsUntouched at (change ∷ [])
    → IsUntouched at (take (i + 1) changes)
untouched_next at changes i change within is before last =
    subst (IsUntouched at) (sym (take_more changes i change within ∙ ap (λ c. take i changes ++ c ∷ []) (sym is))) (untouched_more at (take i changes) change before last)

-- ---- what was found

-- what holds of a block that was found, by what another fact says of it
pub found_so : {P Q : Block → Type 0} (found : Result (Option Block) AllocError) → ((block : Block) → P block → Q block) → IfOk found (λ one. IfSome one P) → IfOk found (λ one. IfSome one Q)
found_so (Ok (Some block)) so is = so block is
found_so (Ok None) so is = tt
found_so (Err error) so is = tt

-- the block at an index among the blocks of all groups
pub block_of_groups : (alerts : List Alert) (groups : List (List Alert)) (at : ℕ) (group : List Alert) → AreGroupsOf alerts groups → at / 32 < length groups → group ≡ get_or groups (at / 32) group
    → take BLOCK (drop (BLOCK * (at % 32)) group) ≡ take BLOCK (drop (BLOCK * at) alerts)
block_of_groups alerts groups at group are within got =
    let place : 32 * (at / 32) + at % 32 ≡ at = omega arith in
    ap (λ xs. take BLOCK (drop (BLOCK * (at % 32)) xs)) (got ∙ are.each (at / 32) group within)
    ∙ (block_in_group alerts (at / 32) (at % 32) (omega arith) ∙ ap (λ n. take BLOCK (drop (BLOCK * n) alerts)) place)
