-- The parts of a duration's text.
use Rattle.std.proofs.Common.{◌≡◌, ℕ, zero, suc, ◌+◌, ◌-◌, ◌*◌, ◌<◌, ◌≤◌, Bool, true, false, cond, ◌&&◌, List, [], ◌∷◌, ◌++◌, length, get_or, take, drop, Option, Some, None, inl, inr, refl, sym, ap, ◌∙◌, subst, append_assoc, one-add, arith, rules}
use Rattle.std.specs.Prelude.{sum_by, codes, MatchOption}
use Rattle.std.specs.Option.{SomeIff}
use Rattle.std.specs.List.{prefix_len, list_all, flat_map}
use Rattle.std.specs.Char.{is_ascii_digit, digit_value}
use Rattle.std.specs.Str.Parse.{digits_value, digits_value_after}
use Rattle.std.proofs.Math.Seq.{take-append_seam, drop-append_seam, drop-cons}
use Rattle.std.proofs.lemmas.Bool.Decides.{nat_tests}
use Rattle.std.proofs.lemmas.List.{take-append-drop, length-append}
use Rattle.std.proofs.lemmas.List.Sums.{sum_by-cons}
use Rattle.std.proofs.lemmas.Slice.Eq.{bytes_eq-Decides}
use Rattle.am_labels.specs.Texts.{same_text}
use Rattle.am_labels.specs.Letters.{begins}
use Rattle.am_config.specs.declared.duration.Unit.{Unit}
use Rattle.am_config.specs.declared.duration.Unit.TheVariants.{Year, Week, Day, Hour, Minute, Second, Millisecond}
use Rattle.am_config.specs.Durations.{symbol_of, milliseconds_of, rank_of, IsNumber, DurationPart, written, worth, AreParts, ArePartsOf, IsDuration}
use Rattle.am_config.specs.declared.duration.TheConstants.{MAX_MILLISECONDS}
use Rattle.am_config.specs.inside.DurationParts.{is_no_digit, digits_of, after_digits, symbol_in, rest_of, unit_of}

-- a front whose elements pass, before a rest that doesn't begin with one that does
run_step : (p : ℕ → Bool) (x : ℕ) (xs ys : List ℕ) (b : Bool) → p x ≡ b → (b && list_all p xs) ≡ true
    → (list_all p xs ≡ true → prefix_len p (xs ++ ys) ≡ length xs) → cond b (1 + prefix_len p (xs ++ ys)) 0 ≡ suc (length xs)
run_step p x xs ys true is pass later = let e = later pass in omega arith
run_step p x xs ys false is pass later = (cc)

prefix_len-run : (p : ℕ → Bool) (xs ys : List ℕ) → list_all p xs ≡ true → begins p ys ≡ false → prefix_len p (xs ++ ys) ≡ length xs
prefix_len-run p [] [] pass stop = refl
prefix_len-run p [] (y ∷ ys) pass stop = ap (λ b. cond b (1 + prefix_len p ys) 0) stop
prefix_len-run p (x ∷ xs) ys pass stop = run_step p x xs ys (p x) refl pass (λ more. prefix_len-run p xs ys more stop)

-- the run of a text passes
all_step : (p : ℕ → Bool) (x : ℕ) (xs : List ℕ) (b : Bool) → p x ≡ b → list_all p (take (prefix_len p xs) xs) ≡ true
    → list_all p (take (cond b (1 + prefix_len p xs) 0) (x ∷ xs)) ≡ true
all_step p x xs true is later = rw one-add (rw is later)
all_step p x xs false is later = refl

pub run_passes : (p : ℕ → Bool) (xs : List ℕ) → list_all p (take (prefix_len p xs) xs) ≡ true
run_passes p [] = refl
run_passes p (x ∷ xs) = all_step p x xs (p x) refl (run_passes p xs)

-- a unit's symbol has no digit and is read back
symbol_letters : (u : Unit) → list_all is_no_digit (symbol_of u) ≡ true
symbol_letters Year = refl
symbol_letters Week = refl
symbol_letters Day = refl
symbol_letters Hour = refl
symbol_letters Minute = refl
symbol_letters Second = refl
symbol_letters Millisecond = refl

symbol_begins : (u : Unit) (rest : List ℕ) → begins is_ascii_digit (symbol_of u ++ rest) ≡ false
symbol_begins Year rest = refl
symbol_begins Week rest = refl
symbol_begins Day rest = refl
symbol_begins Hour rest = refl
symbol_begins Minute rest = refl
symbol_begins Second rest = refl
symbol_begins Millisecond rest = refl

pub unit_of-symbol_of : (u : Unit) → unit_of (symbol_of u) ≡ Some u
unit_of-symbol_of Year = refl
unit_of-symbol_of Week = refl
unit_of-symbol_of Day = refl
unit_of-symbol_of Hour = refl
unit_of-symbol_of Minute = refl
unit_of-symbol_of Second = refl
unit_of-symbol_of Millisecond = refl

-- what follows a part is nothing or begins with a digit
number_begins : (digits rest : List ℕ) → IsNumber digits → begins is_no_digit (digits ++ rest) ≡ false
number_begins [] rest h = absurd (let no : 0 < 0 = h.0 in omega arith)
number_begins (d ∷ ds) rest h = grind arith

parts_begin : (from : ℕ) (parts : List DurationPart) → AreParts from parts → begins is_no_digit (flat_map written parts) ≡ false
parts_begin from [] h = refl
parts_begin from (part ∷ parts) h = grind (arith, append_assoc, number_begins)

-- a text that begins with a part is cut behind it
module _ (part : DurationPart) (rest text : List ℕ) (number : IsNumber part.digits) (stop : begins is_no_digit rest ≡ false) (whole : text ≡ written part ++ rest) where
  parted : text ≡ part.digits ++ (symbol_of part.unit ++ rest)
  parted = whole ∙ append_assoc part.digits (symbol_of part.unit) rest

  run : prefix_len is_ascii_digit text ≡ length part.digits
  run = ap (prefix_len is_ascii_digit) parted ∙ prefix_len-run is_ascii_digit part.digits (symbol_of part.unit ++ rest) number.1 (symbol_begins part.unit rest)

  pub digits_of-part : digits_of text ≡ part.digits
  digits_of-part = ap (λ n. take n text) run ∙ (ap (take (length part.digits)) parted ∙ take-append_seam part.digits (symbol_of part.unit ++ rest))

  behind : after_digits text ≡ symbol_of part.unit ++ rest
  behind = ap (λ n. drop n text) run ∙ (ap (drop (length part.digits)) parted ∙ drop-append_seam part.digits (symbol_of part.unit ++ rest))

  symbol_run : prefix_len is_no_digit (after_digits text) ≡ length (symbol_of part.unit)
  symbol_run = ap (prefix_len is_no_digit) behind ∙ prefix_len-run is_no_digit (symbol_of part.unit) rest (symbol_letters part.unit) stop

  pub symbol_in-part : symbol_in text ≡ symbol_of part.unit
  symbol_in-part = ap (λ n. take n (after_digits text)) symbol_run ∙ (ap (take (length (symbol_of part.unit))) behind ∙ take-append_seam (symbol_of part.unit) rest)

  pub rest_of-part : rest_of text ≡ rest
  rest_of-part = ap (λ n. drop n (after_digits text)) symbol_run ∙ (ap (drop (length (symbol_of part.unit))) behind ∙ drop-append_seam (symbol_of part.unit) rest)

-- the three cuts of a text make it up
pub cuts_join : (text : List ℕ) → text ≡ digits_of text ++ (symbol_in text ++ rest_of text)
cuts_join text = grind (arith, behind, take-append-drop)

-- a number is no greater than one that digits write behind it
pub behind_number : (n : ℕ) (digits : List ℕ) → n ≤ digits_value_after 10 n digits
behind_number n [] = omega arith
behind_number n (d ∷ ds) = let more = behind_number (n * 10 + digit_value d) ds in omega arith

-- whoever has the parts of a text that isn't empty has its first part as it is cut
pub record IsFirstPart (from : ℕ) (text : List ℕ) (parts : List DurationPart) (unit : Unit) (more : List DurationPart) : Type 0 where
  pub some : 0 < length (digits_of text)
  pub is_unit : unit_of (symbol_in text) ≡ Some unit
  pub in_order : from ≤ rank_of unit
  pub later : ArePartsOf (rank_of unit + 1) (rest_of text) more
  pub sum : sum_by worth parts ≡ digits_value 10 (digits_of text) * milliseconds_of unit + sum_by worth more

pub first_part : (from : ℕ) (text : List ℕ) (parts : List DurationPart) → ArePartsOf from text parts → 0 < length text
    → (unit : Unit) × (more : List DurationPart) × IsFirstPart from text parts unit more
first_part from text [] are some = absurd (let e = ap length are.whole in omega arith)
first_part from text (part ∷ parts) are some =
    let rest = flat_map written parts in
    let number = are.in_order.0 in
    let stop = parts_begin (rank_of part.unit + 1) parts are.in_order.2 in
    let digits = digits_of-part part rest text number stop are.whole in (
      part.unit,
      parts,
      record {
        some = subst (λ (ds : List ℕ). 0 < length ds) (sym digits) number.0;
        is_unit = ap unit_of (symbol_in-part part rest text number stop are.whole) ∙ unit_of-symbol_of part.unit;
        in_order = are.in_order.1;
        later = record { in_order = are.in_order.2; whole = rest_of-part part rest text number stop are.whole };
        sum = sum_by-cons worth part parts ∙ ap (λ (ds : List ℕ). digits_value 10 ds * milliseconds_of part.unit + sum_by worth parts) (sym digits);
      },
    )

unit_step : (symbol other : List ℕ) (u unit : Unit) (rest : Option Unit) (b : Bool) → same_text symbol other ≡ b → other ≡ symbol_of u
    → (rest ≡ Some unit → symbol ≡ symbol_of unit) → cond b (Some u) rest ≡ Some unit → symbol ≡ symbol_of unit
unit_step symbol other u unit rest true is spelled later h = grind (arith, bytes_eq-Decides)
unit_step symbol other u unit rest false is spelled later h = later h

-- the symbol that a unit is read from is the unit's
pub symbol_of-unit_of : (symbol : List ℕ) (unit : Unit) → unit_of symbol ≡ Some unit → symbol ≡ symbol_of unit
symbol_of-unit_of symbol unit is = search (rules, unit_step)

-- a text that is cut into a part and more parts has them all
pub with_first : (from : ℕ) (text : List ℕ) (unit : Unit) (more : List DurationPart)
    → 0 < length (digits_of text) → list_all is_ascii_digit (digits_of text) ≡ true → unit_of (symbol_in text) ≡ Some unit → from ≤ rank_of unit
    → ArePartsOf (rank_of unit + 1) (rest_of text) more
    → ArePartsOf from text (record { digits = digits_of text; unit = unit } ∷ more)
with_first from text unit more some digits is_unit order later = grind (arith, cuts_join, symbol_of-unit_of, append_assoc)

-- the same, where the unit is known
pub first_part_at : (from : ℕ) (text : List ℕ) (parts : List DurationPart) (unit : Unit) → unit_of (symbol_in text) ≡ Some unit
    → ArePartsOf from text parts → 0 < length text → (more : List DurationPart) × IsFirstPart from text parts unit more
first_part_at from text parts unit is are some =
    let found = first_part from text parts are some in
    let first = found.2 in
    let same : found.0 ≡ unit = cc (first.is_unit, is) in
    (found.1, subst (λ u. IsFirstPart from text parts u found.1) same first)

part_is_some : (from : ℕ) (text : List ℕ) (part : DurationPart) (parts : List DurationPart) → ArePartsOf from text (part ∷ parts) → 0 < length text
part_is_some from text part parts are = grind (arith, length-append)

-- the parts of one text have one sum
pub sums_agree : (from : ℕ) (text : List ℕ) (these those : List DurationPart) → ArePartsOf from text these → ArePartsOf from text those → sum_by worth these ≡ sum_by worth those
sums_agree from text [] [] are also = refl
sums_agree from text [] (part ∷ parts) are also = absurd (let some = part_is_some from text part parts also in let none = ap length are.whole in omega arith)
sums_agree from text (part ∷ parts) those are also =
    let some = part_is_some from text part parts are in
    let rest = flat_map written parts in
    let number = are.in_order.0 in
    let stop = parts_begin (rank_of part.unit + 1) parts are.in_order.2 in
    let digits = digits_of-part part rest text number stop are.whole in
    let is_unit = ap unit_of (symbol_in-part part rest text number stop are.whole) ∙ unit_of-symbol_of part.unit in
    let other = first_part_at from text those part.unit is_unit also some in
    let later : ArePartsOf (rank_of part.unit + 1) (rest_of text) parts = record { in_order = are.in_order.2; whole = rest_of-part part rest text number stop are.whole } in
    let more = sums_agree (rank_of part.unit + 1) (rest_of text) parts other.0 later other.1.later in
    sum_by-cons worth part parts ∙ sym (other.1.sum ∙ (ap (λ (ds : List ℕ). digits_value 10 ds * milliseconds_of part.unit + sum_by worth other.0) digits
    ∙ ap (λ n. digits_value 10 part.digits * milliseconds_of part.unit + n) (sym more)))

-- a part is worth its number at least
number_le_worth : (n : ℕ) (unit : Unit) → n ≤ n * milliseconds_of unit
number_le_worth n Year = omega arith
number_le_worth n Week = omega arith
number_le_worth n Day = omega arith
number_le_worth n Hour = omega arith
number_le_worth n Minute = omega arith
number_le_worth n Second = omega arith
number_le_worth n Millisecond = omega arith

-- ---- why a text has no parts, or too large ones

module _ (most from : ℕ) (text : List ℕ) (some : 0 < length text) (parts : List DurationPart) (are : ArePartsOf from text parts) where
  pub no_unit : unit_of (symbol_in text) ≡ None → most ≤ sum_by worth parts
  no_unit none = absurd (let unit = (first_part from text parts are some).2.is_unit in cc)

  pub no_digits : length (digits_of text) ≡ 0 → most ≤ sum_by worth parts
  no_digits none = absurd (let digits = (first_part from text parts are some).2.some in omega arith)

  module _ (unit : Unit) (is_unit : unit_of (symbol_in text) ≡ Some unit) where
    pub out_of_order : rank_of unit < from → most ≤ sum_by worth parts
    out_of_order before = absurd (let order = (first_part_at from text parts unit is_unit are some).1.in_order in omega arith)

    pub large_number : most ≤ digits_value 10 (digits_of text) → most ≤ sum_by worth parts
    large_number large = grind (arith, first_part_at, number_le_worth)

    pub large_others : ((more : List DurationPart) → ArePartsOf (rank_of unit + 1) (rest_of text) more → most ≤ sum_by worth more) → most ≤ sum_by worth parts
    large_others large = grind (arith, first_part_at)

    pub large_worth : most ≤ digits_value 10 (digits_of text) * milliseconds_of unit → most ≤ sum_by worth parts
    large_worth large = let sum = (first_part_at from text parts unit is_unit are some).1.sum in omega arith

    pub large_sum : (more : List DurationPart) → ArePartsOf (rank_of unit + 1) (rest_of text) more
        → most ≤ digits_value 10 (digits_of text) * milliseconds_of unit + sum_by worth more → most ≤ sum_by worth parts
    large_sum more are_more large = grind (arith, first_part_at, sums_agree)

-- ---- the number that digits write

digit_value_is : (d : ℕ) → is_ascii_digit d ≡ true → digit_value d ≡ d - 48
digit_value_is d is = grind (arith, nat_tests)

digit_at : (p : ℕ → Bool) (xs : List ℕ) (i : ℕ) → list_all p xs ≡ true → i < length xs → p (get_or xs i 0) ≡ true
digit_at p [] i all inside = absurd (omega arith)
digit_at p (x ∷ xs) zero all inside = first_of (grind (arith, nat_tests), search rules)
digit_at p (x ∷ xs) (suc i) all inside = digit_at p xs i (first_of (grind (arith, nat_tests), search rules)) (omega arith)

-- a number so far and the next digit are no greater than the whole number
pub number_so_far : (digits : List ℕ) (n i : ℕ) → i < length digits → digits_value_after 10 n (drop i digits) ≡ digits_value 10 digits
    → n * 10 + digit_value (get_or digits i 0) ≤ digits_value 10 digits
number_so_far digits n i inside whole = grind (arith, drop-cons, behind_number)

pub next_digit : (digits : List ℕ) (i : ℕ) → list_all is_ascii_digit digits ≡ true → i < length digits → digit_value (get_or digits i 0) ≡ get_or digits i 0 - 48
next_digit digits i all inside = digit_value_is (get_or digits i 0) (digit_at is_ascii_digit digits i all inside)

-- the sum of a text's first part and the others, unless it is too large
pub sum_read : (most from : ℕ) (text : List ℕ) (unit : Unit) (product others : ℕ) (more : List DurationPart) (total : Option ℕ)
    → 0 < length text → 0 < length (digits_of text) → list_all is_ascii_digit (digits_of text) ≡ true → unit_of (symbol_in text) ≡ Some unit → from ≤ rank_of unit
    → ArePartsOf (rank_of unit + 1) (rest_of text) more → others ≡ sum_by worth more → product ≡ digits_value 10 (digits_of text) * milliseconds_of unit
    → SomeIff total (product + others < most) (product + others)
    → MatchOption total ((parts : List DurationPart) → ArePartsOf from text parts → most ≤ sum_by worth parts)
    (λ total. (parts : List DurationPart) × ArePartsOf from text parts × (total ≡ sum_by worth parts))
sum_read most from text unit product others more None some digits all is_unit order are_more is_others is_product none =
    λ parts are. large_sum most from text some parts are unit is_unit more are_more (omega arith)
sum_read most from text unit product others more (Some total) some digits all is_unit order are_more is_others is_product is =
    let part : DurationPart = record { digits = digits_of text; unit = unit } in
    let sum = sum_by-cons worth part more in
    (part ∷ more, with_first from text unit more digits all is_unit order are_more, omega arith)

-- a text whose parts are above a limit is no duration
pub too_long : (text : List ℕ) (parts : List DurationPart) (total : ℕ) → (text ≡ codes "0" → ⊥) → ArePartsOf 0 text parts → total ≡ sum_by worth parts → MAX_MILLISECONDS < total
    → (other : ℕ) → IsDuration text other → ⊥
too_long text parts total no_zero are is_total long other (short, inl is_zero) = no_zero is_zero.0
too_long text parts total no_zero are is_total long other (short, inr (some, (those, also, is_other))) =
    let same = sums_agree 0 text parts those are also in omega arith
