-- One line, and one behind bytes without a line feed.
use Rattle.std.proofs.Common.{◌≡◌, ◌≢◌, ◌⊎◌, Bor, MatchOption, unwrap_or, ℕ, ◌+◌, ◌<◌, Bool, true, false, cond, List, [], ◌∷◌, ◌++◌, length, take, get_or, Option, Some, None, inl, inr, refl, ap, sym, subst, ◌∙◌, arith}
use Rattle.std.specs.List.{All, onto_first, position}
use Rattle.std.proofs.Math.Logic.{⊎_elim}
use Rattle.std.proofs.Math.Seq.{drop-length, take-length}
use Rattle.std.proofs.lemmas.Bool.Decides.{nat_tests}
use Rattle.std.proofs.lemmas.Grind.{common_steps}
use Rattle.std.proofs.lemmas.List.{get_or-take, get_or_default, length-append, length-take, same_from_push, take_more}
use Rattle.std.proofs.lemmas.List.Elements.{All-cons, All-head, All-nil, All-push, All-tail}
use Rattle.std.proofs.lemmas.List.Quantifiers.{position-Some}
use Rattle.am_script.proofs.Lines.{lines_of-whole}
use Rattle.am_script.specs.Script.{is_line_feed, lines_of}

abbrev pub IsPlain : List ℕ → Type 0
IsPlain bytes = All (λ byte. is_line_feed byte ≡ false) bytes

abbrev pub plain_head : (byte : ℕ) (bytes : List ℕ) → IsPlain (byte ∷ bytes) → is_line_feed byte ≡ false
plain_head byte bytes plain = All-head (λ b. is_line_feed b ≡ false) byte bytes plain

abbrev pub plain_tail : (byte : ℕ) (bytes : List ℕ) → IsPlain (byte ∷ bytes) → IsPlain bytes
plain_tail byte bytes plain = All-tail (λ b. is_line_feed b ≡ false) byte bytes plain

-- a line behind bytes without a line feed
pub line_behind : (plain line part : List ℕ) → IsPlain plain → lines_of line ≡ part ∷ [] → lines_of (plain ++ line) ≡ (plain ++ part) ∷ []
line_behind [] line part plain one = one
line_behind (byte ∷ bytes) line part plain one =
    rw (plain_head byte bytes plain) (ap (onto_first byte) (line_behind bytes line part (plain_tail byte bytes plain) one))

pub feed_behind : (plain more : List ℕ) (feed : ℕ) → IsPlain plain → is_line_feed feed ≡ true → lines_of (plain ++ feed ∷ more) ≡ plain ∷ lines_of more
feed_behind [] more feed plain is = rw is refl
feed_behind (byte ∷ bytes) more feed plain is =
    rw (plain_head byte bytes plain) (ap (onto_first byte) (feed_behind bytes more feed (plain_tail byte bytes plain) is))

some_line : (byte : ℕ) (feed : Bool) (lines : List (List ℕ)) → cond feed ([] ∷ lines) (onto_first byte lines) ≡ [] → ⊥
some_line byte true lines none = cc
some_line byte false [] none = cc
some_line byte false (line ∷ lines) none = cc

no_lines : (bytes : List ℕ) (lines : List (List ℕ)) → lines_of bytes ≡ lines → lines ≡ [] → bytes ≡ []
no_lines [] lines are none = refl
no_lines (byte ∷ bytes) lines are none = absurd (some_line byte (is_line_feed byte) (lines_of bytes) (are ∙ none))

-- one line is bytes without a line feed, and its line feed where it has ended
abbrev pub IsLine : List ℕ → List ℕ → Type 0
IsLine line part = IsPlain part × ((line ≡ part ++ 10 ∷ []) ⊎ (line ≡ part))

line_from : (byte : ℕ) (bytes part : List ℕ) (feed : Bool) → is_line_feed byte ≡ feed → (lines : List (List ℕ)) → lines_of bytes ≡ lines
    → ((inner : List ℕ) → lines_of bytes ≡ inner ∷ [] → IsLine bytes inner) → lines_of (byte ∷ bytes) ≡ part ∷ [] → IsLine (byte ∷ bytes) part
line_from byte bytes part true is lines are later one =
    let at : [] ∷ lines_of bytes ≡ part ∷ [] = rw is at one in
    let empty : [] ≡ part = cc in
    let none : lines_of bytes ≡ [] = cc in
    let end : bytes ≡ [] = no_lines bytes (lines_of bytes) refl none in
    let feed : byte ≡ 10 = grind (arith, nat_tests) in (subst IsPlain empty (All-nil (λ b. is_line_feed b ≡ false)), inl cc)
line_from byte bytes part false is [] are later one =
    let at : (byte ∷ []) ∷ [] ≡ part ∷ [] = rw (is, are) at one in
    let same : byte ∷ [] ≡ part = cc in
    let end : bytes ≡ [] = no_lines bytes [] are refl in
    let plain = All-push (λ b. is_line_feed b ≡ false) [] byte (All-nil (λ b. is_line_feed b ≡ false)) is in (subst IsPlain same plain, inr cc)
line_from byte bytes part false is (inner ∷ lines) are later one =
    let at : (byte ∷ inner) ∷ lines ≡ part ∷ [] = rw (is, are) at one in
    let same : byte ∷ inner ≡ part = cc in
    let none : lines ≡ [] = cc in
    let rest = later inner (are ∙ ap (λ (ls : List (List ℕ)). inner ∷ ls) none) in (
      subst IsPlain same (All-cons (λ b. is_line_feed b ≡ false) byte inner is rest.0),
      ⊎_elim
          (λ ended. inl (ap (λ (l : List ℕ). byte ∷ l) ended ∙ ap (λ (l : List ℕ). l ++ 10 ∷ []) same))
          (λ open_still. inr (ap (λ (l : List ℕ). byte ∷ l) open_still ∙ same))
          rest.1,
    )

pub line_of : (line part : List ℕ) → lines_of line ≡ part ∷ [] → IsLine line part
line_of [] part one = absurd cc
line_of (byte ∷ bytes) part one = line_from byte bytes part (is_line_feed byte) refl (lines_of bytes) refl (line_of bytes) one

-- the bytes up to a line feed are one line
pub line_to_feed : (bytes : List ℕ) (at : ℕ) → position is_line_feed bytes ≡ Some at → lines_of (take (at + 1) bytes) ≡ take at bytes ∷ []
line_to_feed bytes at here =
    let its = position-Some is_line_feed bytes at 0 here in
    let plain : IsPlain (take at bytes) = λ k d below. let early : k < at = omega (arith, length-take at bytes) in subst (λ (b : ℕ). is_line_feed b ≡ false) (sym (get_or-take at bytes k d early ∙ get_or_default bytes k d 0 (omega (arith, its.0)))) (its.2 k early) in
    let cut : take (at + 1) bytes ≡ take at bytes ++ get_or bytes at 0 ∷ [] = take_more bytes at 0 its.0 in
    ap lines_of cut ∙ feed_behind (take at bytes) [] (get_or bytes at 0) plain its.1

pub whole_line : (line : List ℕ) → 0 < length line → position is_line_feed line ≡ None → lines_of line ≡ line ∷ []
whole_line line some none = lines_of-whole line line [] some none (sym (take-length line)) (sym (drop-length line))

-- one line without the line feed that may end it
one_of : (lines : List (List ℕ)) → length lines ≡ 1 → (line : List ℕ) × (lines ≡ line ∷ [])
one_of [] one = absurd (omega (arith, one))
one_of (line ∷ []) one = (line, refl)
one_of (line ∷ next ∷ lines) one = absurd (omega (arith, one))

not_plain : (front : List ℕ) → IsPlain (front ++ 10 ∷ []) → ⊥
not_plain front plain =
    let feed : get_or (front ++ 10 ∷ []) (length front) 0 ≡ 10 = grind (arith, common_steps) in
    let inside : length front < length (front ++ 10 ∷ []) = omega (arith, length-append front (10 ∷ [])) in
    let no : true ≡ false = ap is_line_feed (sym feed) ∙ plain (length front) 0 inside in cc

pub stripped_line : (line : Bor (List ℕ)) (stripped : Option (Bor (List ℕ)))
    → MatchOption stripped ((front : List ℕ) → line.now ≢ front ++ 10 ∷ []) (λ part. line.now ≡ part.now ++ 10 ∷ [])
    → length (lines_of line.now) ≡ 1 → lines_of line.now ≡ (unwrap_or stripped line).now ∷ []
stripped_line line None none one =
    let its = one_of (lines_of line.now) one in
    its.1 ∙ ap (λ (l : List ℕ). l ∷ []) (⊎_elim (λ feed. absurd (none its.0 feed)) sym (line_of line.now its.0 its.1).1)
stripped_line line (Some part) feed one =
    let its = one_of (lines_of line.now) one in
    let parts = line_of line.now its.0 its.1 in
    its.1
    ∙ ap (λ (l : List ℕ). l ∷ [])
    (⊎_elim
    (λ ended. (same_from_push its.0 part.now 10 10 (sym ended ∙ feed)).0)
    (λ open_still. absurd (not_plain part.now (subst IsPlain (sym open_still ∙ feed) parts.0)))
    parts.1)
