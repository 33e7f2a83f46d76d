-- The first line of a text, and what follows it.
use Rattle.std.proofs.Common.{◌≡◌, ℕ, suc, ◌+◌, ◌<◌, ◌≤◌, Bool, true, false, cond, ltb, List, [], ◌∷◌, length, take, drop, Some, None, refl, ap, sym, ◌∙◌, arith, add-one, one-add}
use Rattle.std.specs.List.{onto_first, position, position_or_len}
use Rattle.std.proofs.lemmas.Bool.Decides.{Decides-ltb, nat_tests}
use Rattle.std.proofs.Math.Seq.{take-length, drop-length}
use Rattle.am_script.specs.Script.{is_line_feed, lines_of}

abbrev end_of : List ℕ → ℕ
end_of text = position_or_len is_line_feed text

abbrev IsCut : List ℕ → Type 0
IsCut text = end_of text < length text → lines_of text ≡ take (end_of text) text ∷ lines_of (drop (end_of text + 1) text)

cut_first : (byte : ℕ) (bytes : List ℕ) (feed : Bool) → is_line_feed byte ≡ feed → IsCut bytes → IsCut (byte ∷ bytes)
cut_first byte bytes true is later inside = rw is refl
cut_first byte bytes false is later inside =
    let inner : 1 + end_of bytes < suc (length bytes) = rw is at inside in
    let more = simp add-one at (later (omega arith)) in
    rw is (rw (one-add, add-one) (ap (onto_first byte) more))

cut_at : (text : List ℕ) → IsCut text
cut_at [] inside = absurd (omega arith)
cut_at (byte ∷ bytes) inside = cut_first byte bytes (is_line_feed byte) refl (cut_at bytes) inside

abbrev IsWhole : List ℕ → Type 0
IsWhole text = 0 < length text → length text ≤ end_of text → lines_of text ≡ text ∷ []

whole_rest : (byte : ℕ) (bytes : List ℕ) → IsWhole bytes → length bytes ≤ end_of bytes → onto_first byte (lines_of bytes) ≡ (byte ∷ bytes) ∷ []
whole_rest byte [] later none = refl
whole_rest byte (next ∷ bytes) later none = ap (onto_first byte) (later (omega arith) none)

whole_first : (byte : ℕ) (bytes : List ℕ) (feed : Bool) → is_line_feed byte ≡ feed → IsWhole bytes → length (byte ∷ bytes) ≤ end_of (byte ∷ bytes) → lines_of (byte ∷ bytes) ≡ (byte ∷ bytes) ∷ []
whole_first byte bytes true is later none = let no : suc (length bytes) ≤ 0 = rw is at none in absurd (omega arith)
whole_first byte bytes false is later none =
    let inner : suc (length bytes) ≤ 1 + end_of bytes = rw is at none in
    rw is (whole_rest byte bytes later (omega arith))

whole : (text : List ℕ) → IsWhole text
whole [] some none = absurd (omega arith)
whole (byte ∷ bytes) some none = whole_first byte bytes (is_line_feed byte) refl (whole bytes) none

found : (b : Bool) (n at : ℕ) → cond b (Some n) None ≡ Some at → (b ≡ true) × (n ≡ at)
found true n at h = (refl, cc)
found false n at h = absurd (cc)

missing : (b : Bool) (n : ℕ) → cond b (Some n) None ≡ None → b ≡ false
missing true n h = cc
missing false n h = refl

pub lines_of-cut : (text : List ℕ) (at : ℕ) (line after : List ℕ) → position is_line_feed text ≡ Some at → line ≡ take at text → after ≡ drop (at + 1) text → lines_of text ≡ line ∷ lines_of after
lines_of-cut text at line after here front back =
    let there = found (ltb (end_of text) (length text)) (end_of text) at here in
    let cut = cut_at text ((Decides-ltb (end_of text) (length text)).0 there.0) in
    let moved : lines_of text ≡ take at text ∷ lines_of (drop (at + 1) text) = rw there.1 at cut in
    moved ∙ (ap (λ (l : List ℕ). l ∷ lines_of (drop (at + 1) text)) (sym front) ∙ ap (λ (l : List ℕ). line ∷ lines_of l) (sym back))

pub lines_of-whole : (text line after : List ℕ) → 0 < length text → position is_line_feed text ≡ None → line ≡ take (length text) text → after ≡ drop (length text) text → lines_of text ≡ line ∷ lines_of after
lines_of-whole text line after some none front back =
    let gone = missing (ltb (end_of text) (length text)) (end_of text) none in
    let past : length text ≤ end_of text = grind (arith, nat_tests) in
    whole text some past
    ∙ (ap (λ (l : List ℕ). l ∷ []) (sym (front ∙ take-length text))
    ∙ ap (λ (l : List ℕ). line ∷ lines_of l) (sym (back ∙ drop-length text)))
