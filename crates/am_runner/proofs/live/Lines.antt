-- How a line is put together from what an input's buffer gives.
use Rattle.std.proofs.Common.{◌≡◌, ◌≢◌, ℕ, ◌+◌, ◌-◌, ◌<◌, ◌≤◌, Bool, true, false, cond, ltb, eqb, ◌&&◌, List, [], ◌∷◌, ◌++◌, All, Option, None, Some, OnSome, length, take, get_or, get_or-take, length-take-le, take_at, refl, sym, ap, subst, ◌∙◌, arith, append_assoc, append-nil, eq-eqb, ne_eqb, eqb-true, length-append}
use Rattle.std.specs.Io.KnownBytes.{Consumes, IsAtEnd, Keeps}
use Rattle.std.specs.Io.BufRead.{take_through, drop_through, strip_last}
use Rattle.std.proofs.KnownBytes.{Consumes-trans}
use Rattle.std.proofs.BufReadLemmas.{take_through-append, drop_through-append}
use Rattle.std.proofs.lemmas.List.{length_push, get_or_push, take_more}
use Rattle.std.proofs.lemmas.List.Elements.{All-append, All-from_get_or}
use Rattle.std.proofs.lemmas.Bool.Decides.{Decides-ltb}
use Rattle.memchr.specs.Find.{is_byte, Nowhere, Passes}
use Rattle.am_runner.specs.live.Reading.{IsNext, IsNextAs, IsInputOf}
use Rattle.am_runner.specs.live.inside.Buffered.{Gives, GoesOn, feed_of}
use Rattle.am_runner.specs.declared.live.reading.InputLine.{InputLine}
use Rattle.am_runner.specs.declared.live.reading.Met.{Met}
use Rattle.am_runner.specs.declared.live.reading.Met.TheVariants.{LineFeed, End, Neither}

-- the bytes before the first line feed
pub plain_before : (bytes : List ℕ) (k : ℕ) → k ≤ length bytes → Nowhere (Passes (is_byte 10) bytes) 0 k → All (λ x. x ≢ 10) (take k bytes)
plain_before bytes k within none =
    let long = length-take-le k bytes within in
    All-from_get_or (λ x. x ≢ 10) (take k bytes) 0
    (λ i below is. let inside : i < k = omega arith in none i (omega arith) inside (eq-eqb _ _ (sym (get_or-take k bytes i 0 inside) ∙ is)))

-- a byte more where the first line feed is
pub taken_with_feed : (bytes : List ℕ) (k : ℕ) → k < length bytes → Passes (is_byte 10) bytes k → take (k + 1) bytes ≡ take k bytes ++ 10 ∷ []
taken_with_feed bytes k within feed = take_more bytes k 0 within ∙ ap (λ x. take k bytes ++ x ∷ []) (eqb-true _ _ feed)

-- what two steps took, one after the other
pub line_grows : (a b c : Option (List ℕ)) (old more feed : List ℕ) → Consumes a b old → Consumes b c (more ++ feed) → Consumes a c ((old ++ more) ++ feed)
line_grows a b c old more feed first second = subst (Consumes a c) (sym (append_assoc old more feed)) (Consumes-trans a b c old (more ++ feed) first second)

strips : (n v : ℕ) (front whole : List ℕ) → 0 < n → v ≡ 10 → cond (ltb 0 n && eqb v 10) front whole ≡ front
strips n v front whole some is =
    ap (λ b. cond (b && eqb v 10) front whole) ((Decides-ltb 0 n).1 some) ∙ ap (λ b. cond (true && b) front whole) (eq-eqb v 10 is)

strip_fed : (line : List ℕ) → strip_last 10 (line ++ 10 ∷ []) ≡ line
strip_fed line =
    let long = length_push line 10 in
    let fed = line ++ 10 ∷ [] in
    strips (length fed) (get_or fed (length fed - 1) 0) (take (length fed - 1) fed) fed (omega arith) (get_or_push line 10 0 (length fed - 1) (omega arith))
    ∙ take_at line (10 ∷ []) (length fed - 1) (omega arith)

keeps : (inside : Bool) (v : ℕ) (front whole : List ℕ) → (inside ≡ true → v ≢ 10) → cond (inside && eqb v 10) front whole ≡ whole
keeps true v front whole other = ap (λ b. cond b front whole) (ne_eqb v 10 (other refl))
keeps false v front whole other = refl

strip_plain : (line : List ℕ) → All (λ x. x ≢ 10) line → strip_last 10 line ≡ line
strip_plain line plain =
    keeps (ltb 0 (length line)) (get_or line (length line - 1) 0) _ line
    (λ inside. let some : 0 < length line = (Decides-ltb 0 (length line)).0 inside in plain (length line - 1) 0 (omega arith))

-- a line that ends at its line feed
pub line_ends : (a c : Option (List ℕ)) (line : List ℕ) → All (λ x. x ≢ 10) line → Consumes a c (line ++ 10 ∷ []) → IsNext a (Some line) c
line_ends None c line plain read = tt
line_ends (Some text) None line plain read = absurd read
line_ends (Some text) (Some rest) line plain read =
    let whole : text ≡ line ++ 10 ∷ rest = read ∙ append_assoc line (10 ∷ []) rest in (
      λ none. absurd (omega (arith, ap length (sym whole ∙ none), length-append line (10 ∷ rest))),
      sym (ap (strip_last 10) (ap (take_through 10) whole ∙ take_through-append 10 line (10 ∷ rest) plain) ∙ strip_fed line),
      ap Some (sym (ap (drop_through 10) whole ∙ drop_through-append 10 line (10 ∷ rest) plain)),
    )

-- the last line, which the input's end ends, or none
pub input_ends : (a b c : Option (List ℕ)) (old more : List ℕ) → All (λ x. x ≢ 10) (old ++ more) → Consumes a b old
    → Consumes b c (more ++ []) → OnSome b (IsAtEnd c)
    → (length (old ++ more) ≡ 0 → IsNext a None c) × (length (old ++ more) ≢ 0 → IsNext a (Some (old ++ more)) c)
input_ends None b c old more plain first second end = (λ _. tt, λ _. tt)
input_ends (Some text) None c old more plain first second end = absurd first
input_ends (Some text) (Some rest) None old more plain first second end = absurd second
input_ends (Some text) (Some rest) (Some left) old more plain first second end =
    let new = old ++ more in
    let read = line_grows (Some text) (Some rest) (Some left) old more [] first second in
    let whole : text ≡ new = read ∙ ap (λ l. (new ++ []) ++ l) end ∙ append-nil (new ++ []) ∙ append-nil new in
    let apart : text ≡ new ++ [] = whole ∙ sym (append-nil new) in (
      λ none. (whole ∙ empty new none, ap Some end),
      λ some. (
        λ none. some (ap length (sym whole ∙ none)),
        sym (ap (strip_last 10) (ap (take_through 10) apart ∙ take_through-append 10 new [] plain ∙ append-nil new) ∙ strip_plain new plain),
        ap Some (end ∙ sym (ap (drop_through 10) apart ∙ drop_through-append 10 new [] plain)),
      ),
    )
  where
    empty : (xs : List ℕ) → length xs ≡ 0 → xs ≡ []
    empty [] none = refl
    empty (x ∷ xs) none = absurd (omega arith)

-- what a buffer with no line feed gave
pub gives_all : (a c : Option (List ℕ)) (line new : InputLine) (shown : List ℕ) → All (λ x. x ≢ 10) shown → GoesOn line shown new → Consumes a c shown → Gives line a c (new, Neither)
gives_all a c line new shown plain goes read = record { more = shown; plain = plain; goes_on = goes; read = subst (Consumes a c) (sym (append-nil shown)) read; end = λ is. absurd (cc is) }

-- the same at the input's end
pub gives_last : (a c : Option (List ℕ)) (line new : InputLine) (shown : List ℕ) → All (λ x. x ≢ 10) shown → GoesOn line shown new → Consumes a c shown → OnSome a (IsAtEnd c) → Gives line a c (new, End)
gives_last a c line new shown plain goes read end = record { more = shown; plain = plain; goes_on = goes; read = subst (Consumes a c) (sym (append-nil shown)) read; end = λ is. end }

-- what a buffer gave up to its line feed
pub gives_fed : (a c : Option (List ℕ)) (line new : InputLine) (front : List ℕ) → All (λ x. x ≢ 10) front → GoesOn line front new → Consumes a c (front ++ 10 ∷ []) → Gives line a c (new, LineFeed)
gives_fed a c line new front plain goes read = record { more = front; plain = plain; goes_on = goes; read = read; end = λ is. absurd (cc is) }

consumes_kept : (a c : Option (List ℕ)) → Keeps a c → Consumes a c []
consumes_kept None c kept = tt
consumes_kept (Some text) None kept = absurd kept
consumes_kept (Some text) (Some rest) kept = sym kept

-- what an interrupted read gave: nothing
pub gives_none : (a c : Option (List ℕ)) (line : InputLine) (taken : InputLine × Met) → Keeps a c → taken.0 ≡ line → taken.1 ≡ Neither → Gives line a c taken
gives_none a c line taken kept same met =
    subst (λ (new : InputLine). Gives line a c (new, taken.1)) (sym same) (subst (λ (m : Met). Gives line a c (line, m)) (sym met)
    (gives_all a c line line [] (λ k d below. absurd (omega (arith, below))) (λ bytes is. subst (λ (l : List ℕ). IsInputOf l line) (sym (append-nil bytes)) is) (consumes_kept a c kept)))

-- the line so far, of which no byte is a line feed
pub record LineSoFar (first : Option (List ℕ)) (line : InputLine) (now : Option (List ℕ)) : Type 0 where
  pub bytes : List ℕ
  pub plain : All (λ x. x ≢ 10) bytes
  pub read_as : IsInputOf bytes line
  pub consumed : Consumes first now bytes

module _ (a b c : Option (List ℕ)) (line new : InputLine) (met : Met) (so : LineSoFar a line b) (gives : Gives line b c (new, met)) where
  all_plain : All (λ x. x ≢ 10) (so.bytes ++ gives.more)
  all_plain = All-append (λ x. x ≢ 10) so.bytes gives.more so.plain gives.plain

  read_with : (other : Met) → met ≡ other → Consumes b c (gives.more ++ feed_of other)
  read_with other is = subst (λ (m : Met). Consumes b c (gives.more ++ feed_of m)) is gives.read

  pub line_goes_on : met ≡ Neither → LineSoFar a new c
  line_goes_on is = record {
    bytes = so.bytes ++ gives.more;
    plain = all_plain;
    read_as = gives.goes_on so.bytes so.read_as;
    consumed = subst (Consumes a c) (append-nil (so.bytes ++ gives.more)) (line_grows a b c so.bytes gives.more [] so.consumed (read_with Neither is));
  }

  pub line_is_next : met ≡ LineFeed → IsNextAs a (Some new) c
  line_is_next is = (
    so.bytes ++ gives.more,
    all_plain,
    gives.goes_on so.bytes so.read_as,
    line_ends a c (so.bytes ++ gives.more) all_plain (line_grows a b c so.bytes gives.more (10 ∷ []) so.consumed (read_with LineFeed is)),
  )

  pub none_is_next : met ≡ End → ((bytes : List ℕ) → IsInputOf bytes new → length bytes ≡ 0) → IsNextAs a None c
  none_is_next is empty =
      (input_ends a b c so.bytes gives.more all_plain so.consumed (read_with End is) (gives.end is)).0 (empty (so.bytes ++ gives.more) (gives.goes_on so.bytes so.read_as))

  pub last_is_next : met ≡ End → ((bytes : List ℕ) → IsInputOf bytes new → length bytes ≢ 0) → IsNextAs a (Some new) c
  last_is_next is some = (
    so.bytes ++ gives.more,
    all_plain,
    gives.goes_on so.bytes so.read_as,
    (input_ends a b c so.bytes gives.more all_plain so.consumed (read_with End is) (gives.end is)).1 (some (so.bytes ++ gives.more) (gives.goes_on so.bytes so.read_as)),
  )
