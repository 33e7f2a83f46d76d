-- Counting a text that grows by a line, or by the beginning of one.
use Rattle.std.proofs.Common.{◌≡◌, ◌⊎◌, ℕ, ◌+◌, ◌-◌, ◌<◌, ◌≤◌, Bool, true, false, cond, not, List, [], ◌∷◌, ◌++◌, length, drop, get_or, inl, inr, refl, ap, sym, subst, ◌∙◌, arith, append_assoc, append-nil}
use Rattle.std.specs.List.{Any, after_last, count_by, prefix_len, suffix_len}
use Rattle.std.proofs.Math.Logic.{⊎_elim}
use Rattle.std.proofs.lemmas.Bool.{cases_lt}
use Rattle.std.proofs.lemmas.Grind.{common_steps}
use Rattle.std.proofs.lemmas.List.{drop-append-le, drop_all, length-append, reverse-append}
use Rattle.std.proofs.lemmas.List.Elements.{All-nil, All-push}
use Rattle.std.proofs.lemmas.List.Quantifiers.{Any-push}
use Rattle.std.proofs.lemmas.List.Sums.{sum_by_push}
use Rattle.am_script.specs.declared.limits.TheConstants.{LONGEST_LINE, MOST_LINES}
use Rattle.am_script.specs.Script.{is_line_feed, lines_of}
use Rattle.am_script.specs.Inputs.{HasExcess}
use Rattle.am_script.specs.inside.Counting.{CountsLines}
use Rattle.am_script.proofs.SingleLines.{IsPlain, plain_head, plain_tail, line_behind, feed_behind, line_of}

abbrev IsLong : List ℕ → Type 0
IsLong line = LONGEST_LINE < length line

abbrev open_line : List ℕ → List ℕ
open_line text = after_last is_line_feed text

abbrev open_bytes : List ℕ → ℕ
open_bytes text = suffix_len (λ byte. not (is_line_feed byte)) text

abbrev feeds : List ℕ → ℕ
feeds text = count_by is_line_feed text

-- the open line of a text that a byte was added to
bytes_after : (text : List ℕ) (byte : ℕ) (feed : Bool) → is_line_feed byte ≡ feed → open_bytes (text ++ byte ∷ []) ≡ cond (not feed) (1 + open_bytes text) 0
bytes_after text byte feed is =
    ap (prefix_len (λ b. not (is_line_feed b))) (reverse-append text (byte ∷ [])) ∙ ap (λ b. cond (not b) (1 + open_bytes text) 0) is

open_after_feed : (text : List ℕ) (byte : ℕ) → is_line_feed byte ≡ true → open_line (text ++ byte ∷ []) ≡ []
open_after_feed text byte is =
    let all = text ++ byte ∷ [] in
    drop_all (length all - open_bytes all) all (omega (arith, bytes_after text byte true is))

open_after_byte : (text : List ℕ) (byte : ℕ) → is_line_feed byte ≡ false → open_line (text ++ byte ∷ []) ≡ open_line text ++ byte ∷ []
open_after_byte text byte is =
    let all = text ++ byte ∷ [] in
    let front : length all - open_bytes all ≡ length text - open_bytes text =
    omega (arith, bytes_after text byte false is, length-append text (byte ∷ [])) in
    ap (λ (n : ℕ). drop n all) front ∙ drop-append-le (length text - open_bytes text) text (byte ∷ []) (omega arith)

feeds_after : (text : List ℕ) (byte : ℕ) (feed : Bool) → is_line_feed byte ≡ feed → feeds (text ++ byte ∷ []) ≡ feeds text + cond feed 1 0
feeds_after text byte feed is =
    sum_by_push (λ b. cond (is_line_feed b) 1 0) text byte ∙ ap (λ (b : Bool). feeds text + cond b 1 0) is

-- the lines of a text that have ended, and the one behind them
record Lines (text : List ℕ) : Type 0 where
  done : List (List ℕ)
  count : length done ≡ feeds text
  plain : IsPlain (open_line text)
  lines : (more : List ℕ) → lines_of (text ++ more) ≡ done ++ lines_of (open_line text ++ more)

lines_more : (text : List ℕ) → Lines text → (byte : ℕ) (feed : Bool) → is_line_feed byte ≡ feed → Lines (text ++ byte ∷ [])
lines_more text was byte true is =
    let none = open_after_feed text byte is in
    record {
      done = was.done ++ open_line text ∷ [];
      count = omega (arith, length-append was.done (open_line text ∷ []), feeds_after text byte true is, was.count);
      plain = subst IsPlain (sym none) (All-nil (λ b. is_line_feed b ≡ false));
      lines = λ more.
          ap lines_of (append_assoc text (byte ∷ []) more)
          ∙ (was.lines (byte ∷ more)
          ∙ (ap (λ (ls : List (List ℕ)). was.done ++ ls) (feed_behind (open_line text) more byte was.plain is)
          ∙ (sym (append_assoc was.done (open_line text ∷ []) (lines_of more))
          ∙ ap (λ (line : List ℕ). (was.done ++ open_line text ∷ []) ++ lines_of (line ++ more)) (sym none))));
    }
lines_more text was byte false is =
    let longer = open_after_byte text byte is in
    record {
      done = was.done;
      count = omega (arith, feeds_after text byte false is, was.count);
      plain = subst IsPlain (sym longer) (All-push (λ b. is_line_feed b ≡ false) (open_line text) byte was.plain is);
      lines = λ more.
          ap lines_of (append_assoc text (byte ∷ []) more)
          ∙ (was.lines (byte ∷ more)
          ∙ ap (λ (line : List ℕ). was.done ++ lines_of line) (sym (ap (λ (line : List ℕ). line ++ more) longer ∙ append_assoc (open_line text) (byte ∷ []) more)));
    }

lines_all : (front : List ℕ) → Lines front → (more : List ℕ) → Lines (front ++ more)
lines_all front was [] = subst Lines (sym (append-nil front)) was
lines_all front was (byte ∷ more) =
    subst Lines (append_assoc front (byte ∷ []) more) (lines_all (front ++ byte ∷ []) (lines_more front was byte (is_line_feed byte) refl) more)

lines_in : (text : List ℕ) → Lines text
lines_in text = lines_all [] (record { done = []; count = refl; plain = All-nil (λ b. is_line_feed b ≡ false); lines = λ more. refl }) text

-- the open line and the feeds of a text behind bytes without a line feed
open_behind : (text part : List ℕ) → IsPlain part → open_line (text ++ part) ≡ open_line text ++ part
open_behind text [] plain = ap open_line (append-nil text) ∙ sym (append-nil (open_line text))
open_behind text (byte ∷ bytes) plain =
    ap open_line (sym (append_assoc text (byte ∷ []) bytes))
    ∙ (open_behind (text ++ byte ∷ []) bytes (plain_tail byte bytes plain)
    ∙ (ap (λ (l : List ℕ). l ++ bytes) (open_after_byte text byte (plain_head byte bytes plain)) ∙ append_assoc (open_line text) (byte ∷ []) bytes))

feeds_behind : (text part : List ℕ) → IsPlain part → feeds (text ++ part) ≡ feeds text
feeds_behind text [] plain = ap feeds (append-nil text)
feeds_behind text (byte ∷ bytes) plain =
    ap feeds (sym (append_assoc text (byte ∷ []) bytes))
    ∙ (feeds_behind (text ++ byte ∷ []) bytes (plain_tail byte bytes plain) ∙ omega (arith, feeds_after text byte false (plain_head byte bytes plain)))

some_of_push : (P : List ℕ → Type 0) (lines : List (List ℕ)) (line : List ℕ) → Any P (lines ++ line ∷ []) → Any P lines ⊎ P line
some_of_push P lines line (k, x, inside, is, holds) =
    ⊎_elim
    (λ below. let same : get_or (lines ++ line ∷ []) k x ≡ get_or lines k x = grind (arith, common_steps) in inl (k, x, below, sym same ∙ is, holds))
    (λ above. let same : get_or (lines ++ line ∷ []) k x ≡ line = grind (arith, common_steps) in inr (subst P (sym is ∙ same) holds))
    (cases_lt k (length lines))

some_of_front : (P : List ℕ → Type 0) (lines more : List (List ℕ)) → Any P lines → Any P (lines ++ more)
some_of_front P lines more (k, x, inside, is, holds) = (k, x, grind (arith, common_steps), grind (arith, common_steps), holds)

-- a text within the limits that has grown by a line or by the beginning of one
module _ (text line part now : List ℕ) (ended last : ℕ) (was : CountsLines text ended last) (one : lines_of line ≡ part ∷ []) (grown : now ≡ text ++ line) where
  before : Lines text
  before = lines_in text

  lines_now : lines_of now ≡ before.done ++ (open_line text ++ part) ∷ []
  lines_now =
      ap lines_of grown
      ∙ (before.lines line ∙ ap (λ (ls : List (List ℕ)). before.done ++ ls) (line_behind (open_line text) line part before.plain one))

  count_now : length (lines_of now) ≡ ended + 1
  count_now = omega (arith, ap length lines_now, length-append before.done ((open_line text ++ part) ∷ []), before.count, was.feeds)

  size_now : length (open_line text ++ part) ≡ last + length part
  size_now = omega (arith, length-append (open_line text) part, was.open_bytes)

  pub excess_now : (MOST_LINES ≤ ended) ⊎ (LONGEST_LINE < last + length part) → HasExcess now
  excess_now (inl many) = inl (omega (arith, count_now))
  excess_now (inr long) =
      inr (subst (Any IsLong) (sym lines_now) (Any-push IsLong before.done (open_line text ++ part) (omega (arith, size_now))))

  -- a line of the text that is too long was so before
  long_before : Any IsLong before.done → HasExcess text
  long_before long =
      let its_lines =
      ap lines_of (sym (append-nil text))
      ∙ (before.lines [] ∙ ap (λ (l : List ℕ). before.done ++ lines_of l) (append-nil (open_line text))) in
      inr (subst (Any IsLong) (sym its_lines) (some_of_front IsLong before.done (lines_of (open_line text)) long))

  module _ (few : ended < MOST_LINES) (short : last + length part ≤ LONGEST_LINE) where
    within_now : ¬ HasExcess now
    within_now (inl many) = absurd (omega (arith, count_now))
    within_now (inr long) =
        ⊎_elim
        (λ earlier. was.within (long_before earlier))
        (λ here. absurd (omega (arith, size_now)))
        (some_of_push IsLong before.done (open_line text ++ part) (subst (Any IsLong) lines_now long))

    pub counted_open : length line ≤ length part → CountsLines now ended (last + length part)
    counted_open open_still =
        let its = line_of line part one in
        ⊎_elim
        (λ feed. absurd (omega (arith, ap length feed, length-append part (10 ∷ []))))
        (λ same. let all : now ≡ text ++ part = grown ∙ ap (λ (l : List ℕ). text ++ l) same in
        record {
          feeds = was.feeds ∙ sym (ap feeds all ∙ feeds_behind text part its.0);
          open_bytes = sym (ap (λ (l : List ℕ). length (open_line l)) all ∙ (ap length (open_behind text part its.0) ∙ size_now));
          within = within_now;
        })
        its.1

    pub counted_ended : length part < length line → CountsLines now (ended + 1) 0
    counted_ended done =
        let its = line_of line part one in
        ⊎_elim
        (λ feed. let all : now ≡ (text ++ part) ++ 10 ∷ [] = grown ∙ (ap (λ (l : List ℕ). text ++ l) feed ∙ sym (append_assoc text part (10 ∷ []))) in
        record {
          feeds = omega (arith, ap feeds all, feeds_after (text ++ part) 10 true refl, feeds_behind text part its.0, was.feeds);
          open_bytes = sym (ap (λ (l : List ℕ). length (open_line l)) all ∙ ap length (open_after_feed (text ++ part) 10 refl));
          within = within_now;
        })
        (λ same. absurd (omega (arith, ap length same)))
        its.1
