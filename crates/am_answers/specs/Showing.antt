-- What is printed of answers, of which some are shown by the places of known alerts.
use Rattle.std.specs.Prelude.{◌≡◌, ℕ, zero, suc, ◌+◌, Bool, true, false, ◌&&◌, List, [], ◌∷◌, ◌++◌}
use Rattle.std.specs.Prelude.{flat_map, length}
use Rattle.std.specs.Prelude.{Option, Some, None, is_some, codes, nat_eq, if◌then◌else◌}
use Rattle.std.specs.List.{AllZip}
use Rattle.std.specs.Fmt.{decimal}
use Rattle.json.specs.Json.{Json as JsonTree, Members, member, no_members, string}
use Rattle.am_labels.specs.Printing.{quoted}
use Rattle.am_script.specs.JsonLines.{about_line, object_line, decimal_json, worded}
use Rattle.am_answers.specs.Forms.{answers_printed}
use Rattle.am_answers.specs.Printing.{answer_text}
use Rattle.am_answers.specs.PrintingJson.{answer_members, count_members}
use Rattle.am_answers.specs.declared.answer.Answer.{Answer}
use Rattle.am_answers.specs.declared.answer.Answer.TheVariants as answer
use Rattle.am_script.specs.declared.form.Form.{Form}
use Rattle.am_script.specs.declared.form.Form.TheVariants.{Text, Json}
use Rattle.am_answers.specs.Known.{Known, IsShownAt}

-- whether an answer says that there is nothing more for now
abbrev pub is_pending : Answer → Bool
is_pending answer.Pending = true
is_pending _ = false

-- whether a place is this one
abbrev pub is_place : ℕ → Option ℕ → Bool
is_place place None = false
is_place place (Some at) = nat_eq at place

-- how many of the first places follow one another from one on
abbrev pub run_from : ℕ → List (Option ℕ) → ℕ
run_from place [] = 0
run_from place (at ∷ places) = if is_place place at then suc (run_from (place + 1) places) else 0

-- some places that follow one another from one on
abbrev pub run_members : ℕ → ℕ → Members
run_members from count =
    member (codes "from") (decimal_json from) (member (codes "count") (decimal_json count) no_members)

-- some alerts of a put, from an index on, have these places
abbrev pub kept_members : ℕ → ℕ → ℕ → Members
kept_members index from count =
    worded (codes "kept") (member (codes "index") (decimal_json index) (run_members from count))

-- some answers show the alerts that are known at these places
abbrev pub as_put_members : ℕ → ℕ → Members
as_put_members from count = worded (codes "as_put") (run_members from count)

-- an object about a line, or about what came after it for the subscription of a name
abbrev pub about : ℕ → Option (List ℕ) → Members → JsonTree
about number None members = about_line number members
about number (Some name) members = about_line number (member (codes "sub") (string name) members)

-- an answer that is shown whole; of what came for a subscription nothing is printed of Pending
abbrev pub whole_text : ℕ → Option (List ℕ) → Answer → List ℕ
whole_text number name one = if is_some name && is_pending one then []
    else object_line (about number name (answer_members one))

-- what is printed of the places of a put's alerts from an index on: an object for those that follow one
-- another. Of the first, this many are in the object before
abbrev pub kept_text : ℕ → ℕ → ℕ → List (Option ℕ) → List ℕ
kept_text number index before [] = []
kept_text number index (suc before) (place ∷ places) = kept_text number (index + 1) before places
kept_text number index zero (None ∷ places) = kept_text number (index + 1) 0 places
kept_text number index zero (Some from ∷ places) =
    object_line (about_line number (kept_members index from (run_from (from + 1) places + 1)))
    ++ kept_text number (index + 1) (run_from (from + 1) places) places

-- what is printed of answers that are shown at these places: an object for those that follow one another, and
-- each of the others whole. Of the first, this many are in the object before
abbrev pub shown_text : ℕ → Option (List ℕ) → ℕ → List Answer → List (Option ℕ) → List ℕ
shown_text number name before [] places = []
shown_text number name before (one ∷ given) [] = []
shown_text number name (suc before) (one ∷ given) (place ∷ places) =
    shown_text number name before given places
shown_text number name zero (one ∷ given) (None ∷ places) =
    whole_text number name one ++ shown_text number name 0 given places
shown_text number name zero (one ∷ given) (Some from ∷ places) =
    object_line (about number name (as_put_members from (run_from (from + 1) places + 1)))
    ++ shown_text number name (run_from (from + 1) places) given places

-- what is printed of where a put's alerts went: as JSON alone
abbrev pub kept_printed : Form → ℕ → List (Option ℕ) → List ℕ
kept_printed Text number places = []
kept_printed Json number places = kept_text number 0 0 places

-- what is printed of a line's answers, in a run that follows or not: as JSON what is known is shown by its
-- place if the run follows
pub data AnswersArePrinted (number : ℕ) (known : Known) (given : List Answer)
    : Bool → Form → List ℕ → Type 0 where
  plain : {form : Form} → AnswersArePrinted number known given false form (answers_printed form number given)
  words : {follows : Bool}
      → AnswersArePrinted number known given follows Text (answers_printed Text number given)
  objects : (places : List (Option ℕ)) → AllZip (IsShownAt known) given places
      → AnswersArePrinted number known given true Json (shown_text number None 0 given places
      ++ object_line (about_line number (count_members (length given))))

-- an answer that came for a subscription, in words: nothing, if it is Pending
abbrev pub came_words : ℕ → List ℕ → Answer → List ℕ
came_words number name one = if is_pending one then []
    else decimal number ++ codes " to " ++ quoted name ++ codes " " ++ answer_text one ++ codes "\n"

-- what is printed of all that came for a subscription after the line of this number
pub data CameIsPrinted (number : ℕ) (name : List ℕ) (known : Known) (given : List Answer)
    : Form → List ℕ → Type 0 where
  words : CameIsPrinted number name known given Text (flat_map (came_words number name) given)
  objects : (places : List (Option ℕ)) → AllZip (IsShownAt known) given places
      → CameIsPrinted number name known given Json (shown_text number (Some name) 0 given places)
