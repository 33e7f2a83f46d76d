-- How a run is printed: the answers to each of the script's lines, and a last line.
use Rattle.std.specs.Prelude.{ℕ, ◌==◌, Bool, List, [], ◌∷◌, ◌++◌, codes, slice_get, Option, Some}
use Rattle.std.specs.Prelude.{None}
use Rattle.std.specs.Global.{Vec}
use Rattle.std.specs.Option.{option_and_then}
use Rattle.std.specs.List.{count_by, list_any}
use Rattle.std.specs.Fmt.{decimal}
use Rattle.am_provider.specs.declared.answers.Counts.{Counts}
use Rattle.am_answers.specs.Answers.{is_out_of_memory}
use Rattle.json.specs.Json.{object, Members, no_members, member}
use Rattle.am_script.specs.JsonLines.{object_line, decimal_json, worded}
use Rattle.am_answers.specs.Forms.{answers_printed}
use Rattle.am_script.specs.declared.form.Form.{Form}
use Rattle.am_script.specs.declared.form.Form.TheVariants.{Text, Json}
use Rattle.am_answers.specs.declared.answer.Answer.{Answer}
use Rattle.am_script.specs.declared.command.Line.{Line}

-- the answers, or none
abbrev pub answers_in : Option (Vec Answer) → List Answer
answers_in None = []
answers_in (Some given) = given.items

-- what a thread answered to the line of its own at an index
abbrev pub given_at : List (Vec (Vec Answer)) → ℕ → ℕ → List Answer
given_at answers thread index =
    answers_in (option_and_then (λ all. slice_get all.items index) (slice_get answers thread))

-- how many of some lines are a thread's own
abbrev pub own_lines : ℕ → List Line → ℕ
own_lines thread lines = count_by (λ line. line.thread == thread) lines

-- what each line that comes after some others was answered by its thread
abbrev pub lines_text : Form → List (Vec (Vec Answer)) → List Line → List Line → List ℕ
lines_text form answers before [] = []
lines_text form answers before (line ∷ lines) =
    answers_printed form line.number (given_at answers line.thread (own_lines line.thread before))
    ++ lines_text form answers (before ++ line ∷ []) lines

-- the last line: the places of the log, the accepted posts, the stored alerts
abbrev pub counts_text : Counts → List ℕ
counts_text counts =
    codes "end places " ++ (decimal counts.places ++ (codes " posts " ++ (decimal counts.posts
    ++ (codes " stored " ++ decimal counts.stored))))

-- the same as members
abbrev pub counts_members : Counts → Members
counts_members counts = worded (codes "end")
    (member (codes "places") (decimal_json counts.places)
    (member (codes "posts") (decimal_json counts.posts)
    (member (codes "stored") (decimal_json counts.stored) no_members)))

-- the last line in a form
abbrev pub counts_line : Form → Counts → List ℕ
counts_line Text counts = counts_text counts ++ codes "\n"
counts_line Json counts = object_line (object (counts_members counts))

-- what a run prints: the answers in the order of the script's lines, and the last line
abbrev pub transcript_text : Form → List Line → List (Vec (Vec Answer)) → Counts → List ℕ
transcript_text form lines answers counts = lines_text form answers [] lines ++ counts_line form counts

-- whether some call was out of memory
abbrev pub ran_out_of_memory : List (Vec (Vec Answer)) → Bool
ran_out_of_memory answers =
    list_any (λ all. list_any (λ given. list_any is_out_of_memory given.items) all.items) answers
