-- Facts about the words of specs/inside/PartTexts.antt.
use Rattle.std.proofs.Common.{◌≡◌, ℕ, suc, ◌+◌, ◌≤◌, ◌<◌, List, [], ◌∷◌, ◌++◌, drop, get_or, length, take, ap, sym, ◌∙◌, arith}
use Rattle.std.specs.Global.{Vec}
use Rattle.std.proofs.Math.Seq.{drop-cons, take-suc}
use Rattle.std.proofs.lemmas.List.{append-nil, append_assoc}
use Rattle.am_answers.specs.Forms.{answers_printed}
use Rattle.am_answers.specs.declared.answer.Answer.{Answer}
use Rattle.am_script.specs.declared.command.Line.{Line}
use Rattle.am_script.specs.declared.form.Form.{Form}
use Rattle.am_replay.specs.Printing.{given_at, lines_text, own_lines}
use Rattle.am_replay.specs.declared.line_counts.LineCounts.{LineCounts}
use Rattle.am_replay.specs.inside.PartTexts.{CanCount, CountsOwn, PrintsLines}

-- where some lines more can be counted, fewer can
pub fewer : (more less : ℕ) (counted : LineCounts) → less ≤ more → CanCount more counted → CanCount less counted
fewer more less counted small can thread one = let room = can thread one in omega (arith, small, room)

-- one line more is taken
pub one_taken : (before lines : List Line) (at : ℕ) (line : Line) → at < length lines → line ≡ get_or lines at line
    → before ++ take (at + 1) lines ≡ (before ++ take at lines) ++ line ∷ []
one_taken before lines at line short is =
    let next : at + 1 ≡ suc at = omega arith in
    ap (λ n. before ++ take n lines) next
    ∙ ap (λ front. before ++ front) (take-suc lines at line short ∙ ap (λ one. take at lines ++ one ∷ []) (sym is))
    ∙ sym (append_assoc before (take at lines) (line ∷ []))

-- the text of the lines from one on begins with what that one was answered
first_written : (form : Form) (answers : List (Vec (Vec Answer))) (before lines : List Line) (at : ℕ) (line : Line) → at < length lines → line ≡ get_or lines at line
    → lines_text form answers (before ++ take at lines) (drop at lines)
    ≡ answers_printed form line.number (given_at answers line.thread (own_lines line.thread (before ++ take at lines))) ++ lines_text form answers (before ++ take (at + 1) lines) (drop (at + 1) lines)
first_written form answers before lines at line short is =
    let next : suc at ≡ at + 1 = omega arith in
    ap (lines_text form answers (before ++ take at lines)) (drop-cons lines at line short ∙ ap (λ one. one ∷ drop (suc at) lines) (sym is) ∙ ap (λ n. line ∷ drop n lines) next)
    ∙ ap (λ all. answers_printed form line.number (given_at answers line.thread (own_lines line.thread (before ++ take at lines))) ++ lines_text form answers all (drop (at + 1) lines)) (sym (one_taken before lines at line short is))

-- what is written with one line more, and what is left then, are what was written and left before it
pub one_more_written : (form : Form) (answers : List (Vec (Vec Answer))) (before lines : List Line) (at own : ℕ) (line : Line) (old new : List ℕ) (given : List Answer) → at < length lines
    → line ≡ get_or lines at line → given ≡ given_at answers line.thread own → own ≡ own_lines line.thread (before ++ take at lines)
    → new ≡ old ++ answers_printed form line.number given
    → new ++ lines_text form answers (before ++ take (at + 1) lines) (drop (at + 1) lines) ≡ old ++ lines_text form answers (before ++ take at lines) (drop at lines)
one_more_written form answers before lines at own line old new given short is is_given counted printed =
    let rest = lines_text form answers (before ++ take (at + 1) lines) (drop (at + 1) lines) in
    ap (λ text. text ++ rest) (printed ∙ ap (λ g. old ++ answers_printed form line.number g) (is_given ∙ ap (given_at answers line.thread) counted))
    ∙ append_assoc old _ rest
    ∙ ap (λ text. old ++ text) (sym (first_written form answers before lines at line short is))

-- the text of lines is that of the first of them, and then that of the others
both_written : (form : Form) (answers : List (Vec (Vec Answer))) (before front back : List Line)
    → lines_text form answers before (front ++ back) ≡ lines_text form answers before front ++ lines_text form answers (before ++ front) back
both_written form answers before [] back = ap (λ all. lines_text form answers all back) (sym (append-nil before))
both_written form answers before (line ∷ front) back =
    let own = answers_printed form line.number (given_at answers line.thread (own_lines line.thread before)) in
    ap (λ text. own ++ text) (both_written form answers (before ++ line ∷ []) front back)
    ∙ sym (append_assoc own (lines_text form answers (before ++ line ∷ []) front) (lines_text form answers ((before ++ line ∷ []) ++ front) back))
    ∙ ap (λ all. (own ++ lines_text form answers (before ++ line ∷ []) front) ++ lines_text form answers all back) (append_assoc before (line ∷ []) front)

-- the texts of two halves, one after the other, are the text of the whole
pub halves_printed : (form : Form) (answers : List (Vec (Vec Answer))) (lines front back : List Line) (counted middle : LineCounts) {one other text : List ℕ} → lines ≡ front ++ back
    → PrintsLines form answers counted front one → ((before : List Line) → CountsOwn before counted → CountsOwn (before ++ front) middle) → PrintsLines form answers middle back other
    → text ≡ one ++ other → PrintsLines form answers counted lines text
halves_printed form answers lines front back counted middle {one} {other} {text} whole begins after ends both before so_far =
    both ∙ ap (λ xs. xs ++ other) (begins before so_far) ∙ ap (λ ys. lines_text form answers before front ++ ys) (ends (before ++ front) (after before so_far))
    ∙ sym (both_written form answers before front back) ∙ ap (lines_text form answers before) (sym whole)
