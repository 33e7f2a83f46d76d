-- The forms in which answers are printed.
use Rattle.std.specs.Prelude.{ℕ, List}
use Rattle.am_answers.specs.Printing.{answers_text}
use Rattle.am_answers.specs.PrintingJson.{objects_text}
use Rattle.am_answers.specs.declared.answer.Answer.{Answer}
use Rattle.am_script.specs.declared.form.Form.{Form}
use Rattle.am_script.specs.declared.form.Form.TheVariants.{Text, Json}

-- what is printed of the answers to the line of input with this number
abbrev pub answers_printed : Form → ℕ → List Answer → List ℕ
answers_printed Text line given = answers_text line given
answers_printed Json line given = objects_text line given
