-- One line served after another.
use Rattle.std.proofs.Common.{◌≡◌, inl, ℕ, ◌+◌, List, [], ◌∷◌, ◌++◌, length, Option, Some, None, IfSome, Result, Ok, Err, OnErr, refl, sym, ap, subst, ◌∙◌, arith, length-append}
use Rattle.std.specs.Io.KnownBytes.{Appends}
use Rattle.std.specs.Io.BufRead.{drop_through}
use Rattle.am_config.specs.declared.config.Config.{Config}
use Rattle.am_script.proofs.Outputs.{appends_more, appends_none}
use Rattle.am_runner.specs.Sessions.{Setting}
use Rattle.am_script.specs.declared.form.Form.{Form}
use Rattle.am_runner.specs.live.Answering.{Answers}
use Rattle.am_runner.specs.live.Standing.{RunView}
use Rattle.am_runner.specs.live.Reading.{BeginsWith, IsNext, no_lines}
use Rattle.am_runner.specs.live.Reading as reading
use Rattle.am_runner.specs.live.Serving.{CompactsIfDue, Serves, nothing, one_more, between, AreRead, IsBeginning, IsServed, IsServedInPart}

-- a list of no length has nothing
pub none_of : {A : Type 0} (xs : List A) → length xs ≡ 0 → xs ≡ []
none_of [] none = refl
none_of (x ∷ xs) none = absurd (omega (arith, none))

-- what holds holds where there is an error
pub on_err_of : {T E P : Type 0} (r : Result T E) → P → OnErr r P
on_err_of (Ok x) holds = tt
on_err_of (Err e) holds = holds

-- what was served before the line of a number
pub record SoFar (config : Config) (setting : Setting) (form : Form) (first : ℕ) (begun : RunView) (input out : Option (List ℕ)) (number : ℕ) (now : RunView) (rest written : Option (List ℕ)) : Type 0 where
  pub lines : List (List ℕ)
  pub printed : List ℕ
  pub serves : Serves config setting form first begun lines printed now
  pub read : AreRead input lines rest
  pub counted : first + length lines ≡ number
  pub written_is : Appends out written printed

none_read : (input : Option (List ℕ)) → AreRead input [] input
none_read None = tt
none_read (Some text) = (text, no_lines, refl)

one_more_read : (input rest new : Option (List ℕ)) (lines : List (List ℕ)) (bytes : List ℕ) → AreRead input lines rest → IsNext rest (Some bytes) new → AreRead input (lines ++ bytes ∷ []) new
one_more_read None rest new lines bytes read next = tt
one_more_read (Some text) rest new lines bytes read next =
    let it : IsNext (Some read.0) (Some bytes) new = subst (λ (o : Option (List ℕ)). IsNext o (Some bytes) new) read.2 next in
    (drop_through 10 read.0, subst (λ (b : List ℕ). BeginsWith text (lines ++ b ∷ []) (drop_through 10 read.0)) (sym it.1) (reading.one_more read.1 it.0), it.2)

begins_of : (input rest : Option (List ℕ)) (lines : List (List ℕ)) → AreRead input lines rest → IfSome input (λ text. (left : List ℕ) × BeginsWith text lines left)
begins_of None rest lines read = tt
begins_of (Some text) rest lines read = (read.0, read.1)

at_end : (input rest new : Option (List ℕ)) (lines : List (List ℕ)) → AreRead input lines rest → IsNext rest None new → AreRead input lines new × IfSome input (λ text. IfSome new (λ left. left ≡ []))
at_end None rest new lines read next = (tt, tt)
at_end (Some text) rest new lines read next =
    let it : IsNext (Some read.0) None new = subst (λ (o : Option (List ℕ)). IsNext o None new) read.2 next in
    let gone : read.0 ≡ [] = it.0 in
    ((read.0, read.1, it.1 ∙ ap (λ (l : List ℕ). Some l) (sym gone)), subst (λ (o : Option (List ℕ)). IfSome o (λ left. left ≡ [])) (sym it.1) refl)

module _ (config : Config) (setting : Setting) (form : Form) (first : ℕ) (begun : RunView) (input out : Option (List ℕ)) where
  pub so_far_none : SoFar config setting form first begun input out first begun input out
  so_far_none = record { lines = []; printed = []; serves = nothing; read = none_read input; counted = omega arith; written_is = appends_none out }

  pub so_far_more : (number : ℕ) (old new : RunView) (rest left written now : Option (List ℕ)) (bytes more : List ℕ) → SoFar config setting form first begun input out number old rest written
      → IsNext rest (Some bytes) left → Answers config setting form number bytes old more new → Appends written now more → SoFar config setting form first begun input out (number + 1) new left now
  so_far_more number old new rest left written now bytes more so next answers added = record {
    lines = so.lines ++ bytes ∷ [];
    printed = so.printed ++ more;
    serves = one_more bytes so.serves (subst (λ (n : ℕ). Answers config setting form n bytes old more new) (sym so.counted) answers);
    read = one_more_read input rest left so.lines bytes so.read next;
    counted = let long = length-append so.lines (bytes ∷ []) in let before = so.counted in omega (arith, long, before);
    written_is = appends_more out written now so.printed more so.written_is added;
  }

  pub so_far_compacted : (number : ℕ) (old new : RunView) (rest written : Option (List ℕ)) → SoFar config setting form first begun input out number old rest written
      → CompactsIfDue config setting old.session new.session × (new ≡ record old { session = new.session }) → SoFar config setting form first begun input out number new rest written
  so_far_compacted number old new rest written so due = record {
    lines = so.lines;
    printed = so.printed;
    serves = subst (λ (run : RunView). Serves config setting form first begun so.lines so.printed run) (sym due.1) (between so.serves due.0);
    read = so.read;
    counted = so.counted;
    written_is = so.written_is;
  }

  pub served : (number : ℕ) (now : RunView) (rest left written : Option (List ℕ)) → SoFar config setting form first begun input out number now rest written
      → IsNext rest None left → IsServed config setting form first begun input left out written now
  served number now rest left written so next =
      let ended = at_end input rest left so.lines so.read next in record {
        lines = so.lines;
        printed = so.printed;
        serves = so.serves;
        read = ended.0;
        all = ended.1;
        written_is = so.written_is;
      }

  pub in_part : (number : ℕ) (now : RunView) (rest written after : Option (List ℕ)) (beginning : List ℕ) → SoFar config setting form first begun input out number now rest written
      → IsBeginning config setting form number now beginning → Appends written after beginning → IsServedInPart config setting form first begun input out after
  in_part number now rest written after beginning so next added = record {
    lines = so.lines;
    printed = so.printed;
    beginning = beginning;
    last = now;
    serves = so.serves;
    read = begins_of input rest so.lines so.read;
    next = subst (λ (n : ℕ). IsBeginning config setting form n now beginning) (sym so.counted) next;
    written_is = appends_more out written after so.printed beginning so.written_is added;
  }

  -- nothing more was written
  pub in_part_so : (number : ℕ) (now : RunView) (rest written : Option (List ℕ)) → SoFar config setting form first begun input out number now rest written → IsServedInPart config setting form first begun input out written
  in_part_so number now rest written so = in_part number now rest written written [] so (inl refl) (appends_none written)
