-- Reading the lines of a script one after another and part by part, and following their subscriptions.
use Rattle.std.proofs.Common.{◌≡◌, ℕ, suc, ◌+◌, ◌<◌, ◌≤◌, false, List, [], ◌∷◌, ◌++◌, length, drop, get_or, Bor, add-one, Option, Some, None, Result, Ok, Err, is_err, IsOk, IsErr, refl, ap, sym, subst, ◌∙◌, append_assoc, arith}
use Rattle.std.specs.Result.{result_and}
use Rattle.std.proofs.Math.Logic.{⊎_elim}
use Rattle.std.proofs.Math.Seq.{drop-cons}
use Rattle.std.proofs.lemmas.List.{append-nil}
use Rattle.am_posts.specs.declared.body.Body.{Body}
use Rattle.serde_json.specs.Data.{Data}
use Rattle.am_script.specs.Commands.{command_for, line_of, posted_body, thread_of, verb_at}
use Rattle.am_script.specs.Members.{◌>>=◌}
use Rattle.am_script.specs.Script.{Checks, IsRefused, Misfits, lines_of}
use Rattle.am_script.specs.Script as script
use Rattle.am_script.specs.declared.command.Command.{Command}
use Rattle.am_script.specs.declared.command.Line.{Line}
use Rattle.am_script.specs.declared.command.Verb.{Verb}
use Rattle.am_script.specs.declared.limits.TheConstants.{MOST_LINES}
use Rattle.am_script.specs.declared.script.Fault.{Fault}
use Rattle.am_script.specs.declared.script.Fault.TheVariants.{BadLine, BadName, TooLarge}
use Rattle.am_script.specs.declared.script.Refusal.{Refusal}
use Rattle.am_script.specs.declared.script.ScriptFault.{ScriptFault}
use Rattle.am_script.specs.declared.script.ScriptFault.TheVariants.{Refused, NoMemory}
use Rattle.am_script.specs.inside.Following.{FollowsEach, FollowsLine}
use Rattle.am_script.specs.inside.Following as following
use Rattle.am_script.specs.inside.Parts.{AddsLine, AreFirstLines, HasFault, ReadsLine, ReadsLines, bytes_of_lines, ended, out_of_memory, faulty, skipped, command}

abbrev End : Type 0
End = Result (Unit {0}) ScriptFault

-- the item at an index, and those after it
pub next_item : {X : Type 0} (items : List X) (i : ℕ) (x : X) → i < length items → x ≡ get_or items i x → drop i items ≡ x ∷ drop (i + 1) items
next_item {X} items i x within is = rw add-one (drop-cons items i x within ∙ ap (λ (y : X). y ∷ drop (suc i) items) (sym is))

next_bytes : (lines : List (Bor (List ℕ))) (i : ℕ) (d : Bor (List ℕ)) → i < length lines → bytes_of_lines (drop i lines) ≡ (get_or lines i d).now ∷ bytes_of_lines (drop (i + 1) lines)
next_bytes lines i d within = rw add-one (ap bytes_of_lines (drop-cons lines i d within))

-- lines that are read one after another
module _ (first : ℕ) (all : List (List ℕ)) where
  -- what reading the lines from here on answers, reading all lines answers behind these commands
  abbrev pub GoesOn : ℕ → List (List ℕ) → List Line → Type 0
  GoesOn number rest lines = (more : List Line) (end : End) → ReadsLines number rest more end → ReadsLines first all (lines ++ more) end

  added : (number : ℕ) (bytes : List ℕ) (rest : List (List ℕ)) (old new : List Line) → GoesOn number (bytes ∷ rest) old → AddsLine number bytes old new (Ok tt) → GoesOn (number + 1) rest new
  added number bytes rest old new so_far adds = λ more end reads.
      ⊎_elim
      (λ blank. subst (λ (ls : List Line). ReadsLines first all (ls ++ more) end) (sym blank.0) (so_far more end (skipped blank.1 reads)))
      (λ one.
      subst (λ (ls : List Line). ReadsLines first all ls end)
      (sym (ap (λ (ls : List Line). ls ++ more) one.1 ∙ append_assoc old (one.0 ∷ []) more))
      (so_far (one.0 ∷ more) end (command one.2 reads)))
      adds

  -- the line at an index
  module _ (number : ℕ) (lines : List (Bor (List ℕ))) (i : ℕ) (within : i < length lines) (d : Bor (List ℕ)) (old new : List Line) (so_far : GoesOn number (bytes_of_lines (drop i lines)) old) where
    here : GoesOn number ((get_or lines i d).now ∷ bytes_of_lines (drop (i + 1) lines)) old
    here = subst (λ (ls : List (List ℕ)). GoesOn number ls old) (next_bytes lines i d within) so_far

    pub line_added : AddsLine number (get_or lines i d).now old new (Ok tt) → GoesOn (number + 1) (bytes_of_lines (drop (i + 1) lines)) new
    line_added adds = added number (get_or lines i d).now (bytes_of_lines (drop (i + 1) lines)) old new here adds

    pub line_faulty : (fault : ScriptFault) → AddsLine number (get_or lines i d).now old new (Err fault) → ReadsLines first all new (Err fault)
    line_faulty fault stops = subst (λ (ls : List Line). ReadsLines first all ls (Err fault)) (append-nil old ∙ sym stops.0) (here [] (Err fault) (faulty stops.1))

  pub all_read : (number : ℕ) (lines : List Line) → GoesOn number [] lines → ReadsLines first all lines (Ok tt)
  all_read number lines so_far = subst (λ (ls : List Line). ReadsLines first all ls (Ok tt)) (append-nil lines) (so_far [] (Ok tt) ended)

-- two parts, one after the other
pub joined : {number : ℕ} {front : List (List ℕ)} {lines : List Line} {end : End} → ReadsLines number front lines end → IsOk end
    → (back : List (List ℕ)) (more : List Line) (after : End) → ReadsLines (number + length front) back more after → ReadsLines number (front ++ back) (lines ++ more) after
joined {number = n} ended ok back more after reads = let same : n + 0 ≡ n = omega arith in subst (λ (m : ℕ). ReadsLines m back more after) same reads
joined out_of_memory ok back more after reads = absurd (cc)
joined (faulty wrong) ok back more after reads = absurd (cc)
joined {number = n} (skipped {bytes = bytes} {rest = rest} blank reads) ok back more after later =
    let same : n + length (bytes ∷ rest) ≡ n + 1 + length rest = omega arith in
    skipped blank (joined reads ok back more after (subst (λ (m : ℕ). ReadsLines m back more after) same later))
joined {number = n} (command {bytes = bytes} {rest = rest} one reads) ok back more after later =
    let same : n + length (bytes ∷ rest) ≡ n + 1 + length rest = omega arith in
    command one (joined reads ok back more after (subst (λ (m : ℕ). ReadsLines m back more after) same later))

pub stopped : {number : ℕ} {front : List (List ℕ)} {lines : List Line} {end : End} → ReadsLines number front lines end → IsErr end
    → (back : List (List ℕ)) → ReadsLines number (front ++ back) lines end
stopped ended err back = absurd (cc)
stopped out_of_memory err back = out_of_memory
stopped (faulty wrong) err back = faulty wrong
stopped (skipped blank reads) err back = skipped blank (stopped reads err back)
stopped (command one reads) err back = command one (stopped reads err back)

pub without_fault : (end : End) → is_err end ≡ false → IsOk end
without_fault (Ok v) none = refl
without_fault (Err fault) none = absurd (cc)

pub cut_short : (number : ℕ) (front : List (List ℕ)) (lines : List Line) (end : End) → ReadsLines number front lines end → IsOk end → (back : List (List ℕ)) → ReadsLines number (front ++ back) lines (Err NoMemory)
cut_short number front lines end reads ok back = subst (λ (ls : List Line). ReadsLines number (front ++ back) ls (Err NoMemory)) (append-nil lines) (joined reads ok back [] (Err NoMemory) out_of_memory)

-- the first lines of a text answer what all its lines answer
within : {number : ℕ} {bytes : List (List ℕ)} {lines : List Line} {end : End} → ReadsLines number bytes lines end → IsOk end → 0 < length bytes → number + length bytes ≤ MOST_LINES + 1
within ended ok some = absurd (omega arith)
within out_of_memory ok some = absurd (cc)
within (faulty wrong) ok some = absurd (cc)
within (skipped {rest = []} blank reads) ok some = omega (arith, blank.0.0)
within (skipped {rest = next ∷ rest} blank reads) ok some = omega (arith, within reads ok (omega arith))
within (command {rest = []} one reads) ok some = omega (arith, one.0.0.0)
within (command {rest = next ∷ rest} one reads) ok some = omega (arith, within reads ok (omega arith))

too_many : {bytes : List (List ℕ)} {lines : List Line} (end : End) → ReadsLines 1 bytes lines end → MOST_LINES < length bytes → IsErr end
too_many (Ok v) reads many = absurd (omega (arith, within reads refl (omega arith)))
too_many (Err fault) reads many = refl

pub text_read : (text : List ℕ) (bytes : List (List ℕ)) (lines : List Line) (end : End) → AreFirstLines text bytes → ReadsLines 1 bytes lines end → ReadsLines 1 (lines_of text) lines end
text_read text bytes lines end cut reads =
    subst (λ (all : List (List ℕ)). ReadsLines 1 all lines end) (sym cut.first)
    (⊎_elim
    (λ none. subst (λ (all : List (List ℕ)). ReadsLines 1 all lines end) (sym (ap (λ (rest : List (List ℕ)). bytes ++ rest) none ∙ append-nil bytes)) reads)
    (λ many. stopped reads (too_many end reads many) cut.rest)
    cut.all_or_too_many)

-- a line has its number
number_from : (thread : Option ℕ) (verb : Option Verb) (given : Verb → Option Command) (number : ℕ) (line : Line)
    → (thread >>= (λ t. verb >>= (λ v. given v >>= (λ c. Some (record { number = number; thread = t; command = c }))))) ≡ Some line → line.number ≡ number
number_from None verb given number line is = absurd (cc)
number_from (Some t) None given number line is = absurd (cc)
number_from (Some t) (Some v) given number line is = last (given v) is
  where
    last : (c : Option Command) → (c >>= (λ c. Some (record { number = number; thread = t; command = c }))) ≡ Some line → line.number ≡ number
    last None is = absurd (cc)
    last (Some c) is = let same : record { number = number; thread = t; command = c } ≡ line = cc in ap (λ (l : Line). l.number) (sym same)

has_number : (number : ℕ) (body : Body) (d : Data) (line : Line) → line_of number body d ≡ Some line → line.number ≡ number
unfolding line_of
has_number number body d line is = number_from (thread_of d) (verb_at d) (λ word. command_for body d word) number line is

-- what both answer together
abbrev Answers : ℕ → List Line → List (List ℕ) → List Line → End → End → Type 0
Answers number earlier bytes lines end (Err (Refused refusal)) = Checks number earlier bytes (Err refusal)
Answers number earlier bytes lines end (Err NoMemory) = Unit {0}
Answers number earlier bytes lines (Err (Refused refusal)) (Ok v) = Checks number earlier bytes (Err refusal)
Answers number earlier bytes lines (Err NoMemory) (Ok v) = Unit {0}
Answers number earlier bytes lines (Ok w) (Ok v) = Checks number earlier bytes (Ok lines)

module _ (number : ℕ) (earlier later : List Line) (bytes : List ℕ) (rest : List (List ℕ))
    (step : (result : Result (List Line) Refusal) → Checks (number + 1) later rest result → Checks number earlier (bytes ∷ rest) result) where
  stepped : (lines : List Line) (end followed : End) → Answers (number + 1) later rest lines end followed → Answers number earlier (bytes ∷ rest) lines end followed
  stepped lines end (Err (Refused refusal)) answers = step (Err refusal) answers
  stepped lines end (Err NoMemory) answers = tt
  stepped lines (Err (Refused refusal)) (Ok v) answers = step (Err refusal) answers
  stepped lines (Err NoMemory) (Ok v) answers = tt
  stepped lines (Ok w) (Ok v) answers = step (Ok lines) answers

own_fault : (number : ℕ) (earlier : List Line) (bytes : List ℕ) (rest : List (List ℕ)) (fault : Fault) → HasFault number bytes fault
    → Checks number earlier (bytes ∷ rest) (Err (record { number = number; fault = fault }))
own_fault number earlier bytes rest TooLarge wrong = script.too_large wrong
own_fault number earlier bytes rest BadLine wrong = script.bad_line wrong.0.0 wrong.0.1 wrong.0.2 wrong.1
own_fault number earlier bytes rest BadName wrong = absurd wrong

at_fault : (number : ℕ) (earlier lines : List Line) (bytes : List ℕ) (rest : List (List ℕ)) (fault : ScriptFault) → ReadsLine number bytes (Err fault)
    → Answers number earlier (bytes ∷ rest) lines (Err fault) (Ok tt)
at_fault number earlier lines bytes rest (Refused refusal) wrong =
    subst (λ (n : ℕ). Checks number earlier (bytes ∷ rest) (Err (record { number = n; fault = refusal.fault }))) (sym wrong.0) (own_fault number earlier bytes rest refusal.fault wrong.1)
at_fault number earlier lines bytes rest NoMemory wrong = tt

at_misfit : (number : ℕ) (earlier lines : List Line) (bytes : List ℕ) (rest : List (List ℕ)) (line : Line) (end : End) (fault : ScriptFault)
    → ReadsLine number bytes (Ok (Some line)) → FollowsLine earlier line (Err fault) → Answers number earlier (bytes ∷ rest) lines end (Err fault)
at_misfit number earlier lines bytes rest line end (Refused refusal) reads wrong =
    let same = wrong.0 ∙ has_number number (posted_body line.command) _ line reads.1.1.2.1 in
    subst (λ (n : ℕ). Checks number earlier (bytes ∷ rest) (Err (record { number = n; fault = refusal.fault }))) (sym same)
    (script.misfits reads.0.0 reads.0.1 reads.0.2 reads.1 wrong.1)
at_misfit number earlier lines bytes rest line end NoMemory reads wrong = tt

answers : {number : ℕ} {bytes : List (List ℕ)} {lines : List Line} {end : End} → ReadsLines number bytes lines end
    → (earlier : List Line) (followed : End) → FollowsEach earlier lines followed → Answers number earlier bytes (earlier ++ lines) end followed
answers {number = n} ended earlier followed following.ended = subst (λ (ls : List Line). Checks n earlier [] (Ok ls)) (sym (append-nil earlier)) script.ended
answers out_of_memory earlier followed following.ended = tt
answers {number = n} (faulty {bytes = bytes} {rest = rest} {fault = fault} wrong) earlier followed following.ended = at_fault n earlier (earlier ++ []) bytes rest fault wrong
answers {number = n} {lines = lines} {end = end} (skipped {bytes = bytes} {rest = rest} blank reads) earlier followed follows =
    stepped n earlier earlier bytes rest (λ result checks. script.skipped blank.0 blank.1 checks) (earlier ++ lines) end followed (answers reads earlier followed follows)
answers {number = n} {end = end} (command {bytes = bytes} {rest = rest} {line = line} {lines = lines} one reads) earlier followed (following.misfits {fault = fault} wrong) =
    at_misfit n earlier (earlier ++ line ∷ lines) bytes rest line end fault one wrong
answers {number = n} {end = end} (command {bytes = bytes} {rest = rest} {line = line} {lines = lines} one reads) earlier followed (following.fits fit follows) =
    stepped n earlier (earlier ++ line ∷ []) bytes rest (λ result checks. script.command one.0.0 one.0.1 one.0.2 one.1 fit.0 fit.1 checks) (earlier ++ line ∷ lines) end followed
    (subst (λ (ls : List Line). Answers (n + 1) (earlier ++ line ∷ []) rest ls end followed) (append_assoc earlier (line ∷ []) lines) (answers reads (earlier ++ line ∷ []) followed follows))

-- the answer for a text: the first fault of both, or all commands
refused_as : (text : List ℕ) (lines : List Line) (end followed : End) (fault : ScriptFault) → Answers 1 [] (lines_of text) lines end followed → result_and followed end ≡ Err fault → IsRefused text fault
refused_as text lines end followed NoMemory answer is = tt
refused_as text lines end (Err (Refused first)) (Refused refusal) answer is = let same : first ≡ refusal = cc in subst (λ (r : Refusal). Checks 1 [] (lines_of text) (Err r)) same answer
refused_as text lines end (Err NoMemory) (Refused refusal) answer is = absurd (cc)
refused_as text lines (Err (Refused first)) (Ok v) (Refused refusal) answer is = let same : first ≡ refusal = cc in subst (λ (r : Refusal). Checks 1 [] (lines_of text) (Err r)) same answer
refused_as text lines (Err NoMemory) (Ok v) (Refused refusal) answer is = absurd (cc)
refused_as text lines (Ok w) (Ok v) (Refused refusal) answer is = absurd (cc)

read_as : (text : List ℕ) (lines : List Line) (end followed : End) → Answers 1 [] (lines_of text) lines end followed → result_and followed end ≡ Ok tt → Checks 1 [] (lines_of text) (Ok lines)
read_as text lines end (Err fault) answer is = absurd (cc)
read_as text lines (Err fault) (Ok v) answer is = absurd (cc)
read_as text lines (Ok w) (Ok v) answer is = answer

module _ (text : List ℕ) (lines : List Line) (end followed : End) (reads : ReadsLines 1 (lines_of text) lines end) (follows : FollowsEach [] lines followed) where
  pub text_refused : (fault : ScriptFault) → result_and followed end ≡ Err fault → IsRefused text fault
  text_refused fault is = refused_as text lines end followed fault (answers reads [] followed follows) is

  pub text_fits : result_and followed end ≡ Ok tt → Checks 1 [] (lines_of text) (Ok lines)
  text_fits is = read_as text lines end followed (answers reads [] followed follows) is
