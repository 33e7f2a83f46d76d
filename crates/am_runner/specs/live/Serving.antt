-- One line after another: what lines print, and what they do to a session.
use Rattle.std.specs.Prelude.{◌≡◌, ◌⊎◌, ℕ, ◌+◌, List, [], ◌∷◌, ◌++◌, length, Option, Some, IfSome}
use Rattle.std.specs.Io.KnownBytes.{Appends}
use Rattle.am_config.specs.declared.config.Config.{Config}
use Rattle.am_runner.specs.Compacting.{Compacts}
use Rattle.am_runner.specs.Sessions.{Setting, SessionView}
use Rattle.am_script.specs.declared.form.Form.{Form}
use Rattle.am_runner.specs.live.Answering.{Answers}
use Rattle.am_runner.specs.live.Standing.{RunView}
use Rattle.am_runner.specs.live.Reading.{BeginsWith}

-- what is done between two lines: nothing, or the journal is compacted
pub data CompactsIfDue (config : Config) (setting : Setting) (old : SessionView) : SessionView → Type 0 where
  not_due : CompactsIfDue config setting old old
  compacts : {new : SessionView} → Compacts config setting old new → CompactsIfDue config setting old new

-- what lines print, and what they do to a run: each what it answers, in their order. The first has this
-- number. Between two lines the journal may be compacted, which prints nothing
pub data Serves (config : Config) (setting : Setting) (form : Form) (first : ℕ) (begun : RunView)
    : List (List ℕ) → List ℕ → RunView → Type 0 where
  nothing : Serves config setting form first begun [] [] begun
  one_more : {lines : List (List ℕ)} {printed more : List ℕ} {old new : RunView} (bytes : List ℕ)
      → Serves config setting form first begun lines printed old
      → Answers config setting form (first + length lines) bytes old more new
      → Serves config setting form first begun (lines ++ bytes ∷ []) (printed ++ more) new
  between : {lines : List (List ℕ)} {printed : List ℕ} {old : RunView} {new : SessionView}
      → Serves config setting form first begun lines printed old
      → CompactsIfDue config setting old.session new
      → Serves config setting form first begun lines printed (record old { session = new })

-- lines were read of an input, if its bytes are known
abbrev pub AreRead : Option (List ℕ) → List (List ℕ) → Option (List ℕ) → Type 0
AreRead old lines new =
    IfSome old (λ text. (rest : List ℕ) × BeginsWith text lines rest × (new ≡ Some rest))

-- the whole input was served: each line of it, and all that they print was written
pub record IsServed (config : Config) (setting : Setting) (form : Form) (first : ℕ) (begun : RunView)
    (input rest out written : Option (List ℕ)) (end : RunView) : Type 0 where
  pub lines : List (List ℕ)
  pub printed : List ℕ
  pub serves : Serves config setting form first begun lines printed end
  pub read : AreRead input lines rest
  pub all : IfSome input (λ text. IfSome rest (λ left. left ≡ []))
  pub written_is : Appends out written printed

-- a beginning of what the line after these prints was written, or nothing of it
abbrev pub IsBeginning : Config → Setting → Form → ℕ → RunView → List ℕ → Type 0
IsBeginning config setting form number old written = (written ≡ []) ⊎ ((bytes rest : List ℕ)
    × (new : RunView) × Answers config setting form number bytes old (written ++ rest) new)

-- the serving failed after some lines: all that they print was written, and a beginning of what the next one
-- prints
pub record IsServedInPart (config : Config) (setting : Setting) (form : Form) (first : ℕ)
    (begun : RunView) (input out written : Option (List ℕ)) : Type 0 where
  pub lines : List (List ℕ)
  pub printed : List ℕ
  pub beginning : List ℕ
  pub last : RunView
  pub serves : Serves config setting form first begun lines printed last
  pub read : IfSome input (λ text. (rest : List ℕ) × BeginsWith text lines rest)
  pub next : IsBeginning config setting form (first + length lines) last beginning
  pub written_is : Appends out written (printed ++ beginning)
