-- The arguments of the command line, over clap's account of those that are given.
use Rattle.std.specs.Prelude.{◌≡◌, ◌≢◌, ◌≤◌, ⊤, ℕ, List, [], Option, Some, codes}
use Rattle.std.specs.Str.Parse.{digits_value, without_leading_plus}
use Rattle.clap.specs.Walk.{Text, first_of}
use Rattle.clap.specs.Simple.{App, matches_of}
use Rattle.clap.specs.Faults.{fault_of}
use Rattle.clap.specs.Matches.{first_value}
use Rattle.clap.specs.declared.parser.matches.Found.{Found}
use Rattle.am_cast.specs.declared.limits.TheConstants.{MAX_PLACES}
use Rattle.am_command_line.specs.declared.arguments.Mode.{Mode}
use Rattle.am_command_line.specs.declared.arguments.Mode.TheVariants.{Ordered, Free, Live, Follow}
use Rattle.am_command_line.specs.Options.{AreOptions, form_of, mode_name, policy_name}
use Rattle.am_command_line.specs.declared.arguments.Arguments.{Arguments}
use Rattle.am_command_line.specs.declared.arguments.ArgumentsFault.{ArgumentsFault}
use Rattle.am_command_line.specs.declared.arguments.ArgumentsFault.TheVariants.{Refused, NoMemory}

-- the value of an option: the one that it is given, else its default
abbrev pub option_value : App → List Text → Text → Option Text
option_value options given name = first_of name (matches_of options given)

-- a decimal number, which may begin with a plus sign
abbrev pub number_of : Text → ℕ
number_of text = digits_value 10 (without_leading_plus text)

-- how many batches a log holds in a mode, at most: fewer of a script, which is run as a whole
abbrev pub most_places : Mode → ℕ
most_places Ordered = 256
most_places Free = 256
most_places Live = MAX_PLACES
most_places Follow = MAX_PLACES

-- a log of their mode may hold as many batches as they ask for
abbrev pub FitTheMode : Arguments → Type 0
FitTheMode arguments = arguments.places ≤ most_places arguments.mode

-- clap finds no fault with what is given, and the options have these values
pub record AreAccepted (given : List Text) (arguments : Arguments) : Type 0 where
  pub options : App
  pub are_options : AreOptions options
  pub accepted : fault_of options given ≡ []
  pub mode : option_value options given (codes "mode") ≡ Some (mode_name arguments.mode)
  pub places : (text : Text) × (option_value options given (codes "places") ≡ Some text)
      × (number_of text ≡ arguments.places)
  pub full : option_value options given (codes "full") ≡ Some (policy_name arguments.full)
  pub form : arguments.form ≡ form_of (option_value options given (codes "json"))

-- the arguments that are given: clap finds no fault with them, and they fit the mode
abbrev pub AreArgumentsOf : List Text → Arguments → Type 0
AreArgumentsOf given arguments = AreAccepted given arguments × FitTheMode arguments

-- clap finds a fault with what is given, or is asked for help; or it asks for more places than logs have in
-- its mode
pub data AreRefused (given : List Text) : Type 0 where
  by_clap : (options : App) → AreOptions options → fault_of options given ≢ [] → AreRefused given
  by_mode : (arguments : Arguments) → AreAccepted given arguments → (FitTheMode arguments → ⊥)
      → AreRefused given

-- only what is so refused is refused
abbrev pub IsFaultOf : List Text → ArgumentsFault → Type 0
IsFaultOf given (Refused text) = AreRefused given
IsFaultOf given NoMemory = ⊤

-- a refusal of arguments that don't fit their mode
abbrev pub IsMisfit : Arguments → ArgumentsFault → Type 0
IsMisfit arguments (Refused text) = FitTheMode arguments → ⊥
IsMisfit arguments NoMemory = ⊤

-- the arguments are what clap found
pub record AreFound (found : Found) (arguments : Arguments) : Type 0 where
  pub mode : first_value found (codes "mode") ≡ Some (mode_name arguments.mode)
  pub places : (text : Text) × (first_value found (codes "places") ≡ Some text)
      × (number_of text ≡ arguments.places)
  pub full : first_value found (codes "full") ≡ Some (policy_name arguments.full)
  pub form : arguments.form ≡ form_of (first_value found (codes "json"))
