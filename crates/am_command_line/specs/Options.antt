-- The program's options, as clap is given them and as it finds them.
use Rattle.std.specs.Prelude.{◌≡◌, ◌<◌, ◌∷◌, [], true, false, List, Option, Some, None, codes, length}
use Rattle.std.specs.Prelude.{if◌then◌else◌}
use Rattle.std.specs.Str.{bytes_eq}
use Rattle.std.specs.Borrow.{Bor}
use Rattle.clap.specs.Texts.{items_of}
use Rattle.clap.specs.Walk.{Rule, Text, rule_of, texts}
use Rattle.clap.specs.Simple.{App, app_of, new_app, new_rule, on_top, with_rule}
use Rattle.clap.specs.Built.{IsParsedFrom, IsPlainArg}
use Rattle.clap.specs.Matches.{first_value, found_of, one_text}
use Rattle.clap.specs.Values.{IsUnsignedIn}
use Rattle.clap.specs.declared.builder.action.ArgAction.TheVariants.{Set, SetTrue}
use Rattle.clap.specs.declared.builder.arg.Arg.{Arg}
use Rattle.clap.specs.declared.builder.command.Command.{Command}
use Rattle.clap.specs.declared.builder.value_parser.ValueParser.{ValueParser}
use Rattle.clap.specs.declared.builder.value_parser.ValueParser.TheVariants as value
use Rattle.clap.specs.declared.parser.matches.ArgMatches.{ArgMatches}
use Rattle.clap.specs.declared.parser.matches.Found.{Found}
use Rattle.am_provider.specs.declared.answers.Policy.{Policy}
use Rattle.am_provider.specs.declared.answers.Policy.TheVariants.{Refuse, Cut}
use Rattle.am_cast.specs.declared.limits.TheConstants.{MAX_PLACES}
use Rattle.am_script.specs.declared.form.Form.{Form}
use Rattle.am_script.specs.declared.form.Form.TheVariants as form
use Rattle.am_command_line.specs.declared.arguments.Mode.{Mode}
use Rattle.am_command_line.specs.declared.arguments.Mode.TheVariants.{Ordered, Free, Live, Follow}

-- the name of a mode
abbrev pub mode_name : Mode → Text
mode_name Ordered = codes "ordered"
mode_name Free = codes "free"
mode_name Live = codes "live"
mode_name Follow = codes "follow"

-- the name of a policy
abbrev pub policy_name : Policy → Text
policy_name Refuse = codes "refuse"
policy_name Cut = codes "cut"

-- names that clap is lent
abbrev pub Choices : Type 0
Choices = Bor (List (Bor Text))

-- the names of the modes
abbrev pub AreModes : Choices → Type 0
AreModes names =
    texts names.now ≡ mode_name Ordered ∷ mode_name Free ∷ mode_name Live ∷ mode_name Follow ∷ []

-- the names of the policies
abbrev pub ArePolicies : Choices → Type 0
ArePolicies names = texts names.now ≡ policy_name Refuse ∷ policy_name Cut ∷ []

-- an option `--name VALUE` with its default
abbrev pub option_rule : Text → Text → ValueParser → Rule
option_rule name default parser = record (new_rule name) {
  long = Some name;
  action = Some Set;
  value_names = 1;
  defaults = default ∷ [];
  parser = Some parser;
}

-- a flag `--name`
abbrev pub flag_rule : Text → Rule
flag_rule name = record (new_rule name) { long = Some name; action = Some SetTrue }

-- the options, of arguments that come without the program's name
abbrev pub options_of : Choices → Choices → App
options_of modes policies =
    with_rule (with_rule (with_rule (with_rule (on_top (λ top. record top { no_binary_name = true })
    (new_app (codes "replay")))
    (option_rule (codes "mode") (mode_name Ordered) (value.Names modes)))
    (option_rule (codes "places") (codes "256") (value.Unsigned 1 MAX_PLACES)))
    (option_rule (codes "full") (policy_name Refuse) (value.Names policies)))
    (flag_rule (codes "json"))

-- the program's options: `--mode` ordered, free, live or follow, `--places` 1 to the most, `--full` refuse or
-- cut, and the flag `--json`
pub record AreOptions (options : App) : Type 0 where
  pub modes : Choices
  pub policies : Choices
  pub are_modes : AreModes modes
  pub are_policies : ArePolicies policies
  pub are_options : options ≡ options_of modes policies

-- an option with one value, which has a default and excludes nothing
pub record IsOption (name default : Text) (parser : ValueParser) (option : Arg) : Type 0 where
  pub rule : rule_of option ≡ option_rule name default parser
  pub plain : IsPlainArg option
  pub local : option.global ≡ false
  pub id : option.id.now ≡ name
  pub set : option.action ≡ Some Set
  pub whole : option.val_delim ≡ None
  pub one : option.num_vals ≡ None
  pub always : option.default_vals_ifs.items ≡ []
  pub has_default : 0 < length (items_of option.default_vals)
  pub parser_of : option.value_parser ≡ Some parser
  pub exact : option.ignore_case ≡ false

-- a flag, which excludes nothing
pub record IsFlag (name : Text) (flag : Arg) : Type 0 where
  pub rule : rule_of flag ≡ flag_rule name
  pub plain : IsPlainArg flag
  pub local : flag.global ≡ false
  pub id : flag.id.now ≡ name

-- the form that the value of the flag `--json` says
abbrev pub form_of : Option Text → Form
form_of None = form.Text
form_of (Some given) = if bytes_eq given (codes "true") then form.Json else form.Text

-- the value that was found of an option
abbrev pub IsFoundAs : Found → Text → Text → Type 0
IsFoundAs found name text =
    (first_value found name ≡ Some text) × (one_text found name ≡ Some text)

-- a value that the program takes was found of each option
pub record HasOptions (found : Found) : Type 0 where
  pub mode : (mode : Mode) × IsFoundAs found (codes "mode") (mode_name mode)
  pub places : (text : Text) × IsFoundAs found (codes "places") text × IsUnsignedIn 1 MAX_PLACES text
  pub full : (policy : Policy) × IsFoundAs found (codes "full") (policy_name policy)

-- a command with the program's options
pub record IsCommandLineOf (modes policies : Choices) (command : Command) : Type 0 where
  pub options : app_of command ≡ options_of modes policies
  pub finds : (matches : ArgMatches) → IsParsedFrom command matches → HasOptions (found_of matches)
