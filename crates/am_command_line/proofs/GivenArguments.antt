-- What clap's account of the arguments comes to.
use Rattle.std.proofs.Common.{◌≡◌, ◌∙◌, ap, true, List, [], refl, subst, sym, inl, inr}
use Rattle.clap.specs.Walk.{Text, first_of, rows_of}
use Rattle.clap.specs.Simple.{app_of, is_simple, matches_of}
use Rattle.clap.specs.Faults.{fault_of, is_simple_and_free}
use Rattle.clap.specs.Kinds.{HasKind, IsAmong, Kinds}
use Rattle.clap.specs.Values.{kind_of}
use Rattle.clap.specs.Matches.{first_value, found_of}
use Rattle.clap.specs.declared.builder.command.Command.{Command}
use Rattle.clap.specs.declared.error.Error.{Error}
use Rattle.clap.specs.declared.parser.matches.ArgMatches.{ArgMatches}
use Rattle.clap.proofs.OnLiterals.{clap_on_literals}
use Rattle.clap.proofs.WalkLemmas.{first_value-rows}
use Rattle.am_command_line.specs.Options.{AreModes, ArePolicies, AreOptions, IsCommandLineOf, Choices, form_of, options_of}
use Rattle.am_command_line.specs.Arguments.{AreAccepted, AreArgumentsOf, AreFound, FitTheMode, IsFaultOf, IsMisfit, by_clap, by_mode}
use Rattle.am_command_line.specs.ArgumentsFaults.{IsTold}
use Rattle.am_command_line.specs.declared.arguments.Arguments.{Arguments}
use Rattle.am_command_line.specs.declared.arguments.ArgumentsFault.{ArgumentsFault}
use Rattle.am_command_line.specs.declared.arguments.ArgumentsFault.TheVariants.{Refused, NoMemory}

module _ (modes policies : Choices) (are_modes : AreModes modes) (are_policies : ArePolicies policies)
    (command : Command) (is_command : IsCommandLineOf modes policies command) where
  simple : is_simple (options_of modes policies) ≡ true
  unfolding clap_on_literals
  simple = refl

  free : is_simple_and_free (options_of modes policies) ≡ true
  unfolding clap_on_literals
  free = refl

  -- clap says which matches such a command gives
  pub is_simple_command : is_simple (app_of command) ≡ true
  is_simple_command = ap is_simple is_command.options ∙ simple

  -- and by which fault it refuses given
  pub is_free_command : is_simple_and_free (app_of command) ≡ true
  is_free_command = ap is_simple_and_free is_command.options ∙ free

  are_options : AreOptions (app_of command)
  are_options = record {
    modes = modes;
    policies = policies;
    are_modes = are_modes;
    are_policies = are_policies;
    are_options = is_command.options;
  }

  pub given_read : (given : List Text) (matches : ArgMatches) (arguments : Arguments) → rows_of (found_of matches) ≡ matches_of (app_of command) given
      → fault_of (app_of command) given ≡ [] → AreFound (found_of matches) arguments → AreAccepted given arguments
  given_read given matches arguments rows accepted found =
      let value : (name : Text) → first_of name (matches_of (app_of command) given) ≡ first_value (found_of matches) name =
      λ name. ap (first_of name) (sym rows) ∙ sym (first_value-rows (found_of matches) name) in
      record {
        options = app_of command;
        are_options = are_options;
        accepted = accepted;
        mode = value _ ∙ found.mode;
        places = (found.places.0, value _ ∙ found.places.1, found.places.2);
        full = value _ ∙ found.full;
        form = found.form ∙ ap form_of (sym (value _));
      }

  pub given_refused : (given : List Text) (error : Error) (fault : ArgumentsFault) → HasKind (fault_of (app_of command) given) error
      → IsTold error fault → IsFaultOf given fault
  given_refused given error NoMemory kind told = tt
  given_refused given error (Refused text) (inl memory) told = absurd (told memory)
  given_refused given error (Refused text) (inr among) told =
      by_clap (app_of command) are_options (λ none. subst (λ (kinds : Kinds). IsAmong (kind_of error) kinds) none among)

-- arguments that clap accepted, and that fit their mode
pub fit_given : (given : List Text) (arguments same : Arguments) → AreAccepted given arguments → (same ≡ arguments) × FitTheMode arguments → AreArgumentsOf given same
fit_given given arguments same accepted fit = subst (AreArgumentsOf given) (sym fit.0) (accepted, fit.1)

-- and such that don't
pub misfit_given : (given : List Text) (arguments : Arguments) (fault : ArgumentsFault) → AreAccepted given arguments → IsMisfit arguments fault → IsFaultOf given fault
misfit_given given arguments (Refused text) accepted misfit = by_mode arguments accepted misfit
misfit_given given arguments NoMemory accepted misfit = tt
