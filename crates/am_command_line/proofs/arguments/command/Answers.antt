use Rattle.std.proofs.Common.{rules, ◌∙◌, ◌≡◌, ap, subst, true, codes}
use Rattle.std.proofs.lemmas.Result.{IfOk-weaker}
use Rattle.clap.specs.Simple.{app_of, app_of_fields, new_app, on_top}
use Rattle.clap.specs.declared.builder.value_parser.ValueParser.{ValueParser}
use Rattle.clap.specs.declared.builder.value_parser.ValueParser.TheVariants as value
use Rattle.am_provider.specs.declared.answers.Policy.TheVariants.{Refuse}
use Rattle.am_command_line.specs.declared.arguments.Mode.TheVariants.{Ordered}
use Rattle.am_cast.specs.declared.limits.TheConstants.{MAX_PLACES}
use Rattle.am_command_line.specs.Options.{IsOption, mode_name, policy_name}
use Rattle.am_command_line.proofs.Options.{is_command}
use Rattle.am_command_line.proofs.arguments.command.Goals as goal

pub returns : goal.returns
returns c =
    let made : app_of c.after_help.result ≡ on_top (λ top. record top { no_binary_name = true }) (new_app (codes "replay")) =
    ap app_of_fields c.after_help.ensures ∙ (ap app_of_fields c.about.ensures ∙ (ap app_of_fields c.override_usage.ensures
    ∙ (ap app_of_fields c.no_binary_name.ensures ∙ ap (on_top (λ top. record top { no_binary_name = true })) c.new.ensures.app))) in
    let mode : IsOption (codes "mode") (mode_name Ordered) (value.Names c.args.modes) c.option-mode.result =
    subst (λ (q : ValueParser). IsOption (codes "mode") (mode_name Ordered) q c.option-mode.result) c.into.ensures c.option-mode.ensures in
    let places : IsOption (codes "places") (codes "256") (value.Unsigned 1 MAX_PLACES) c.option-places.result =
    subst (λ (q : ValueParser). IsOption (codes "places") (codes "256") q c.option-places.result) c.unsigned-numbers.ensures c.option-places.ensures in
    let full : IsOption (codes "full") (policy_name Refuse) (value.Names c.args.policies) c.option-full.result =
    subst (λ (q : ValueParser). IsOption (codes "full") (policy_name Refuse) q c.option-full.result) c.into-2.ensures c.option-full.ensures in
    IfOk-weaker c.arg-4.result _ _ (λ four fourth. is_command c.after_help.result _ _ _ four _ _ _ _ c.args.modes c.args.policies made
    (search rules) (search rules) mode places full c.flag-json.ensures c.in_ok-arg.ensures c.in_ok-arg-2.ensures c.in_ok-arg-3.ensures fourth c.requires.modes c.requires.policies) c.arg-4.ensures
