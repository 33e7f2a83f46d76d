-- That threads may share a configuration: what it is made of says the same to every thread, its compiled
-- patterns included. The checker finds this of each part, and not of the whole at once.
use denote.Param.Send.{IsSync, sendable}
use Rattle.std.proofs.Crossing.{crosses}
use Rattle.std.proofs.option.Option.TheSendSync as option
use Rattle.std.proofs.string.String.TheSendSync as string
use Rattle.std.proofs.time.Duration.TheSendSync as duration
use Rattle.regex_class.proofs.Class.TheSendSync as class
use Rattle.regex_hir.proofs.hir.Hir.TheLaws.TheKnot as syntax_tree
use Rattle.regex_hir.proofs.look.Look.TheSendSync as look
use Rattle.regex_hir.specs.contracts.hir.Hir as hir
use Rattle.regex_dfa.proofs.dfa.Dfa.TheSendSync as dfa
use Rattle.regex_extract.proofs.frames.Frame.TheSendSync as frame
use Rattle.regex_literal.proofs.byte_set.ByteSet.TheSendSync as byte_set
use Rattle.regex_literal.proofs.caseless.Caseless.TheSendSync as caseless
use Rattle.regex_literal.proofs.ladder.Ladder.TheSendSync as ladder
use Rattle.regex_literal.proofs.prefilter.Prefilter.TheSendSync as prefilter
use Rattle.regex_meta.proofs.plan.Role.TheSendSync as role
use Rattle.regex_meta.specs.contracts.plan.Plan as plan
use Rattle.regex_meta.specs.contracts.plan.Plans as plans
use Rattle.regex_meta.specs.contracts.program.Program as program
use Rattle.regex_meta.specs.contracts.signs.Signs as signs
use Rattle.regex_syntax.proofs.Config.TheSendSync as syntax
use Rattle.regex.specs.contracts.pattern.Pattern as pattern
use Rattle.regex.specs.contracts.string.regex.Regex as regex
use Rattle.am_labels.proofs.text.Text.TheSendSync as text
use Rattle.am_matchers.specs.contracts.comparison.Comparison as comparison
use Rattle.am_matchers.specs.contracts.matcher.Matcher as matcher
use Rattle.am_matchers.specs.contracts.matchers.Matchers as matchers
use Rattle.am_config.proofs.group_by.GroupBy.TheSendSync as grouping
use Rattle.am_config.proofs.label_names.LabelNames.TheSendSync as names
use Rattle.am_config.proofs.route.Routes.TheLaws.TheKnot as tree
use Rattle.am_config.specs.contracts.config.Config as config
use Rattle.am_config.specs.contracts.inhibit_rule.InhibitRule as rule
use Rattle.am_config.specs.contracts.inhibit_rule.InhibitRules as rules
use Rattle.am_config.specs.contracts.route.Route as route
use Rattle.am_config.specs.contracts.tree.RouteTree as route_tree

ruleset parts = (sendable, crosses, syntax_tree.crosses, option.the_field_sync, class.the_field_sync, look.the_field_sync)

hir_sync : IsSync hir.the_field.row
hir_sync = search parts depth 30

plan_sync : IsSync plan.the_field.row
plan_sync = search (parts, hir_sync, role.the_field_sync, prefilter.the_sync, frame.the_field_sync, ladder.the_field_sync) depth 30

plans_sync : IsSync plans.the_field.row
plans_sync = search (parts, plan_sync) depth 30

signs_sync : IsSync signs.the_field.row
signs_sync = search (parts, hir_sync, caseless.the_sync) depth 30

program_sync : IsSync program.the_field.row
program_sync = search (parts, hir_sync, plans_sync, signs_sync, dfa.the_field_sync, byte_set.the_sync) depth 30

pattern_sync : IsSync pattern.the_field.row
pattern_sync = search (parts, program_sync, string.the_field_sync, string.the_sync, syntax.the_field_sync) depth 30

regex_sync : IsSync regex.the_field.row
regex_sync = search (parts, pattern_sync) depth 30

comparison_sync : IsSync comparison.the_field.row
comparison_sync = search (parts, regex_sync) depth 30

matcher_sync : IsSync matcher.the_row
matcher_sync = search (parts, comparison_sync, text.the_sync) depth 30

matchers_sync : IsSync matchers.the_row
matchers_sync = search (parts, matcher_sync) depth 30

route_sync : IsSync route.the_field.row
route_sync = search (parts, tree.crosses, matchers_sync, text.the_sync, grouping.the_field_sync) depth 30

tree_sync : IsSync route_tree.the_field.row
tree_sync = search (parts, route_sync) depth 30

rule_sync : IsSync rule.the_field.row
rule_sync = search (parts, matchers_sync, names.the_sync) depth 30

rules_sync : IsSync rules.the_row
rules_sync = search (parts, rule_sync) depth 30

fields_sync : IsSync config.the_field.row
fields_sync = search (parts, tree_sync, rules_sync, duration.the_field_sync) depth 30

-- a configuration is one that threads may share
pub config_sync : IsSync config.the_row
config_sync = search (parts, fields_sync) depth 30
