use Rattle.std.proofs.Common.{◌≡◌, ◌++◌, refl, rules, encode_utf8}
use Rattle.std.proofs.Output.{has_written_append}
use Rattle.std.specs.Str.Iter.{chars_rest}
use Rattle.am_labels.specs.Printing.{escaped_all}
use Rattle.am_labels.proofs.Printing.Escapes.{escaped_more}
use Rattle.am_labels.proofs.quoted.write_each_escaped.Goals as goal

pub loop-c-init : goal.loop-c-init
loop-c-init g c = let whole : chars_rest c.into_iter-c-iterator.result ≡ c.args.text.now = search rules in search (rules)

pub loop-c-preserved : goal.loop-c-preserved
loop-c-preserved g c =
    λ plain.
    let so_far = c.loop-c.invariant plain in
    let step : chars_rest c.loop-c.c-iterator ≡ encode_utf8 c.in-Some.c ++ chars_rest c.next.new.self = search rules in (
      so_far.0 ++ escaped_all (encode_utf8 c.in-Some.c),
      has_written_append _ _ _ _ _ _ so_far.1 (c.in_ok-write_char_escaped.ensures so_far.1.plain refl),
      escaped_more so_far.0 (chars_rest c.loop-c.c-iterator) (chars_rest c.next.new.self) _ c.in-Some.c step so_far.2,
    )
