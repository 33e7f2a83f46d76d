use Rattle.std.proofs.Common.{◌∙◌, ℕ, List, Option, length, ap, subst, sym}
use Rattle.std.proofs.lemmas.Result.{on_ok_weaker}
use Rattle.std.specs.List.{AllZip}
use Rattle.am_answers.specs.Known.{IsShownAt}
use Rattle.am_answers.proofs.Runs.{all_zip_length}
use Rattle.am_answers.proofs.showing.write_by_place.Goals as goal

-- the places as a slice
pub write_shown-requires : goal.write_shown-requires
write_shown-requires c =
    ap (λ (l : List (Option ℕ)). length l) c.deref.ensures.value
    ∙ all_zip_length (IsShownAt c.args.known.now.entries) c.args.given.now c.in_ok-places.places.items c.in_ok-places.ensures

pub returns : goal.returns
returns c =
    on_ok_weaker c.write_shown.result (λ is. (
      c.deref.result.now,
      subst (λ (l : List (Option ℕ)). AllZip (IsShownAt c.args.known.now.entries) c.args.given.now l) (sym c.deref.ensures.value) c.in_ok-places.ensures,
      is,
    )) c.write_shown.ensures
