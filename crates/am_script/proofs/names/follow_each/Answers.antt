use Rattle.std.proofs.Common.{◌≡◌, ◌+◌, ◌++◌, ◌∷◌, [], List, Ok, Err, take, drop, ap, sym, subst, ◌∙◌, rules}
use Rattle.std.proofs.Math.ListN.{drop_of_length-le}
use Rattle.std.proofs.lemmas.List.{take_more}
use Rattle.am_script.specs.Names.{HoldsNames}
use Rattle.am_script.specs.declared.command.Line.{Line}
use Rattle.am_script.specs.inside.Following.{FollowsEach, ended, fits, misfits}
use Rattle.am_script.proofs.Parts.{next_item}
use Rattle.am_script.proofs.names.follow_each.Goals as goal

pub returns-in_err-follow_line : goal.returns-in_err-follow_line
returns-in_err-follow_line c =
    let lines = c.args.lines.now in
    let i = c.loop-line.line-index in
    let line = c.line-item.result in
    let fault = c.in_err-follow_line.field-0.0 in
    let refused : c.from_residual.result ≡ Err fault = search rules in
    let next : drop i lines ≡ line ∷ drop (i + 1) lines = next_item lines i line c.loop-line-test.true c.line-item.is in
    let its = c.in_err-follow_line.ensures (take i lines) c.loop-line.invariant.0 in
    rw refused (c.loop-line.invariant.1 (Err fault) (subst (λ (ls : List Line). FollowsEach (take i lines) ls (Err fault)) (sym next) (misfits its.0)))

pub loop-line-preserved : goal.loop-line-preserved
loop-line-preserved c =
    let lines = c.args.lines.now in
    let i = c.loop-line.line-index in
    let line = c.line-item.result in
    let grown : take (i + 1) lines ≡ take i lines ++ line ∷ [] = take_more lines i line c.loop-line-test.true ∙ ap (λ (l : Line). take i lines ++ l ∷ []) (sym c.line-item.is) in
    let next : drop i lines ≡ line ∷ drop (i + 1) lines = next_item lines i line c.loop-line-test.true c.line-item.is in
    let its = c.in_ok-follow_line.ensures (take i lines) c.loop-line.invariant.0 in (
      subst (λ (ls : List Line). HoldsNames c.follow_line.new.names ls) (sym grown) its.1,
      λ end follows.
          c.loop-line.invariant.1 end
          (subst (λ (ls : List Line). FollowsEach (take i lines) ls end) (sym next)
          (fits its.0 (subst (λ (ls : List Line). FollowsEach ls (drop (i + 1) lines) end) grown follows))),
    )

pub returns : goal.returns
returns c =
    let lines = c.args.lines.now in
    let i = c.loop-line.line-index in
    let none = drop_of_length-le lines c.loop-line-test.false in
    c.loop-line.invariant.1 (Ok tt) (subst (λ (ls : List Line). FollowsEach (take i lines) ls (Ok tt)) (sym none) ended)
