use Rattle.std.proofs.Common.{◌≡◌, ◌∙◌, ◌+◌, ◌<◌, ◌++◌, ◌∷◌, [], ℕ, List, length, take, get_or, set, refl, ap, sym, subst}
use Rattle.std.proofs.lemmas.List.{take_more, set-get_or}
use Rattle.am_runner.specs.Compacting.{Vouches, nobody, one_more}
use Rattle.am_runner.specs.Reading.{OpenView}
use Rattle.am_runner.specs.Sessions.{SessionView}
use Rattle.am_runner.proofs.session.journal.vouch_for_all.Goals as goal

-- one that is put back as it was ends the part that is done
put_back : (items now : List OpenView) (at : ℕ) (other one new : OpenView) → now ≡ items → at < length items
    → one ≡ get_or now at other → new ≡ one → (take at items ++ one ∷ [] ≡ take (at + 1) items) × (set now at new ≡ items)
put_back items now at other one new same less is stays =
    let there : one ≡ get_or items at other = is ∙ ap (λ (l : List OpenView). get_or l at other) same in (
      ap (λ (x : OpenView). take at items ++ x ∷ []) there ∙ sym (take_more items at other less),
      ap (λ (l : List OpenView). set l at new) same ∙ (ap (set items at) (stays ∙ there) ∙ set-get_or items at other),
    )

pub loop-index-init : goal.loop-index-init
loop-index-init g c = record { vouches = nobody; opened = refl }

pub loop-index-preserved : goal.loop-index-preserved
loop-index-preserved g c =
    let items = c.args.opened.now.items in
    let at = c.loop-index.index in
    let one = c.index_mut.result.now in
    let less : at < length items = subst (λ n. at < n) (c.len-index-end.ensures ∙ c.args.opened.now.ok.0) c.loop-index-test.true in
    let both = put_back items c.loop-index.opened.items at _ one c.vouch.new.self c.loop-index.invariant.opened less c.index_mut.ensures.value c.vouch.ensures.same in
    let new : SessionView = record { pass = c.vouch.new.caller.pass; front = c.vouch.new.caller.front; opened = items } in
    record {
      vouches = subst (λ (some : List OpenView). Vouches (record { pass = c.args.caller.now.pass; front = c.args.caller.now.front; opened = items }) some new) both.0
          (one_more one c.loop-index.invariant.vouches c.vouch.ensures.sees c.vouch.ensures.pass);
      opened = both.1;
    }
