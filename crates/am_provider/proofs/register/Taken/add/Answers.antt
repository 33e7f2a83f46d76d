use Rattle.std.proofs.Common.{◌≡◌, ◌∙◌, ◌++◌, ◌∷◌, [], List, ap}
use Rattle.am_history.specs.Fronts.{FrontView}
use Rattle.am_provider.specs.Histories.{EntryView}
use Rattle.am_provider.proofs.Turns.{ended_of, knows_more}
use Rattle.am_provider.proofs.register.Taken.add.Goals as goal

pub invariant_of-self-clause-seen : goal.invariant_of-self-clause-seen
invariant_of-self-clause-seen g c =
    let turns = c.args.self.now.turns in
    let longer : c.push.new.self ≡ turns ++ c.look.new.caller.front ∷ [] = c.push.ensures.longer
    ∙ (ap (λ (l : List (FrontView EntryView)). l ++ c.of.result.value ∷ []) c.show.ensures.same ∙ ap (λ (f : FrontView EntryView). turns ++ f ∷ []) (c.of.ensures ∙ c.front.ensures)) in
    knows_more turns _ _ _ _ _ c.args.self.now.seen (c.show-2.ensures.same ∙ longer) c.look.ensures.sees

pub returns-clause-ended : goal.returns-clause-ended
returns-clause-ended g c =
    let turns = c.args.self.now.turns in
    let longer : c.push.new.self ≡ turns ++ c.look.new.caller.front ∷ [] = c.push.ensures.longer
    ∙ (ap (λ (l : List (FrontView EntryView)). l ++ c.of.result.value ∷ []) c.show.ensures.same ∙ ap (λ (f : FrontView EntryView). turns ++ f ∷ []) (c.of.ensures ∙ c.front.ensures)) in
    ended_of c.args.self.now.next _ _ turns _ _ _ _ _ c.args.self.now.counted c.show.ensures.seen longer (ap (λ f. f.seen) c.show-2.ensures.to) c.look.ensures.sees
