use Rattle.std.proofs.Common.{◌≡◌, sym, ap, ◌∙◌, subst}
use Rattle.std.specs.List.{All}
use Rattle.std.proofs.lemmas.List.Elements.{All-map}
use Rattle.am_segment.specs.Segments.{KeyView, key_with}
use Rattle.am_segment.specs.inside.Fields.{keys_held}
use Rattle.am_segment.specs.inside.Shares.{name_of}
use Rattle.am_segment.proofs.joined_keys.JoinedKeys.as_slice.Goals as goal

pub returns-in-Some : goal.returns-in-Some
returns-in-Some g c = let part = c.in-Some.held.part in
    subst (λ keys. All (λ (key : KeyView g.row.T.Denot). c.items.result.now ≡ key.items) keys) (sym (ap keys_held c.in-Some.is) ∙ c.self.view_is)
    (All-map (λ (key : KeyView g.row.T.Denot). c.items.result.now ≡ key.items) (key_with (name_of part) part.keys part.items) part.numbers (λ k d within. c.items.ensures))
