use Rattle.std.proofs.Common.{◌≡◌, ◌∙◌, ℕ, true, false, nat_eq, Some, sym, ap, subst, inl, inr, rules}
use Rattle.std.proofs.lemmas.Bool.Decides.{eqb_tells}
use Rattle.am_provider.specs.Settling.{IsOwn, own_in, parts_in}
use Rattle.am_provider.proofs.Settling.{all_places}
use Rattle.am_provider.proofs.book.settle.audit.Goals as goal

same_number : (m n : ℕ) → nat_eq m n ≡ true → m ≡ n
same_number m n same = elim (eqb_tells m n) [ inl e ↦ e.1 | inr e ↦ absurd (let no : true ≡ false = sym same ∙ e.0 in cc) ]

pub returns-clause-all : goal.returns-clause-all
returns-clause-all g c = λ yes place inside.
    let all = c.in-Some.all in
    let is : c.args.all ≡ Some all = search rules in
    let audit = c.audit.ensures in
    let count : c.args.count ≡ c.args.posters = same_number c.args.count c.args.posters yes in
    let parts : all.parts ≡ g.N.Ledger.parts = sym (ap parts_in is) ∙ (c.requires.count ∙ (count ∙ c.requires.posters.0)) in
    subst (λ own. IsOwn own place) (sym (ap own_in is))
    (all_places c.args.log.now.tail.log all.own audit.stand audit.once (audit.whole parts ∙ c.requires.tally) place inside)
