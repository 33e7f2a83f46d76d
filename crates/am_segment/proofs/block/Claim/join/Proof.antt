-- `join`: what the other claim owns is left if it is there, or else what this one owns.
use Rattle.std.proofs.Common.{◌≡◌, Bool, true, false, cond, [], ◌∷◌, refl}
use Rattle.std.proofs.raw_atomic.Walks.{proved, leaves}
use Rattle.core.proofs.alloc.Calls.{Goes-blank}
use seplogic.Ra.Ura.{Ura}
use base.Fml.{Fml, ftrue}
use base.Logic.{SProp, ent, sep, emp}
use contract.Monad.{fact, fact_i}
use contract.Running.{tables}
use mir.MapTy.{inst_fn}
use mir.Syntax.{a_type, dcons, dnil}
use mir.Val.{Val}
use types.ByLocal.{alloc_all, pass_all, free_all, look_at, get, sets}
use types.Kit.{‵, raw, ◌⊛◌, ◌$◌, ◌∵◌, !, qed, by, move, keep, drop, split, fsplit, fsplit3, fjoin, use0, use2, done}
use types.Logic.{Logic, sem}
use types.Part.{agg}
use types.Run.{no_more, and_then, returns, enter}
use denote.Exit.{no}
use denote.Param.{param, bounded}
use denote.RattleType.{RattleType, owns}
use denote.Signature.{types_at, plain}
use denote.Steps.{nothing}
use denote.Triple.Entry.{alive}
use denote.Triple.Walked.{Stays, stay_dropped, walk_of}
use Rattle.am_segment.specs.inside.Ownership.{claim_owns}
use Rattle.am_segment.specs.contracts.block.Claim as claim
use Rattle.am_segment.specs.contracts.block.Claim.join as f
use Rattle.am_segment.proofs.Values.{ClaimData, claim_val, claim_good, claim_told, claim_made}
use Rattle.am_segment.proofs.block.Claim.join.Statement.{statement}
use Rattle.am_segment.proofs.block.Claim.join.Code as code

-- of two things that are owned, one is left
module _ {M : Type 1} {𝓤 : Ura M} (𝓛 : Logic 𝓤) {D : Type 0} (owned : D → Fml) (v w : D) where
  one_of : (b : Bool) → ent 𝓤 (sep 𝓤 (sem 𝓛 (owned v)) (sem 𝓛 (owned w))) (sem 𝓛 (owned (cond b w v)))
  one_of true = qed 𝓛 (‵ (owned v) ∷ ‵ (owned w) ∷ []) ∵ drop ! $ done !
  one_of false = qed 𝓛 (‵ (owned v) ∷ ‵ (owned w) ∷ []) ∵ keep ! (0 ∷ []) $ done !

pub join_spec : {M : Type 1} → statement M
join_spec 𝓤 𝓛 𝓜 𝓡 wired X Z L K g d dd met md =
    let H = 𝓛.H in let 𝓣 = tables 𝓤 H 𝓜 𝓡 𝓡.env in let R : RattleType = param 0 X in let P : RattleType = param 1 Z in
    let En = f.ended X Z g d dd in let c = f.clauses X Z g d dd 𝓛 𝓜.mem 𝓡.returns in
    let inst = bounded (a_type ∷ a_type ∷ []) (X, (Z, tt)) (dcons d (dcons dd dnil)) in let fn = inst_fn inst code.function in
    let Cl : RattleType = claim.the_row R P g in
    let hs : Stays En.signature.params En.kept = (stay_dropped (plain (λ _. Cl)) no, (stay_dropped (plain (λ _. Cl)) no, tt)) in
    let goes = Goes-blank 𝓛 2 (plain (λ _. Cl)) no (λ κs x w. tt) in
    proved 𝓛 En hs c 𝓜 𝓡 (goes, (goes, tt)) (f.Key.name inst) fn (code.unfolded 𝓤 H 𝓜 𝓡 wired (X, (Z, tt)) d dd)
    (λ κs. ((λ v. claim_val ∷ []), ((λ v. claim_val ∷ []), tt))) (λ κs. ((λ v vs so. claim_told R P g vs so.0), ((λ v vs so. claim_told R P g vs so.0), tt))) (λ κs qs bounds a gh are.
    let v : Cl.Denot = a.0 in let w : Cl.Denot = a.1.0 in let left : Cl.Denot = cond w.there w v in
    let y : (walk_of 𝓛 En hs c).Ghost = ((κs, qs, bounds, a, (claim_val ∷ [], (claim_val ∷ [], tt))), gh) in let Post : Val → SProp 𝓤 = (walk_of 𝓛 En hs c).post y in
    let owned = λ (u : Cl.Denot). claim_owns (g.dealloc_token u.alloc) R u.at u.places u.items u.segment u.there in
    qed 𝓛 ((raw (alive 𝓛 En.signature κs qs) ⊛ ‵ (owns (types_at En.signature.params κs) a y.0.4)) ∷ raw (fact 𝓤 _) ∷ raw (fact 𝓤 _) ∷ ‵ ftrue ∷ []) ∵
    keep ! (0 ∷ []) $ split ! $ move ! (1 ∷ []) $ fsplit3 ! $ fsplit ! $ keep ! (1 ∷ 2 ∷ 4 ∷ []) $
    move ! (1 ∷ []) $ fsplit ! $ keep ! (2 ∷ 1 ∷ 3 ∷ []) $
    -- [what this claim owns; what the other one owns; the lifetimes]
    use2 𝓛 (‵ (owned left)) (one_of 𝓛 owned v w w.there) $
    use0 𝓛 (‵ ((ClaimData R P g).own_val (tt, tt) (claim_val ∷ []))) (claim_made R P g 𝓛) $ fjoin ! $
    enter ! 𝓣.C 𝓣.Λ fn (claim_val ∷ claim_val ∷ []) Post $ alloc_all ! (λ l. pass_all ! refl (claim_good, (claim_good, tt)) $
    sets ! (agg ! (no_more !)) refl (tt, tt) $ sets ! (agg ! (and_then ! (get ! refl) (no_more !))) refl claim_good $
    use0 𝓛 (raw (fact 𝓤 (left ≡ left))) (fact_i 𝓤 (left ≡ left) (emp 𝓤) refl) $ nothing ! $ nothing ! $ fjoin ! $ nothing ! $ fjoin ! $
    returns ! (look_at ! 0 refl) $ free_all ! refl $ keep ! (3 ∷ 0 ∷ 2 ∷ 1 ∷ []) $ by ! (leaves 𝓛 En hs c y claim_val left (tt, (tt, tt)) (tt, (tt, tt)))))
