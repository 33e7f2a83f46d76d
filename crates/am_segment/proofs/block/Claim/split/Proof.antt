-- `split`: a claim that isn't there owns nothing, so the one that is there loses nothing.
use Rattle.std.proofs.Common.{◌≡◌, List, [], ◌∷◌, false, refl}
use Rattle.std.proofs.raw_atomic.Walks.{proved, leaves}
use Rattle.core.proofs.alloc.Calls.{Goes-blank}
use base.Fml.{ftrue}
use base.Logic.{SProp, emp}
use contract.Monad.{fact, fact_i}
use contract.Running.{tables}
use mir.MapTy.{inst_fn}
use mir.Syntax.{a_type, dcons, dnil}
use mir.Val.{Val}
use types.ByLocal.{alloc_all, pass_all, free_all, look_at, get, sets}
use types.Kit.{‵, raw, ◌⊛◌, ◌$◌, ◌∵◌, !, qed, by, move, keep, split, fsplit, fjoin, fjoin3, fpack, use0, feq_i}
use types.Part.{agg}
use types.Run.{no_more, and_then, returns, enter}
use denote.Exit.{no}
use denote.Param.{param, bounded}
use denote.RattleType.{RattleType, Valss, owns}
use denote.Signature.{types_at, plain}
use denote.Steps.{nothing}
use denote.Struct.Declared as Declared
use denote.Struct.Struct.{within}
use denote.Struct.Tuple.{tuple_type}
use denote.Triple.Entry.{alive}
use denote.Triple.Walked.{Stays, stay_dropped, walk_of}
use Rattle.am_segment.specs.contracts.block.Claim as claim
use Rattle.am_segment.specs.contracts.block.Claim.split as f
use Rattle.am_segment.proofs.Values.{ClaimData, claim_val, claim_ty, claim_good, claim_told, claim_made, pair_val, pair_good}
use Rattle.am_segment.proofs.block.Claim.split.Statement.{statement}
use Rattle.am_segment.proofs.block.Claim.split.Code as code

pub split_spec : {M : Type 1} → statement M
split_spec 𝓤 𝓛 𝓜 𝓡 wired X Z L K g d dd met md =
    let H = 𝓛.H in let 𝓣 = tables 𝓤 H 𝓜 𝓡 𝓡.env in let R : RattleType = param 0 X in let P : RattleType = param 1 Z in
    let En = f.ended X Z g d dd in let c = f.clauses X Z g d dd 𝓛 𝓜.mem 𝓡.returns in
    let inst = bounded (a_type ∷ a_type ∷ []) (X, (Z, tt)) (dcons d (dcons dd dnil)) in let fn = inst_fn inst code.function in
    let Cl : RattleType = claim.the_row R P g in
    let hs : Stays En.signature.params En.kept = (stay_dropped (plain (λ _. Cl)) no, tt) in
    proved 𝓛 En hs c 𝓜 𝓡 (Goes-blank 𝓛 2 (plain (λ _. Cl)) no (λ κs x w. tt), tt) (f.Key.name inst) fn (code.unfolded 𝓤 H 𝓜 𝓡 wired (X, (Z, tt)) d dd)
    (λ κs. ((λ v. claim_val ∷ []), tt)) (λ κs. ((λ v vs so. claim_told R P g vs so.0), tt)) (λ κs qs bounds a gh are.
    let v : Cl.Denot = a.0 in let none : Cl.Denot = record v { there = false } in let out : Val = pair_val claim_val claim_val in
    let y : (walk_of 𝓛 En hs c).Ghost = ((κs, qs, bounds, a, (claim_val ∷ [], tt)), gh) in let Post : Val → SProp 𝓤 = (walk_of 𝓛 En hs c).post y in
    let Told : Type 0 = (none ≡ none) × (v ≡ v) in
    qed 𝓛 ((raw (alive 𝓛 En.signature κs qs) ⊛ ‵ (owns (types_at En.signature.params κs) a y.0.4)) ∷ raw (fact 𝓤 _) ∷ raw (fact 𝓤 _) ∷ ‵ ftrue ∷ []) ∵
    keep ! (0 ∷ []) $ split ! $ move ! (1 ∷ []) $ fsplit ! $ fsplit ! $ keep ! (1 ∷ 3 ∷ []) $
    -- [what the claim owns; the lifetimes]
    use0 𝓛 (‵ ((ClaimData R P g).own_val (tt, tt) (claim_val ∷ []))) (claim_made R P g 𝓛) $ fjoin ! $
    nothing ! $ use0 𝓛 (‵ ((ClaimData R P g).own_val (tt, tt) (claim_val ∷ []))) (claim_made R P g 𝓛) $ fjoin ! $
    -- [the claim that isn't there; the claim; the lifetimes]
    enter ! 𝓣.C 𝓣.Λ fn (claim_val ∷ []) Post $ alloc_all ! (λ l. pass_all ! refl (claim_good, tt) $
    sets ! (agg ! (no_more !)) refl (tt, tt) $ sets ! (agg ! (and_then ! (get ! refl) (no_more !))) refl claim_good $
    sets ! (agg ! (no_more !)) refl (tt, tt) $ sets ! (agg ! (and_then ! (get ! refl) (no_more !))) refl claim_good $
    sets ! (agg ! (and_then ! (get ! refl) (and_then ! (get ! refl) (no_more !)))) refl (pair_good claim_ty claim_ty claim_val claim_val claim_good claim_good) $
    nothing ! $ move ! (1 ∷ 2 ∷ 0 ∷ []) $ fjoin3 ! $ feq_i ! (List Val) (out ∷ []) (out ∷ []) refl $ fjoin ! $
    fpack ! (Valss (Cl ∷ Cl ∷ [])) (within (Declared.shape (tuple_type (Cl ∷ Cl ∷ []))) (none, (v, tt)) (out ∷ [])) (claim_val ∷ [], (claim_val ∷ [], tt)) $
    use0 𝓛 (raw (fact 𝓤 Told)) (fact_i 𝓤 Told (emp 𝓤) (refl, refl)) $
    nothing ! $ nothing ! $ fjoin ! $
    returns ! (look_at ! 0 refl) $ free_all ! refl $ keep ! (3 ∷ 0 ∷ 2 ∷ 1 ∷ []) $ by ! (leaves 𝓛 En hs c y out (none, v) (tt, tt) (tt, tt))))
