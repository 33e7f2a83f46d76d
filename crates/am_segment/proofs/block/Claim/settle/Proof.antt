-- `settle`: all tokens of the lifetime end it, and what was lent is there again.
use Rattle.std.proofs.Common.{◌≡◌, ℕ, Bool, true, ◌^◌, [], ◌∷◌, refl, sym}
use Rattle.std.proofs.raw_atomic.Walks.{proved, leaves}
use Rattle.std_alloc.proofs.RcSteps.{Ptr-Good}
use Rattle.core.proofs.alloc.Calls.{Goes-blank}
use base.Fml.{Fml}
use base.Logic.{SProp, emp}
use contract.Monad.{fact, fact_i}
use contract.Running.{tables}
use mir.MapTy.{inst_fn}
use mir.Syntax.{a_type, dcons, dnil}
use mir.Val.{Val}
use types.ByLocal.{alloc_all, pass_all, free_all, look_at, get, get_in, sets}
use types.Part.{agg, sub, whole}
use types.Run.{stop, fld, of_opd, no_more, and_then, returns, enter}
use denote.Exit.{no}
use denote.Param.{param, bounded}
use denote.Param.Laws.{param_laws}
use denote.RattleType.{RattleType, owns}
use denote.RawPtr.{Ptr}
use denote.Signature.{types_at, plain}
use denote.Steps.{nothing, heard}
use denote.Triple.Walked.{Stays, stay_dropped, walk_of}
use Rattle.am_segment.specs.contracts.block.Block as block
use Rattle.am_segment.specs.contracts.block.Claim as claim
use Rattle.am_segment.specs.contracts.block.Part as part
use types.Kit.{‵, raw, later, ◌⊛◌, ◌$◌, ◌∵◌, !, qed, by, move, keep, drop, split, fsplit, fsplit3, fjoin, use0, use2, await, rewrite}
use denote.Triple.Entry.{alive}
use Rattle.left_right.specs.Parted.{tokens}
use Rattle.left_right.proofs.PartSteps.{thaws}
use Rattle.am_segment.specs.inside.Ownership.{front, front_lent, rest, claim_owns}
use Rattle.am_segment.specs.contracts.block.Claim.settle as f
use Rattle.am_segment.proofs.Fronts.{front_laws}
use Rattle.am_segment.proofs.Values.{BlockData, block_val, block_good, block_made, claim_val, claim_good, claim_told, part_val, part_good, part_told}
use Rattle.am_segment.proofs.block.Claim.settle.Statement.{statement}
use Rattle.am_segment.proofs.block.Claim.settle.Code as code

pub settle_spec : {M : Type 1} → statement M
settle_spec 𝓤 𝓛 𝓜 𝓡 wired X Z L K g d dd met md =
    let H = 𝓛.H in let 𝓣 = tables 𝓤 H 𝓜 𝓡 𝓡.env in let R : RattleType = param 0 X in let P : RattleType = param 1 Z in let LR = param_laws 0 X L in
    let En = f.ended X Z g d dd in let c = f.clauses X Z g d dd 𝓛 𝓜.mem 𝓡.returns in
    let inst = bounded (a_type ∷ a_type ∷ []) (X, (Z, tt)) (dcons d (dcons dd dnil)) in let fn = inst_fn inst code.function in
    let Cl : RattleType = claim.the_row R P g in let Pt : RattleType = part.the_row R in let Bl : RattleType = block.the_row R P g in
    let hs : Stays En.signature.params En.kept = (stay_dropped (plain (λ _. Cl)) no, (stay_dropped (plain (λ _. Pt)) no, tt)) in
    proved 𝓛 En hs c 𝓜 𝓡 (Goes-blank 𝓛 2 (plain (λ _. Cl)) no (λ κs x w. tt), (Goes-blank 𝓛 2 (plain (λ _. Pt)) no (λ κs x w. tt), tt)) (f.Key.name inst) fn (code.unfolded 𝓤 H 𝓜 𝓡 wired (X, (Z, tt)) d dd)
    (λ κs. ((λ v. claim_val ∷ []), ((λ v. part_val v.ptr ∷ []), tt))) (λ κs. ((λ v vs so. claim_told R P g vs so.0), ((λ v vs so. part_told R v.ptr vs so.0), tt))) (λ κs qs bounds a gh are.
    let v : Cl.Denot = a.0 in let e : Pt.Denot = a.1.0 in let p : Ptr = e.ptr in let n : ℕ = v.segment in
    let y : (walk_of 𝓛 En hs c).Ghost = ((κs, qs, bounds, a, (claim_val ∷ [], (part_val p ∷ [], tt))), gh) in let Post : Val → SProp 𝓤 = (walk_of 𝓛 En hs c).post y in
    let lent : Fml = front R v.at v.places v.items in let back : Bl.Denot = record { ptr = p; by = record {}; items = v.items; places = v.places; alloc = v.alloc } in
    let There : Type 0 = v.there ≡ true in let Asked : Type 0 = (p ≡ v.at) × (e.segment ≡ n) × (e.count ≡ 2 ^ 63) in let Told : Type 0 = (v.items ≡ v.items) × (v.places ≡ v.places) × (v.alloc ≡ v.alloc) in
    qed 𝓛 ((raw (alive 𝓛 En.signature κs qs) ⊛ ‵ (owns (types_at En.signature.params κs) a y.0.4)) ∷ raw (fact 𝓤 _) ∷ raw (fact 𝓤 _) ∷ raw (fact 𝓤 There) ∷ raw (fact 𝓤 Asked) ∷ []) ∵
    keep ! (3 ∷ 4 ∷ 0 ∷ []) $ heard ! There (λ there. heard ! Asked (λ asked. split ! $ move ! (1 ∷ []) $ fsplit3 ! $ fsplit ! $ keep ! (1 ∷ 2 ∷ 4 ∷ []) $
    rewrite ! 0 (λ (b : Bool). ‵ (claim_owns (g.dealloc_token v.alloc) R v.at v.places v.items n b)) there refl $ fsplit ! $
    move ! (2 ∷ []) $ fsplit ! $ drop ! $ fsplit ! $ rewrite ! 0 (λ (m : ℕ × ℕ). ‵ (tokens m.0 m.1)) (λ i. (asked.1 i, asked.2 i)) refl $
    -- [all tokens; the right to read; what was lent; the rest of the block; the lifetimes]
    keep ! (2 ∷ 0 ∷ 3 ∷ 4 ∷ []) $
    enter ! 𝓣.C 𝓣.Λ fn (claim_val ∷ part_val p ∷ []) Post $ alloc_all ! (λ l. pass_all ! refl (claim_good, (part_good p, tt)) $
    use2 𝓛 (later (‵ lent)) (thaws (front_lent R v.at v.places v.items) (front_laws R LR v.at v.places v.items) 𝓛 lent n) $ await ! tt $
    sets ! (of_opd ! (get_in ! (fld ! refl (stop !)) (sub ! 0 refl (whole !)))) refl (Ptr-Good p) $ sets ! (agg ! (no_more !)) refl (tt, tt) $
    sets ! (agg ! (and_then ! (get ! refl) (and_then ! (get ! refl) (no_more !)))) refl (block_good p) $
    rewrite ! 0 (λ (q : Ptr). ‵ (front R q v.places v.items)) (sym asked.0) refl $ rewrite ! 1 (λ (q : Ptr). ‵ (rest R q v.places v.items (g.dealloc_token v.alloc))) (sym asked.0) refl $ fjoin ! $
    use0 𝓛 (‵ ((BlockData R P g).own_val (p, (tt, tt)) (block_val p ∷ []))) (block_made R P g 𝓛 p) $ fjoin ! $
    use0 𝓛 (raw (fact 𝓤 Told)) (fact_i 𝓤 Told (emp 𝓤) (refl, refl, refl)) $ nothing ! $ nothing ! $ fjoin ! $ nothing ! $ fjoin ! $
    returns ! (look_at ! 0 refl) $ free_all ! refl $ keep ! (3 ∷ 0 ∷ 2 ∷ 1 ∷ []) $ by ! (leaves 𝓛 En hs c y (block_val p) back (tt, (tt, tt)) (tt, (tt, tt)))))))
