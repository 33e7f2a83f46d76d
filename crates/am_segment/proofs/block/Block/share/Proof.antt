-- `share`: a lifetime of its own begins, the items are lent for it, and all of its tokens are one part.
use Rattle.std.proofs.Common.{◌≡◌, ℕ, true, ◌^◌, List, [], ◌∷◌, w64, refl}
use Rattle.std.specs.List.{range_with_len}
use Rattle.std.proofs.raw_atomic.Walks.{proved, leaves}
use Rattle.std_alloc.proofs.RcSteps.{Ptr-Good}
use Rattle.core.proofs.alloc.Calls.{Goes-blank}
use base.Fml.{Lft, Fml, ftrue, fex, flft, Incl-refl}
use base.Logic.{SProp, emp}
use contract.Monad.{fact, fact_i}
use contract.Running.{tables}
use mir.MapTy.{inst_fn}
use mir.Syntax.{a_type, dcons, dnil}
use mir.Val.{Val, vint}
use types.ByLocal.{alloc_all, pass_all, free_all, look_at, get, get_in, sets}
use types.Part.{agg, sub, whole}
use types.Run.{stop, fld, of_opd, no_more, and_then, returns, enter}
use denote.Builtin.{usize}
use denote.Exit.{yes, no}
use denote.Plain.{uint_vals, uint_Tells}
use denote.Param.{param, bounded}
use denote.Param.Laws.{param_laws}
use denote.RattleType.{RattleType, owns, Valss}
use denote.RawPtr.{Ptr}
use denote.Signature.{types_at, plain}
use denote.Steps.{nothing, heard}
use denote.Triple.Walked.{Stays, stay_dropped, walk_of}
use Rattle.am_segment.specs.contracts.block.Block as block
use Rattle.am_segment.specs.contracts.block.Claim as claim
use Rattle.am_segment.specs.contracts.block.Part as part
use types.Kit.{‵, raw, later, ◌⊛◌, ◌$◌, ◌∵◌, !, qed, by, move, keep, split, join, fsplit, fjoin, fjoin3, fpick, fpack, use0, use2, await, feq_i}
use contract.BorrowLft.{◌⊑◌}
use denote.Struct.Declared as Declared
use denote.Struct.Struct.{within}
use denote.Struct.Tuple.{tuple_type}
use Rattle.left_right.proofs.PartSteps.{freezes, Frozen}
use Rattle.am_segment.specs.inside.Ownership.{front, front_lent}
use Rattle.am_segment.specs.contracts.block.Block.share as f
use Rattle.am_segment.proofs.Fronts.{front_laws, front-lends}
use Rattle.am_segment.proofs.Values.{ClaimData, PartData, block_val, block_good, block_told, claim_val, claim_ty, claim_good, claim_made, part_val, part_ty, part_good, part_made, pair_val, pair_good}
use Rattle.am_segment.proofs.block.Block.share.Statement.{statement}
use Rattle.am_segment.proofs.block.Block.share.Code as code

pub share_spec : {M : Type 1} → statement M
share_spec 𝓤 𝓛 𝓜 𝓡 wired X Z L K g d dd met md =
    let H = 𝓛.H in let 𝓣 = tables 𝓤 H 𝓜 𝓡 𝓡.env in let R : RattleType = param 0 X in let P : RattleType = param 1 Z in let LR = param_laws 0 X L in
    let En = f.ended X Z g d dd in let c = f.clauses X Z g d dd 𝓛 𝓜.mem 𝓡.returns in
    let inst = bounded (a_type ∷ a_type ∷ []) (X, (Z, tt)) (dcons d (dcons dd dnil)) in let fn = inst_fn inst code.function in
    let Cl : RattleType = claim.the_row R P g in let Pt : RattleType = part.the_row R in let Bl : RattleType = block.the_row R P g in
    let hs : Stays En.signature.params En.kept = (stay_dropped (plain (λ _. Bl)) no, (stay_dropped (plain (λ _. usize)) yes, tt)) in
    proved 𝓛 En hs c 𝓜 𝓡 (Goes-blank 𝓛 2 (plain (λ _. Bl)) no (λ κs x w. tt), (Goes-blank 𝓛 2 (plain (λ _. usize)) yes (λ κs x w. tt), tt)) (f.Key.name inst) fn (code.unfolded 𝓤 H 𝓜 𝓡 wired (X, (Z, tt)) d dd)
    (λ κs. ((λ v. block_val v.ptr ∷ []), (uint_vals w64, tt))) (λ κs. ((λ v vs so. block_told R P g v.ptr vs so.0), (uint_Tells w64, tt))) (λ κs qs bounds a gh are.
    let v : Bl.Denot = a.0 in let p : Ptr = v.ptr in let m : ℕ = a.1.0 in let t : Lft → Fml = front_lent R p v.places v.items in let laws = front_laws R LR p v.places v.items in let lent : Fml = front R p v.places v.items in
    let y : (walk_of 𝓛 En hs c).Ghost = ((κs, qs, bounds, a, (block_val p ∷ [], (uint_vals w64 m, tt))), gh) in let Post : Val → SProp 𝓤 = (walk_of 𝓛 En hs c).post y in
    qed 𝓛 (((‵ (flft κs.0 qs.0) ⊛ ‵ (flft κs.1.0 qs.1.0) ⊛ ‵ ftrue) ⊛ ‵ (owns (types_at En.signature.params κs) a y.0.4)) ∷ raw (fact 𝓤 (κs.0 ⊑ X.lives)) ∷ raw (fact 𝓤 (κs.1.0 ⊑ Z.lives)) ∷ ‵ ftrue ∷ []) ∵
    keep ! (1 ∷ 0 ∷ []) $ heard ! (κs.0 ⊑ X.lives) (λ le. split ! $ split ! $ move ! (2 ∷ []) $ fsplit ! $ fsplit ! $ keep ! (1 ∷ 3 ∷ 4 ∷ []) $ fsplit ! $ move ! (0 ∷ 2 ∷ []) $
    -- [the items; the items' lifetime; the rest of the block; the other lifetimes]
    enter ! 𝓣.C 𝓣.Λ fn (block_val p ∷ vint w64 m ∷ []) Post $ alloc_all ! (λ l. pass_all ! refl (block_good p, ((tt, record { fits = are.1.0.1 }), tt)) $
    use2 𝓛 (later (‵ (fex ℕ (Frozen t laws 𝓛 lent)) ⊛ ‵ (flft κs.0 qs.0))) (freezes t laws 𝓛 lent R.lives κs.0 qs.0 (front-lends R LR p v.places v.items 𝓛 R.lives (Incl-refl R.lives)) le) $
    await ! tt $ split ! $ fpick ! (λ n. fsplit ! $
    let right : Cl.Denot = record { by = record {}; there = true; at = p; items = v.items; places = v.places; alloc = v.alloc; segment = n } in
    let all : Pt.Denot = record { ptr = p; items = v.items; places = v.places; segment = n; count = 2 ^ 63; numbers = range_with_len 0 m; keys = m } in let out : Val = pair_val claim_val (part_val p) in
    let Right : Type 0 = (right.there ≡ true) × (p ≡ p) × (v.items ≡ v.items) × (v.places ≡ v.places) × (v.alloc ≡ v.alloc) in let Numbered : Type 0 = (m ≡ m) × (range_with_len 0 m ≡ range_with_len 0 m) in let All : Type 0 = (n ≡ n) × (v.items ≡ v.items) × (v.places ≡ v.places) × (2 ^ 63 ≡ 2 ^ 63) in
    sets ! (of_opd ! (get_in ! (fld ! refl (stop !)) (sub ! 0 refl (whole !)))) refl (Ptr-Good p) $
    sets ! (agg ! (no_more !)) refl (tt, tt) $ sets ! (agg ! (and_then ! (get ! refl) (no_more !))) refl claim_good $ sets ! (agg ! (and_then ! (get ! refl) (no_more !))) refl (part_good p) $
    sets ! (agg ! (and_then ! (get ! refl) (and_then ! (get ! refl) (no_more !)))) refl (pair_good claim_ty part_ty claim_val (part_val p) claim_good (part_good p)) $
    -- [what is lent; the tokens and the right to read; the items' lifetime; the rest; the other lifetimes]
    move ! (0 ∷ 3 ∷ []) $ fjoin ! $ use0 𝓛 (‵ ((ClaimData R P g).own_val (tt, tt) (claim_val ∷ []))) (claim_made R P g 𝓛) $ fjoin ! $
    move ! (1 ∷ []) $ use0 𝓛 (‵ ((PartData R).own_val (p, tt) (part_val p ∷ []))) (part_made R 𝓛 p) $ fjoin ! $
    nothing ! $ move ! (2 ∷ 1 ∷ 0 ∷ []) $ fjoin3 ! $ feq_i ! (List Val) (out ∷ []) (out ∷ []) refl $ fjoin ! $
    fpack ! (Valss (Cl ∷ Pt ∷ [])) (within (Declared.shape (tuple_type (Cl ∷ Pt ∷ []))) (right, (all, tt)) (out ∷ [])) (claim_val ∷ [], (part_val p ∷ [], tt)) $
    move ! (1 ∷ 2 ∷ []) $ join ! $
    use0 𝓛 (raw (fact 𝓤 Numbered)) (fact_i 𝓤 Numbered (emp 𝓤) (refl, refl)) $ use0 𝓛 (raw (fact 𝓤 All)) (fact_i 𝓤 All (emp 𝓤) (refl, refl, refl, refl)) $ join ! $ use0 𝓛 (raw (fact 𝓤 Right)) (fact_i 𝓤 Right (emp 𝓤) (refl, refl, refl, refl, refl)) $ join ! $ nothing ! $ nothing ! $ fjoin ! $ nothing ! $ fjoin ! $
    returns ! (look_at ! 0 refl) $ free_all ! refl $ keep ! (2 ∷ 0 ∷ 3 ∷ 1 ∷ []) $ by ! (leaves 𝓛 En hs c y out (right, all) (tt, (tt, tt)) (tt, (tt, tt)))))))
