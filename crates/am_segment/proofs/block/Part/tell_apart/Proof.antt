-- `tell_apart`: all tokens of one lifetime are here, so the other's are of another.
use Rattle.std.proofs.Common.{◌≡◌, ◌≢◌, ℕ, ◌^◌, ◌<◌, List, [], ◌∷◌, refl}
use Rattle.std.proofs.raw_atomic.Walks.{proved, leaves}
use Rattle.std_alloc.proofs.RcSteps.{Ptr-Good}
use Rattle.left_right.specs.Parted.{tokens}
use base.Logic.{SProp, emp}
use contract.Monad.{fact, fact_i}
use contract.Running.{tables}
use mir.MapTy.{inst_fn}
use mir.Syntax.{a_type}
use mir.Val.{Val}
use types.ByLocal.{alloc_all, pass_all, free_all, look_at, get, get_in, sets}
use types.Kit.{‵, raw, later, ◌⊛◌, ◌$◌, ◌∵◌, !, qed, by, move, keep, drop, split, split3, join, fsplit, fsplit3, fjoin, fjoin3, fpack, use0, use2, await, feq_i}
use types.Part.{agg, sub, whole}
use types.Run.{stop, fld, of_opd, no_more, and_then, returns, enter}
use denote.Exit.{no}
use denote.Param.{param, layouts}
use denote.RattleType.{RattleType, Valss, owns}
use denote.RawPtr.{Ptr}
use denote.Signature.{types_at, plain}
use denote.Steps.{nothing, heard}
use denote.Struct.Declared as Declared
use denote.Struct.Struct.{within}
use denote.Struct.Tuple.{tuple_type}
use denote.Triple.Entry.{alive}
use denote.Triple.Walked.{Stays, stay_dropped, walk_of, Goes-dropped}
use Rattle.am_segment.specs.contracts.block.Part as part
use Rattle.am_segment.specs.contracts.block.Part.tell_apart as f
use Rattle.am_segment.proofs.Names.{names_differ}
use Rattle.am_segment.proofs.Values.{PartData, part_val, part_good, part_told, part_made, part_ty, pair_val, pair_good}
use Rattle.am_segment.proofs.block.Part.tell_apart.Statement.{statement}
use Rattle.am_segment.proofs.block.Part.tell_apart.Code as code

pub tell_apart_spec : {M : Type 1} → statement M
tell_apart_spec 𝓤 𝓛 𝓜 𝓡 wired X L =
    let H = 𝓛.H in let 𝓣 = tables 𝓤 H 𝓜 𝓡 𝓡.env in let R : RattleType = param 0 X in
    let En = f.ended X in let c = f.clauses X 𝓛 𝓜.mem 𝓡.returns in let inst = layouts (a_type ∷ []) (X, tt) in let fn = inst_fn inst code.function in
    let Pt : RattleType = part.the_row R in let hs : Stays En.signature.params En.kept = (stay_dropped (plain (λ _. Pt)) no, (stay_dropped (plain (λ _. Pt)) no, tt)) in
    let goes = Goes-dropped 𝓛 1 (plain (λ _. Pt)) no (λ κs x w. refl) in
    proved 𝓛 En hs c 𝓜 𝓡 (goes, (goes, tt)) (f.Key.name inst) fn (code.unfolded 𝓤 H 𝓜 𝓡 wired (X, tt))
    (λ κs. ((λ d. part_val d.ptr ∷ []), ((λ d. part_val d.ptr ∷ []), tt))) (λ κs. ((λ d vs so. part_told R d.ptr vs so.0), ((λ d vs so. part_told R d.ptr vs so.0), tt))) (λ κs qs bounds a gh are.
    let d : Pt.Denot = a.0 in let e : Pt.Denot = a.1.0 in let p : Ptr = d.ptr in let r : Ptr = e.ptr in let n : ℕ = d.segment in let m : ℕ = e.segment in let k : ℕ = d.count in let j : ℕ = e.count in
    let y : (walk_of 𝓛 En hs c).Ghost = ((κs, qs, bounds, a, (part_val p ∷ [], (part_val r ∷ [], tt))), gh) in let Post : Val → SProp 𝓤 = (walk_of 𝓛 En hs c).post y in
    let Asked : Type 0 = (k ≡ 2 ^ 63) × (0 < j) in let Same : Type 0 = (d ≡ d) × (e ≡ e) in let Apart : Type 0 = n ≢ m in let out : Val = pair_val (part_val p) (part_val r) in
    qed 𝓛 ((raw (alive 𝓛 En.signature κs qs) ⊛ ‵ (owns (types_at En.signature.params κs) a y.0.4)) ∷ raw (fact 𝓤 _) ∷ raw (fact 𝓤 Asked) ∷ []) ∵
    keep ! (2 ∷ 0 ∷ []) $ heard ! Asked (λ asked.
    split ! $ move ! (1 ∷ []) $ fsplit3 ! $ fsplit ! $ keep ! (1 ∷ 2 ∷ 4 ∷ []) $
    move ! (1 ∷ []) $ fsplit ! $ drop ! $ fsplit ! $ move ! (2 ∷ []) $ fsplit ! $
    -- [the tokens; the items; the other tokens; the other's items; the lifetimes]
    move ! (0 ∷ 2 ∷ []) $
    enter ! 𝓣.C 𝓣.Λ fn (part_val p ∷ part_val r ∷ []) Post $ alloc_all ! (λ l. pass_all ! refl (part_good p, (part_good r, tt)) $
    use2 𝓛 (later (raw (fact 𝓤 Apart) ⊛ ‵ (tokens n k) ⊛ ‵ (tokens m j))) (names_differ 𝓛 n m k j asked.0) $ await ! tt $ split3 ! $ heard ! Apart (λ apart.
    move ! (1 ∷ 3 ∷ []) $ fjoin ! $ use0 𝓛 (‵ ((PartData R).own_val (r, tt) (part_val r ∷ []))) (part_made R 𝓛 r) $ fjoin ! $
    move ! (1 ∷ 2 ∷ []) $ fjoin ! $ use0 𝓛 (‵ ((PartData R).own_val (p, tt) (part_val p ∷ []))) (part_made R 𝓛 p) $ fjoin ! $
    -- [the whole; the other; the lifetimes]
    sets ! (of_opd ! (get_in ! (fld ! refl (stop !)) (sub ! 0 refl (whole !)))) refl (Ptr-Good p) $
    sets ! (of_opd ! (get_in ! (fld ! refl (stop !)) (sub ! 0 refl (whole !)))) refl (Ptr-Good r) $
    sets ! (agg ! (and_then ! (get ! refl) (no_more !))) refl (part_good p) $ sets ! (agg ! (and_then ! (get ! refl) (no_more !))) refl (part_good r) $
    sets ! (agg ! (and_then ! (get ! refl) (and_then ! (get ! refl) (no_more !)))) refl (pair_good part_ty part_ty (part_val p) (part_val r) (part_good p) (part_good r)) $
    nothing ! $ move ! (1 ∷ 2 ∷ 0 ∷ []) $ fjoin3 ! $ feq_i ! (List Val) (out ∷ []) (out ∷ []) refl $ fjoin ! $
    fpack ! (Valss (Pt ∷ Pt ∷ [])) (within (Declared.shape (tuple_type (Pt ∷ Pt ∷ []))) (d, (e, tt)) (out ∷ [])) (part_val p ∷ [], (part_val r ∷ [], tt)) $
    use0 𝓛 (raw (fact 𝓤 Apart)) (fact_i 𝓤 Apart (emp 𝓤) apart) $ use0 𝓛 (raw (fact 𝓤 Same)) (fact_i 𝓤 Same (emp 𝓤) (refl, refl)) $ join ! $
    nothing ! $ nothing ! $ fjoin ! $ nothing ! $ fjoin ! $
    returns ! (look_at ! 0 refl) $ free_all ! refl $ keep ! (3 ∷ 0 ∷ 2 ∷ 1 ∷ []) $ by ! (leaves 𝓛 En hs c y out (d, e) (tt, (tt, tt)) (tt, (tt, tt)))))))
