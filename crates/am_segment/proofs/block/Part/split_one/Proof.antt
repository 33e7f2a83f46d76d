-- `split_one`: the tokens are cut in two, and each half gets the right to read.
use Rattle.std.proofs.Common.{◌≡◌, ℕ, ◌-◌, ◌^◌, ◌<◌, ◌≤◌, List, [], ◌∷◌, drop, w64, refl, arith}
use Rattle.std.proofs.raw_atomic.Walks.{proved, leaves}
use Rattle.std_alloc.proofs.RcSteps.{Ptr-Good}
use Rattle.left_right.specs.Parted.{tokens}
use Rattle.left_right.proofs.PartSteps.{tokens_cut}
use base.Fml.{Lft, Fml}
use base.Logic.{SProp, emp}
use contract.Monad.{fact, fact_i}
use contract.Running.{tables}
use mir.MapTy.{inst_fn}
use mir.Syntax.{a_type}
use mir.Val.{Val, vint}
use types.ByLocal.{alloc_all, pass_all, free_all, look_at, get, get_in, sets}
use types.Kit.{‵, raw, ◌⊛◌, ◌$◌, ◌∵◌, !, qed, by, move, keep, split, join, fsplit, fjoin, fjoin3, fpack, use0, use1, feq_i}
use types.Part.{agg, sub, whole}
use types.Run.{stop, fld, of_opd, no_more, and_then, returns, enter}
use denote.Builtin.{usize}
use denote.Exit.{yes, no}
use denote.Param.{param, layouts}
use denote.Param.Laws.{param_laws}
use denote.Plain.{uint_vals, uint_Tells}
use denote.RattleType.{RattleType, Valss, owns}
use denote.RawPtr.{Ptr}
use denote.SharingLaws.{contraction}
use denote.Signature.{types_at, plain}
use denote.Steps.{nothing, heard}
use denote.Struct.Declared as Declared
use denote.Struct.Struct.{within}
use denote.Struct.Tuple.{tuple_type}
use denote.Triple.Entry.{alive}
use denote.Triple.Walked.{Stays, stay_dropped, walk_of, Goes-dropped}
use Rattle.am_segment.specs.inside.Ownership.{front_lent}
use Rattle.am_segment.specs.contracts.block.Part as part
use Rattle.am_segment.specs.contracts.block.Part.split_one as f
use Rattle.am_segment.proofs.Fronts.{front_laws}
use Rattle.am_segment.proofs.Values.{PartData, part_val, part_good, part_told, part_made, part_ty, pair_val, pair_good}
use Rattle.am_segment.proofs.block.Part.split_one.Statement.{statement}
use Rattle.am_segment.proofs.block.Part.split_one.Code as code

pub split_one_spec : {M : Type 1} → statement M
split_one_spec 𝓤 𝓛 𝓜 𝓡 wired X L =
    let H = 𝓛.H in let 𝓣 = tables 𝓤 H 𝓜 𝓡 𝓡.env in let R : RattleType = param 0 X in let LR = param_laws 0 X L in
    let En = f.ended X in let c = f.clauses X 𝓛 𝓜.mem 𝓡.returns in let inst = layouts (a_type ∷ []) (X, tt) in let fn = inst_fn inst code.function in
    let Pt : RattleType = part.the_row R in let hs : Stays En.signature.params En.kept = (stay_dropped (plain (λ _. Pt)) no, (stay_dropped (plain (λ _. usize)) yes, tt)) in
    proved 𝓛 En hs c 𝓜 𝓡 (Goes-dropped 𝓛 1 (plain (λ _. Pt)) no (λ κs x w. refl), (Goes-dropped 𝓛 1 (plain (λ _. usize)) yes (λ κs x w. refl), tt)) (f.Key.name inst) fn (code.unfolded 𝓤 H 𝓜 𝓡 wired (X, tt))
    (λ κs. ((λ d. part_val d.ptr ∷ []), (uint_vals w64, tt))) (λ κs. ((λ d vs so. part_told R d.ptr vs so.0), (uint_Tells w64, tt))) (λ κs qs bounds a gh are.
    let d : Pt.Denot = a.0 in let p : Ptr = d.ptr in let n : ℕ = d.segment in let k : ℕ = d.count in let m : ℕ = a.1.0 in
    let t : Lft → Fml = front_lent R p d.places d.items in let laws = front_laws R LR p d.places d.items in let seen : Fml = t (n ∷ []) in
    let y : (walk_of 𝓛 En hs c).Ghost = ((κs, qs, bounds, a, (part_val p ∷ [], (uint_vals w64 m, tt))), gh) in let Post : Val → SProp 𝓤 = (walk_of 𝓛 En hs c).post y in
    let rest : Pt.Denot = record d { count = k - 1; numbers = drop 1 d.numbers } in let new : Pt.Denot = record d { numbers = m ∷ []; count = 1 } in
    let out : Val = pair_val (part_val p) (part_val p) in let Asked : Type 0 = (1 < k) × (k ≤ 2 ^ 63) in
    let One : Type 0 = new ≡ new in let Others : Type 0 = rest ≡ rest in
    qed 𝓛 ((raw (alive 𝓛 En.signature κs qs) ⊛ ‵ (owns (types_at En.signature.params κs) a y.0.4)) ∷ raw (fact 𝓤 _) ∷ raw (fact 𝓤 Asked) ∷ []) ∵
    keep ! (2 ∷ 0 ∷ []) $ heard ! Asked (λ asked. let many = asked.0 in split ! $ move ! (1 ∷ []) $ fsplit ! $ fsplit ! $ keep ! (1 ∷ 3 ∷ []) $ fsplit ! $
    use1 𝓛 (‵ (tokens n 1) ⊛ ‵ (tokens n (k - 1))) (tokens_cut 𝓛 n k 1 (k - 1) (omega arith) (omega arith) (omega arith) asked.1) $ split ! $ move ! (2 ∷ []) $
    use1 𝓛 (‵ seen ⊛ ‵ seen) (contraction 𝓛 t laws (n ∷ [])) $ split ! $
    -- [the items, twice; one token; the other tokens; the lifetimes]
    move ! (3 ∷ 0 ∷ []) $ fjoin ! $ use0 𝓛 (‵ ((PartData R).own_val (p, tt) (part_val p ∷ []))) (part_made R 𝓛 p) $ fjoin ! $
    move ! (2 ∷ 1 ∷ []) $ fjoin ! $ use0 𝓛 (‵ ((PartData R).own_val (p, tt) (part_val p ∷ []))) (part_made R 𝓛 p) $ fjoin ! $
    -- [the one part; the others; the lifetimes]
    enter ! 𝓣.C 𝓣.Λ fn (part_val p ∷ vint w64 m ∷ []) Post $ alloc_all ! (λ l. pass_all ! refl (part_good p, ((tt, record { fits = are.1.0.1 }), tt)) $
    sets ! (of_opd ! (get_in ! (fld ! refl (stop !)) (sub ! 0 refl (whole !)))) refl (Ptr-Good p) $
    sets ! (agg ! (and_then ! (get ! refl) (no_more !))) refl (part_good p) $ sets ! (agg ! (and_then ! (get ! refl) (no_more !))) refl (part_good p) $
    sets ! (agg ! (and_then ! (get ! refl) (and_then ! (get ! refl) (no_more !)))) refl (pair_good part_ty part_ty (part_val p) (part_val p) (part_good p) (part_good p)) $
    nothing ! $ move ! (1 ∷ 2 ∷ 0 ∷ []) $ fjoin3 ! $ feq_i ! (List Val) (out ∷ []) (out ∷ []) refl $ fjoin ! $
    fpack ! (Valss (Pt ∷ Pt ∷ [])) (within (Declared.shape (tuple_type (Pt ∷ Pt ∷ []))) (new, (rest, tt)) (out ∷ [])) (part_val p ∷ [], (part_val p ∷ [], tt)) $
    use0 𝓛 (raw (fact 𝓤 Others)) (fact_i 𝓤 Others (emp 𝓤) refl) $ use0 𝓛 (raw (fact 𝓤 One)) (fact_i 𝓤 One (emp 𝓤) refl) $ join ! $
    nothing ! $ nothing ! $ fjoin ! $ nothing ! $ fjoin ! $
    returns ! (look_at ! 0 refl) $ free_all ! refl $ keep ! (3 ∷ 0 ∷ 2 ∷ 1 ∷ []) $ by ! (leaves 𝓛 En hs c y out (new, rest) (tt, (tt, tt)) (tt, (tt, tt))))))
