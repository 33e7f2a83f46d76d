-- `items`: the right to read shows the items as a slice.
use Rattle.std.proofs.Common.{◌≡◌, ℕ, ◌*◌, ◌^◌, ◌<◌, ◌≤◌, List, [], ◌∷◌, length, w64, refl, sym, ap, ◌∙◌, subst}
use native.Mathlib.Nat.{mul-le-mul_right, lt_of_le_of_lt}
use Rattle.std.proofs.raw_atomic.Walks.{proved, leaves}
use Rattle.std.specs.Mem.{type_size}
use Rattle.std_alloc.proofs.VecSteps.Shapes.{after}
use Rattle.left_right.proofs.PartSteps.{part_sees}
use base.Fml.{Lft, Fml, ftrue, fsep, fhide, flft}
use base.Logic.{SProp, emp}
use contract.Monad.{fact, fact_i}
use contract.Running.{tables}
use mir.MapTy.{inst_fn}
use mir.Syntax.{a_type, named}
use mir.Val.{Val, vptr, vint}
use types.ByLocal.{alloc_all, pass_all, free_all, look_at, get, through, sets, sets_last, env}
use types.Kit.{‵, raw, ◌⊛◌, at_ret, ◌$◌, ◌∵◌, !, qed, by, move, keep, drop, split, join, fsplit, fjoin, use0, use1, rewrite, feq_i, flt_i, flt_l}
use types.Part.{agg, sub, whole, look_in}
use types.Run.{stop, fld, load, of_opd, no_more, and_then, first, blocks, exec, returns, enter}
use denote.Builtin.{RefOf, usize}
use denote.Exit.{yes}
use denote.Laws.{Is, shows}
use denote.Memory.{cell_at, hidden_shr}
use denote.Opens.{unhide, hide}
use denote.Param.{param, layouts}
use denote.Param.Laws.{param_laws}
use denote.Plain.{uint_vals, uint_Tells}
use denote.RattleType.{RattleType, owns}
use denote.RawPtr.{Ptr, InBlock, block_ptr, block_of, count_of, at_block}
use denote.Ref.{shr_vals, shr_Tells}
use denote.Signature.{types_at, plain}
use denote.Slice.{slice_val}
use denote.Steps.{nothing, heard, looks, shuts, peeks}
use denote.Struct.Lending.{in_block_says, lent_out}
use denote.Triple.Walked.{Stays, stay_dropped, walk_of, Goes-dropped}
use Rattle.am_segment.specs.inside.Ownership.{front_lent, part_shares}
use Rattle.am_segment.specs.contracts.block.Part as part
use Rattle.am_segment.specs.contracts.block.Part.items as f
use Rattle.am_segment.proofs.Fronts.{front_laws}
use Rattle.am_segment.proofs.Values.{PartData, part_val, part_told, part_opens}
use Rattle.am_segment.proofs.block.Part.items.Statement.{statement}
use Rattle.am_segment.proofs.block.Part.items.Code as code

pub items_spec : {M : Type 1} → statement M
items_spec 𝓤 𝓛 𝓜 𝓡 wired X L =
    let H = 𝓛.H in let 𝓣 = tables 𝓤 H 𝓜 𝓡 𝓡.env in let R : RattleType = param 0 X in let LR = param_laws 0 X L in
    let En = f.ended X in let c = f.clauses X 𝓛 𝓜.mem 𝓡.returns in let inst = layouts (a_type ∷ []) (X, tt) in let fn = inst_fn inst code.function in
    let Pt : RattleType = part.the_row R in let D : RattleType = PartData R in let self = RefOf (0 ∷ []) tt (plain (λ _. Pt)) (λ _. tt) in
    let hs : Stays En.signature.params En.kept = (stay_dropped self yes, (stay_dropped (plain (λ _. usize)) yes, tt)) in
    proved 𝓛 En hs c 𝓜 𝓡 (Goes-dropped 𝓛 2 self yes (λ κs x w. refl), (Goes-dropped 𝓛 2 (plain (λ _. usize)) yes (λ κs x w. refl), tt)) (f.Key.name inst) fn (code.unfolded 𝓤 H 𝓜 𝓡 wired (X, tt))
    (λ κs. (shr_vals, (uint_vals w64, tt))) (λ κs. (shr_Tells (named 0) κs.0 Pt, (uint_Tells w64, tt))) (λ κs qs bounds a gh are.
    let b : ℕ = a.0.ref_ptr.0 in let o : ℕ = a.0.ref_ptr.1 in let κ : Lft = κs.0 in let v : Pt.Denot = a.0.now in let p : Ptr = v.ptr in let xs = v.items in let n : ℕ = a.1.0 in
    let y : (walk_of 𝓛 En hs c).Ghost = ((κs, qs, bounds, a, (vptr b o ∷ [], (uint_vals w64 n, tt))), gh) in let Post : Val → SProp 𝓤 = (walk_of 𝓛 En hs c).post y in
    let others : Fml = fsep (flft κs.1.0 qs.1.0) ftrue in let fits : n < 2 ^ 64 = are.1.0.1 in let there : Val = slice_val (block_of p, count_of p) n in
    let t : Lft → Fml = front_lent R p v.places xs in let Asked : Type 0 = (n ≡ length xs) × (n ≤ v.places) in
    qed 𝓛 (((‵ (flft κ qs.0) ⊛ ‵ others) ⊛ ‵ (owns (types_at En.signature.params κs) a y.0.4)) ∷ raw (fact 𝓤 _) ∷ raw (fact 𝓤 Asked) ∷ []) ∵
    keep ! (2 ∷ 0 ∷ []) $ heard ! Asked (λ asked. let long = asked.0 in split ! $ split ! $ move ! (2 ∷ []) $ fsplit ! $ fsplit ! $ keep ! (1 ∷ 3 ∷ 4 ∷ []) $
    enter ! 𝓣.C 𝓣.Λ fn (vptr b o ∷ vint w64 n ∷ []) Post $ alloc_all ! (λ l. pass_all ! refl ((tt, tt), ((tt, record { fits = fits }), tt)) $
    use1 𝓛 (‵ (hidden_shr D κ (p, tt) b o) ⊛ ‵ (fhide (part_shares R p v.places xs v.segment κ))) (lent_out 𝓛 (part.struct R) (part.the_codes X.Denot R.coded) (part.the_heap R) (part.the_lent R) κ v b o) $
    split ! $ move ! (1 ∷ []) $ unhide ! $ use1 𝓛 (‵ (t κ)) (part_sees t (front_laws R LR p v.places xs) 𝓛 v.segment κ) $
    fsplit ! $ flt_l ! (λ small. fsplit ! $ use1 𝓛 (raw (fact 𝓤 (InBlock p))) (in_block_says 𝓛 p) $ heard ! (InBlock p) (λ there_is. fsplit ! $ drop ! $ hide ! $ move ! (1 ∷ 2 ∷ []) $
    -- [the fields; the lifetime; the items; the other lifetimes]
    looks ! tt D (part_opens R 𝓛) (p, tt) b o (λ q vs. move ! (1 ∷ []) $ peeks ! D (Is D) (shows 𝓛 D) (p, tt) vs (λ so.
    let word : vs ≡ part_val (block_ptr (block_of p) (count_of p)) ∷ [] = part_told R p vs so ∙ ap (λ (r : Ptr). part_val r ∷ []) (at_block p there_is) in
    rewrite ! 1 (λ (ws : List Val). ‵ (cell_at q D.mir ws b o)) word refl $ first ! $ blocks ! $
    sets ! (of_opd ! (load ! (through ! refl (fld ! refl (stop !))) (look_in ! 1 (sub ! 0 refl (whole !))))) refl (tt, tt) $
    sets_last ! (agg ! (and_then ! (get ! refl) (and_then ! (get ! refl) (no_more !)))) refl (tt, (tt, (record { fits = fits }, tt))) $
    exec ! 𝓣.C 𝓣.Λ (env fn.locals l) (after 1 fn.body) (at_ret (env fn.locals l) Post) $ sets ! (of_opd ! (get ! refl)) refl (tt, (tt, (record { fits = fits }, tt))) $
    rewrite ! 1 (λ (ws : List Val). ‵ (cell_at q D.mir ws b o)) (sym word) refl $ move ! (1 ∷ 0 ∷ 2 ∷ []) $ shuts ! tt D q (p, tt) vs b o $ move ! (0 ∷ 3 ∷ []) $ join ! $
    -- [the lifetimes; the fields; the items]
    move ! (2 ∷ []) $ flt_i ! (length xs * type_size R) (2 ^ 63) (lt_of_le_of_lt (mul-le-mul_right (type_size R) (subst (λ k. k ≤ v.places) long asked.1)) small) $ flt_i ! (length xs) (2 ^ 64) (subst (λ k. k < 2 ^ 64) long fits) $ fjoin ! $
    feq_i ! (List Val) (there ∷ []) (slice_val (block_of p, count_of p) (length xs) ∷ []) (ap (λ k. slice_val (block_of p, count_of p) k ∷ []) long) $ fjoin ! $ fjoin ! $
    use0 𝓛 (raw (fact 𝓤 (xs ≡ xs))) (fact_i 𝓤 (xs ≡ xs) (emp 𝓤) refl) $ nothing ! $ nothing ! $ fjoin ! $ nothing ! $ fjoin ! $
    returns ! (look_at ! 0 refl) $ free_all ! refl $ keep ! (3 ∷ 0 ∷ 2 ∷ 1 ∷ []) $ by ! (leaves 𝓛 En hs c y there (record { ref_ptr = (block_of p, count_of p); now = xs }) (tt, (tt, tt)) (tt, (tt, tt))))))))))
