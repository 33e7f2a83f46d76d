-- `push`: the place behind the items is written.
use Rattle.std.proofs.Common.{◌≡◌, ℕ, ◌+◌, ◌*◌, ◌^◌, ◌<◌, List, [], ◌∷◌, ◌++◌, length, w64, refl, sym, ap, ◌∙◌, subst, arith}
use Rattle.std.proofs.raw_atomic.Walks.{proved_at, leaves}
use Rattle.core.proofs.alloc.Calls.{Al, handle_tells}
use Rattle.core.proofs.ptr.Rows.{times_below, one_below}
use Rattle.std_alloc.proofs.VecSteps.El.{El, elτ, sz, no_al}
use Rattle.std_alloc.proofs.VecSteps.Rows.{el_in}
use Rattle.std_alloc.proofs.VecSteps.Shapes.{after}
use base.Fml.{ftrue, froom, flft}
use base.Fraction.{full_share}
use base.Logic.{SProp, ent, emp, id⊢}
use contract.Monad.{fact, fact_i}
use contract.Running.{tables}
use mir.MapTy.{inst_fn}
use mir.Syntax.{a_type, dcons, dnil}
use mir.Val.{Val, vptr, vint, vunit}
use types.ByLocal.{alloc_all, pass_all, free_all, look_at, get, through, sets, env}
use types.Kit.{‵, raw, ◌⊛◌, given, at_ret, ◌$◌, ◌∵◌, !, qed, by, move, keep, split, join, fsplit, fsplit3, fjoin, fjoin3, learn, use0, use1, use2, rewrite, suffices, feq_i, feq_l, flt_l}
use types.Part.{sub, whole, look_in}
use types.Run.{stop, fld, load, of_opd, unit_lit, init, assigns_last, bin, size_lit, first, blocks, exec, returns, enter}
use denote.Builtin.{usize}
use denote.Exit.{yes, no}
use denote.Laws.{Is, shows}
use denote.Memory.{cell_at, part_at}
use denote.Param.{param, bounded}
use denote.RattleType.{RattleType, owns}
use denote.RawPtr.{Ptr, block_ptr, in_a_block}
use denote.Signature.{types_at, plain}
use denote.Steps.{nothing, heard, opens, closes, peeks}
use denote.Triple.Walked.{Stays, stay_dropped, stay_ref, walk_of, Goes-dropped, Goes-ref}
use Rattle.am_segment.specs.inside.Ownership.{block_owns}
use Rattle.am_segment.specs.contracts.block.Block as block
use Rattle.am_segment.specs.contracts.block.Block.push as f
use Rattle.am_segment.proofs.Blocks.{fits, nowhere, Around, place_out, item_in}
use Rattle.am_segment.proofs.Values.{block_val, block_told}
use Rattle.am_segment.proofs.block.Block.push.Statement.{statement}
use Rattle.am_segment.proofs.block.Block.push.Code as code

pub push_spec : {M : Type 1} → statement M
push_spec 𝓤 𝓛 𝓜 𝓡 wired X Z L K g d dd met md =
    let H = 𝓛.H in let 𝓣 = tables 𝓤 H 𝓜 𝓡 𝓡.env in let R : RattleType = param 0 X in let P : RattleType = param 1 Z in
    let E : El = record { row = X; laws = L; al = record { row = Z; laws = K; g = g; d = d; drops = dd } } in let Y : Al = record { row = X; laws = L; g = record { dealloc_token = λ _ _ _. ftrue }; d = no_al.d; drops = no_al.drops } in
    let En = f.ended X Z g d dd in let c = f.clauses X Z g d dd 𝓛 𝓜.mem 𝓡.returns in
    let inst = bounded (a_type ∷ a_type ∷ []) (X, (Z, tt)) (dcons d (dcons dd dnil)) in let fn = inst_fn inst code.function in
    let Bl : RattleType = block.the_row R P g in
    let hs : Stays En.signature.params En.kept = (stay_ref (0 ∷ []) tt (plain (λ _. Bl)), (stay_dropped (plain (λ _. usize)) yes, (stay_dropped (plain (λ _. R)) no, tt))) in
    proved_at 𝓛 En hs c 𝓜 𝓡 (Goes-ref 𝓛 3 0 tt (plain (λ _. Bl)), (Goes-dropped 𝓛 3 (plain (λ _. usize)) yes (λ κs x w. refl), (Goes-dropped 𝓛 3 (plain (λ _. R)) no (λ κs x w. refl), tt))) (f.Key.name inst) fn (code.unfolded 𝓤 H 𝓜 𝓡 wired (X, (Z, tt)) d dd) (λ y are.
    let κs = y.0.0 in let qs = y.0.1 in let a = y.0.3 in let vss = y.0.4 in
    let b : ℕ = a.0.ref_ptr.0 in let o : ℕ = a.0.ref_ptr.1 in let v : Bl.Denot = a.0.now in let n : ℕ = a.1.0 in let x : X.Denot = a.1.1.0 in let s : ℕ = sz E in
    let Post : Val → SProp 𝓤 = (walk_of 𝓛 En hs c).post y in let Run : List Val → SProp 𝓤 = λ ws. prog.Wp.WpFn 𝓤 H 𝓣.C 𝓣.Λ fn ws Post in
    let tok = g.dealloc_token v.alloc in let Asked : Type 0 = (n ≡ length v.items) × (n < v.places) in
    let new : Bl.Denot = record v { items = v.items ++ x ∷ [] } in
    qed 𝓛 (((‵ (flft κs.0 qs.0) ⊛ ‵ (flft κs.1.0 qs.1.0) ⊛ ‵ (flft κs.1.1.0 qs.1.1.0) ⊛ ‵ ftrue) ⊛ ‵ (owns (types_at En.signature.params κs) a vss)) ∷ raw (fact 𝓤 _) ∷ raw (fact 𝓤 _) ∷ raw (fact 𝓤 Asked) ∷ []) ∵
    keep ! (3 ∷ 0 ∷ []) $ heard ! Asked (λ asked. split ! $ split ! $ move ! (2 ∷ []) $ fsplit3 ! $ fsplit3 ! $ feq_l ! (λ e0.
    move ! (2 ∷ []) $ fsplit ! $ feq_l ! (λ e1. flt_l ! (λ fits_n. move ! (2 ∷ []) $ fsplit ! $ handle_tells Y ! x vss.1.1.0 (λ w e2 good. keep ! (0 ∷ 2 ∷ 3 ∷ 4 ∷ 5 ∷ []) $
    let args : List Val = vptr b o ∷ vint w64 n ∷ w ∷ [] in
    suffices ! (Run args) (subst (λ (ws : List Val × List Val × List Val). ent 𝓤 (Run args) (Run (ws.0 ++ (ws.1 ++ (ws.2 ++ []))))) (λ j. (sym e0 j, sym e1 j, sym e2 j)) (id⊢ 𝓤 (Run args))) $
    enter ! 𝓣.C 𝓣.Λ fn args Post $ alloc_all ! (λ l. pass_all ! refl ((tt, tt), ((tt, record { fits = fits_n }), (good, tt))) $
    move ! (1 ∷ 2 ∷ 3 ∷ []) $ opens ! tt Bl b o (λ us. move ! (1 ∷ []) $ peeks ! Bl (Is Bl) (shows 𝓛 Bl) v us (λ is. fsplit ! $ move ! (1 ∷ []) $
    -- [the block; its fields; the cell of those; the open borrow, in three entries; the item; the other lifetimes]
    use1 𝓛 (given (v.places * s < 2 ^ 63) (‵ (block_owns tok R v.ptr v.places v.items))) (fits E 𝓛 tok v.places v.ptr v.items) $ learn ! (λ small.
    in_a_block ! v.ptr (λ q. block_owns tok R q v.places v.items) (nowhere E 𝓛 tok v.places v.items) (λ b' o' e.
    let word : us ≡ block_val (block_ptr b' o') ∷ [] = block_told R P g v.ptr us is.0 ∙ ap (λ (q : Ptr). block_val q ∷ []) e in let at : ℕ = n * s + o' in
    let tiny : s < 2 ^ 64 = omega (arith, one_below v.places s (2 ^ 63) (omega (arith, asked.1)) small) in let far : n * s < 2 ^ 64 = omega (arith, times_below n v.places s (2 ^ 63) (omega (arith, asked.1)) small) in
    rewrite ! 2 (λ (ws : List Val). ‵ (cell_at full_share Bl.mir ws b o)) word refl $
    use1 𝓛 (‵ (froom (elτ E) b' at) ⊛ ‵ (Around E 𝓛 tok v.places b' o' small n v.items)) (place_out E 𝓛 tok v.places b' o' small n v.items asked.0 asked.1) $ split ! $ first ! $ blocks ! $
    sets ! (of_opd ! (load ! (through ! refl (fld ! refl (stop !))) (look_in ! 3 (sub ! 0 refl (whole !))))) refl (tt, tt) $
    sets ! (bin ! (get ! refl) (size_lit ! (record { fits = tiny })) (record { fits = far })) refl (tt, record { fits = far }) $
    sets ! (bin ! (get ! refl) (get ! refl) tt) refl (tt, tt) $ sets ! (of_opd ! (get ! refl)) refl good $
    assigns_last ! (of_opd ! (get ! refl)) (through ! refl (stop !)) (init ! 0 refl good) $
    exec ! 𝓣.C 𝓣.Λ (env fn.locals l) (after 1 fn.body) (at_ret (env fn.locals l) Post) $ sets ! (of_opd ! (unit_lit !)) refl (tt, tt) $
    -- [the item's cell; the rest of the block; its fields; their cell; the open borrow; the item; the other lifetimes]
    move ! (0 ∷ 7 ∷ []) $ use2 𝓛 (‵ (part_at R full_share x b' at)) (el_in E 𝓛 full_share x b' at w) $
    use2 𝓛 (‵ (block_owns tok R (block_ptr b' o') v.places new.items)) (item_in E 𝓛 tok v.places b' o' small n v.items x asked.0) $
    rewrite ! 0 (λ (q : Ptr). ‵ (block_owns tok R q v.places new.items)) (sym e) refl $ rewrite ! 2 (λ (ws : List Val). ‵ (cell_at full_share Bl.mir ws b o)) (sym word) refl $
    move ! (1 ∷ 0 ∷ []) $ fjoin ! $ move ! (1 ∷ 0 ∷ []) $ closes ! tt Bl new us b o $
    feq_i ! (List Val) vss.0 (vptr b o ∷ []) e0 $ fjoin3 ! $ nothing ! $ nothing ! $ fjoin ! $ nothing ! $ fjoin ! $ move ! (1 ∷ 0 ∷ []) $ fjoin ! $ move ! (1 ∷ 2 ∷ []) $ join ! $
    feq_i ! (List Val) (vunit ∷ []) (vunit ∷ []) refl $ use0 𝓛 (raw (fact 𝓤 (new ≡ new))) (fact_i 𝓤 (new ≡ new) (emp 𝓤) refl) $
    returns ! (look_at ! 0 refl) $ free_all ! refl $ keep ! (2 ∷ 3 ∷ 1 ∷ 0 ∷ []) $ by ! (leaves 𝓛 En hs c y vunit tt (new, (tt, (tt, tt))) (tt, (tt, (tt, tt)))))))))))))))
