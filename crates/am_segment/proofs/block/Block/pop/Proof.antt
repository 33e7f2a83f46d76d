-- `pop`: the last item is read, and its place is room again.
use Rattle.std.proofs.Common.{◌≡◌, ℕ, ◌+◌, ◌*◌, ◌^◌, ◌<◌, ◌≤◌, List, [], ◌∷◌, ◌++◌, length, w64, refl, sym, ap, ◌∙◌, arith}
use Rattle.std.proofs.raw_atomic.Walks.{proved, leaves}
use Rattle.core.proofs.ptr.Rows.{times_below, one_below}
use Rattle.std_alloc.proofs.RcSteps.{Good}
use Rattle.std_alloc.proofs.VecSteps.El.{El, elτ, sz}
use Rattle.std_alloc.proofs.VecSteps.Rows.{el_out}
use Rattle.std_alloc.proofs.VecSteps.Shapes.{after}
use base.Fml.{ftrue, fat, froom, flft}
use base.Fraction.{full_share}
use base.Logic.{SProp, emp}
use contract.Monad.{fact, fact_i}
use contract.Running.{tables}
use mir.MapTy.{inst_fn}
use mir.Syntax.{a_type, dcons, dnil, named}
use mir.Val.{Val, vptr, vint}
use types.ByLocal.{alloc_all, pass_all, free_all, look_at, get, through, sets, sets_last, env}
use types.Kit.{‵, raw, ◌⊛◌, some, given, at_ret, ◌$◌, ◌∵◌, !, qed, by, move, keep, split, join, fsplit, fsplit3, fjoin, fjoin3, pick, learn, use0, use1, use2, rewrite, feq_i}
use types.Part.{sub, whole, look_in}
use types.Run.{stop, fld, load, look, of_opd, bin, size_lit, first, blocks, exec, returns, enter}
use denote.Builtin.{usize}
use denote.Exit.{yes}
use denote.Laws.{Is, shows}
use denote.Memory.{cell_at, part_at}
use denote.Param.{param, bounded}
use denote.Plain.{uint_vals, uint_Tells}
use denote.RattleType.{RattleType, owns}
use denote.RawPtr.{Ptr, block_ptr, in_a_block}
use denote.Ref.{mut_vals, mut_Tells}
use denote.Signature.{types_at, plain}
use denote.Steps.{nothing, heard, opens, closes, peeks}
use denote.Triple.Walked.{Stays, stay_dropped, stay_ref, walk_of, Goes-dropped, Goes-ref}
use Rattle.am_segment.specs.inside.Ownership.{block_owns}
use Rattle.am_segment.specs.contracts.block.Block as block
use Rattle.am_segment.specs.contracts.block.Block.pop as f
use Rattle.am_segment.proofs.Blocks.{fits, nowhere, Around, item_out, place_in, last_of}
use Rattle.am_segment.proofs.Values.{block_val, block_told}
use Rattle.am_segment.proofs.block.Block.pop.Statement.{statement}
use Rattle.am_segment.proofs.block.Block.pop.Code as code

pub pop_spec : {M : Type 1} → statement M
pop_spec 𝓤 𝓛 𝓜 𝓡 wired X Z L K g d dd met md =
    let H = 𝓛.H in let 𝓣 = tables 𝓤 H 𝓜 𝓡 𝓡.env in let R : RattleType = param 0 X in let P : RattleType = param 1 Z in
    let E : El = record { row = X; laws = L; al = record { row = Z; laws = K; g = g; d = d; drops = dd } } in
    let En = f.ended X Z g d dd in let c = f.clauses X Z g d dd 𝓛 𝓜.mem 𝓡.returns in
    let inst = bounded (a_type ∷ a_type ∷ []) (X, (Z, tt)) (dcons d (dcons dd dnil)) in let fn = inst_fn inst code.function in
    let Bl : RattleType = block.the_row R P g in
    let hs : Stays En.signature.params En.kept = (stay_ref (0 ∷ []) tt (plain (λ _. Bl)), (stay_dropped (plain (λ _. usize)) yes, tt)) in
    proved 𝓛 En hs c 𝓜 𝓡 (Goes-ref 𝓛 3 0 tt (plain (λ _. Bl)), (Goes-dropped 𝓛 3 (plain (λ _. usize)) yes (λ κs x w. refl), tt)) (f.Key.name inst) fn (code.unfolded 𝓤 H 𝓜 𝓡 wired (X, (Z, tt)) d dd)
    (λ κs. (mut_vals, (uint_vals w64, tt))) (λ κs. (mut_Tells (named 0) κs.0 Bl, (uint_Tells w64, tt))) (λ κs qs bounds a gh are.
    let b : ℕ = a.0.ref_ptr.0 in let o : ℕ = a.0.ref_ptr.1 in let v : Bl.Denot = a.0.now in let n : ℕ = a.1.0 in let s : ℕ = sz E in
    let y : (walk_of 𝓛 En hs c).Ghost = ((κs, qs, bounds, a, (mut_vals a.0, (uint_vals w64 n, tt))), gh) in let Post : Val → SProp 𝓤 = (walk_of 𝓛 En hs c).post y in
    let tok = g.dealloc_token v.alloc in let Asked : Type 0 = (n + 1 ≡ length v.items) × (n + 1 ≤ v.places) in
    qed 𝓛 (((‵ (flft κs.0 qs.0) ⊛ ‵ (flft κs.1.0 qs.1.0) ⊛ ‵ (flft κs.1.1.0 qs.1.1.0) ⊛ ‵ ftrue) ⊛ ‵ (owns (types_at En.signature.params κs) a y.0.4)) ∷ raw (fact 𝓤 _) ∷ raw (fact 𝓤 _) ∷ raw (fact 𝓤 Asked) ∷ []) ∵
    keep ! (3 ∷ 0 ∷ []) $ heard ! Asked (λ asked. split ! $ split ! $ move ! (2 ∷ []) $ fsplit ! $ fsplit3 ! $ keep ! (1 ∷ 2 ∷ 4 ∷ 5 ∷ []) $
    enter ! 𝓣.C 𝓣.Λ fn (vptr b o ∷ vint w64 n ∷ []) Post $ alloc_all ! (λ l. pass_all ! refl ((tt, tt), ((tt, record { fits = are.1.0.1 }), tt)) $
    opens ! tt Bl b o (λ us. move ! (1 ∷ []) $ peeks ! Bl (Is Bl) (shows 𝓛 Bl) v us (λ is. fsplit ! $ move ! (1 ∷ []) $
    -- [the block; its fields; the cell of those; the open borrow, in three entries; the other lifetimes]
    use1 𝓛 (given (v.places * s < 2 ^ 63) (‵ (block_owns tok R v.ptr v.places v.items))) (fits E 𝓛 tok v.places v.ptr v.items) $ learn ! (λ small.
    in_a_block ! v.ptr (λ q. block_owns tok R q v.places v.items) (nowhere E 𝓛 tok v.places v.items) (λ b' o' e.
    let word : us ≡ block_val (block_ptr b' o') ∷ [] = block_told R P g v.ptr us is.0 ∙ ap (λ (q : Ptr). block_val q ∷ []) e in
    let last = last_of n v.items asked.0 in let xs = last.0 in let x = last.1 in let at : ℕ = n * s + o' in let some_left : n < v.places = omega (arith, asked.1) in
    let tiny : s < 2 ^ 64 = omega (arith, one_below v.places s (2 ^ 63) (omega arith) small) in let far : n * s < 2 ^ 64 = omega (arith, times_below n v.places s (2 ^ 63) (omega arith) small) in
    let new : Bl.Denot = record v { items = xs } in let Left : Type 0 = v.items ≡ xs ++ x ∷ [] in let Same : Type 0 = (v.places ≡ v.places) × (v.alloc ≡ v.alloc) in
    rewrite ! 2 (λ (ws : List Val). ‵ (cell_at full_share Bl.mir ws b o)) word refl $
    rewrite ! 0 (λ (l : List X.Denot). ‵ (block_owns tok R (block_ptr b' o') v.places l)) last.2 refl $
    use1 𝓛 (‵ (part_at R full_share x b' at) ⊛ ‵ (Around E 𝓛 tok v.places b' o' small n xs)) (item_out E 𝓛 tok v.places b' o' small n xs x last.3) $ split ! $
    use1 𝓛 (some (λ (w : Val). given (Good (elτ E) w) (‵ (fat full_share (elτ E) b' at w) ⊛ ‵ (X.own_val x (w ∷ []))))) (el_out E 𝓛 full_share x b' at) $
    pick ! (λ w. learn ! (λ good. split ! $ first ! $ blocks ! $
    sets ! (of_opd ! (load ! (through ! refl (fld ! refl (stop !))) (look_in ! 4 (sub ! 0 refl (whole !))))) refl (tt, tt) $
    sets ! (bin ! (get ! refl) (size_lit ! (record { fits = tiny })) (record { fits = far })) refl (tt, record { fits = far }) $
    sets ! (bin ! (get ! refl) (get ! refl) tt) refl (tt, tt) $
    sets_last ! (of_opd ! (load ! (through ! refl (stop !)) (look ! 0 refl))) refl good $
    exec ! 𝓣.C 𝓣.Λ (env fn.locals l) (after 1 fn.body) (at_ret (env fn.locals l) Post) $ sets ! (of_opd ! (get ! refl)) refl good $
    -- [the place; the item; the rest of the block; its fields; their cell; the open borrow; the other lifetimes]
    use1 𝓛 (‵ (froom (elτ E) b' at)) (𝓛.laws.at_room (elτ E) b' at w) $ move ! (0 ∷ 2 ∷ []) $
    use2 𝓛 (‵ (block_owns tok R (block_ptr b' o') v.places xs)) (place_in E 𝓛 tok v.places b' o' small n xs last.3 some_left) $
    rewrite ! 0 (λ (q : Ptr). ‵ (block_owns tok R q v.places xs)) (sym e) refl $ rewrite ! 3 (λ (ws : List Val). ‵ (cell_at full_share Bl.mir ws b o)) (sym word) refl $
    move ! (2 ∷ 0 ∷ []) $ fjoin ! $ move ! (2 ∷ 0 ∷ 3 ∷ 4 ∷ 5 ∷ []) $ closes ! tt Bl new us b o $
    feq_i ! (List Val) (vptr b o ∷ []) (vptr b o ∷ []) refl $ fjoin3 ! $ nothing ! $ nothing ! $ fjoin ! $ move ! (1 ∷ 0 ∷ []) $ fjoin ! $ move ! (1 ∷ 3 ∷ []) $ join ! $
    use0 𝓛 (raw (fact 𝓤 Same)) (fact_i 𝓤 Same (emp 𝓤) (refl, refl)) $ use0 𝓛 (raw (fact 𝓤 Left)) (fact_i 𝓤 Left (emp 𝓤) last.2) $ join ! $
    returns ! (look_at ! 0 refl) $ free_all ! refl $ keep ! (1 ∷ 2 ∷ 3 ∷ 0 ∷ []) $ by ! (leaves 𝓛 En hs c y w x (new, (tt, tt)) (tt, (tt, tt))))))))))))
