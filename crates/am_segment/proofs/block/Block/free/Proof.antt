-- `free`: the places are room again, and go back with the right to free them.
use Rattle.std.proofs.Common.{◌≡◌, ℕ, ◌*◌, ◌^◌, ◌<◌, List, [], ◌∷◌, w64, refl, sym, ap, subst, arith, T}
use Rattle.std.proofs.raw_atomic.Walks.{proved, leaves}
use Rattle.core.proofs.alloc.Calls.{Al, Gives, at_gives, Gives-goes, Gives-Gives, Goes-blank}
use Rattle.core.proofs.mem.Param as param'
use Rattle.core.proofs.slots.Leases.{uncapped, block_ty, block_size, block_align}
use Rattle.std_alloc.proofs.RawLayout.{as_raw}
use Rattle.std_alloc.proofs.RcSteps.{Ptr-Good}
use Rattle.std_alloc.proofs.VecSteps.El.{El, elτ, sz}
use Rattle.std_alloc.proofs.VecSteps.Shapes.{after}
use Rattle.am_segment.specs.inside.Ownership.{block_owns}
use base.Fml.{Lft, Incl-trans, ftrue, flft}
use base.Logic.{SProp, emp}
use contract.BorrowLft.{◌⊑◌}
use contract.Monad.{fact}
use contract.Running.{tables}
use mir.MapTy.{inst_fn}
use mir.Syntax.{a_type, dcons, dnil, named, ty_array, ty_unit}
use mir.Val.{Val, vptr, vint, vunit, has_ty, WT}
use prog.Capped.{capped_fits}
use prog.Memory.{align, capped}
use types.ByLocal.{alloc_all, pass_all, free_all, look_at, get, get_in, sets, is, lands_last, env}
use types.Kit.{‵, raw, given, later, ◌⊛◌, at_ret, ◌$◌, ◌∵◌, !, qed, by, move, keep, split, join, fsplit, fsplit3, fjoin, group, learn, use0, use1, await, rewrite, feq_i}
use types.Part.{sub, whole}
use types.Run.{stop, fld, of_opd, unit_lit, bin, size_word, align_word, no_more, and_then, first, blocks, exec, returns, enter}
use denote.Builtin.{RefOf, usize}
use denote.Exit.{yes, no}
use denote.Param.{param, bounded}
use denote.Plain.{uint_vals, uint_Tells}
use denote.RattleType.{RattleType, owns}
use denote.RawPtr.{ptr_val, in_a_block}
use denote.Ref.{shr_vals, shr_Tells}
use denote.Signature.{types_at, plain}
use denote.Steps.{nothing, heard}
use denote.Triple.Call.{calls_at_last}
use denote.Triple.Table.{framed}
use denote.Triple.Walked.{Stays, stay_dropped, walk_of, Goes-dropped}
use Rattle.am_segment.specs.contracts.block.Block as block
use Rattle.am_segment.specs.contracts.block.Block.free as f
use Rattle.am_segment.proofs.Blocks.{fits, nowhere, Empty, empty_out}
use Rattle.am_segment.proofs.Values.{block_val, block_good, block_told}
use Rattle.am_segment.proofs.block.Block.free.Statement.{statement}
use Rattle.am_segment.proofs.block.Block.free.Code as code

pub free_spec : {M : Type 1} → statement M
free_spec 𝓤 𝓛 𝓜 𝓡 wired X Z L K g d dd met md =
    let H = 𝓛.H in let 𝓣 = tables 𝓤 H 𝓜 𝓡 𝓡.env in let R : RattleType = param 0 X in let P : RattleType = param 1 Z in
    let A : Al = record { row = Z; laws = K; g = g; d = d; drops = dd } in let E : El = record { row = X; laws = L; al = A } in let e : param'.El = record { row = X; laws = L } in
    let En = f.ended X Z g d dd in let c = f.clauses X Z g d dd 𝓛 𝓜.mem 𝓡.returns in
    let inst = bounded (a_type ∷ a_type ∷ []) (X, (Z, tt)) (dcons d (dcons dd dnil)) in let fn = inst_fn inst code.function in
    let Bl : RattleType = block.the_row R P g in let by_ref = RefOf (0 ∷ []) tt (plain (λ _. P)) (λ _. tt) in
    let hs : Stays En.signature.params En.kept = (stay_dropped (plain (λ _. Bl)) no, (stay_dropped by_ref yes, (stay_dropped (plain (λ _. usize)) yes, tt))) in
    proved 𝓛 En hs c 𝓜 𝓡 (Goes-blank 𝓛 3 (plain (λ _. Bl)) no (λ κs x w. tt), (Goes-dropped 𝓛 3 by_ref yes (λ κs x w. refl), (Goes-dropped 𝓛 3 (plain (λ _. usize)) yes (λ κs x w. refl), tt))) (f.Key.name inst) fn (code.unfolded 𝓤 H 𝓜 𝓡 wired (X, (Z, tt)) d dd)
    (λ κs. ((λ v. block_val v.ptr ∷ []), (shr_vals, (uint_vals w64, tt)))) (λ κs. ((λ v vs so. block_told R P g v.ptr vs so.0), (shr_Tells (named 0) κs.0 P, (uint_Tells w64, tt)))) (λ κs qs bounds a gh are.
    let v : Bl.Denot = a.0 in let rb : ℕ = a.1.0.ref_ptr.0 in let ro : ℕ = a.1.0.ref_ptr.1 in let κ : Lft = κs.0 in let q = qs.0 in let h : Z.Denot = a.1.0.now in let n : ℕ = a.1.1.0 in let s : ℕ = sz E in
    let y : (walk_of 𝓛 En hs c).Ghost = ((κs, qs, bounds, a, (block_val v.ptr ∷ [], (vptr rb ro ∷ [], (uint_vals w64 n, tt)))), gh) in let Post : Val → SProp 𝓤 = (walk_of 𝓛 En hs c).post y in
    let Asked : Type 0 = (v.items ≡ []) × (v.places ≡ n) × (v.alloc ≡ h) in let tok = g.dealloc_token h in
    qed 𝓛 (((‵ (flft κ q) ⊛ (‵ (flft κs.1.0 qs.1.0) ⊛ ‵ (flft κs.1.1.0 qs.1.1.0) ⊛ ‵ ftrue)) ⊛ ‵ (owns (types_at En.signature.params κs) a y.0.4)) ∷ raw (fact 𝓤 _) ∷ raw (fact 𝓤 (κs.1.1.0 ⊑ Z.lives)) ∷ raw (fact 𝓤 Asked) ∷ []) ∵
    keep ! (2 ∷ 3 ∷ 0 ∷ []) $ heard ! (κs.1.1.0 ⊑ Z.lives) (λ within. heard ! Asked (λ asked. split ! $ split ! $ move ! (2 ∷ []) $ fsplit3 ! $ fsplit ! $ move ! (2 ∷ []) $ fsplit ! $ keep ! (3 ∷ 1 ∷ 5 ∷ 6 ∷ []) $
    -- [the block; the handle; its lifetime; the other lifetimes]
    rewrite ! 0 (λ (w : List X.Denot × ℕ × Z.Denot). ‵ (block_owns (g.dealloc_token w.2) R v.ptr w.1 w.0)) (λ i. (asked.0 i, asked.1 i, asked.2 i)) refl $
    use1 𝓛 (given (n * s < 2 ^ 63) (‵ (block_owns tok R v.ptr n []))) (fits E 𝓛 tok n v.ptr []) $ learn ! (λ small. let bytes : n * s < 2 ^ 64 = omega arith in
    enter ! 𝓣.C 𝓣.Λ fn (block_val v.ptr ∷ vptr rb ro ∷ vint w64 n ∷ []) Post $ alloc_all ! (λ l. pass_all ! refl (block_good v.ptr, ((tt, tt), ((tt, record { fits = are.1.1.0.1 }), tt))) $
    sets ! (of_opd ! (get_in ! (fld ! refl (stop !)) (sub ! 0 refl (whole !)))) refl (Ptr-Good v.ptr) $
    in_a_block ! v.ptr (λ p. block_owns tok R p n []) (nowhere E 𝓛 tok n []) (λ b o there. first ! $ blocks ! $
    sets ! (is ! (of_opd ! (get ! refl)) (ap ptr_val there)) refl (tt, tt) $
    sets ! (is ! (bin ! (get ! refl) (size_word !) (record { fits = subst (λ (k : ℕ). k < 2 ^ 64) (sym (uncapped n s bytes)) bytes })) (ap (vint w64) (uncapped n s bytes))) refl (tt, record { fits = bytes }) $
    let al : ℕ = capped (align (elτ E)) in let asks = Gives A 𝓛 𝓜.mem 𝓡.returns in let z : asks.Ghost = at_gives A 𝓛 𝓜.mem 𝓡.returns κ q (rb, ro) h b o (n * s) al (block_ty e n) in
    use1 𝓛 (‵ (Empty E 𝓛 tok n b o small)) (empty_out E 𝓛 tok n b o small) $ fsplit ! $ as_raw ! (ty_array (elτ E) n) b o $ group ! 4 $
    use1 𝓛 (raw (asks.pre z)) (Gives-goes A 𝓛 𝓜.mem 𝓡.returns κ q (rb, ro) h (Incl-trans bounds.0 within) b o (n * s) al (block_ty e n) (block_size e n bytes) (block_align e n) bytes (capped_fits (align (elτ E)))) $
    calls_at_last ! (framed 𝓤 H 𝓜 𝓣) asks (met.deallocate dd) z (and_then ! (get ! refl) (and_then ! (get ! refl) (and_then ! (get ! refl) (and_then ! (align_word !) (no_more !))))) (λ u.
    use1 𝓛 (later (given (u ≡ vunit) (‵ (flft κ q)))) (Gives-Gives A 𝓛 𝓜.mem 𝓡.returns κ q (rb, ro) h b o (n * s) al (block_ty e n) u) $ await ! tt $ learn ! (λ is_unit.
    lands_last ! refl (subst (λ (w : Val). T (has_ty ty_unit w) × WT w) (sym is_unit) (tt, tt)) $ exec ! 𝓣.C 𝓣.Λ (env fn.locals l) (after 2 fn.body) (at_ret (env fn.locals l) Post) $
    sets ! (of_opd ! (unit_lit !)) refl (tt, tt) $ join ! $ feq_i ! (List Val) (vunit ∷ []) (vunit ∷ []) refl $
    use0 𝓛 (raw (emp 𝓤)) (base.Logic.id⊢ 𝓤 (emp 𝓤)) $ nothing ! $ nothing ! $ fjoin ! $ nothing ! $ fjoin ! $ nothing ! $ fjoin ! $
    returns ! (look_at ! 0 refl) $ free_all ! refl $ keep ! (3 ∷ 0 ∷ 2 ∷ 1 ∷ []) $ by ! (leaves 𝓛 En hs c y vunit tt (tt, (tt, (tt, tt))) (tt, (tt, (tt, tt))))))))))))
