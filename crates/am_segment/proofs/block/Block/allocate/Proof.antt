-- `allocate`: the allocator's answer is a block without items, or its refusal.
use Rattle.std.proofs.Common.{◌≡◌, ℕ, ◌*◌, ◌^◌, ◌<◌, [], ◌∷◌, lit<, w64, true, false, refl, sym, ap, subst, arith}
use Rattle.std.proofs.raw_atomic.Walks.{proved, leaves}
use Rattle.std.specs.Prelude.{IfOk, Ok, Err}
use Rattle.std.specs.Vec.Ownership.{FitsInBlock}
use Rattle.core.proofs.alloc.Calls.{Al, Answer-typed, Takes, at_takes, Answered, Takes-goes, Takes-gives, answers}
use Rattle.core.proofs.mem.Param as param'
use Rattle.core.proofs.slots.Leases.{uncapped, block_ty, block_size, block_align}
use Rattle.core.specs.contracts.alloc.AllocError as AE
use Rattle.core.specs.contracts.result.Result as RS
use Rattle.std_alloc.proofs.RawLayout.{as_written}
use Rattle.std_alloc.proofs.RcSteps.{first_Good}
use Rattle.std_alloc.proofs.ResultValues.{ok_of, err_of}
use Rattle.std_alloc.proofs.VecSteps.El.{El, elτ, sz}
use Rattle.std_alloc.proofs.VecSteps.Shapes.{after, head, arm_body}
use base.Fml.{Lft, Incl-trans, ftrue, flft}
use base.Logic.{SProp, emp}
use contract.BorrowLft.{◌⊑◌}
use contract.Monad.{fact, fact_i}
use contract.Running.{tables}
use mir.MapTy.{inst_fn}
use mir.Syntax.{a_type, dcons, dnil, named, ty_array, Body}
use mir.Val.{Val, vptr, vint, vstruct, vcons, vnil}
use prog.Capped.{capped_fits}
use prog.Memory.{align, capped}
use prog.Wp.{Env, Wp, after_seq, at_return}
use types.ByLocal.{alloc_all, pass_all, free_all, look_at, get, get_in, get_tag, sets, sets_last, is, lands_as, env}
use types.Kit.{Post as After, any_q, ‵, raw, later, ◌⊛◌, at_ret, ◌$◌, ◌∵◌, !, qed, by, move, keep, split, join, fsplit, fjoin, use0, use1, use2, await}
use types.Match.{live, vrt, in_variant}
use types.Part.{agg, whole}
use types.Run.{stop, fld, lit, of_opd, bin, size_word, align_word, no_more, and_then, first, switches_on, exec, returns, enter}
use denote.Builtin.{RefOf, usize}
use denote.Exit.{yes}
use denote.Laws.{Is}
use denote.Param.{param, layout, bounded}
use denote.Plain.{uint_vals, uint_Tells}
use denote.RattleType.{RattleType, owns}
use denote.RawPtr.{Ptr, block_ptr}
use denote.Ref.{shr_vals, shr_Tells}
use denote.Signature.{types_at, plain}
use denote.Steps.{nothing, heard, owned}
use denote.Struct.Declared as Declared
use denote.Struct.Struct.{Struct, Struct-Makes}
use denote.Triple.Call.{calls_at}
use denote.Triple.Table.{framed}
use denote.Triple.Walked.{Stays, stay_dropped, walk_of, Goes-dropped}
use Rattle.am_segment.specs.inside.Ownership.{block_owns}
use Rattle.am_segment.specs.contracts.block.Block as block
use Rattle.am_segment.specs.contracts.block.Block.allocate as f
use Rattle.am_segment.proofs.Blocks.{empty_in}
use Rattle.am_segment.proofs.Values.{BlockData, block_val, block_good, block_made}
use Rattle.am_segment.proofs.block.Block.allocate.Statement.{statement}
use Rattle.am_segment.proofs.block.Block.allocate.Code as code

pub allocate_spec : {M : Type 1} → statement M
allocate_spec 𝓤 𝓛 𝓜 𝓡 wired X Z L K g d dd met md =
    let H = 𝓛.H in let 𝓣 = tables 𝓤 H 𝓜 𝓡 𝓡.env in let R : RattleType = param 0 X in let P : RattleType = param 1 Z in
    let A : Al = record { row = Z; laws = K; g = g; d = d; drops = dd } in let E : El = record { row = X; laws = L; al = A } in let e : param'.El = record { row = X; laws = L } in
    let En = f.ended X Z g d dd in let c = f.clauses X Z g d dd 𝓛 𝓜.mem 𝓡.returns in
    let inst = bounded (a_type ∷ a_type ∷ []) (X, (Z, tt)) (dcons d (dcons dd dnil)) in let fn = inst_fn inst code.function in
    let Bl : RattleType = block.the_row R P g in let Out : RattleType = RS.the_row Bl AE.the_row in let self = RefOf (0 ∷ []) tt (plain (λ _. P)) (λ _. tt) in
    let hs : Stays En.signature.params En.kept = (stay_dropped self yes, (stay_dropped (plain (λ _. usize)) yes, tt)) in
    proved 𝓛 En hs c 𝓜 𝓡 (Goes-dropped 𝓛 3 self yes (λ κs x w. refl), (Goes-dropped 𝓛 3 (plain (λ _. usize)) yes (λ κs x w. refl), tt)) (f.Key.name inst) fn (code.unfolded 𝓤 H 𝓜 𝓡 wired (X, (Z, tt)) d dd)
    (λ κs. (shr_vals, (uint_vals w64, tt))) (λ κs. (shr_Tells (named 0) κs.0 P, (uint_Tells w64, tt))) (λ κs qs bounds a gh are.
    let rb : ℕ = a.0.ref_ptr.0 in let ro : ℕ = a.0.ref_ptr.1 in let κ : Lft = κs.0 in let q = qs.0 in let h : Z.Denot = a.0.now in let n : ℕ = a.1.0 in let s : ℕ = sz E in let tok = g.dealloc_token h in
    let y : (walk_of 𝓛 En hs c).Ghost = ((κs, qs, bounds, a, (vptr rb ro ∷ [], (uint_vals w64 n, tt))), gh) in let Post : Val → SProp 𝓤 = (walk_of 𝓛 En hs c).post y in
    let Told : Out.Denot → Type 0 = λ r. IfOk r (λ v. (v.items ≡ []) × (v.places ≡ n) × (v.alloc ≡ h)) in
    let Others = ‵ (flft κs.1.0 qs.1.0) ⊛ ‵ (flft κs.1.1.0 qs.1.1.0) ⊛ ‵ ftrue in
    qed 𝓛 (((‵ (flft κ q) ⊛ Others) ⊛ ‵ (owns (types_at En.signature.params κs) a y.0.4)) ∷ raw (fact 𝓤 _) ∷ raw (fact 𝓤 (κs.1.1.0 ⊑ Z.lives)) ∷ raw (fact 𝓤 (FitsInBlock R n)) ∷ []) ∵
    keep ! (2 ∷ 3 ∷ 0 ∷ []) $ heard ! (κs.1.1.0 ⊑ Z.lives) (λ within. heard ! (FitsInBlock R n) (λ asked. split ! $ split ! $ move ! (2 ∷ []) $ fsplit ! $ fsplit ! $ keep ! (1 ∷ 3 ∷ 4 ∷ []) $
    let small : n * s < 2 ^ 63 = asked.0 in let bytes : n * s < 2 ^ 64 = omega arith in
    enter ! 𝓣.C 𝓣.Λ fn (vptr rb ro ∷ vint w64 n ∷ []) Post $ alloc_all ! (λ l. pass_all ! refl ((tt, tt), ((tt, record { fits = are.1.0.1 }), tt)) $
    let Ev : Env 𝓤 H = env fn.locals l in let both : Body = head (after 2 fn.body) in
    let Then : After 𝓤 H = any_q (after_seq 𝓤 H (Wp 𝓤 H 𝓣.C 𝓣.Λ Ev (after 3 fn.body) (at_return 𝓤 H Ev Post)) (at_return 𝓤 H Ev Post)) in
    let al : ℕ = capped (align (elτ E)) in let asks = Takes A 𝓛 𝓜.mem 𝓡.returns in let z : asks.Ghost = at_takes A 𝓛 𝓜.mem 𝓡.returns κ q (rb, ro) h (n * s) al (block_ty e n) in
    sets ! (is ! (bin ! (get ! refl) (size_word !) (record { fits = subst (λ (k : ℕ). k < 2 ^ 64) (sym (uncapped n s bytes)) bytes })) (ap (vint w64) (uncapped n s bytes))) refl (tt, record { fits = bytes }) $
    use2 𝓛 (raw (asks.pre z)) (Takes-goes A 𝓛 𝓜.mem 𝓡.returns κ q (rb, ro) h (Incl-trans bounds.0 within) (n * s) al (block_ty e n) (block_size e n bytes) (block_align e n) bytes (capped_fits (align (elτ E)))) $
    calls_at ! (framed 𝓤 H 𝓜 𝓣) asks (met.allocate dd) z (and_then ! (get ! refl) (and_then ! (get ! refl) (and_then ! (align_word !) (no_more !)))) (λ v.
    use1 𝓛 (later (raw (Answered A 𝓛 𝓜.mem 𝓡.returns h (block_ty e n) v) ⊛ ‵ (flft κ q))) (Takes-gives A 𝓛 𝓜.mem 𝓡.returns κ q (rb, ro) h (n * s) al (block_ty e n) v) $ await ! tt $ split ! $
    answers A ! 𝓜.mem 𝓡.returns h (block_ty e n) v
    (λ b o got. let p : Ptr = block_ptr b o in let made : Bl.Denot = record { ptr = p; by = record {}; items = []; places = n; alloc = h } in let ok = first_Good (layout Bl) (block_val p) (block_good p) in
    lands_as ! got refl (Answer-typed true b o) $ first ! $ switches_on ! (get_tag ! (vrt ! refl (fld ! refl (stop !))) (whole !)) $ exec ! 𝓣.C 𝓣.Λ Ev (arm_body 0 both) Then $
    sets ! (of_opd ! (get_in ! (vrt ! refl (fld ! refl (stop !))) (in_variant ! 0 0 refl refl (whole !)))) refl (tt, tt) $ sets ! (of_opd ! (get ! refl)) refl (tt, tt) $ sets ! (agg ! (no_more !)) refl (tt, tt) $
    sets ! (agg ! (and_then ! (get ! refl) (and_then ! (get ! refl) (no_more !)))) refl (block_good p) $ sets_last ! (agg ! (and_then ! (lit ! tt) (and_then ! (get ! refl) (no_more !)))) refl ok $
    exec ! 𝓣.C 𝓣.Λ Ev (after 3 fn.body) (at_ret Ev Post) $ sets ! (of_opd ! (get ! refl)) refl ok $
    as_written ! (ty_array (elτ E) n) b o $ fjoin ! $ use1 𝓛 (‵ (block_owns tok R p n [])) (empty_in E 𝓛 tok n b o small) $
    use0 𝓛 (‵ ((BlockData R P g).own_val (p, (tt, tt)) (block_val p ∷ []))) (block_made R P g 𝓛 p) $ fjoin ! $
    use1 𝓛 (‵ (Out.own_val (Ok made) (live 0 (vcons (block_val p) vnil) ∷ []))) (ok_of 𝓛 Bl AE.the_row made (block_val p)) $
    use0 𝓛 (raw (fact 𝓤 (Told (Ok made)))) (fact_i 𝓤 (Told (Ok made)) (emp 𝓤) (refl, refl, refl)) $ move ! (2 ∷ 3 ∷ []) $ join ! $ nothing ! $ nothing ! $ fjoin ! $ nothing ! $ fjoin ! $
    returns ! (look_at ! 0 refl) $ free_all ! refl $ keep ! (1 ∷ 0 ∷ 3 ∷ 2 ∷ []) $ by ! (leaves 𝓛 En hs c y (live 0 (vcons (block_val p) vnil)) (Ok made) (tt, (tt, tt)) (tt, (tt, tt))))
    (λ refused. let Refusal : RattleType = Struct (Declared.shape AE.the_type) in let none : Val = live 1 (vcons (vstruct vnil) vnil) in
    lands_as ! refused refl (Answer-typed false 0 0) $ first ! $ switches_on ! (get_tag ! (vrt ! refl (fld ! refl (stop !))) (whole !)) $ exec ! 𝓣.C 𝓣.Λ Ev (arm_body 1 both) Then $
    sets ! (of_opd ! (get_in ! (vrt ! refl (fld ! refl (stop !))) (in_variant ! 1 0 refl refl (whole !)))) refl (tt, tt) $
    sets_last ! (agg ! (and_then ! (lit ! tt) (and_then ! (get ! refl) (no_more !)))) refl (tt, (record { fits = lit< tt }, (tt, tt))) $
    exec ! 𝓣.C 𝓣.Λ Ev (after 3 fn.body) (at_ret Ev Post) $ sets ! (of_opd ! (get ! refl)) refl (tt, (record { fits = lit< tt }, (tt, tt))) $
    owned ! Refusal (Is Refusal) (Struct-Makes 𝓛 (Declared.shape AE.the_type) tt) tt (vstruct vnil ∷ []) (tt, (refl, tt)) $
    use1 𝓛 (‵ (Out.own_val (Err (record {})) (none ∷ []))) (err_of 𝓛 Bl AE.the_row (record {}) (vstruct vnil)) $
    use0 𝓛 (raw (fact 𝓤 (Told (Err (record {}))))) (fact_i 𝓤 (Told (Err (record {}))) (emp 𝓤) tt) $ move ! (2 ∷ 3 ∷ []) $ join ! $ nothing ! $ nothing ! $ fjoin ! $ nothing ! $ fjoin ! $
    returns ! (look_at ! 0 refl) $ free_all ! refl $ keep ! (1 ∷ 0 ∷ 3 ∷ 2 ∷ []) $ by ! (leaves 𝓛 En hs c y none (Err (record {})) (tt, (tt, tt)) (tt, (tt, tt)))))))))
