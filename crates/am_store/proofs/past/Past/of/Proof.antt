-- `of` makes a value of no bytes, whose ghost field is what the reference shows. Assumes `Logic`.
use mathlib.Core.Path.{refl}
use mathlib.Core.List.{[], ◌∷◌}
use mir.Syntax.{Args, a_type, named}
use mir.Val.{Val, vcons, vnil, vstruct}
use mir.MapTy.{inst_fn}
use types.Kit.{‵, raw, ◌⊛◌, ◌$◌, ◌∵◌, !, qed, done, fjoin, join, keep, move, split, suffices, use0}
use types.Run.{and_then, enter, no_more, returns}
use types.Part.{agg}
use types.ByLocal.{alloc_all, free_all, get, look_at, pass_all, sets}
use denote.Builtin.{RefOf}
use denote.Exit.{yes}
use denote.Param.{layouts, param}
use denote.RattleType.{RattleType, owns}
use denote.Ref.{shr_Tells, shr_vals}
use denote.Shadow.{makes_shadow}
use denote.Signature.{plain, type_at, types_at}
use denote.Steps.{nothing}
use denote.Triple.Entry.{Res, alive}
use denote.Triple.Walked.{Goes-dropped, Stays, ends_at, says, stay_dropped, walk_of}
use Rattle.std.proofs.raw_atomic.Walks.{proved}
use Rattle.am_store.specs.contracts.past.Past.of as f
use Rattle.am_store.specs.contracts.past.Past.of.Key.{name}
use Rattle.am_store.proofs.past.Past.of.Statement.{statement}
use Rattle.am_store.proofs.past.Past.of.Code as code

module _ (T : RattleType) where
  abbrev shown : RattleType
  shown = param 0 T

  abbrev layout : Args
  layout = layouts (a_type ∷ []) (T, tt)

  abbrev stayed : Stays (f.ended T).signature.params (f.ended T).kept
  stayed = (stay_dropped (RefOf (0 ∷ []) tt (plain (λ _. shown)) (λ _. tt)) yes, tt)

pub of_spec : {M : Type 1} → statement M
of_spec 𝓤 𝓛 𝓜 𝓡 wired T laws =
    let ended = f.ended T in let c = f.clauses T 𝓛 𝓜.mem 𝓡.returns in let W = walk_of 𝓛 ended (stayed T) c in
    proved 𝓛 ended (stayed T) c 𝓜 𝓡 (Goes-dropped 𝓛 2 (RefOf (0 ∷ []) tt (plain (λ _. shown T)) (λ _. tt)) yes (λ κs x w. refl), tt)
    (name (layout T)) (inst_fn (layout T) code.function) (code.unfolded 𝓤 𝓛.H 𝓜 𝓡 wired (T, tt))
    (λ κs. (shr_vals, tt)) (λ κs. (shr_Tells (named 0) κs.0 (shown T), tt)) (λ κs qs bounds a g are.
    let z : W.Ghost = ((κs, qs, bounds, a, (shr_vals a.0, tt)), g) in
    let none : Val = vstruct vnil in let stored : Val = vstruct (vcons none vnil) in
    let made : Res ended.signature κs = record { of = record {}; value = a.0.now } in
    let owned = (type_at ended.signature.result κs).own_val made (stored ∷ []) in
    let tokens = raw (alive 𝓛 ended.signature κs qs) in
    let passed = ‵ (owns (types_at ended.signature.params κs) a (shr_vals a.0, tt)) in
    qed 𝓛 ((tokens ⊛ passed) ∷ raw ((c κs a).requires g) ∷ []) ∵ split ! $ keep ! (0 ∷ []) $
    enter ! _ _ _ _ _ $ alloc_all ! (λ l. pass_all ! refl ((tt, tt), tt) $
    -- the mark, which has no bytes, and the struct around it
    sets ! (agg ! (no_more !)) refl (tt, tt) $ sets ! (agg ! (and_then ! (get ! refl) (no_more !))) refl (tt, (tt, tt)) $
    returns ! (look_at ! 0 refl) $ free_all ! refl $
    use0 𝓛 (‵ owned) (makes_shadow 𝓛 owned ((λ vss. (tt, ((λ uss. (tt, tt)), tt))), tt) (((none ∷ [], tt), (refl, ((tt, (refl, tt)), tt))), tt)) $
    suffices ! _ (ends_at 𝓛 ended (stayed T) c z stored made (tt, tt) (tt, tt)) $ says ! refl $
    nothing ! $ nothing ! $ fjoin ! $ join ! $ move ! (1 ∷ 0 ∷ []) $ join ! $ done !))
