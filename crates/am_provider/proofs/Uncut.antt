-- A batch that is sent out without a cut.
use Rattle.std.proofs.Common.{◌≡◌, ℕ, zero, suc, false, [], ◌∷◌, refl, slice_index_or}

-- no lane of the eight is named
pub none_named : (lane : ℕ) → slice_index_or (false ∷ false ∷ false ∷ false ∷ false ∷ false ∷ false ∷ false ∷ []) lane false ≡ false
none_named zero = refl
none_named (suc zero) = refl
none_named (suc (suc zero)) = refl
none_named (suc (suc (suc zero))) = refl
none_named (suc (suc (suc (suc zero)))) = refl
none_named (suc (suc (suc (suc (suc zero))))) = refl
none_named (suc (suc (suc (suc (suc (suc zero)))))) = refl
none_named (suc (suc (suc (suc (suc (suc (suc zero))))))) = refl
none_named (suc (suc (suc (suc (suc (suc (suc (suc lane)))))))) = refl
