-- One read after another.
use Rattle.std.proofs.Common.{◌≡◌, ℕ, List, ◌++◌, Option, Some, None, inr, ap, sym, ◌∙◌, append_assoc}
use Rattle.std.specs.Io.KnownBytes.{Consumes, Keeps}
use Rattle.am_script.specs.Inputs.{HasExcess, IsReadOf}

pub consumes_kept : (old mid new : Option (List ℕ)) (bytes : List ℕ) → Keeps old mid → Consumes mid new bytes → Consumes old new bytes
consumes_kept None mid new bytes kept read = tt
consumes_kept (Some xs) None new bytes kept read = absurd kept
consumes_kept (Some xs) (Some ys) None bytes kept read = read
consumes_kept (Some xs) (Some ys) (Some zs) bytes kept read = sym kept ∙ read

-- an excess was reached
pub read_excess : (old mid new : Option (List ℕ)) (front bytes part text taken rest : List ℕ) → Consumes old mid front → Consumes mid new bytes
    → part ≡ bytes → taken ++ rest ≡ part → text ≡ front ++ taken → HasExcess text → IsReadOf old text
read_excess None mid new front bytes part text taken rest begun read same parts grown excess = tt
read_excess (Some xs) None new front bytes part text taken rest begun read same parts grown excess = absurd begun
read_excess (Some xs) (Some ys) None front bytes part text taken rest begun read same parts grown excess = absurd read
read_excess (Some xs) (Some ys) (Some zs) front bytes part text taken rest begun read same parts grown excess =
    inr (
      excess,
      (
        rest ++ zs,
        begun ∙ (ap (λ (l : List ℕ). front ++ l) (read ∙ (ap (λ (l : List ℕ). l ++ zs) (sym same ∙ sym parts) ∙ append_assoc taken rest zs))
            ∙ (sym (append_assoc front taken (rest ++ zs)) ∙ ap (λ (l : List ℕ). l ++ (rest ++ zs)) (sym grown))),
      ),
    )

-- one part more of the bytes was taken
pub part_taken : (taken rest part others bytes : List ℕ) → taken ++ rest ≡ bytes → part ++ others ≡ rest → (taken ++ part) ++ others ≡ bytes
part_taken taken rest part others bytes so_far parts =
    append_assoc taken part others ∙ (ap (λ (left : List ℕ). taken ++ left) parts ∙ so_far)

pub part_added : (begun text taken part new : List ℕ) → text ≡ begun ++ taken → new ≡ text ++ part → new ≡ begun ++ (taken ++ part)
part_added begun text taken part new so_far added =
    added ∙ (ap (λ (front : List ℕ). front ++ part) so_far ∙ append_assoc begun taken part)
