-- Readings one after another, and of lists element by element.
use Rattle.std.proofs.Common.{◌≡◌, ℕ, ◌+◌, ◌<◌, ◌≤◌, length, get_or, drop, add-one, List, [], ◌∷◌, ◌++◌, append_assoc, append-nil, Result, Ok, Err, refl, sym, subst, arith}
use Rattle.std.proofs.Math.Seq.{drop-cons}
use Rattle.std.proofs.Math.ListN.{drop_of_length-le}
use Rattle.am_config.specs.Members.{ReadsMember}
use Rattle.am_config.specs.Readings.{Reading, Is, refused, goes_on, each, AllowsResult}
use Rattle.am_config.specs.declared.fault.ConfigFault.{ConfigFault}
use Rattle.am_config.specs.declared.fault.ConfigFault.TheVariants.{NoMemory, NoOperator, BadName, BadQuote, BadPattern, NotJson, Missing, Deprecated, RootMatchers, TooDeep, BadDuration, WrongKind}

-- a fault that one reading allows and another one allows too
pub err_weaker : {A B : Type 0} (m : Reading A) (n : Reading B) (fault : ConfigFault)
    → (m (Err fault) → n (Err fault)) → AllowsResult m (Err fault) → AllowsResult n (Err fault)
err_weaker m n NoMemory weaker h = tt
err_weaker m n (NoOperator at) weaker h = weaker h
err_weaker m n (BadName at) weaker h = weaker h
err_weaker m n (BadQuote at) weaker h = weaker h
err_weaker m n (BadPattern at) weaker h = weaker h
err_weaker m n NotJson weaker h = h
err_weaker m n (Missing at) weaker h = weaker h
err_weaker m n (Deprecated at) weaker h = weaker h
err_weaker m n RootMatchers weaker h = weaker h
err_weaker m n TooDeep weaker h = weaker h
err_weaker m n BadDuration weaker h = weaker h
err_weaker m n (WrongKind at) weaker h = weaker h

-- elements that were read before others
abbrev pub with_front : {A : Type 0} → List A → Result (List A) ConfigFault → Result (List A) ConfigFault
with_front front (Ok rest) = Ok (front ++ rest)
with_front front (Err fault) = Err fault

-- what the elements from here on answer, behind those that were read, all elements answer
pub record IsReadUpTo {X A : Type 0} (reads : ℕ → X → Reading A) (all : List X) (front : List A) (i : ℕ) (rest : List X) : Type 0 where
  pub answers : (result : Result (List A) ConfigFault) → each reads i rest result → each reads 0 all (with_front front result)

-- what is left from an index on is its element and what is left behind it
drop_at : {X : Type 0} (all : List X) (i : ℕ) (x d : X) → i < length all → x ≡ get_or all i d → drop i all ≡ x ∷ drop (i + 1) all
drop_at all i x d inside here = grind (arith, drop-cons, add-one)

module _ {X A : Type 0} (reads : ℕ → X → Reading A) (all : List X) where
  later : (front : List A) (a : A) (result : Result (List A) ConfigFault) (i : ℕ) (x : X) (rest : List X)
      → reads i x (Ok a) → IsReadUpTo reads all front i (x ∷ rest)
      → each reads (i + 1) rest result → each reads 0 all (with_front (front ++ a ∷ []) result)
  later front a (Ok xs) i x rest first so_far h =
      subst (λ (list : List A). each reads 0 all (Ok list)) (sym (append_assoc front (a ∷ []) xs))
      (so_far.answers (Ok (a ∷ xs)) (goes_on first (goes_on h refl)))
  later front a (Err fault) i x rest first so_far h = so_far.answers (Err fault) (goes_on first (refused h))

  -- one more element is read
  pub one_read : (front : List A) (a : A) (i : ℕ) (x : X) (rest : List X)
      → reads i x (Ok a) → IsReadUpTo reads all front i (x ∷ rest) → IsReadUpTo reads all (front ++ a ∷ []) (i + 1) rest
  one_read front a i x rest first so_far = record { answers = λ result h. later front a result i x rest first so_far h }

  -- an element is refused
  pub one_refused : (front : List A) (i : ℕ) (x : X) (rest : List X) (fault : ConfigFault)
      → IsReadUpTo reads all front i (x ∷ rest) → AllowsResult (reads i x) (Err fault) → AllowsResult (each reads 0 all) (Err fault)
  one_refused front i x rest fault so_far h =
      err_weaker (reads i x) (each reads 0 all) fault (λ r. so_far.answers (Err fault) (refused r)) h

  -- no element is left
  pub all_read : (front : List A) (i : ℕ) → IsReadUpTo reads all front i [] → each reads 0 all (Ok front)
  all_read front i so_far =
      subst (λ (list : List A). each reads 0 all (Ok list)) (append-nil front) (so_far.answers (Ok []) refl)

  -- one more element is read, at its index
  pub read_at : (front new : List A) (a : A) (i : ℕ) (x d : X) → i < length all → x ≡ get_or all i d
      → reads i x (Ok a) → new ≡ front ++ a ∷ []
      → IsReadUpTo reads all front i (drop i all) → IsReadUpTo reads all new (i + 1) (drop (i + 1) all)
  read_at front new a i x d inside here first grown so_far = grind (arith, drop_at, one_read)

  -- an element is refused, at its index
  pub refused_at : (front : List A) (i : ℕ) (x d : X) (fault : ConfigFault) (result : Result (List A) ConfigFault)
      → i < length all → x ≡ get_or all i d → IsReadUpTo reads all front i (drop i all)
      → AllowsResult (reads i x) (Err fault) → result ≡ Err fault → AllowsResult (each reads 0 all) result
  refused_at front i x d fault result inside here so_far h told = grind (arith, drop_at, one_refused)

  -- all elements are read
  pub read_all : (front : List A) (i : ℕ) → length all ≤ i → IsReadUpTo reads all front i (drop i all) → each reads 0 all (Ok front)
  read_all front i past so_far =
      all_read front i (subst (λ (rest : List X). IsReadUpTo reads all front i rest) (drop_of_length-le all past) so_far)

-- a fault that a reader told of what has one answer alone
pub reads_err : {X Y : Type 0} (seen : X → Y) (only : Result Y ConfigFault) (fault : ConfigFault)
    → ReadsMember seen (Err fault) only → AllowsResult (Is only) (Err fault)
reads_err seen only NoMemory h = tt
reads_err seen only (NoOperator at) h = h
reads_err seen only (BadName at) h = h
reads_err seen only (BadQuote at) h = h
reads_err seen only (BadPattern at) h = h
reads_err seen only NotJson h = h
reads_err seen only (Missing at) h = h
reads_err seen only (Deprecated at) h = h
reads_err seen only RootMatchers h = h
reads_err seen only TooDeep h = h
reads_err seen only BadDuration h = h
reads_err seen only (WrongKind at) h = h
