-- Reading the elements of an array one after another, each at its path.
use Rattle.std.proofs.Common.{◌≡◌, ℕ, ◌+◌, ◌<◌, ◌≤◌, List, [], ◌∷◌, ◌++◌, length, get_or, drop, Result, Ok, Err, refl, subst, arith}
use Rattle.serde_json.specs.Data.{Data}
use Rattle.serde_json.specs.View.{view, items_view}
use Rattle.serde_json.specs.declared.value.Value.{Value}
use Rattle.am_config.specs.Paths.{item_path}
use Rattle.am_config.specs.Readings.{Reading, each, AllowsResult}
use Rattle.am_config.specs.RouteReadings.{elements}
use Rattle.am_config.specs.declared.fault.ConfigFault.{ConfigFault}
use Rattle.am_config.proofs.Readings.{IsReadUpTo, read_at, refused_at, read_all}
use Rattle.am_config.proofs.Elements.{element_at, length-elements}

module _ {A : Type 0} (reads : List ℕ → Data → Reading A) (path : List ℕ) (values : List Value) where
  abbrev pub reads_at : ℕ → Data → Result A ConfigFault → Type 0
  reads_at i d = reads (item_path path i) d

  abbrev pub Up_to : List A → ℕ → Type 0
  Up_to front i = IsReadUpTo reads_at (elements (items_view values)) front i (drop i (elements (items_view values)))

  inside : (i : ℕ) → i < length values → i < length (elements (items_view values))
  inside i h = let same = length-elements values in omega arith

  module _ (front : List A) (i : ℕ) (v d : Value) (at : List ℕ) (within : i < length values) (here : v ≡ get_or values i d) (is_at : at ≡ item_path path i) where
    -- one more element is read
    pub item_read : (new : List A) (a : A) → reads at (view v) (Ok a) → new ≡ front ++ a ∷ [] → Up_to front i → Up_to new (i + 1)
    item_read new a h grown so_far =
        read_at reads_at (elements (items_view values)) front new a i (view v) (view d) (inside i within) (element_at values i v d here)
        (subst (λ p. reads p (view v) (Ok a)) is_at h) grown so_far

    -- an element is refused
    pub item_refused : (fault : ConfigFault) → AllowsResult (reads at (view v)) (Err fault) → Up_to front i
        → AllowsResult (each reads_at 0 (elements (items_view values))) (Err fault)
    item_refused fault h so_far =
        refused_at reads_at (elements (items_view values)) front i (view v) (view d) fault (Err fault) (inside i within) (element_at values i v d here) so_far
        (subst (λ p. AllowsResult (reads p (view v)) (Err fault)) is_at h) refl

  -- all elements are read
  pub items_read : (front : List A) (i : ℕ) → length values ≤ i → Up_to front i → each reads_at 0 (elements (items_view values)) (Ok front)
  items_read front i past so_far =
      let none : length (elements (items_view values)) ≤ i = let same = length-elements values in omega arith in
      read_all reads_at (elements (items_view values)) front i none so_far
