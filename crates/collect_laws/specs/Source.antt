-- The source area of a collection. Document 02, T-14.
use Rattle.std.specs.Prelude.{◌≡◌, ◌⊎◌, true, false}
use mathlib.Core.List.{List, [], ◌∷◌, ◌++◌, Memᴰ}
use Rattle.format.specs.Bytes.{Bytes}
use Rattle.calls.specs.Collect.{count_of, precedes}
use Rattle.calls.specs.declared.Descriptor.{Descriptor}

-- one of the areas es precedes d; none does
abbrev pub Preceded : Bytes → List Descriptor → Descriptor → Type 0
Preceded image es d = (e : Descriptor) × Memᴰ e es × (precedes (count_of image e) (count_of image d) ≡ true)

abbrev pub Leads : Bytes → List Descriptor → Descriptor → Type 0
Leads image es d = (e : Descriptor) → Memᴰ e es → precedes (count_of image e) (count_of image d) ≡ false

-- T-14: of the eligible areas es s is "the first .. that no eligible area precedes; if there is none, the first eligible one"
pub record IsSource (image : Bytes) (es : List Descriptor) (s : Descriptor) : Type 0 where
  pub before : List Descriptor
  pub behind : List Descriptor
  pub split : es ≡ before ++ (s ∷ behind)
  pub chosen : (Leads image es s × ((d : Descriptor) → Memᴰ d before → Preceded image es d))
      ⊎ (((d : Descriptor) → Memᴰ d es → Preceded image es d) × (before ≡ []))
